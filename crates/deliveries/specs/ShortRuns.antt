-- Document 02, #109: all short runs.
use Rattle.std.specs.Prelude.{◌≡◌, Bool, cond, ◌&&◌, ◌⊎◌, ◌≢◌, ℕ, zero, suc, ◌-◌, ◌*◌, ◌≤◌, ◌<◌, eqb, length, get_or}
use mathlib.Core.List.{List, [], ◌∷◌, ◌++◌, map, flat_map, Memᴰ as In}
use Rattle.base.specs.Counting.{replica}
use Rattle.base.specs.declared.party.ReplicaId.{ReplicaId}
use Rattle.text.specs.Decimal.{decimal}

-- ---- To believe: what a run is, and in which order runs come

-- A delivery [pair]: a message, by its number, that is handed to a replica.
pub record Delivery : Type 0 where
  pub message : ℕ
  pub replica : ReplicaId

-- "message 1 or 2 and holder 1 to 4"
pub record Possible (d : Delivery) : Type 0 where
  pub message_from : 1 ≤ d.message
  pub message_to : d.message ≤ 2
  pub replica_from : 1 ≤ d.replica.0
  pub replica_to : d.replica.0 ≤ 4

-- Of any two in a list, the one in front stands so to the one behind.
abbrev pub Pairwise : {A : Type 0} → (A → A → Type 0) → List A → Type 0
Pairwise R [] = Unit {0}
Pairwise {A} R (a ∷ l) = ((b : A) → In b l → R a b) × Pairwise R l

-- "a run has exactly k deliveries, [..] no pair twice"
pub record Legal (k : ℕ) (run : List Delivery) : Type 0 where
  pub so_many : length run ≡ k
  pub possible : (d : Delivery) → In d run → Possible d
  pub different : Pairwise ◌≢◌ run

-- "message first, then holder"
abbrev pub Earlier : Delivery → Delivery → Type 0
Earlier d e = (d.message < e.message) ⊎ ((d.message ≡ e.message) × (d.replica.0 < e.replica.0))

-- "Runs come in rising order of their pairs": the first difference decides.
abbrev pub Before : List Delivery → List Delivery → Type 0
Before [] later = ⊥
Before (d ∷ run) [] = ⊥
Before (d ∷ run) (e ∷ later) = Earlier d e ⊎ ((d ≡ e) × Before run later)

-- n · (n − 1) · (n − 2) · …, so many factors.
abbrev pub falling_factorial : ℕ → ℕ → ℕ
falling_factorial n zero = 1
falling_factorial n (suc k) = n * falling_factorial (n - 1) k

-- ---- The runs themselves: `proofs/Runs` leaves no choice for them

abbrev pub delivery : ℕ → ℕ → Delivery
delivery m h = record { message = m; replica = replica h }

-- A message to each replica.
abbrev pub to_each : ℕ → List Delivery
to_each m = delivery m 1 ∷ delivery m 2 ∷ delivery m 3 ∷ delivery m 4 ∷ []

unfoldable pub deliveries : List Delivery
deliveries = to_each 1 ++ to_each 2

unfoldable pub alike : Delivery → Delivery → Bool
alike d e = eqb d.message e.message && eqb d.replica.0 e.replica.0

-- All but one.
unfoldable pub others : Delivery → List Delivery → List Delivery
others d [] = []
others d (e ∷ l) = cond (alike d e) (others d l) (e ∷ others d l)

-- For each unused delivery, in its order, that one in front of the runs of the others.
unfoldable pub runs_of : ℕ → List Delivery → List (List Delivery)
runs_of zero unused = [] ∷ []
runs_of (suc k) unused = flat_map (λ (d : Delivery). map (λ (run : List Delivery). d ∷ run) (runs_of k (others d unused))) unused

abbrev pub runs : ℕ → List (List Delivery)
runs k = runs_of k deliveries

-- The run behind so many others.
abbrev pub run_at : ℕ → ℕ → List Delivery
run_at k i = get_or (runs k) i []

-- ---- Their text

-- `w 1 0000` and `r 2`, a line each
unfoldable pub opening : List ℕ
opening = 119 ∷ 32 ∷ 49 ∷ 32 ∷ 48 ∷ 48 ∷ 48 ∷ 48 ∷ 10 ∷ 114 ∷ 32 ∷ 50 ∷ 10 ∷ []

-- `h H M`, a line
unfoldable pub delivery_line : Delivery → List ℕ
delivery_line d = 104 ∷ 32 ∷ decimal d.replica.0 ++ 32 ∷ decimal d.message ++ 10 ∷ []

-- "A run is printed as the two opening lines and one `h H M` line for each pair."
unfoldable pub run_text : List Delivery → List ℕ
run_text run = opening ++ flat_map delivery_line run

unfoldable pub text_of : ℕ → List ℕ
text_of k = flat_map run_text (runs k)

-- "all runs for k = 1, 2, 3 and 4 in turn"
unfoldable pub printed : List ℕ
printed = text_of 1 ++ text_of 2 ++ text_of 3 ++ text_of 4
