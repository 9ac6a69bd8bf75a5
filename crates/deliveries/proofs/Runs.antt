-- Document 02, #109: each legal run occurs, a single time, no other does, and they rise; how many there are. Assumes nothing.
use mathlib.Core.Path.{◌≡◌, refl, sym, ap, subst, ◌∙◌}
use mathlib.Core.Logic.{◌⊎◌, inl, inr, ◌≢◌}
use mathlib.Core.List.Memᴰ
use mathlib.Core.List.Memᴰ.{head as here}
use mathlib.Core.List.Memᴰ.{tail as there}
use mathlib.Core.List.{List, [], ◌∷◌, ◌++◌, map, Memᴰ as In}
use Prim.Native.Nat.{ℕ, zero, suc, ◌-◌, ◌≤◌, ◌<◌}
use native.Mathlib.Omega.{arith}
use lib.ListN.{length, length-map}
use Rattle.base.proofs.Each.{EachOf, each_in}
use Rattle.deliveries.specs.ShortRuns.{Delivery, Possible, Pairwise, Legal, Earlier, Before, falling_factorial, delivery, to_each, deliveries, others, runs_of, runs, run_at}
use Rattle.deliveries.proofs.Lists.{first_and_rest, in_flat, of_flat, length_flat}
use Rattle.deliveries.proofs.Others.{of_others, into_others, others_pairwise, fewer}
use Rattle.deliveries.proofs.Order.{not_itself, earlier_still, compared, irreflexive, transitive}
use Rattle.deliveries.proofs.Pairwise.{pairwise_then, pairwise_at, pairwise_map, pairwise_flat, from_steps, same_members}

-- ---- Of any deliveries

-- The runs that begin with a delivery.
abbrev pub beginning : ℕ → List Delivery → Delivery → List (List Delivery)
beginning k l d = map (λ (run : List Delivery). d ∷ run) (runs_of k (others d l))

complete_of : (k : ℕ) (l run : List Delivery) → length run ≡ k → ((d : Delivery) → In d run → In d l) → Pairwise ◌≢◌ run → In run (runs_of k l)
unfolding runs_of
complete_of zero l [] long inside different = here refl
complete_of zero l (d ∷ run) long inside different = absurd (omega arith)
complete_of (suc k) l [] long inside different = absurd (omega arith)
complete_of (suc k) l (d ∷ run) long inside different =
    in_flat (beginning k l) (inside d (here refl))
    (Memᴰ.map (λ (later : List Delivery). d ∷ later)
    (complete_of k (others d l) run (omega arith) (λ e m. into_others (inside e (there m)) (different.0 e m)) different.1))

-- What a run is of the deliveries that it is made of.
record MadeOf (k : ℕ) (l run : List Delivery) : Type 0 where
  so_many : length run ≡ k
  inside : (d : Delivery) → In d run → In d l
  different : Pairwise ◌≢◌ run

sound_of : (k : ℕ) (l run : List Delivery) → In run (runs_of k l) → MadeOf k l run
unfolding runs_of
sound_of zero l run m =
    subst (MadeOf 0 l) (sym (Memᴰ.eq_of_singleton m)) (record { so_many = refl; inside = λ d h. absurd (Memᴰ.not-nil h); different = tt })
sound_of (suc k) l run m =
    let b = of_flat (beginning k l) l m in
    let r = Memᴰ.of_map (λ (later : List Delivery). b.0 ∷ later) (runs_of k (others b.0 l)) b.2 in
    subst (MadeOf (suc k) l) r.2 (in_front_lem b.0 r.0 b.1 (sound_of k (others b.0 l) r.0 r.1))
  where
    in_front_lem : (d : Delivery) (later : List Delivery) → In d l → MadeOf k (others d l) later → MadeOf (suc k) l (d ∷ later)
    in_front_lem d later first made =
        record {
          so_many = ap suc made.so_many;
          inside = first_and_rest (λ e. In e l) first (λ e h. (of_others l e (made.inside e h)).0);
          different = (λ e h. (of_others l e (made.inside e h)).1, made.different);
        }

rising_of : (k : ℕ) (l : List Delivery) → Pairwise Earlier l → Pairwise Before (runs_of k l)
unfolding runs_of
rising_of zero l rises = (λ run m. absurd (Memᴰ.not-nil m), tt)
rising_of (suc k) l rises =
    pairwise_flat Before Earlier (beginning k l) across l rises
    (λ d m. pairwise_map Before Before (λ (later : List Delivery). d ∷ later) (λ a b h. inr (refl, h)) (runs_of k (others d l)) (rising_of k (others d l) (others_pairwise Earlier d l rises)))
  where
    across : (d e : Delivery) → Earlier d e → (a b : List Delivery) → In a (beginning k l d) → In b (beginning k l e) → Before a b
    across d e earlier a b ma mb =
        let x = Memᴰ.of_map (λ (later : List Delivery). d ∷ later) (runs_of k (others d l)) ma in
        let y = Memᴰ.of_map (λ (later : List Delivery). e ∷ later) (runs_of k (others e l)) mb in
        let first : Before (d ∷ x.0) (e ∷ y.0) = inl earlier in
        rw (← x.2, ← y.2) first

begins : (k : ℕ) (l : List Delivery) → Pairwise ◌≢◌ l → (d : Delivery) → In d l → length (runs_of k (others d l)) ≡ falling_factorial (length (others d l)) k
    → length (beginning k l d) ≡ falling_factorial (length l - 1) k
begins k l different d m rest =
    let less = fewer m different in
    let left : length (others d l) ≡ length l - 1 = omega arith in
    length-map (runs_of k (others d l)) (λ (later : List Delivery). d ∷ later) ∙ (rest ∙ ap (λ (n : ℕ). falling_factorial n k) left)

how_many_of : (k : ℕ) (l : List Delivery) → Pairwise ◌≢◌ l → length (runs_of k l) ≡ falling_factorial (length l) k
unfolding runs_of
how_many_of zero l different = refl
how_many_of (suc k) l different =
    length_flat (beginning k l) (falling_factorial (length l - 1) k) l (λ d m. begins k l different d m (how_many_of k (others d l) (others_pairwise ◌≢◌ d l different)))

-- As many begin with each delivery.
pub how_many_begin : (k : ℕ) (l : List Delivery) → Pairwise ◌≢◌ l → (d : Delivery) → In d l → length (beginning k l d) ≡ falling_factorial (length l - 1) k
how_many_begin k l different d m = begins k l different d m (how_many_of k (others d l) (others_pairwise ◌≢◌ d l different))

-- ---- The eight deliveries are the possible ones, and rise

to_each_lem : (m h : ℕ) → 1 ≤ h → h ≤ 4 → In (delivery m h) (to_each m)
to_each_lem m zero from to = absurd (omega arith)
to_each_lem m (suc zero) from to = here refl
to_each_lem m (suc (suc zero)) from to = there (here refl)
to_each_lem m (suc (suc (suc zero))) from to = there (there (here refl))
to_each_lem m (suc (suc (suc (suc zero)))) from to = there (there (there (here refl)))
to_each_lem m (suc (suc (suc (suc (suc h))))) from to = absurd (omega arith)

all_there : (d : Delivery) → Possible d → In d deliveries
unfolding deliveries
all_there d p = go d.message p.message_from p.message_to
  where
    go : (m : ℕ) → 1 ≤ m → m ≤ 2 → In (delivery m d.replica.0) (to_each 1 ++ to_each 2)
    go zero from to = absurd (omega arith)
    go (suc zero) from to = Memᴰ.append_left (to_each 2) (to_each_lem 1 d.replica.0 p.replica_from p.replica_to)
    go (suc (suc zero)) from to = Memᴰ.append_right (to_each 1) (to_each_lem 2 d.replica.0 p.replica_from p.replica_to)
    go (suc (suc (suc m))) from to = absurd (omega arith)

all_possible : EachOf Possible deliveries
unfolding deliveries
all_possible = omega arith

rise : Pairwise Earlier deliveries
unfolding deliveries
rise =
    from_steps Earlier earlier_still deliveries
    (inr (refl, omega arith), (inr (refl, omega arith), (inr (refl, omega arith), (inl (omega arith), (inr (refl, omega arith), (inr (refl, omega arith), (inr (refl, omega arith), tt)))))))

pub all_different : Pairwise ◌≢◌ deliveries
all_different = pairwise_then Earlier ◌≢◌ (λ d e earlier same. not_itself d (subst (Earlier d) (sym same) earlier)) deliveries rise

-- ---- The claims

pub complete : (k : ℕ) (run : List Delivery) → Legal k run → In run (runs k)
complete k run legal = complete_of k deliveries run legal.so_many (λ d m. all_there d (legal.possible d m)) legal.different

pub sound : (k : ℕ) (run : List Delivery) → In run (runs k) → Legal k run
sound k run m =
    let made = sound_of k deliveries run m in
    record { so_many = made.so_many; possible = λ d h. each_in Possible (made.inside d h) all_possible; different = made.different }

pub in_order : (k : ℕ) → Pairwise Before (runs k)
in_order k = rising_of k deliveries rise

pub rising : (k i j : ℕ) → i < j → j < length (runs k) → Before (run_at k i) (run_at k j)
rising k = pairwise_at Before [] (runs k) (in_order k)

pub once : (k i j : ℕ) → i < length (runs k) → j < length (runs k) → run_at k i ≡ run_at k j → i ≡ j
once k i j hi hj same = go (compared i j)
  where
    go : (i < j) ⊎ ((i ≡ j) ⊎ (j < i)) → i ≡ j
    go (inl less) = absurd (irreflexive (run_at k j) (subst (λ (run : List Delivery). Before run (run_at k j)) same (rising k i j less hj)))
    go (inr (inl e)) = e
    go (inr (inr more)) = absurd (irreflexive (run_at k j) (subst (Before (run_at k j)) same (rising k j i more hi)))

pub how_many_lem : (k : ℕ) → length (runs k) ≡ falling_factorial 8 k
unfolding deliveries
how_many_lem k = how_many_of k deliveries all_different

-- A rising list of all legal runs and of no others is this one.
pub only : (k : ℕ) (l : List (List Delivery)) → Pairwise Before l → ((run : List Delivery) → Legal k run → In run l) → ((run : List Delivery) → In run l → Legal k run) → l ≡ runs k
only k l rises all legal =
    same_members Before transitive irreflexive l (runs k) rises (in_order k) (λ run m. complete k run (legal run m)) (λ run m. all run (sound k run m))
