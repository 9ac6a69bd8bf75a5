-- What the code keeps to: deliveries by their numbers, 0 to 7, and the answer to a lent output.
use Rattle.std.specs.Prelude.{◌≡◌, cond, ◌≢◌, ℕ, zero, suc, ◌+◌, ◌*◌, ◌/◌, ◌%◌, ◌≤◌, ◌<◌, leb, length, get_or, drop}
use mathlib.Core.List.{List, [], ◌∷◌, ◌++◌, flat_map}
use Rattle.std.specs.declared.option.Option.{Option}
use Rattle.std.specs.declared.option.Option.TheVariants.{None, Some}
use Rattle.deliveries.specs.ShortRuns.{Delivery, Pairwise, falling_factorial, delivery, runs_of, delivery_line, printed}
use Rattle.deliveries.specs.declared.Taken.{Taken}

-- The delivery of a number: message first, then replica.
abbrev pub delivery_of : ℕ → Delivery
delivery_of p = delivery (1 + p / 4) (1 + p % 4)

-- ---- Numbers as the octal digits of one number, counted from the last

unfoldable pub deliveries_in : ℕ → ℕ → List Delivery
deliveries_in zero n = []
deliveries_in (suc count) n = delivery_of (n % 8) ∷ deliveries_in count (n / 8)

unfoldable pub digit_at : ℕ → ℕ → ℕ
digit_at n zero = n % 8
digit_at n (suc place) = digit_at (n / 8) place

unfoldable pub without_digit : ℕ → ℕ → ℕ
without_digit n zero = n / 8
without_digit n (suc place) = without_digit (n / 8) place * 8 + n % 8

-- A digit taken out. The second and the last follow, for callers that go on with it.
pub record Takes (n place : ℕ) (taken : Taken) : Type 0 where
  pub number_is : taken.number ≡ digit_at n place
  pub one_digit : taken.number < 8
  pub others_are : taken.others ≡ without_digit n place
  pub no_more : taken.others ≤ n

-- ---- A run by its place

-- The lines of the run of k out of the deliveries in a number that has so many runs before it.
abbrev pub lines_at : ℕ → ℕ → ℕ → ℕ → List ℕ
lines_at k count unused before = flat_map delivery_line (get_or (runs_of k (deliveries_in count unused)) before [])

-- There is such a run.
pub record IsPlace (k count unused before : ℕ) : Type 0 where
  pub eight : count ≤ 8
  pub enough : k ≤ count
  pub different : Pairwise ◌≢◌ (deliveries_in count unused)
  pub inside : before < falling_factorial count k

-- ---- The answer

-- The text in front of an output and its old bytes behind, and its length; all as it was where there is no room.
pub record WritesAll (old : List ℕ) (answer : Option ℕ) (new : List ℕ) : Type 0 where
  pub answered : answer ≡ cond (leb (length printed) (length old)) (Some (length printed)) None
  pub holds : new ≡ cond (leb (length printed) (length old)) (printed ++ drop (length printed) old) old
