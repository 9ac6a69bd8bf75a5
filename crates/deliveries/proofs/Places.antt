-- A run by its place among the runs: which of the unused deliveries is next, and the place of what follows among the runs of the others. Assumes
-- nothing.
use mathlib.Core.Path.{◌≡◌, sym, ap, ap₂, subst, ◌∙◌}
use mathlib.Core.Logic.{◌≢◌}
use mathlib.Core.List.{List, [], ◌∷◌, ◌++◌, flat_map}
use Rattle.std.proofs.lemmas.List.{get_or-map}
use Prim.Native.Nat.{ℕ, zero, suc, ◌+◌, ◌-◌, ◌*◌, ◌/◌, ◌%◌, ◌≤◌, ◌<◌}
use native.Mathlib.Nat.{div-add-mod', mod-lt, div-lt_iff_lt-mul}
use native.Mathlib.Omega.{arith}
use lib.ListN.{length, get_or, length-map}
use Rattle.deliveries.specs.ShortRuns.{Delivery, Pairwise, falling_factorial, delivery, deliveries, others, runs_of, run_at, delivery_line}
use Rattle.deliveries.specs.Writing.{delivery_of, deliveries_in, digit_at, without_digit, lines_at, IsPlace}
use Rattle.deliveries.proofs.Digits.{length_in_lem, at_place, removed}
use Rattle.deliveries.proofs.Factorials.{factorial_some}
use Rattle.deliveries.proofs.Lists.{at_flat, in_at}
use Rattle.deliveries.proofs.Others.{others_at, others_pairwise}
use Rattle.deliveries.proofs.Runs.{beginning, how_many_begin, all_different}

run_at_lem : (k : ℕ) (l : List Delivery) (d : Delivery) (q r : ℕ) → Pairwise ◌≢◌ l → q < length l → r < falling_factorial (length l - 1) k
    → get_or (runs_of (suc k) l) (q * falling_factorial (length l - 1) k + r) [] ≡ get_or l q d ∷ get_or (runs_of k (others (get_or l q d) l)) r []
unfolding runs_of
run_at_lem k l d q r different place less =
    let e = get_or l q d in
    let long = how_many_begin k l different in
    let begins = length-map (runs_of k (others e l)) (λ (later : List Delivery). e ∷ later) in
    let many : r < length (runs_of k (others e l)) = rw (← begins, long e (in_at d l q place)) less in
    at_flat (beginning k l) (falling_factorial (length l - 1) k) l d [] q r long place less
    ∙ get_or-map (λ (later : List Delivery). e ∷ later) (runs_of k (others e l)) r [] [] many

-- What the code goes by, with as many runs for each first delivery as `size` says.
pub record Next (k count unused before size : ℕ) : Type 0 where
  pub some : 0 < size
  pub rest : IsPlace (k - 1) (count - 1) (without_digit unused (before / size)) (before % size)
  pub lines : delivery_line (delivery_of (digit_at unused (before / size))) ++ lines_at (k - 1) (count - 1) (without_digit unused (before / size)) (before % size)
      ≡ lines_at k count unused before

module _ (k count unused before : ℕ) (p : IsPlace (suc k) (suc count) unused before) where
  abbrev l : List Delivery
  l = deliveries_in (suc count) unused

  abbrev size : ℕ
  size = falling_factorial count k

  abbrev place : ℕ
  place = before / size

  abbrev rest : List Delivery
  rest = deliveries_in count (without_digit unused place)

  abbrev first : Delivery
  first = get_or l place (delivery 0 0)

  less : suc count - 1 ≡ count
  less = omega arith

  some : 0 < size
  some = factorial_some count k (omega (arith, p.enough))

  inside : place < suc count
  inside = (div-lt_iff_lt-mul some).1 (rw less at p.inside)

  left : others first l ≡ rest
  left = others_at l p.different (delivery 0 0) place (rw (length_in_lem (suc count) unused) inside) ∙ removed count unused place inside

  next_is : get_or (runs_of (suc k) l) before [] ≡ delivery_of (digit_at unused place) ∷ get_or (runs_of k rest) (before % size) []
  next_is =
      let long = length_in_lem (suc count) unused in
      let one_less : length l - 1 ≡ count = omega arith in
      let found = run_at_lem k l (delivery 0 0) place (before % size) p.different (rw long inside) (rw one_less (mod-lt before some)) in
      let whole : place * falling_factorial (length l - 1) k + before % size ≡ before = ap (λ (n : ℕ). place * falling_factorial n k + before % size) one_less ∙ div-add-mod' before size in
      ap (λ (i : ℕ). get_or (runs_of (suc k) l) i []) (sym whole)
      ∙ (found
      ∙ ap₂ (λ (d : Delivery) (m : List Delivery). d ∷ get_or (runs_of k m) (before % size) []) (at_place (delivery 0 0) (suc count) unused place inside) left)

  next_of : Next (suc k) (suc count) unused before size
  unfolding flat_map
  next_of =
      let k_less : suc k - 1 ≡ k = omega arith in
      let e : IsPlace k count (without_digit unused place) (before % size) =
      record {
        eight = omega (arith, p.eight);
        enough = omega (arith, p.enough);
        different = subst (Pairwise ◌≢◌) left (others_pairwise ◌≢◌ first l p.different);
        inside = mod-lt before some;
      } in
      record { some = some; rest = rw (k_less, less) e; lines = rw (k_less, less) (sym (ap (flat_map delivery_line) next_is)) }

pub next : {k count unused before size : ℕ} → IsPlace k count unused before → 0 < k → size ≡ falling_factorial (count - 1) (k - 1) → Next k count unused before size
next {k = zero} p h e = absurd (omega arith)
next {k = suc k} {count = zero} p h e = absurd (omega (arith, p.enough))
next {k = suc k} {count = suc count} {unused = unused} {before = before} p h e =
    let k_less : suc k - 1 ≡ k = omega arith in
    let less : suc count - 1 ≡ count = omega arith in
    subst (Next (suc k) (suc count) unused before) (sym (e ∙ ap₂ falling_factorial less k_less)) (next_of k count unused before p)

-- Of no deliveries there is one run, without a line.
pub none_left : {k count unused before : ℕ} → IsPlace k count unused before → k ≡ 0 → [] ≡ lines_at k count unused before
unfolding runs_of flat_map
none_left {before = before} p none =
    let one : before < 1 = rw none at p.inside in
    let first : before ≡ 0 = omega arith in
    rw (none, first)

-- ---- At first all are unused

module _ (k n before : ℕ) (all : deliveries_in 8 n ≡ deliveries) where
  pub is_place : k ≤ 8 → before < falling_factorial 8 k → IsPlace k 8 n before
  is_place enough inside = record { eight = omega arith; enough = enough; different = subst (Pairwise ◌≢◌) (sym all) all_different; inside = inside }

  pub lines_of_all : lines_at k 8 n before ≡ flat_map delivery_line (run_at k before)
  lines_of_all = ap (λ (l : List Delivery). flat_map delivery_line (get_or (runs_of k l) before [])) all
