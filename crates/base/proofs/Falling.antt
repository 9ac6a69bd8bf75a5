-- Numbers in falling order: they fall, are those that were there, and at most k lie above the one behind k others. Assumes nothing.
use mathlib.Core.Path.{◌≡◌, refl, ap, ◌∙◌}
use mathlib.Core.Bool.{Bool, true, false, cond}
use mathlib.Core.List.{List, [], ◌∷◌}
use Prim.Native.Nat.{ℕ, zero, suc, ◌+◌, ◌≤◌}
use native.Mathlib.Omega.{arith}
use borrow.Author.Tests.{leb-true, leb-false, le-ltb}
use lib.Dec.{leb, ltb}
use lib.ListN.{length, get_or}
use Rattle.base.specs.Counting.{one}
use Rattle.base.specs.Falling.{insert, falling}
use Rattle.base.proofs.Each.{EachOf, each_then}

-- How many of a list pass a test.
unfoldable pub how_many : (ℕ → Bool) → List ℕ → ℕ
how_many test [] = 0
how_many test (n ∷ ns) = one (test n) + how_many test ns

-- None lies above this one.
abbrev pub Below : ℕ → List ℕ → Type 0
Below s a = EachOf (λ n. n ≤ s) a

abbrev pub Falls : List ℕ → Type 0
Falls [] = Unit {0}
Falls (n ∷ ns) = Below n ns × Falls ns

pub below_up : (s s' : ℕ) (a : List ℕ) → s ≤ s' → Below s a → Below s' a
below_up s s' a l = each_then (λ n. n ≤ s) (λ n. n ≤ s') (λ n first. omega arith) a

pub all_counted : (a : List ℕ) → how_many (λ n. true) a ≡ length a
unfolding how_many
all_counted [] = refl
all_counted (n ∷ a) = let rest = all_counted a in omega arith

module _ (v : ℕ) where
  insert_below : (s : ℕ) (a : List ℕ) → v ≤ s → Below s a → Below s (insert v a)
  unfolding insert
  insert_below s [] l h = (l, tt)
  insert_below s (n ∷ a) l h = go (leb n v) (insert_below s a l h.1)
    where
      go : (b : Bool) → Below s (insert v a) → Below s (cond b (v ∷ n ∷ a) (n ∷ insert v a))
      go true rest = (l, h)
      go false rest = (h.0, rest)

  insert_falls : (a : List ℕ) → Falls a → Falls (insert v a)
  unfolding insert
  insert_falls [] h = (tt, tt)
  insert_falls (n ∷ a) h = go (leb n v) refl (insert_falls a h.1)
    where
      go : (b : Bool) → leb n v ≡ b → Falls (insert v a) → Falls (cond b (v ∷ n ∷ a) (n ∷ insert v a))
      go true e rest = let l = leb-true n v e in ((l, below_up n v a l h.0), h)
      go false e rest = let l = leb-false n v e in (insert_below n a (omega arith) h.0, rest)

  insert_adds : (test : ℕ → Bool) (a : List ℕ) → how_many test (insert v a) ≡ one (test v) + how_many test a
  unfolding insert how_many
  insert_adds test [] = refl
  insert_adds test (n ∷ a) = go (leb n v) (insert_adds test a)
    where
      go : (b : Bool) → how_many test (insert v a) ≡ one (test v) + how_many test a
          → how_many test (cond b (v ∷ n ∷ a) (n ∷ insert v a)) ≡ one (test v) + (one (test n) + how_many test a)
      go true rest = refl
      go false rest = omega arith

pub falling_falls : (a : List ℕ) → Falls (falling a)
unfolding falling
falling_falls [] = tt
falling_falls (n ∷ a) = insert_falls n (falling a) (falling_falls a)

-- Each test is passed as often as before: no number is lost, and none is new.
pub falling_keeps : (test : ℕ → Bool) (a : List ℕ) → how_many test (falling a) ≡ how_many test a
unfolding falling how_many
falling_keeps test [] = refl
falling_keeps test (n ∷ a) = insert_adds n test (falling a) ∙ ap (λ (k : ℕ). one (test n) + k) (falling_keeps test a)

none_above : (s : ℕ) (a : List ℕ) → Below s a → how_many (λ n. ltb s n) a ≡ 0
unfolding how_many
none_above s [] h = refl
none_above s (n ∷ a) h = let rest = none_above s a h.1 in rw (le-ltb s n h.0) (omega arith)

pub few_above : (a : List ℕ) (k : ℕ) → Falls a → how_many (λ n. ltb (get_or a k 0) n) a ≤ k
unfolding how_many
few_above [] k h = omega arith
few_above (n ∷ a) zero h = let rest = none_above n a h.0 in rw (le-ltb n n (omega arith)) (omega arith)
few_above (n ∷ a) (suc k) h = go (ltb (get_or a k 0) n) (few_above a k h.1)
  where
    go : (b : Bool) → how_many (λ m. ltb (get_or a k 0) m) a ≤ k → one b + how_many (λ m. ltb (get_or a k 0) m) a ≤ suc k
    go true rest = omega arith
    go false rest = omega arith
