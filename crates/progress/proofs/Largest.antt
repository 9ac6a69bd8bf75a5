-- Lists of timestamps: how many are one of them, whether all are, and the largest. Assumes nothing.
use mathlib.Core.Path.{◌≡◌, refl, sym, subst, ◌∙◌}
use mathlib.Core.Logic.{◌⊎◌, inl, inr, ⊎_elim}
use mathlib.Core.Bool.{Bool, true, false, ◌&&◌}
use mathlib.Core.List.{List, [], ◌∷◌, ◌++◌}
use Prim.Native.Nat.{ℕ, suc, ◌+◌, ◌≤◌, ◌<◌, max}
use native.Mathlib.Omega.{arith}
use borrow.Author.Tests.{eqb-true, eqb-false, eq-eqb, ne_eqb}
use lib.Dec.{eqb}
use lib.ListN.{length}
use Rattle.base.specs.Counting.{one}
use Rattle.base.proofs.Booleans.{and_true_both}
use Rattle.base.proofs.Each.{each_both}
use Rattle.base.proofs.Falling.{how_many, Below, below_up}
use Rattle.run.proofs.Slots.{order}
use Rattle.wire.specs.Checks.{all}
use Rattle.progress.specs.Counts.{are_all_same, largest}

-- How many of a list are this one.
abbrev pub equals : ℕ → List ℕ → ℕ
equals s a = how_many (λ n. eqb n s) a

pub equals_more : (s : ℕ) (a : List ℕ) (n : ℕ) → equals s (a ++ n ∷ []) ≡ equals s a + one (eqb n s)
unfolding how_many
equals_more s [] n = omega arith
equals_more s (m ∷ a) n = let rest = equals_more s a n in omega arith

below_more : (s : ℕ) (a : List ℕ) (n : ℕ) → Below s a → n ≤ s → Below s (a ++ n ∷ [])
below_more s a n h l = each_both (λ m. m ≤ s) a (n ∷ []) h (l, tt)

pub none_above : (s s' : ℕ) (a : List ℕ) → s < s' → Below s a → equals s' a ≡ 0
unfolding how_many
none_above s s' [] l h = refl
none_above s s' (n ∷ a) l h = let first = h.0 in let rest = none_above s s' a l h.1 in rw (ne_eqb n s' (λ z. omega arith)) (omega arith)

all_zero : (a : List ℕ) → Below 0 a → equals 0 a ≡ length a
unfolding how_many
all_zero [] h = refl
all_zero (n ∷ a) h = let first = h.0 in let rest = all_zero a h.1 in rw (eq-eqb n 0 (omega arith)) (omega arith)

-- ---- All are the same

equals_most : (s : ℕ) (a : List ℕ) → equals s a ≤ length a
unfolding how_many
equals_most s [] = omega arith
equals_most s (n ∷ a) = go (eqb n s) (equals_most s a)
  where
    go : (b : Bool) → equals s a ≤ length a → one b + equals s a ≤ suc (length a)
    go true l = omega arith
    go false l = omega arith

all_equal : (s : ℕ) (a : List ℕ) → length a ≤ equals s a → all (λ n. eqb n s) a ≡ true
unfolding how_many all
all_equal s [] l = refl
all_equal s (n ∷ a) l = go (eqb n s) l (λ k. all_equal s a k)
  where
    go : (b : Bool) → suc (length a) ≤ one b + equals s a → (length a ≤ equals s a → all (λ n. eqb n s) a ≡ true) → (b && all (λ n. eqb n s) a) ≡ true
    go true l rest = rest (omega arith)
    go false l rest = let most = equals_most s a in absurd (omega arith)

-- All are s: then they are counted for s, and none for another.
equal_all : (s s' : ℕ) (a : List ℕ) → all (λ n. eqb n s) a ≡ true → (s ≡ s' → equals s' a ≡ length a) × ((s ≡ s' → ⊥) → equals s' a ≡ 0)
unfolding how_many all
equal_all s s' [] e = ((λ z. refl), (λ other. refl))
equal_all s s' (n ∷ a) e =
    let both = and_true_both (eqb n s) (all (λ n. eqb n s) a) e in
    let is = eqb-true n s both.0 in
    let rest = equal_all s s' a both.1 in
    ((λ z. rw (eq-eqb n s' (is ∙ z)) (let all_of = rest.0 z in omega arith)), (λ other. rw (ne_eqb n s' (λ z. other (sym is ∙ z))) (let none_of = rest.1 other in omega arith)))

pub same_if : (s : ℕ) (a : List ℕ) → length a ≤ equals s a → are_all_same a ≡ true
unfolding all
same_if s [] l = refl
same_if s (n ∷ a) l =
    let both = and_true_both (eqb n s) (all (λ k. eqb k s) a) (all_equal s (n ∷ a) l) in
    subst (λ (k : ℕ). all (λ i. eqb i k) a ≡ true) (sym (eqb-true n s both.0)) both.1

pub differ_if : (s : ℕ) (a : List ℕ) → 1 ≤ equals s a → equals s a < length a → are_all_same a ≡ false
unfolding how_many
differ_if s [] some_there less = absurd (omega arith)
differ_if s (n ∷ a) some_there less = go (are_all_same (n ∷ a)) refl
  where
    counted : (b : Bool) → eqb n s ≡ b → are_all_same (n ∷ a) ≡ true → 1 ≤ one b + equals s a → one b + equals s a < suc (length a) → ⊥
    counted true k e low high = let every = (equal_all n s a e).0 (eqb-true n s k) in omega arith
    counted false k e low high = let none_of = (equal_all n s a e).1 (eqb-false n s k) in omega arith

    go : (b : Bool) → are_all_same (n ∷ a) ≡ b → are_all_same (n ∷ a) ≡ false
    go true e = absurd (counted (eqb n s) refl e some_there less)
    go false e = e

-- ---- The largest

-- The best so far: none is above it, and it is among them or 0.
pub record Best (best : ℕ) (shown : List ℕ) : Type 0 where
  pub below : Below best shown
  pub there : (best ≡ 0) ⊎ (1 ≤ equals best shown)

pub none_best : Best 0 []
none_best = record { below = tt; there = inl refl }

pub best_more : (best s : ℕ) (shown : List ℕ) → Best best shown → Best (max best s) (shown ++ s ∷ [])
best_more best s shown it = ⊎_elim (λ (l : s ≤ best). kept l) (λ (l : best < s). new l) (order s best)
  where
    kept : s ≤ best → Best (max best s) (shown ++ s ∷ [])
    kept l =
        let is : max best s ≡ best = omega arith in
        rw is (record { below = below_more best shown s it.below l; there = ⊎_elim (λ z. inl z) (λ k. inr (omega (arith, equals_more best shown s))) it.there })

    new : best < s → Best (max best s) (shown ++ s ∷ [])
    new l =
        let is : max best s ≡ s = omega arith in
        let itself : one (eqb s s) ≡ 1 = rw (eq-eqb s s refl) refl in
        rw is (record { below = below_more s shown s (below_up best s shown (omega arith) it.below) (omega arith); there = inr (omega (arith, equals_more s shown s)) })

-- Where any were shown, the best was.
pub best_there : (best : ℕ) (shown : List ℕ) → Best best shown → 1 ≤ length shown → 1 ≤ equals best shown
best_there best shown it l = ⊎_elim (λ (z : best ≡ 0). rw z (omega (arith, all_zero shown (subst (λ (b : ℕ). Below b shown) z it.below)))) (λ k. k) it.there

largest_most : (s : ℕ) (a : List ℕ) → Below s a → largest a ≤ s
largest_most s [] h = omega arith
largest_most s (n ∷ a) h = let rest = largest_most s a h.1 in let first = h.0 in omega arith

largest_least : (s : ℕ) (a : List ℕ) → 1 ≤ equals s a → s ≤ largest a
unfolding how_many
largest_least s [] l = absurd (omega arith)
largest_least s (n ∷ a) l = go (eqb n s) refl l (λ k. largest_least s a k)
  where
    go : (b : Bool) → eqb n s ≡ b → 1 ≤ one b + equals s a → (1 ≤ equals s a → s ≤ largest a) → s ≤ max n (largest a)
    go true e l rest = let is = eqb-true n s e in omega arith
    go false e l rest = let r = rest (omega arith) in omega arith

pub largest_is : (best : ℕ) (shown : List ℕ) → Best best shown → largest shown ≡ best
largest_is best shown it =
    let most = largest_most best shown it.below in
    ⊎_elim (λ z. omega arith) (λ k. omega (arith, largest_least best shown k)) it.there
