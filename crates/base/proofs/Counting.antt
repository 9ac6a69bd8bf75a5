-- Counting replicas. Assumes nothing.
use mathlib.Core.Path.{◌≡◌, refl, sym, ap, ◌∙◌}
use mathlib.Core.Logic.{◌≢◌}
use mathlib.Core.Bool.{Bool, true, false, ◌||◌, not}
use Prim.Native.Nat.{ℕ, zero, suc, ◌+◌, ◌≤◌}
use native.Mathlib.Omega.{arith}
use borrow.Author.Tests.{eqb-true, eqb-false, ne_eqb}
use lib.Dec.{eqb}
use Rattle.base.specs.declared.party.ReplicaId.{ReplicaId}
use Rattle.base.specs.Counting.{replica, one, count}
use Rattle.base.proofs.Apart.{apart}

-- Tests that agree on 1 to n count alike.
pub count_agree : (n : ℕ) (p q : ReplicaId → Bool) → ((i : ℕ) → 1 ≤ i → i ≤ n → p (replica i) ≡ q (replica i)) → count n p ≡ count n q
unfolding count
count_agree zero p q h = refl
count_agree (suc n) p q h = rw (h (suc n) (omega arith) (omega arith), count_agree n p q (λ i low high. h i low (omega arith)))

-- Who passes one test passes another.
pub count_most : (n : ℕ) (p q : ReplicaId → Bool) → ((i : ReplicaId) → 1 ≤ i.0 → i.0 ≤ n → p i ≡ true → q i ≡ true) → count n p ≤ count n q
unfolding count
count_most zero p q h = omega arith
count_most (suc n) p q h = go (p (replica (suc n))) (q (replica (suc n))) refl refl (count_most n p q (λ i l k. h i l (omega arith)))
  where
    go : (a b : Bool) → p (replica (suc n)) ≡ a → q (replica (suc n)) ≡ b → count n p ≤ count n q → one a + count n p ≤ one b + count n q
    go true true e k l = omega arith
    go true false e k l = let yes = h (replica (suc n)) (omega arith) (omega arith) e in apart (cc)
    go false true e k l = omega arith
    go false false e k l = omega arith

pub count_none : (n : ℕ) → count n (λ (i : ReplicaId). false) ≡ 0
unfolding count
count_none zero = refl
count_none (suc n) = rw (count_none n)

-- Those that pass and those that fail are all.
pub count_not : (n : ℕ) (p : ReplicaId → Bool) → count n p + count n (λ i. not (p i)) ≡ n
unfolding count
count_not zero p = refl
count_not (suc n) p = go (p (replica (suc n))) (count_not n p)
  where
    go : (b : Bool) → count n p + count n (λ i. not (p i)) ≡ n → (one b + count n p) + (one (not b) + count n (λ i. not (p i))) ≡ suc n
    go true h = omega arith
    go false h = omega arith

-- The test p, passed by x too.
abbrev pub or_is : ReplicaId → (ReplicaId → Bool) → ReplicaId → Bool
or_is x p i = eqb i.0 x.0 || p i

pub or_is_other : (x i : ReplicaId) (p : ReplicaId → Bool) → i.0 ≢ x.0 → or_is x p i ≡ p i
or_is_other x i p h = rw (ne_eqb i.0 x.0 h)

-- One that failed the test and passes it now is one more.
pub count_one_more : (n : ℕ) (x : ReplicaId) (p : ReplicaId → Bool) → 1 ≤ x.0 → x.0 ≤ n → p x ≡ false → count n (or_is x p) ≡ suc (count n p)
unfolding count
count_one_more zero x p low high e = absurd (omega arith)
count_one_more (suc n) x p low high e = go (λ h. count_one_more n x p low h e) (eqb (suc n) x.0) refl
  where
    go : (x.0 ≤ n → count n (or_is x p) ≡ suc (count n p)) → (b : Bool) → eqb (suc n) x.0 ≡ b → one (b || p (replica (suc n))) + count n (or_is x p) ≡ suc (one (p (replica (suc n))) + count n p)
    go below_n true k =
        let here : suc n ≡ x.0 = eqb-true (suc n) x.0 k in
        let failed : p (replica (suc n)) ≡ false = ap (λ (i : ℕ). p (replica i)) here ∙ e in
        let below : count n (or_is x p) ≡ count n p = count_agree n (or_is x p) p (λ i l h. or_is_other x (replica i) p (omega arith)) in
        rw (failed, below) (omega arith)
    go below_n false k =
        let elsewhere : x.0 ≢ suc n = λ here. eqb-false (suc n) x.0 k (sym here) in
        rw (below_n (omega arith)) (omega arith)
