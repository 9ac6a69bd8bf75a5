-- The members of a set of replicas with one more, and how many there are. Assumes nothing.
use mathlib.Core.Path.{◌≡◌, refl, sym, ap, ◌∙◌}
use mathlib.Core.Logic.{◌⊎◌, inl, inr, ⊎_elim}
use mathlib.Core.Bool.{Bool, true, false, ◌||◌}
use Prim.Native.Nat.{ℕ, ◌≤◌}
use borrow.Author.Tests.{eqb-true, eq-eqb}
use lib.Dec.{eqb}
use Rattle.base.specs.Counting.{replica as numbered, count}
use Rattle.base.specs.ReplicaSet.{empty, has, with}
use Rattle.base.specs.declared.party.ReplicaId.{ReplicaId}
use Rattle.base.specs.declared.replica_set.ReplicaSet.{ReplicaSet}
use Rattle.base.proofs.Apart.{apart}
use Rattle.base.proofs.Booleans.{or_true}
use Rattle.base.proofs.Counting.{count_agree, count_none}
use Rattle.base.proofs.ReplicaSet.{has_with, has_empty}
use Rattle.run.proofs.Turns.{same_replica}

module _ (set : ReplicaSet) (r i : ReplicaId) (low : 1 ≤ i.0) (high : i.0 ≤ 16) where
  -- The new one, or an old one.
  pub member_of : has (with set r) i ≡ true → (i ≡ r) ⊎ (has set i ≡ true)
  member_of h =
      ⊎_elim (λ e. inl (same_replica i r (eqb-true i.0 r.0 e))) (λ e. inr e) (or_true (eqb i.0 r.0) (has set i) (sym (has_with set r i.0 low high) ∙ h))

  pub is_member : (i ≡ r) ⊎ (has set i ≡ true) → has (with set r) i ≡ true
  is_member h =
      has_with set r i.0 low high
      ∙ go (eqb i.0 r.0) (has set i) (⊎_elim (λ e. inl (eq-eqb i.0 r.0 (ap (λ (j : ReplicaId). j.0) e))) (λ k. inr k) h)
    where
      go : (a b : Bool) → (a ≡ true) ⊎ (b ≡ true) → (a || b) ≡ true
      go true b h = refl
      go false b (inl e) = apart (cc)
      go false b (inr e) = e

pub empty_count : (n : ℕ) → count n (has empty) ≡ 0
empty_count n = count_agree n (has empty) (λ (i : ReplicaId). false) (λ i low high. has_empty (numbered i)) ∙ count_none n
