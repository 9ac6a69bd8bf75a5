-- Signatures that were judged genuine before an event, and by M3 are so from then on. Assumes nothing.
use mathlib.Core.Path.{◌≡◌, refl, ap}
use mathlib.Core.Bool.{true}
use mathlib.Core.List.{List, [], ◌∷◌}
use mathlib.Core.Option.{some}
use Prim.Native.Nat.{ℕ, suc, ◌≤◌, ◌<◌}
use native.Mathlib.Omega.{arith}
use borrow.Author.Tests.{eqb-true, eq-eqb}
use lib.Dec.{eqb}
use lib.ListN.{length}
use Rattle.base.proofs.Booleans.{and_true_both}
use Rattle.base.proofs.Each.{EachOf}
use Rattle.run.specs.Run.{Run}
use Rattle.wire.specs.Checks.{all, genuine}
use Rattle.wire.specs.Signatures.{Signature}
use Rattle.progress.specs.Verdicts.{Beside, SignedAt, Judged}

module _ (R : Run) where
  -- A signature was judged genuine before event t.
  abbrev pub Found : ℕ → Signature → Type 0
  Found t s = (u : ℕ) × (u < t) × SignedAt R u s 1

  abbrev pub EachFound : ℕ → List Signature → Type 0
  EachFound t ss = EachOf (Found t) ss

  pub found_later : (t t' : ℕ) (s : Signature) → t ≤ t' → Found t s → Found t' s
  found_later t t' s l (u, before, at) = (u, omega arith, at)

  module _ (t : ℕ) where
    -- What stands beside one another in these lists does so at event t.
    abbrev pub Among : List Signature → List ℕ → Type 0
    Among ss vs = (s : Signature) (v : ℕ) → Beside ss vs s v → SignedAt R t s v

    pub behind : (s : Signature) (ss : List Signature) (v : ℕ) (vs : List ℕ) → Among (s ∷ ss) (v ∷ vs) → Among ss vs
    behind s ss v vs among s' v' (i, a, b) = among s' v' (suc i, a, b)

    -- All verdicts are 1: the signatures are found genuine,
    pub all_found : (ss : List Signature) (vs : List ℕ) → Among ss vs → length ss ≤ length vs → genuine vs ≡ true → EachFound (suc t) ss
    unfolding all
    all_found [] vs among l g = tt
    all_found (s ∷ ss) [] among l g = absurd (omega arith)
    all_found (s ∷ ss) (v ∷ vs) among l g =
        let ones = and_true_both (eqb v 1) (all (λ v. eqb v 1) vs) g in
        ((t, omega arith, among s 1 (0, refl, ap some (eqb-true v 1 ones.0))), all_found ss vs (behind s ss v vs among) (omega arith) ones.1)

    -- and where they were found so before, all verdicts are 1.
    pub all_ones : {Made : Signature → Type 0} → Judged R Made → (ss : List Signature) (vs : List ℕ) → Among ss vs → length vs ≡ length ss → EachFound t ss → genuine vs ≡ true
    unfolding all
    all_ones judged [] [] among l h = refl
    all_ones judged [] (v ∷ vs) among l h = absurd (omega arith)
    all_ones judged (s ∷ ss) [] among l h = absurd (omega arith)
    all_ones judged (s ∷ ss) (v ∷ vs) among l h =
        let one : v ≡ 1 = judged.genuine_for_all h.0.0 t s v h.0.2 h.0.1 (among s v (0, refl, refl)) in
        rw (eq-eqb v 1 one) (all_ones judged ss vs (behind s ss v vs among) (omega arith) h.1)
