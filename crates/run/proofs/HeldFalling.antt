-- What the correct replicas hold, in falling order: it falls, has each number as often as one of them holds it, and at most f of them hold more
-- than S. Assumes nothing.
use mathlib.Core.Path.{◌≡◌, refl, sym, ◌∙◌}
use mathlib.Core.Bool.{Bool, true, false, ◌&&◌, cond}
use mathlib.Core.List.{◌∷◌}
use Prim.Native.Nat.{ℕ, zero, suc, ◌+◌, ◌≤◌}
use native.Mathlib.Omega.{arith}
use lib.Dec.{eqb, ltb}
use lib.ListN.{length}
use Rattle.base.specs.Counting.{replica, one, count}
use Rattle.base.specs.Party.{replica_count, quorum_size}
use Rattle.base.specs.declared.party.RegisterId.{RegisterId}
use Rattle.base.proofs.Counting.{count_agree}
use Rattle.base.proofs.Falling.{how_many, Falls, all_counted, falling_falls, falling_keeps, few_above}
use Rattle.base.proofs.Quorum.{correct_quorum}
use Rattle.base.proofs.Range.{bounds}
use Rattle.run.specs.Lurking.{held_among, held_falling, bar}
use Rattle.run.specs.Premises.{FewFaulty}
use Rattle.run.specs.Run.{Run, held}

module _ (R : Run) (x : RegisterId) (t : ℕ) where
  among_counted : (test : ℕ → Bool) (n : ℕ) → how_many test (held_among R x n t) ≡ count n (λ id. R.correct_replica id && test (held R x id t))
  unfolding held_among how_many count
  among_counted test zero = refl
  among_counted test (suc n) = go (R.correct_replica (replica (suc n))) (among_counted test n)
    where
      here : ℕ
      here = held R x (replica (suc n)) t

      go : (b : Bool) → how_many test (held_among R x n t) ≡ count n (λ id. R.correct_replica id && test (held R x id t))
          → how_many test (cond b (here ∷ held_among R x n t) (held_among R x n t)) ≡ one (b && test here) + count n (λ id. R.correct_replica id && test (held R x id t))
      go true rest = omega arith
      go false rest = omega arith

  pub held_falls : Falls (held_falling R x t)
  held_falls = falling_falls (held_among R x (replica_count R.f) t)

  -- Each test is passed by as many numbers as there are correct replicas whose held timestamp passes it.
  pub held_counted : (test : ℕ → Bool) → how_many test (held_falling R x t) ≡ count (replica_count R.f) (λ id. R.correct_replica id && test (held R x id t))
  held_counted test = falling_keeps test (held_among R x (replica_count R.f) t) ∙ among_counted test (replica_count R.f)

  -- So each number stands there as often as a correct replica holds it,
  pub held_each : (s : ℕ) → how_many (λ n. eqb n s) (held_falling R x t) ≡ count (replica_count R.f) (λ id. R.correct_replica id && eqb (held R x id t) s)
  held_each s = held_counted (λ n. eqb n s)

  -- there are as many as correct replicas,
  pub held_long : length (held_falling R x t) ≡ count (replica_count R.f) R.correct_replica
  held_long =
      sym (all_counted (held_falling R x t))
      ∙ held_counted (λ n. true)
      ∙ count_agree (replica_count R.f) (λ id. R.correct_replica id && true) R.correct_replica (λ i low high. and-true (R.correct_replica (replica i)))
    where
      and-true : (b : Bool) → (b && true) ≡ b
      and-true true = refl
      and-true false = refl

  -- and so a quorum at least, among which S is.
  pub held_enough : FewFaulty R → quorum_size R.f ≤ length (held_falling R x t)
  held_enough few = omega (arith, held_long, correct_quorum R.f R.correct_replica few (bounds 1 5 R.f R.f_in_range).1)

  pub few_above_bar : count (replica_count R.f) (λ id. R.correct_replica id && ltb (bar R x t) (held R x id t)) ≤ R.f
  few_above_bar = omega (arith, few_above (held_falling R x t) R.f held_falls, held_counted (λ n. ltb (bar R x t) n))
