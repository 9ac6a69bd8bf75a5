-- What holds of the value that an outcome accepts, if it accepts one. Assumes nothing.
use mathlib.Core.Path.{◌≡◌, refl, subst}
use mathlib.Core.Bool.{Bool, true, false, cond}
use Prim.Native.Nat.{ℕ}
use Rattle.base.specs.Outcome.{Outcome, accepted, refused, guard, ◌>>=◌}
use Rattle.base.proofs.Apart.{apart}
use Rattle.base.proofs.Outcome.{guard_accepted}

-- A property of both arms, by what the test says.
pub by_test : {A : Type 0} (P : A → Type 0) {test : Bool} {yes_then no_then : A} → (test ≡ true → P yes_then) → (test ≡ false → P no_then) → P (cond test yes_then no_then)
by_test P {test} {yes_then} {no_then} h k = go test refl
  where
    go : (b : Bool) → test ≡ b → P (cond b yes_then no_then)
    go true e = h e
    go false e = k e

pub record Accepts {A : Type 0} (P : A → Type 0) (outcome : Outcome A) : Type 0 where
  pub holds : (a : A) → outcome ≡ accepted a → P a

module _ {A : Type 0} {P : A → Type 0} where
  pub by_value : {a : A} → P a → Accepts P (accepted a)
  by_value {a} h = record { holds = λ other e. let same : a ≡ other = cc in subst P same h }

  pub by_refusal : {number : ℕ} → Accepts P (refused number)
  by_refusal = record { holds = λ a e. apart (cc) }

  pub by_guard : (number : ℕ) {test : Bool} {next : Outcome A} → (test ≡ true → Accepts P next) → Accepts P (guard number test next)
  by_guard number {test} {next} h = record { holds = λ a e. let passed = guard_accepted number test next a e in (h passed.0).holds a passed.1 }

  -- The test is named, so that a proof speaks of the definition's own.
  pub by_cases : (test : Bool) {yes_then no_then : Outcome A} → (test ≡ true → Accepts P yes_then) → (test ≡ false → Accepts P no_then) → Accepts P (cond test yes_then no_then)
  by_cases test h k = by_test (Accepts P) h k

  -- One call after another: what holds of the first one's value hands on what holds of the second's.
  pub by_next : {B : Type 0} {Q : B → Type 0} {outcome : Outcome B} {next : B → Outcome A} → Accepts Q outcome → ((b : B) → Q b → Accepts P (next b)) → Accepts P (outcome >>= next)
  by_next {B} {Q} {outcome} {next} h k = go outcome h.holds
    where
      go : (o : Outcome B) → ((b : B) → o ≡ accepted b → Q b) → Accepts P (o >>= next)
      go (accepted b) q = k b (q b refl)
      go (refused number) q = by_refusal
