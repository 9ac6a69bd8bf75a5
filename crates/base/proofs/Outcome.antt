-- What a guard does, and what passed it. Assumes nothing.
use mathlib.Core.Path.{◌≡◌, refl}
use mathlib.Core.Bool.{Bool, true, false}
use Prim.Native.Nat.{ℕ}
use Rattle.base.specs.Outcome.{Outcome, accepted, refused, guard, ◌>>=◌}
use Rattle.base.proofs.Apart.{apart}

module _ {A : Type 0} (number : ℕ) (test : Bool) (next : Outcome A) where
  pub guard_passes : test ≡ true → guard number test next ≡ next
  unfolding guard
  guard_passes e = rw e

  pub guard_refuses : test ≡ false → guard number test next ≡ refused number
  unfolding guard
  guard_refuses e = rw e

  -- What is accepted has passed the test.
  pub guard_accepted : (a : A) → guard number test next ≡ accepted a → (test ≡ true) × (next ≡ accepted a)
  guard_accepted a e = go test refl
    where
      go : (b : Bool) → test ≡ b → (test ≡ true) × (next ≡ accepted a)
      go true h = (h, let p = guard_passes h in cc)
      go false h = let p = guard_refuses h in apart (cc)

-- What follows a guard stands behind its test.
pub guard_then : {A B : Type 0} (number : ℕ) (test : Bool) (first : Outcome A) (next : A → Outcome B) → (guard number test first >>= next) ≡ guard number test (first >>= next)
unfolding guard
guard_then number true first next = refl
guard_then number false first next = refl

-- A test that refuses an outcome refuses another there, if what follows the test is refused alike.
pub guard_alike : {A B : Type 0} (n k : ℕ) (test : Bool) (x : Outcome A) (y : Outcome B) → (x ≡ refused n → y ≡ refused n) → guard k test x ≡ refused n → guard k test y ≡ refused n
unfolding guard
guard_alike n k true x y alike e = alike e
guard_alike n k false x y alike e = cc
