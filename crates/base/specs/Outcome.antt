-- What a call makes of its input: a value, or document 01's refusal by its number ("turned down").
use Rattle.std.specs.Prelude.{Bool, true, false, ℕ}

pub data Outcome (A : Type 0) : Type 0 where
  accepted : A → Outcome A
  refused : ℕ → Outcome A

-- A test with its refusal's number: where it holds the next tests decide, else the call is refused with that number.
unfoldable pub guard : {A : Type 0} → ℕ → Bool → Outcome A → Outcome A
guard number true next = next
guard number false next = refused number

infixl 20 ◌>>=◌
-- One call after another: a refusal of the first is the refusal of both. `do` blocks are written with it.
abbrev pub ◌>>=◌ : {A B : Type 0} → Outcome A → (A → Outcome B) → Outcome B
accepted a >>= next = next a
refused number >>= next = refused number
