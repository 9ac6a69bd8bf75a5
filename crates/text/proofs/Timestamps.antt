-- A timestamp's text in a buffer is what it is printed as. Assumes nothing.
use mathlib.Core.Path.{◌≡◌, refl, ap, ◌∙◌}
use mathlib.Core.List.{List, [], ◌∷◌, ◌++◌}
use Prim.Native.Nat.{ℕ, ◌+◌, ◌/◌, ◌%◌, ◌^◌, ◌≤◌, ◌<◌}
use native.Mathlib.Omega.{arith}
use Rattle.std.specs.Fmt.{decimal as printed}
use Rattle.std.proofs.lemmas.Fmt.{decimal_by_steps}
use Rattle.base.specs.Timestamp.{shown}
use Rattle.base.specs.declared.timestamp.Timestamp.{Timestamp}
use Rattle.text.specs.Decimal.{decimal}
use Rattle.text.specs.Timestamp.{stamp}
use Rattle.text.proofs.Decimals.{one_digit, last_digit}

pub decimal_printed : (n : ℕ) → n < 2 ^ 64 → decimal n ≡ printed n
decimal_printed n small =
    decimal_by_steps (λ (m : ℕ) (digits : List ℕ). m < 2 ^ 64 → decimal m ≡ digits) (λ m few fits. one_digit m few)
    (λ m digits large before fits. last_digit m large (omega arith) ∙ ap (λ (front : List ℕ). front ++ ((48 + m % 10) ∷ [])) (before (omega arith)))
    n small small

pub stamp_shown : (t : Timestamp) → t.count < 2 ^ 32 → t.client.0 < 256 → stamp t ≡ shown t
unfolding stamp
stamp_shown t count client = rw (decimal_printed t.count (omega arith), decimal_printed t.client.0 (omega arith)) refl
