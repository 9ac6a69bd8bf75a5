-- Whether test 5 passes: the party takes the kind, and the bits are the kind's.
use Rattle.std.specs.Prelude.{ℕ, Bool, false, cond, List, [], ◌∷◌, ◌==◌}
use Rattle.wire.specs.Decode.{Row, suits}
use Rattle.wire.specs.declared.message.Party.{Party}

unfoldable pub suiting : Party → ℕ → ℕ → List Row → Bool
suiting party map number [] = false
suiting party map number (row ∷ rows) = cond (number == row.number) (suits party map row) (suiting party map number rows)
