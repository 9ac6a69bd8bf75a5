-- `play::output::put_signers` meets its contract.
use mathlib.Core.Path.{ap}
use mathlib.Core.List.{List, [], ◌∷◌, ◌++◌}
use Prim.Native.Nat.{ℕ}
use Rattle.text.specs.Hex.{hex}
use Rattle.text.proofs.Putting.{then, same_bytes}
use Rattle.play.specs.Output.{behind_card}
use Rattle.play.proofs.output.put_signers.Goals as goal

pub returns : goal.returns
unfolding behind_card
returns c =
    same_bytes (ap (λ (bytes : List ℕ). (32 ∷ []) ++ hex bytes) c.to_bytes.ensures) (then c.put-space.ensures c.put_hex.ensures)
