-- `play::session::play` meets its contract.
use mathlib.Core.Path.{ap₂}
use mathlib.Core.List.{List}
use Prim.Native.Nat.{ℕ}
use lib.ListN.{take}
use Rattle.text.specs.Line.{lines}
use Rattle.text.proofs.Putting.{then, same_bytes}
use Rattle.play.specs.Output.{header}
use Rattle.play.specs.Session.{printed_lines, printed}
use Rattle.play.specs.declared.world.World.{World}
use Rattle.play.proofs.session.play.Goals as goal

pub returns : goal.returns
unfolding printed header
returns c =
    let a = c.args in
    let texts = take 100 (lines a.script.now) in
    then c.put-end.ensures (same_bytes (ap₂ (λ (world : World) (store : List ℕ). printed_lines world store 1 texts) c.fresh.ensures c.store-sent.ensures) c.play_lines.ensures)
