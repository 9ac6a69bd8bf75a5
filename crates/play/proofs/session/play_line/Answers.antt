-- `play::session::play_line` meets its contract.
use mathlib.Core.Path.{ap₂}
use mathlib.Core.List.{List}
use Prim.Native.Nat.{ℕ}
use Rattle.text.proofs.Putting.{same_bytes}
use Rattle.base.specs.Outcome.{Outcome}
use Rattle.play.specs.Output.{line}
use Rattle.play.specs.declared.output.Said.{Said}
use Rattle.play.proofs.session.play_line.Goals as goal

pub returns : goal.returns
returns c =
    let a = c.args in
    let e = c.turn-turned.ensures in
    record {
      world_is = e.world_is;
      store_is = e.store_is;
      puts = same_bytes (ap₂ (λ (w : Outcome Said) (card : List ℕ). line a.number w card) e.says.what_is e.says.card_is) c.put_line-end.ensures;
    }
