-- What a view of a register shows, beside `view_after`: the order of operations leaves views out, but they show no card of their own.
use Rattle.std.specs.Prelude.{◌≡◌}
use Rattle.base.specs.Timestamp.{number}
use Rattle.base.specs.declared.party.RegisterId.{RegisterId}
use Rattle.protocol.specs.Parts.{start_card}
use Rattle.run.specs.Claims.{Finished, Viewed}
use Rattle.run.specs.Run.{Run}

pub record Views (R : Run) (x : RegisterId) : Type 0 where
  -- A view at an operation's timestamp shows that operation's card.
  pub same_card : (o : Finished R x) (v : Viewed R x) → number o.timestamp ≡ number v.timestamp → o.card ≡ v.card
  -- A view at 0.0 shows the starting card.
  pub start_card_lem : (v : Viewed R x) → number v.timestamp ≡ 0 → v.card ≡ start_card
