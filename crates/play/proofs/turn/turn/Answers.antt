-- `play::turn::turn` meets its contract.
use Rattle.std.proofs.Common.{Some}
use mathlib.Core.Path.{refl, ap, ◌∙◌}
use Rattle.play.specs.Player.{does}
use Rattle.play.proofs.Turning.{turn_plays, nobody_plays}
use Rattle.play.proofs.turn.turn.Goals as goal

pub returns-in-Some-Client : goal.returns-in-Some-Client
unfolding does
returns-in-Some-Client c =
    let a = c.args in
    turn_plays a.world a.store.now a.line.now c.addressed.result _ c.addressed.ensures c.client_turn.result _ (c.in-Some-Client.is ∙ ap Some c.in-Some-Client.field-0-is) c.client_turn.ensures

pub returns-in-Some-Replica : goal.returns-in-Some-Replica
unfolding does
returns-in-Some-Replica c =
    let a = c.args in
    turn_plays a.world a.store.now a.line.now c.addressed.result _ c.addressed.ensures c.replica_turn.result _ (c.in-Some-Replica.is ∙ ap Some c.in-Some-Replica.field-0-is) c.replica_turn.ensures

pub returns-in-None : goal.returns-in-None
returns-in-None c =
    let a = c.args in
    turn_plays a.world a.store.now a.line.now c.addressed.result _ c.addressed.ensures
    _ _ c.in-None.is (nobody_plays a.world a.store.now a.line.now c.addressed.result _ c.addressed.ensures c.without_card.result c.without_card.ensures refl)
