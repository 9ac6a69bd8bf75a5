-- `play::turn::replica_turn` meets its contract.
use mathlib.Core.Path.{◌≡◌}
use native.Mathlib.Omega.{arith}
use lib.ListN.{length}
use Rattle.protocol.specs.Client.{answer_outcome}
use Rattle.play.proofs.Turning.{default_free, replica_plays}
use Rattle.play.proofs.turn.replica_turn.Goals as goal

pub returns : goal.returns
returns c =
    let a = c.args in
    let four : length a.world.replicas ≡ 4 = omega arith in
    let first = default_free a.world.replicas c.seat-i.result _ _ (omega (arith, c.seat-i.ensures.1)) in
    replica_plays a.world a.store.now (answer_outcome c.reply-answer.result) c.logged-log.result c.said-what.result _ c.logged-log.ensures c.said-what.ensures
    a.id a.m c.seat-i.result _ c.replica_does-stepped.result c.without_card.result c.seat-i.ensures.0 first c.reply-answer.ensures c.replica_does-stepped.ensures c.without_card.ensures
