-- `play::turn::client_turn` meets its contract.
use mathlib.Core.Path.{◌≡◌, refl}
use native.Mathlib.Omega.{arith}
use lib.ListN.{length}
use Rattle.protocol.specs.Client.{answer_outcome}
use Rattle.play.proofs.Turning.{default_free, client_plays}
use Rattle.play.proofs.turn.client_turn.Goals as goal

pub returns : goal.returns
returns c =
    let a = c.args in
    let four : length a.world.clients ≡ 4 = omega arith in
    let first = default_free a.world.clients c.seat-i.result _ _ (omega (arith, c.seat-i.ensures.1)) in
    client_plays a.world a.store.now (answer_outcome c.client_does-stepped.result.answer) c.logged-log.result c.said-what.result _ c.logged-log.ensures c.said-what.ensures
    a.id a.call a.line.now c.seat-i.result _ c.client_does-stepped.result c.seat-i.ensures.0 first refl c.client_does-stepped.ensures
