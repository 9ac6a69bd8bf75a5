-- `play::calls::deliver` meets its contract.
use mathlib.Core.Path.{refl, ap₂}
use mathlib.Core.List.{List}
use Prim.Native.Nat.{ℕ}
use Rattle.play.proofs.Leaving.{message_copied, out_free, put_behind, client_behind}
use Rattle.play.specs.Calls.{verdicts, client_does}
use Rattle.wire.specs.declared.message.Party.TheVariants.{Client as Here}
use Rattle.protocol.specs.Client.{client_call}
use Rattle.play.proofs.calls.deliver.Goals as goal

pub returns : goal.returns
unfolding client_does
returns c =
    let a = c.args in
    let text = message_copied a.log.now a.store.now a.m _ c.copy_message-n.result _ _ refl c.copy_message-n.ensures c.front.ensures in
    let at = rw c.from.ensures at c.start-at.ensures.0 in
    let out = out_free a.log.now a.store.now c.start-at.result at in
    client_behind _ _ _ _ _ _ (ap₂ (λ (bytes old : List ℕ). client_call a.client bytes (verdicts Here bytes) old) text out) (put_behind a.log.now a.store.now c.start-at.result at _) c.hand_client.ensures
