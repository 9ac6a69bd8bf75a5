-- `play::calls::client_does` meets its contract.
use mathlib.Core.Path.{sym, ap, ap₂, ◌∙◌}
use mathlib.Core.List.{List}
use Prim.Native.Nat.{ℕ}
use Rattle.play.proofs.Leaving.{client_leaves, client_behind, same_call, out_free, put_behind}
use Rattle.play.specs.Calls.{the_register, client_does}
use Rattle.text.specs.Hex.{hex_pairs}
use Rattle.protocol.specs.Client.{begin_write_call, begin_read_call}
use Rattle.play.specs.declared.calls.Call.{Call}
use Rattle.play.proofs.calls.client_does.Goals as goal

pub returns-in-Write : goal.returns-in-Write
unfolding client_does
returns-in-Write c =
    let a = c.args in
    let at = rw c.from.ensures at c.start-at.ensures.0 in
    let out = out_free a.log.now a.store.now c.start-at.result at in
    let call = ap₂ (λ (digits old : List ℕ). begin_write_call a.client the_register (hex_pairs 17 digits) old) c.behind.ensures out in
    client_behind _ _ _ _ _ _ (call ∙ ap (λ (k : Call). client_does a.client a.log.now a.store.now a.line.now k) (sym c.in-Write.is)) (put_behind a.log.now a.store.now c.start-at.result at _) c.begin_write.ensures

pub returns-in-Read : goal.returns-in-Read
unfolding client_does
returns-in-Read c =
    let a = c.args in
    let at = rw c.from.ensures at c.start-at.ensures.0 in
    let out = out_free a.log.now a.store.now c.start-at.result at in
    client_behind _ _ _ _ _ _ (ap (begin_read_call a.client _) out ∙ ap (λ (k : Call). client_does a.client a.log.now a.store.now a.line.now k) (sym c.in-Read.is)) (put_behind a.log.now a.store.now c.start-at.result at _) (client_leaves _ _ _ _ c.begin_read.ensures)

pub returns-in-Deliver : goal.returns-in-Deliver
unfolding client_does
returns-in-Deliver c =
    let a = c.args in
    same_call _ _ _ _ _ (ap (λ (k : Call). client_does a.client a.log.now a.store.now a.line.now k) (sym c.in-Deliver.is)) c.deliver.ensures
