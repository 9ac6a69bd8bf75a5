-- `register_replica::write::on_write` meets its contract.
use mathlib.Core.Path.{sym, ap₂, ◌∙◌}
use mathlib.Core.List.{List}
use Prim.Native.Nat.{ℕ}
use Rattle.wire.specs.Proof.{prepared_from}
use Rattle.wire.proofs.MessageParts.{write_proof, write_signers}
use Rattle.protocol.specs.RegisterReplica.{on_write}
use Rattle.register_replica.proofs.Asked.{step_write, answers}
use Rattle.register_replica.proofs.write.on_write.Goals as goal

pub write-requires : goal.write-requires
write-requires c =
    let x = c.args in
    let p = c.requires.0 in
    rw c.part.ensures
    (write_proof x.replica.f x.replica.withdrawn x.message.now p.verdicts x.fields p.passes c.requires.1, write_signers x.replica.f x.replica.withdrawn x.message.now p.verdicts x.fields p.passes c.requires.1, c.requires.2)

pub returns : goal.returns
returns c =
    let x = c.args in
    answers x.replica x.message.now x.fields x.out.now _ _ (on_write x.replica c.card.result.now (prepared_from c.part.result.now))
    (λ verdicts signers e. step_write x.replica x.message.now verdicts x.fields e c.requires.1 ∙ ap₂ (λ (c p : List ℕ). on_write x.replica c (prepared_from p)) (sym c.card.ensures) (sym c.part.ensures))
    c.write.ensures
