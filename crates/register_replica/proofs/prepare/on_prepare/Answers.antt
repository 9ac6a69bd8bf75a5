-- `register_replica::prepare::on_prepare` meets its contract.
use mathlib.Core.Path.{ap, ◌∙◌}
use Rattle.base.specs.Bytes.{filled}
use Rattle.base.proofs.Filling.{filled_whole}
use Rattle.wire.specs.Parts.{timestamp_part}
use Rattle.wire.proofs.MessageParts.{prepare_digest}
use Rattle.register_replica.proofs.Asked.{prepare_sender, prepare_as, answers}
use Rattle.register_replica.proofs.prepare.on_prepare.Goals as goal

pub invariant_of-client : goal.invariant_of-client
invariant_of-client c =
    let p = c.requires.0.1 in
    record { writes = prepare_sender c.args.replica c.args.message.now p.verdicts c.args.fields p.passes c.requires.1 }

pub returns : goal.returns
returns c =
    let x = c.args in
    let p = c.requires.0.1 in
    answers x.replica x.message.now x.fields x.out.now _ _ _
    (λ verdicts signers e.
    prepare_as x.replica x.message.now verdicts x.fields e c.requires.1 _ _ _
    (c.array-digest.ensures ∙ ap (filled 32) c.part.ensures ∙ filled_whole 32 _ (prepare_digest x.replica.f x.replica.withdrawn x.message.now p.verdicts x.fields p.passes c.requires.1))
    (c.timestamp-shown.ensures ∙ ap timestamp_part c.part-2.ensures)
    (c.timestamp-last.ensures ∙ ap timestamp_part c.part-3.ensures))
    c.prepare.ensures
