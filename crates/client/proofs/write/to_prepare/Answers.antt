-- `client::write::to_prepare` meets its contract.
use mathlib.Core.Path.{sym, ap, ◌∙◌}
use Rattle.base.specs.ReplicaSet.{empty}
use Rattle.wire.specs.Proof.{PreparedProof}
use Rattle.protocol.specs.Client.{with_phase, with_digest}
use Rattle.protocol.specs.declared.client.Phase.TheVariants.{Prepareds}
use Rattle.client.proofs.Answering.{sends}
use Rattle.client.proofs.write.to_prepare.Goals as goal

pub returns-in_default : goal.returns-in_default
returns-in_default c = λ before. rw (sym c.successor.ensures ∙ c.in_default.is, c.plain.ensures)

pub returns : goal.returns
returns c =
    let a = c.args in
    let to = with_phase (Prepareds c.in-Some.next empty) (with_digest c.card_digest-digest.result a.client) in
    let sent = rw (c.empty.ensures, c.empty-2.ensures) at c.sent.ensures in
    let best = c.best_proof.ensures in
    let message =
    rw (c.written_for-last.ensures, best.0, ap (λ (proof : PreparedProof). proof.digest) best.1, ap (λ (proof : PreparedProof). proof.entries) best.1)
    at c.write_prepare-written.ensures in
    λ before. rw (sym c.successor.ensures ∙ c.in-Some.is, ← c.card_digest-digest.ensures, sent)
    (sends a.out.now c.write_prepare-written.new.out _ c.requires to c.write_prepare-written.result message before)
