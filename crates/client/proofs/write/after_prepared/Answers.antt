-- `client::write::after_prepared` meets its contract.
use mathlib.Core.Path.{◌≡◌, sym, ◌∙◌}
use native.Mathlib.Omega.{arith}
use lib.ListN.{length}
use Rattle.base.specs.ReplicaSet.{empty}
use Rattle.base.specs.Timestamp.{number}
use Rattle.wire.specs.Message.{WRITE}
use Rattle.wire.specs.Proof.{PreparedProof, signer_set}
use Rattle.protocol.specs.Client.{with_phase, with_signatures, with_signers, built, current_card, after_prepared}
use Rattle.protocol.specs.declared.client.Client.{Client}
use Rattle.protocol.specs.declared.client.Phase.TheVariants.{Writtens}
use Rattle.client.proofs.Records.{kept_built}
use Rattle.base.proofs.Filling.{zeros}
use Rattle.client.proofs.Answering.{sends}
use Rattle.client.proofs.write.after_prepared.Goals as goal

pub returns-then-not-is_quorum : goal.returns-then-not-is_quorum
unfolding after_prepared
returns-then-not-is_quorum c = λ before. rw (sym c.is_quorum.ensures ∙ c.if-not-is_quorum.true, c.waits.ensures)

pub returns : goal.returns
unfolding after_prepared
returns c =
    let a = c.args in
    let long : length a.client.signatures ≡ 1_024 = omega arith in
    let made = kept_built a.client a.counted long c.built-proof.result c.built-proof.ensures in
    let proof : PreparedProof = record { timestamp = number a.timestamp; digest = a.client.digest; entries = built a.client a.counted a.client.signatures } in
    let to : Client = with_phase (Writtens a.timestamp empty) (with_signers (signer_set proof.entries) (with_signatures (zeros 1_024) a.client)) in
    let sent = rw (c.built-proof.ensures.who, c.empty.ensures) at c.sent.ensures in
    λ before. rw (sym c.is_quorum.ensures ∙ c.if-not-is_quorum.false, sent)
    (sends a.out.now c.write_write-written.new.out (WRITE a.client.id (current_card a.client) proof) c.requires to c.write_write-written.result (rw (made, c.kept_card.ensures) at c.write_write-written.ensures) before)
