-- What a message that tests 2 to 11 let through asks of a replica, by the parts that the code takes out of it. Assumes nothing.
use mathlib.Core.Path.{◌≡◌, refl, sym, ap, subst, ◌∙◌}
use mathlib.Core.List.{List}
use mathlib.Core.Logic.{⊎_elim}
use Prim.Native.Nat.{ℕ, ◌≤◌, ◌<◌}
use lib.ListN.{length}
use Rattle.std.specs.declared.result.Result.TheVariants.{Err}
use Rattle.base.specs.Outcome.{Outcome, accepted, refused}
use Rattle.base.specs.Refusal.{outcome}
use Rattle.base.specs.Timestamp.{number}
use Rattle.base.specs.declared.party.RegisterId.{RegisterId}
use Rattle.base.specs.declared.refusal.Refusal.TheVariants.{OutputTooShort}
use Rattle.base.specs.declared.replica_set.ReplicaSet.{ReplicaSet}
use Rattle.base.specs.declared.timestamp.Timestamp.{Timestamp}
use Rattle.base.proofs.Range.{bounds}
use Rattle.base.proofs.Timestamps.{number_of_number}
use Rattle.wire.specs.Acceptance.{acceptance}
use Rattle.wire.specs.Decode.{register_in}
use Rattle.wire.specs.Message.{Message, longest}
use Rattle.wire.specs.Parts.{part_at, card_at, proof_part, prepared_part, timestamp_if_there, prepared_timestamp, timestamp_part}
use Rattle.wire.specs.Proof.{prepared_from}
use Rattle.wire.specs.declared.message.Fields.{Fields}
use Rattle.wire.specs.declared.message.Kind.TheVariants.{ReadStamp, Prepare, Write, Read}
use Rattle.wire.specs.declared.message.Party.TheVariants.{Replica as AtReplica}
use Rattle.wire.proofs.AdmittedMessage.{acceptance_refused}
use Rattle.wire.proofs.MessageParts.{Handed, handed_read_stamp, handed_prepare, handed_write, handed_read, request_kind, register_is, proof_whole, shown, last_shown}
use Rattle.protocol.specs.RegisterReplica.{Reply, on_read_stamp, on_prepare, on_write, on_read, on_request, register_step, RegisterCall, sent_length, register_answers, with_output, register_call}
use Rattle.protocol.specs.declared.replica.RegisterReplica.{RegisterReplica}
use Rattle.protocol.proofs.Calls.{long_output, register_short}
use Rattle.register_replica.specs.Leaving.{keeping, Leaves, Answers}
use Rattle.register_replica.specs.Stepping.{Changes, Steps}
use Rattle.register_replica.specs.declared.Stepped.{Stepped}

module _ (replica : RegisterReplica) (bytes verdicts : List ℕ) where
  pub step_refused : (n : ℕ) → acceptance AtReplica replica.f replica.withdrawn bytes verdicts ≡ refused n → register_step replica bytes verdicts ≡ refused n
  unfolding register_step
  step_refused n e = rw (acceptance_refused AtReplica replica.f replica.withdrawn bytes verdicts n e)

  -- The step is what follows for the message that was let through.
  follows : (m : Message) → Handed AtReplica replica.f replica.withdrawn bytes verdicts m → register_step replica bytes verdicts ≡ on_request replica m
  unfolding register_step
  follows m h = rw h.admits

  module _ (fields : Fields) {signers : ReplicaSet} (e : acceptance AtReplica replica.f replica.withdrawn bytes verdicts ≡ accepted (fields, signers)) where
    pub step_read_stamp : fields.kind ≡ ReadStamp → register_step replica bytes verdicts ≡ on_read_stamp replica (record { 0 = fields.sender }) fields.nonce
    unfolding on_request
    step_read_stamp k = follows _ (handed_read_stamp replica.f replica.withdrawn bytes verdicts fields e k)

    pub step_read : fields.kind ≡ Read → register_step replica bytes verdicts ≡ on_read replica (record { 0 = fields.sender }) fields.nonce
    unfolding on_request
    step_read k = follows _ (handed_read replica.f replica.withdrawn bytes verdicts fields e k)

    pub last_kind : (fields.kind ≡ ReadStamp → ⊥) → (fields.kind ≡ Prepare → ⊥) → (fields.kind ≡ Write → ⊥) → fields.kind ≡ Read
    last_kind no_stamp no_prepare no_write =
        ⊎_elim (λ k. absurd (no_stamp k)) (⊎_elim (λ k. absurd (no_prepare k)) (⊎_elim (λ k. absurd (no_write k)) (λ k. k))) (request_kind replica.f replica.withdrawn bytes verdicts fields e)

    pub step_write : fields.kind ≡ Write → register_step replica bytes verdicts ≡ on_write replica (card_at bytes fields.card) (prepared_from (part_at bytes fields.prepared))
    unfolding on_request
    step_write k = follows _ (handed_write replica.f replica.withdrawn bytes verdicts fields e k)

    -- PREPARE, with 0 for the timestamp of a missing proof.
    step_prepare : fields.kind ≡ Prepare
        → register_step replica bytes verdicts
        ≡ on_prepare replica (record { 0 = fields.sender }) (number fields.timestamp) (part_at bytes fields.digest) (number (timestamp_part (part_at bytes fields.prepared))) (number (timestamp_part (part_at bytes fields.written)))
    unfolding on_request
    step_prepare k =
        let h = handed_prepare replica.f replica.withdrawn bytes verdicts fields e k in
        let proof = part_at bytes fields.prepared in
        let first : number (timestamp_part proof) ≡ prepared_timestamp (prepared_part proof) = ap number (shown proof (proof_whole AtReplica replica.f replica.withdrawn bytes verdicts fields e)) ∙ number_of_number _ in
        let second : number (timestamp_part (part_at bytes fields.written)) ≡ timestamp_if_there (proof_part 0 (part_at bytes fields.written)) = ap number (last_shown AtReplica replica.f replica.withdrawn bytes verdicts fields e) ∙ number_of_number _ in
        rw (first, second) (follows _ h)

    -- The same by what the code takes out of the message.
    pub prepare_as : fields.kind ≡ Prepare → (digest : List ℕ) (first second : Timestamp) → digest ≡ part_at bytes fields.digest
        → first ≡ timestamp_part (part_at bytes fields.prepared) → second ≡ timestamp_part (part_at bytes fields.written)
        → register_step replica bytes verdicts ≡ on_prepare replica (record { 0 = fields.sender }) (number fields.timestamp) digest (number first) (number second)
    prepare_as k digest first second d s l = rw (d, s, l) (step_prepare k)

    pub prepare_sender : fields.kind ≡ Prepare → (1 ≤ fields.sender) × (fields.sender ≤ 64)
    prepare_sender k = bounds 1 64 fields.sender (handed_prepare replica.f replica.withdrawn bytes verdicts fields e k).may_send_lem

-- A call whose step is this outcome, whichever verdicts let its message through; the reply is for the register among the fields.
pub answers : (replica : RegisterReplica) (bytes : List ℕ) (fields : Fields) (old : List ℕ) (stepped : Stepped) (new : List ℕ) (reply : Outcome Reply)
    → ((verdicts : List ℕ) (signers : ReplicaSet) → acceptance AtReplica replica.f replica.withdrawn bytes verdicts ≡ accepted (fields, signers) → register_step replica bytes verdicts ≡ reply)
    → Leaves replica (register_answers fields.register replica old reply) stepped new → Answers replica bytes fields old stepped new
answers replica bytes fields old stepped new reply same l =
    record {
      leaves = λ verdicts signers e.
          subst (λ (o : Outcome Reply). Leaves replica (register_answers (register_in bytes) replica old o) stepped new) (sym (same verdicts signers e))
          (subst (λ (register : RegisterId). Leaves replica (register_answers register replica old reply) stepped new) (register_is AtReplica replica.f replica.withdrawn bytes verdicts fields e) l);
    }

module _ (replica : RegisterReplica) (bytes verdicts old : List ℕ) (stepped : Stepped) where
  answered : (reply : Outcome Reply) → (register_answers (register_in bytes) replica old reply).answer ≡ sent_length (register_in bytes) reply
  answered (accepted reply) = refl
  answered (refused number) = refl

  steps : (new : List ℕ) → Leaves replica (register_call replica bytes verdicts old) stepped new → Steps replica bytes verdicts old (outcome stepped.answer) stepped.replica new × Changes replica stepped
  unfolding register_call
  steps new l = (
    record {
      answer = l.answer;
      outcome = l.answer ∙ answered (with_output old (register_step replica bytes verdicts));
      next = l.next;
      output = l.output;
    },
    l.changes,
  )

  pub steps_long : (new : List ℕ) → longest ≤ length old → Leaves replica (register_answers (register_in bytes) replica old (register_step replica bytes verdicts)) stepped new → Steps replica bytes verdicts old (outcome stepped.answer) stepped.replica new × Changes replica stepped
  unfolding register_call
  steps_long new h l =
      let same : with_output old (register_step replica bytes verdicts) ≡ register_step replica bytes verdicts = long_output old (register_step replica bytes verdicts) h in
      steps new (subst (λ (o : Outcome Reply). Leaves replica (register_answers (register_in bytes) replica old o) stepped new) (sym same) l)

  pub steps_short : length old < longest → stepped ≡ keeping (Err OutputTooShort) replica → Steps replica bytes verdicts old (outcome stepped.answer) stepped.replica old × Changes replica stepped
  steps_short h r = steps old (subst (λ (c : RegisterCall). Leaves replica c stepped old) (sym (register_short replica bytes verdicts old h)) (rw r (record { answer = refl; next = refl; output = refl; changes = record { only = refl } })))
