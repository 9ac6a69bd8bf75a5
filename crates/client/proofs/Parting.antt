-- What a client makes of a message that passed 2 to 11, by the parts that the code takes out of it. Assumes nothing.
use mathlib.Core.Path.{◌≡◌, refl, sym, ap, ap₂, ◌∙◌}
use mathlib.Core.Bool.{Bool, true, false, cond}
use mathlib.Core.List.{List}
use mathlib.Core.Logic.{⊎_elim, ∥∥₁_elim}
use mathlib.Core.Option.{Option}
use Prim.Native.Nat.{ℕ, ◌≤◌}
use native.Mathlib.Omega.{arith}
use lib.Dec.{eqb}
use lib.ListN.{length}
use Rattle.std.specs.Coded.{Coded, Coded-set, codes}
use Rattle.std.proofs.Props.{props}
use Rattle.base.specs.ClientSet.{nobody}
use Rattle.base.specs.Counting.{replica}
use Rattle.base.specs.Outcome.{Outcome, accepted, refused, guard}
use Rattle.base.specs.Party.{replica_count, is_replica}
use Rattle.base.specs.Timestamp.{number}
use Rattle.base.proofs.Range.{bounds}
use Rattle.base.specs.declared.party.ClientId.{ClientId}
use Rattle.base.specs.declared.party.RegisterId.{RegisterId}
use Rattle.base.specs.declared.party.ReplicaId.{ReplicaId}
use Rattle.base.specs.declared.replica_set.ReplicaSet.{ReplicaSet}
use Rattle.wire.specs.Acceptance.{admitted, acceptance}
use Rattle.wire.specs.Decode.{message_in, register_in, for_register}
use Rattle.wire.specs.Layout.{signature}
use Rattle.wire.specs.Message.{Message, STAMP, PREPARED, WRITTEN, CARD}
use Rattle.wire.specs.Parts.{part_at, card_at, prepared_part, prepared_signers, WholeIfThere}
use Rattle.wire.specs.Proof.{PreparedProof}
use Rattle.wire.specs.declared.message.Fields.{Fields}
use Rattle.wire.specs.declared.message.Kind.{Kind}
use Rattle.wire.specs.declared.message.Kind.TheVariants.{Stamp, Prepared, Written, Card}
use Rattle.wire.specs.declared.message.Party.TheVariants.{Client as AtClient}
use Rattle.wire.proofs.AdmittedMessage.{admitted_passed, acceptance_accepted, acceptance_refused}
use Rattle.wire.proofs.MessageParts.{handed_stamp, handed_prepared, handed_written, handed_card, reply_kind, register_is, signers_are, proof_whole, signature_is, signature_length}
use Rattle.wire.proofs.ReadingByKind.{decode_splits}
use Rattle.protocol.specs.Client.{Turn, with_phase, on_stamp, on_prepared, on_written, on_card, on_reply, towards, client_step}
use Rattle.protocol.specs.Parts.{card_stands}
use Rattle.protocol.specs.Viewer.{on_viewer_reply, viewer_step}
use Rattle.protocol.specs.declared.client.Client.{Client}
use Rattle.protocol.specs.declared.client.Phase.{Phase}
use Rattle.protocol.specs.declared.client.Phase.TheVariants.{Idle}
use Rattle.client.specs.Roles.{after_cards, role_step}
use Rattle.client.specs.declared.role.Role.{Role}
use Rattle.client.specs.declared.role.Role.TheVariants.{Ordinary, Viewing}
use Rattle.client.specs.Messages.{after_tests, Passing, whole_prop}

message_coded : Coded (Outcome Message)
message_coded = hlevel codes

turn_coded : Coded (Outcome Turn)
turn_coded = hlevel codes

kind_coded : Coded Kind
kind_coded = hlevel codes

module _ {bytes : List ℕ} {fields : Fields} {signers : ReplicaSet} (passed : ∥ Passing bytes fields signers ∥₁) where
  -- What the tests let through, by its kind.
  decodes : (message : Message) → ((p : Passing bytes fields signers) → message_in AtClient bytes ≡ accepted message) → message_in AtClient bytes ≡ accepted message
  decodes message f = ∥∥₁_elim passed (Coded-set message_coded (message_in AtClient bytes) (accepted message)) f

  is_stamp : fields.kind ≡ Stamp → message_in AtClient bytes ≡ accepted (STAMP (replica fields.sender) fields.nonce (prepared_part (part_at bytes fields.prepared)) fields.addressed)
  is_stamp k = decodes _ (λ p. (handed_stamp p.f nobody bytes p.verdicts fields p.passes k).decodes)

  is_prepared : fields.kind ≡ Prepared → message_in AtClient bytes ≡ accepted (PREPARED (replica fields.sender) (number fields.timestamp) (part_at bytes fields.digest))
  is_prepared k = decodes _ (λ p. (handed_prepared p.f nobody bytes p.verdicts fields p.passes k).decodes)

  is_written : fields.kind ≡ Written → message_in AtClient bytes ≡ accepted (WRITTEN (replica fields.sender) (number fields.timestamp))
  is_written k = decodes _ (λ p. (handed_written p.f nobody bytes p.verdicts fields p.passes k).decodes)

  is_card_lem : fields.kind ≡ Card → message_in AtClient bytes ≡ accepted (CARD (replica fields.sender) fields.nonce (card_at bytes fields.card) (prepared_part (part_at bytes fields.prepared)) fields.addressed)
  is_card_lem k = decodes _ (λ p. (handed_card p.f nobody bytes p.verdicts fields p.passes k).decodes)

  register : register_in bytes ≡ fields.register
  register = ∥∥₁_elim passed (hlevel props) (λ p. sym (register_is AtClient p.f nobody bytes p.verdicts fields p.passes))

  own : signature bytes ≡ part_at bytes fields.signature
  own = ∥∥₁_elim passed (hlevel props) (λ p. sym (signature_is AtClient p.f nobody bytes p.verdicts fields p.passes))

  pub own_length : length (part_at bytes fields.signature) ≡ 64
  own_length = ∥∥₁_elim passed (hlevel props) (λ p. signature_length AtClient p.f nobody bytes p.verdicts fields p.passes)

  pub proof_there : WholeIfThere (part_at bytes fields.prepared)
  proof_there = ∥∥₁_elim passed (whole_prop (part_at bytes fields.prepared)) (λ p. proof_whole AtClient p.f nobody bytes p.verdicts fields p.passes)

  pub signed_by : signers ≡ prepared_signers (prepared_part (part_at bytes fields.prepared))
  signed_by = ∥∥₁_elim passed (hlevel props) (λ p. signers_are AtClient p.f nobody bytes p.verdicts fields p.passes)

  -- The sender is a replica's number.
  ranged : (f : ℕ) → is_replica f (replica fields.sender) ≡ true → (1 ≤ fields.sender) × (fields.sender ≤ 16)
  ranged f e = let range = bounds 1 (replica_count f) fields.sender e in (range.0, omega arith)

  pub prepared_sender : fields.kind ≡ Prepared → (1 ≤ fields.sender) × (fields.sender ≤ 16)
  prepared_sender k = ∥∥₁_elim passed (hlevel props) (λ p. ranged p.f (handed_prepared p.f nobody bytes p.verdicts fields p.passes k).ranged)

  pub written_sender : fields.kind ≡ Written → (1 ≤ fields.sender) × (fields.sender ≤ 16)
  written_sender k = ∥∥₁_elim passed (hlevel props) (λ p. ranged p.f (handed_written p.f nobody bytes p.verdicts fields p.passes k).ranged)

  -- A message for a client of no other kind is a CARD.
  pub last_kind : (fields.kind ≡ Stamp → ⊥) → (fields.kind ≡ Prepared → ⊥) → (fields.kind ≡ Written → ⊥) → fields.kind ≡ Card
  last_kind a b c =
      ∥∥₁_elim passed (Coded-set kind_coded fields.kind Card)
      (λ p. ⊎_elim (λ e. absurd (a e)) (⊎_elim (λ e. absurd (b e)) (⊎_elim (λ e. absurd (c e)) (λ e. e))) (reply_kind p.f nobody bytes p.verdicts fields p.passes))

-- The step is what follows for the message that was let through.
module _ (client : Client) (bytes verdicts : List ℕ) (fields : Fields) (signers : ReplicaSet) (e : acceptance AtClient client.f nobody bytes verdicts ≡ accepted (fields, signers)) where
  passed : (message : Message) × (admitted AtClient client.f nobody bytes verdicts ≡ accepted (for_register (register_in bytes) message)) × (message_in AtClient bytes ≡ accepted message)
  passed =
      let found = acceptance_accepted AtClient client.f nobody bytes verdicts fields signers e in
      let decodes = (admitted_passed AtClient client.f nobody bytes verdicts (register_in bytes) found.0 found.1).decodes in
      (found.0, found.1, (decode_splits AtClient bytes (register_in bytes) found.0 decodes).1)

  pub passed_step : (role : Role) → role_step role client bytes verdicts ≡ after_tests role client bytes
  unfolding after_tests client_step viewer_step
  passed_step Ordinary = rw (passed.2, passed.1)
  passed_step Viewing = rw (passed.2, passed.1)

pub step_refused : (role : Role) (client : Client) (bytes verdicts : List ℕ) (n : ℕ) → acceptance AtClient client.f nobody bytes verdicts ≡ refused n → role_step role client bytes verdicts ≡ refused n
unfolding client_step viewer_step
step_refused Ordinary client bytes verdicts n e = rw (acceptance_refused AtClient client.f nobody bytes verdicts n e)
step_refused Viewing client bytes verdicts n e = rw (acceptance_refused AtClient client.f nobody bytes verdicts n e)

-- A CARD, by the role.
by_role : (role : Role) (client : Client) (bytes : List ℕ) (sender : ReplicaId) (nonce : ℕ) (card : List ℕ) (proof : Option PreparedProof) (addressed : ClientId) → message_in AtClient bytes ≡ accepted (CARD sender nonce card proof addressed)
    → after_tests role client bytes
    ≡ guard 14 (card_stands card proof) (on_card (after_cards role) (towards (register_in bytes) client) sender nonce card proof addressed (towards (register_in bytes) client).phase)
unfolding after_tests on_reply on_viewer_reply
by_role Ordinary client bytes sender nonce card proof addressed e = rw e
by_role Viewing client bytes sender nonce card proof addressed e = rw e

-- A reply meets the phase that awaits its register. Where that is none, it does not matter which record refuses it.
met : (register : RegisterId) (client : Client) (next : Client → Phase → Outcome Turn) → ((now : Client) → next now Idle ≡ refused 18)
    → next (towards register client) (towards register client).phase ≡ next client (towards register client).phase
met register client next idle = go (eqb register.0 client.register.0)
  where
    go : (same : Bool) → next (cond same client (with_phase Idle client)) (cond same client (with_phase Idle client)).phase ≡ next client (cond same client (with_phase Idle client)).phase
    go true = refl
    go false = idle (with_phase Idle client) ∙ sym (idle client)

module _ (client : Client) {bytes : List ℕ} {fields : Fields} {signers : ReplicaSet} (passed : ∥ Passing bytes fields signers ∥₁) where
  pub stamp_step : fields.kind ≡ Stamp
      → after_tests Ordinary client bytes
      ≡ on_stamp client (replica fields.sender) fields.nonce (prepared_part (part_at bytes fields.prepared)) fields.addressed (towards fields.register client).phase
  unfolding after_tests on_reply on_stamp
  stamp_step k =
      let next : Client → Phase → Outcome Turn = λ now phase. on_stamp now (replica fields.sender) fields.nonce (prepared_part (part_at bytes fields.prepared)) fields.addressed phase in
      rw (is_stamp passed k) (met (register_in bytes) client next (λ now. refl)) ∙ ap (λ (x : RegisterId). next client (towards x client).phase) (register passed)

  pub prepared_step : fields.kind ≡ Prepared
      → after_tests Ordinary client bytes
      ≡ on_prepared client (replica fields.sender) (number fields.timestamp) (part_at bytes fields.digest) (part_at bytes fields.signature) (towards fields.register client).phase
  unfolding after_tests on_reply on_prepared
  prepared_step k =
      let next : List ℕ → Client → Phase → Outcome Turn = λ own now phase. on_prepared now (replica fields.sender) (number fields.timestamp) (part_at bytes fields.digest) own phase in
      rw (is_prepared passed k) (met (register_in bytes) client (next (signature bytes)) (λ now. refl))
      ∙ ap₂ (λ (own : List ℕ) (x : RegisterId). next own client (towards x client).phase) (own passed) (register passed)

  pub written_step : fields.kind ≡ Written
      → after_tests Ordinary client bytes ≡ on_written client (replica fields.sender) (number fields.timestamp) (part_at bytes fields.signature) (towards fields.register client).phase
  unfolding after_tests on_reply on_written
  written_step k =
      let next : List ℕ → Client → Phase → Outcome Turn = λ own now phase. on_written now (replica fields.sender) (number fields.timestamp) own phase in
      rw (is_written passed k) (met (register_in bytes) client (next (signature bytes)) (λ now. refl))
      ∙ ap₂ (λ (own : List ℕ) (x : RegisterId). next own client (towards x client).phase) (own passed) (register passed)

  pub card_step : (role : Role) → fields.kind ≡ Card
      → after_tests role client bytes
      ≡ guard 14 (card_stands (card_at bytes fields.card) (prepared_part (part_at bytes fields.prepared)))
      (on_card (after_cards role) client (replica fields.sender) fields.nonce (card_at bytes fields.card) (prepared_part (part_at bytes fields.prepared)) fields.addressed (towards fields.register client).phase)
  unfolding on_card
  card_step role k =
      let card = card_at bytes fields.card in
      let proof = prepared_part (part_at bytes fields.prepared) in
      let next : Client → Phase → Outcome Turn = λ now phase. on_card (after_cards role) now (replica fields.sender) fields.nonce card proof fields.addressed phase in
      by_role role client bytes (replica fields.sender) fields.nonce card proof fields.addressed (is_card_lem passed k)
      ∙ ap (guard 14 (card_stands card proof)) (met (register_in bytes) client next (λ now. refl) ∙ ap (λ (x : RegisterId). next client (towards x client).phase) (register passed))

  -- A view awaits no other kind.
  pub no_view : (fields.kind ≡ Card → ⊥) → after_tests Viewing client bytes ≡ refused 18
  unfolding after_tests on_viewer_reply
  no_view other =
      ∥∥₁_elim passed (Coded-set turn_coded _ _)
      (λ p.
      ⊎_elim (λ k. rw (is_stamp passed k)) (⊎_elim (λ k. rw (is_prepared passed k)) (⊎_elim (λ k. rw (is_written passed k)) (λ k. absurd (other k))))
      (reply_kind p.f nobody bytes p.verdicts fields p.passes))
