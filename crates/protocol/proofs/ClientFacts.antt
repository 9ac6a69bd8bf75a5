-- What one step of a client does: how it begins, and one case for each way in which a message is taken. Assumes nothing.
use mathlib.Core.Path.{◌≡◌, refl}
use mathlib.Core.Bool.{true, false}
use mathlib.Core.List.{List}
use Prim.Native.Nat.{ℕ, ◌+◌, ◌^◌, ◌<◌}
use native.Mathlib.Omega.{arith}
use borrow.Author.Tests.{ltb-true}
use lib.Dec.{ltb}
use Rattle.base.specs.BigEndian.{Bytes, from_bytes}
use Rattle.base.specs.Outcome.{accepted}
use Rattle.base.specs.Party.{is_writer, is_register}
use Rattle.base.specs.ReplicaSet.{empty}
use Rattle.base.specs.Timestamp.{start}
use Rattle.base.specs.declared.party.RegisterId.{RegisterId}
use Rattle.base.proofs.Apart.{apart}
use Rattle.base.proofs.Booleans.{and_true_both}
use Rattle.wire.specs.Acceptance.{sender_of, in_its_range}
use Rattle.wire.specs.Card.{is_card, read_card, good_card_map, read_fields, table}
use Rattle.wire.specs.Message.{Message, READ-STAMP, PREPARE, WRITE, READ, STAMP, PREPARED, WRITTEN, CARD, Fits, size, IsSignature}
use Rattle.protocol.specs.Client.{send, Turn, is_idle, may_begin, beginning, begin_write, begin_read, on_reply}
use Rattle.protocol.specs.Parts.{start_card}
use Rattle.protocol.specs.Viewer.{on_viewer_reply}
use Rattle.protocol.specs.declared.client.Client.{Client}
use Rattle.protocol.specs.declared.client.Phase.{Phase}
use Rattle.protocol.specs.declared.client.Phase.TheVariants.{Idle, Stamps, Prepareds, Writtens, Cards, WriteBack}
use Rattle.protocol.proofs.Accepts.{Accepts, by_value, by_refusal, by_guard}
use Rattle.protocol.proofs.ArrayLaws.{bytes_zeros, card_kept_lem}
use Rattle.wire.proofs.card.Digests.{card_short}
use Rattle.protocol.proofs.ClientKept.{beginning_fits}
use Rattle.protocol.proofs.ClientReplies.{stamp_facts, prepared_facts, written_facts, card_facts}
use Rattle.protocol.proofs.Fit.{ClientFits, LegalMessage}
use Rattle.wire.proofs.Tests7To11.{Passed}
use Rattle.protocol.proofs.ClientCases.{Begun, PhaseFits, as_read, as_view, ClientFacts}

pub idle_phase : (phase : Phase) → is_idle phase ≡ true → phase ≡ Idle
idle_phase Idle e = refl
idle_phase (Stamps nonce best counted) e = apart (cc)
idle_phase (Prepareds timestamp counted) e = apart (cc)
idle_phase (Writtens timestamp counted) e = apart (cc)
idle_phase (Cards nonce best counted showed) e = apart (cc)
idle_phase (WriteBack timestamp counted) e = apart (cc)

-- The starting card keeps its table.
start_is_card : is_card start_card ≡ true
unfolding read_card good_card_map from_bytes read_fields table
start_is_card = refl

begun : (before : Client) (register : RegisterId) (question : Message) (phase : Phase) (card : List ℕ) → ClientFits before → is_register register ≡ true → may_begin before ≡ true
    → Bytes card → is_card card ≡ true → (before.last_nonce + 1 < 2 ^ 64 → LegalMessage question)
    → Begun before register question phase card (record { answer = send question; next = beginning register (before.last_nonce + 1) phase card before })
begun before register question phase card fits registered may bytes is_card_lem legal =
    let both = and_true_both (is_idle before.phase) (ltb (before.last_nonce + 1) (2 ^ 64)) may in
    let small = ltb-true (before.last_nonce + 1) (2 ^ 64) both.1 in
    record {
      registered = registered;
      was_idle = idle_phase before.phase both.0;
      nonce_fits = small;
      sends = refl;
      same_f = refl;
      same_id = refl;
      register_is = refl;
      written_kept_lem = refl;
      nonce = refl;
      phase_is = refl;
      is_card_lem = is_card_lem;
      card_is = card_kept_lem card (card_short card is_card_lem);
      no_signers = refl;
      fits = beginning_fits register (before.last_nonce + 1) phase card before small bytes fits;
      legal = legal small;
    }

pub begins_write : (before : Client) (register : RegisterId) (card : List ℕ) (turn : Turn) → ClientFits before → Bytes card → begin_write before register card ≡ accepted turn
    → Begun before register (READ-STAMP before.id (before.last_nonce + 1)) (Stamps (before.last_nonce + 1) start empty) card turn
begins_write before register card turn fits bytes e = outcome.holds turn e
  where
    outcome : Accepts (Begun before register (READ-STAMP before.id (before.last_nonce + 1)) (Stamps (before.last_nonce + 1) start empty) card) (begin_write before register card)
    outcome =
        unfold begin_write Fits size in
        by_guard 20 (λ registered. by_guard 14 (λ is_card_lem. by_guard 17 (λ may. by_value
        (begun before register _ _ card fits registered may bytes is_card_lem
        (λ small any byte. record { register_fits = byte; fits = (fits.id_fits, small); short = omega arith })))))

pub begins_read : (before : Client) (register : RegisterId) (turn : Turn) → ClientFits before → begin_read before register ≡ accepted turn
    → Begun before register (READ before.id (before.last_nonce + 1)) (Cards (before.last_nonce + 1) start empty empty) start_card turn
begins_read before register turn fits e = outcome.holds turn e
  where
    outcome : Accepts (Begun before register (READ before.id (before.last_nonce + 1)) (Cards (before.last_nonce + 1) start empty empty) start_card) (begin_read before register)
    outcome =
        unfold begin_read Fits size in
        by_guard 20 (λ registered. by_guard 17 (λ may. by_value
        (begun before register _ _ start_card fits registered may (bytes_zeros 2) start_is_card
        (λ small any byte. record { register_fits = byte; fits = (fits.id_fits, small); short = omega arith }))))

module _ (before : Client) (own verdicts : List ℕ) (fits : ClientFits before) (phase_fits : PhaseFits before.phase) (own_fits : IsSignature own) where
  facts : (message : Message) → Fits message → in_its_range before.f (sender_of message) ≡ true → Passed before.f message verdicts → Accepts (ClientFacts before own verdicts message) (on_reply before own message)
  unfolding on_reply Fits
  facts (STAMP sender nonce proof addressed) message_fits ranged passed = stamp_facts before own verdicts fits sender ranged nonce proof addressed passed message_fits.2 before.phase refl phase_fits
  facts (PREPARED sender timestamp digest) message_fits ranged passed =
      prepared_facts before own verdicts fits sender ranged own_fits timestamp digest passed before.phase refl phase_fits
  facts (WRITTEN sender timestamp) message_fits ranged passed = written_facts before own verdicts fits sender ranged own_fits timestamp passed before.phase refl phase_fits
  facts (CARD sender nonce card proof addressed) message_fits ranged passed =
      by_guard 14 (λ stands.
      card_facts before own verdicts fits sender ranged as_read nonce card proof addressed passed message_fits.2.1 message_fits.3 stands before.phase refl phase_fits)
  facts (READ-STAMP sender nonce) message_fits ranged passed = by_refusal
  facts (PREPARE sender timestamp digest proof last) message_fits ranged passed = by_refusal
  facts (WRITE sender card proof) message_fits ranged passed = by_refusal
  facts (READ sender nonce) message_fits ranged passed = by_refusal

pub client_facts : (before : Client) (own verdicts : List ℕ) (message : Message) (turn : Turn) → ClientFits before → PhaseFits before.phase
    → Rattle.wire.specs.Message.Fits message → IsSignature own → in_its_range before.f (sender_of message) ≡ true → Passed before.f message verdicts
    → on_reply before own message ≡ accepted turn → ClientFacts before own verdicts message turn
client_facts before own verdicts message turn fits phase_fits message_fits own_fits ranged passed e = (facts before own verdicts fits phase_fits own_fits message message_fits ranged passed).holds turn e

-- The same of a viewing client.
module _ (before : Client) (own verdicts : List ℕ) (fits : ClientFits before) (phase_fits : PhaseFits before.phase) (no_writer : is_writer before.id ≡ false) where
  view_facts : (message : Message) → Fits message → in_its_range before.f (sender_of message) ≡ true → Passed before.f message verdicts → Accepts (ClientFacts before own verdicts message) (on_viewer_reply before message)
  unfolding on_viewer_reply Fits
  view_facts (CARD sender nonce card proof addressed) message_fits ranged passed =
      by_guard 14 (λ stands.
      card_facts before own verdicts fits sender ranged (as_view no_writer) nonce card proof addressed passed message_fits.2.1 message_fits.3 stands before.phase refl phase_fits)
  view_facts (STAMP sender nonce proof addressed) message_fits ranged passed = by_refusal
  view_facts (PREPARED sender timestamp digest) message_fits ranged passed = by_refusal
  view_facts (WRITTEN sender timestamp) message_fits ranged passed = by_refusal
  view_facts (READ-STAMP sender nonce) message_fits ranged passed = by_refusal
  view_facts (PREPARE sender timestamp digest proof last) message_fits ranged passed = by_refusal
  view_facts (WRITE sender card proof) message_fits ranged passed = by_refusal
  view_facts (READ sender nonce) message_fits ranged passed = by_refusal

pub viewer_facts : (before : Client) (own verdicts : List ℕ) (message : Message) (turn : Turn) → ClientFits before → PhaseFits before.phase → is_writer before.id ≡ false
    → Rattle.wire.specs.Message.Fits message → in_its_range before.f (sender_of message) ≡ true → Passed before.f message verdicts
    → on_viewer_reply before message ≡ accepted turn → ClientFacts before own verdicts message turn
viewer_facts before own verdicts message turn fits phase_fits no_writer message_fits ranged passed e = (view_facts before own verdicts fits phase_fits no_writer message message_fits ranged passed).holds turn e
