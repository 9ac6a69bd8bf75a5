-- Document 01's examples A to K, and #106's, as one theorem. Assumes nothing.
use mathlib.Core.Path.{◌≡◌, refl, ap, ◌∙◌}
use mathlib.Core.Bool.{true, false, and-false}
use mathlib.Core.List.{List}
use mathlib.Core.Option.{Option, none, some}
use Prim.Native.Nat.{ℕ, ◌/◌, ◌≤◌}
use native.Mathlib.Omega.{arith}
use borrow.Author.Tests.{eq-eqb, ne_eqb, le-leb, lt-ltb, le-ltb}
use Rattle.base.specs.BigEndian.{from_bytes}
use Rattle.base.specs.ClientSet.{has}
use Rattle.base.specs.Outcome.{Outcome, accepted, refused, guard, ◌>>=◌}
use Rattle.base.specs.Party.{is_register}
use Rattle.base.specs.Range.{within}
use Rattle.base.specs.Timestamp.{number, of_number, successor}
use Rattle.base.specs.declared.party.ClientId.{ClientId}
use Rattle.base.specs.declared.party.RegisterId.{RegisterId}
use Rattle.base.specs.declared.timestamp.Timestamp.{Timestamp}
use Rattle.base.proofs.Timestamps.{of_number_number}
use Rattle.wire.specs.Card.{table, read_fields, good_card_map, read_card}
use Rattle.wire.specs.Checks.{entries_of, all, one_verdict_each}
use Rattle.wire.specs.Message.{PREPARE, WRITE, PREPARED, WRITTEN}
use Rattle.wire.specs.Proof.{PreparedProof, WrittenProof}
use Rattle.protocol.specs.Examples.{two, 1·2, 2·2, SlotHolds, Closed, first, one_genuine, handed, Passes, WrittenClientFits, Examples}
use Rattle.protocol.specs.Parts.{card_stands}
use Rattle.protocol.specs.RegisterReplica.{held_timestamp, slot_count, slot_timestamp, with_written, with_slot, raised, slot_is, slot_takes, after_prepare, after_write, is_timestamp, with_slots, with_held, answering, on_request}
use Rattle.protocol.specs.declared.replica.Held.{Held}
use Rattle.protocol.specs.declared.replica.RegisterReplica.{RegisterReplica}
use Rattle.protocol.specs.declared.replica.Slots.{Slots}
use Rattle.base.proofs.Same.{same_itself, same_differ}
use Rattle.wire.proofs.AdmittedMessage.{passed_admits}
use Rattle.protocol.proofs.RegisterFacts.{raised_rises}
use Rattle.wire.specs.Parts.{timestamp_if_there, prepared_timestamp}

-- ---- A PREPARE and a WRITE that passed their tests

module _ (client : ClientId) (timestamp : ℕ) (digest : List ℕ) (last : ℕ) (slots : Slots) where
  prepare_again : slot_is client timestamp digest slots ≡ true → after_prepare client timestamp digest last slots ≡ accepted (with_written (raised last slots) slots)
  unfolding after_prepare
  prepare_again e = rw e refl

  prepare_new : slot_is client timestamp digest slots ≡ false → slot_takes client timestamp (raised last slots) slots ≡ true
      → after_prepare client timestamp digest last slots ≡ accepted (with_written (raised last slots) (with_slot client timestamp digest slots))
  unfolding after_prepare guard
  prepare_new e t = rw (e, t) refl

  prepare_refused : slot_is client timestamp digest slots ≡ false → slot_takes client timestamp (raised last slots) slots ≡ false
      → after_prepare client timestamp digest last slots ≡ refused 15
  unfolding after_prepare guard
  prepare_refused e t = rw (e, t) refl

prepare_tested : (replica : RegisterReplica) (register : RegisterId) (verdicts : List ℕ) (client : ClientId) (timestamp : ℕ) (digest : List ℕ) (proof : Option PreparedProof) (last : Option WrittenProof)
    (after : Outcome Slots) → Passes replica register verdicts (PREPARE client timestamp digest proof last)
    → is_timestamp timestamp (successor (of_number (prepared_timestamp proof)) client) ≡ true → after_prepare client timestamp digest (timestamp_if_there last) replica.register.slots ≡ after
    → handed replica register verdicts (PREPARE client timestamp digest proof last)
    ≡ (after >>= λ slots. answering (PREPARED replica.id timestamp digest) (with_slots replica slots))
unfolding on_request guard
prepare_tested replica register verdicts client timestamp digest proof last after passed next e = rw (passed, next, e)

write_tested : (replica : RegisterReplica) (register : RegisterId) (verdicts : List ℕ) (client : ClientId) (card : List ℕ) (proof : PreparedProof)
    → Passes replica register verdicts (WRITE client card proof) → card_stands card (some proof) ≡ true
    → handed replica register verdicts (WRITE client card proof) ≡ answering (WRITTEN replica.id proof.timestamp) (with_held replica (after_write card proof replica.register.held))
unfolding on_request guard
write_tested replica register verdicts client card proof passed stands = rw (passed, stands)

-- ---- The slot 1.2 of client 2

first_passed : (replica : RegisterReplica) (register : RegisterId) (digest : List ℕ) → is_register register ≡ true → has replica.withdrawn two ≡ false → Passes replica register one_genuine (first digest)
unfolding one_verdict_each all entries_of within
first_passed replica register digest registered served =
    passed_admits replica.f replica.withdrawn one_genuine register (first digest) refl refl registered (rw served)
    (record {
      one_each = refl;
      own = refl;
      entries_genuine = refl;
      prepared_shaped = refl;
      written_shaped = refl;
      field_issued = refl;
      prepared_issued = refl;
      written_issued = refl;
    })

first_answered : (replica : RegisterReplica) (register : RegisterId) (digest : List ℕ) (after : Outcome Slots) → is_register register ≡ true → has replica.withdrawn two ≡ false → after_prepare two 1·2 digest 0 replica.register.slots ≡ after
    → handed replica register one_genuine (first digest) ≡ (after >>= λ slots. answering (PREPARED replica.id 1·2 digest) (with_slots replica slots))
unfolding within
first_answered replica register digest after registered served e = prepare_tested replica register one_genuine two 1·2 digest none none after (first_passed replica register digest registered served) refl e

module _ (replica : RegisterReplica) (register : RegisterId) (registered : is_register register ≡ true) (served : has replica.withdrawn two ≡ false) (a : List ℕ) (holds : SlotHolds replica.register.slots a) where
  again : WrittenClientFits replica → handed replica register one_genuine (first a) ≡ answering (PREPARED replica.id 1·2 a) replica
  again fits =
      let old = replica.register.slots in
      let is : slot_is two 1·2 a old ≡ true = rw (eq-eqb (slot_timestamp old two) 1·2 holds.timestamp, holds.digest_is) (same_itself a) in
      let same : raised 0 old ≡ number old.written = omega arith in
      first_answered replica register a (accepted (with_written (raised 0 old) old)) registered served (prepare_again two 1·2 a 0 old is)
      ∙ ap (λ (written : Timestamp). answering (PREPARED replica.id 1·2 a) (with_slots replica (written_at written)))
      (ap of_number same ∙ of_number_number old.written fits)
    where
      written_at : Timestamp → Slots
      written_at written = record { counts = replica.register.slots.counts; digests = replica.register.slots.digests; written = written }

  other_refused : (b : List ℕ) → (a ≡ b → ⊥) → handed replica register one_genuine (first b) ≡ refused 15
  other_refused b apart =
      let old = replica.register.slots in
      let stands = holds.timestamp in
      let is : slot_is two 1·2 b old ≡ false = rw (eq-eqb (slot_timestamp old two) 1·2 stands, holds.digest_is) (same_differ a b apart) in
      let takes : slot_takes two 1·2 (raised 0 old) old ≡ false =
      rw (ne_eqb (slot_count old two) 0 (omega arith), le-ltb (slot_timestamp old two) 1·2 (omega arith)) (simp and-false refl) in
      first_answered replica register b (refused 15) registered served (prepare_refused two 1·2 b 0 old is takes)

-- 2.2 is taken where the written timestamp that its PREPARE leaves closes the slot.
module _ (replica : RegisterReplica) (register : RegisterId) (a : List ℕ) (holds : SlotHolds replica.register.slots a) where
  next_taken : (digest : List ℕ) (proof : PreparedProof) (last : Option WrittenProof) (verdicts : List ℕ) → proof.timestamp / 256 ≡ 1 → 1·2 ≤ raised (timestamp_if_there last) replica.register.slots
      → Passes replica register verdicts (PREPARE two 2·2 digest (some proof) last)
      → handed replica register verdicts (PREPARE two 2·2 digest (some proof) last)
      ≡ answering (PREPARED replica.id 2·2 digest) (with_slots replica (with_written (raised (timestamp_if_there last) replica.register.slots) (with_slot two 2·2 digest replica.register.slots)))
  unfolding within
  next_taken digest proof last verdicts count closes passed =
      let old = replica.register.slots in
      let written = raised (timestamp_if_there last) old in
      let stands = holds.timestamp in
      let is : slot_is two 2·2 digest old ≡ false = rw (ne_eqb (slot_timestamp old two) 2·2 (omega arith)) refl in
      let takes : slot_takes two 2·2 written old ≡ true =
      rw (ne_eqb (slot_count old two) 0 (omega arith), le-leb (slot_timestamp old two) written (omega arith), lt-ltb (slot_timestamp old two) 2·2 (omega arith)) refl in
      prepare_tested replica register verdicts two 2·2 digest (some proof) last (accepted (with_written written (with_slot two 2·2 digest old))) passed (rw count refl)
      (prepare_new two 2·2 digest (timestamp_if_there last) old is takes)

  closed_taken : Closed replica.register.slots → (digest : List ℕ) (proof : PreparedProof) (last : Option WrittenProof) (verdicts : List ℕ) → proof.timestamp / 256 ≡ 1
      → Passes replica register verdicts (PREPARE two 2·2 digest (some proof) last)
      → handed replica register verdicts (PREPARE two 2·2 digest (some proof) last)
      ≡ answering (PREPARED replica.id 2·2 digest) (with_slots replica (with_written (raised (timestamp_if_there last) replica.register.slots) (with_slot two 2·2 digest replica.register.slots)))
  closed_taken closed digest proof last verdicts count =
      next_taken digest proof last verdicts count (omega (arith, holds.timestamp, raised_rises (timestamp_if_there last) replica.register.slots))

held_kept : (card : List ℕ) (proof : PreparedProof) (held : Held) → proof.timestamp ≡ held_timestamp held → after_write card proof held ≡ held
unfolding after_write
held_kept card proof held e = rw (le-ltb (held_timestamp held) proof.timestamp (omega arith)) refl

pub examples : Examples
unfolding read_card read_fields table good_card_map from_bytes within
examples =
    record {
      A = (refl, refl, refl, refl);
      B = refl;
      C = omega arith;
      D = λ client. refl;
      E = refl;
      F = refl;
      G = refl;
      H = (refl, refl);
      I = λ replica register a b registered served apart fits holds is_open. (again replica register registered served a holds fits, other_refused replica register registered served a holds b apart);
      J = λ replica register a b registered served apart holds closed. (closed_taken replica register a holds closed, other_refused replica register registered served a holds b apart);
      K = λ replica register client card proof verdicts passed stands held.
          write_tested replica register verdicts client card proof passed stands
          ∙ ap (λ (held : Held). answering (WRITTEN replica.id proof.timestamp) (with_held replica held)) (held_kept card proof replica.register.held held);
      of_any_client = λ replica register a registered holds digest proof last verdicts count late.
          next_taken replica register a holds digest proof (some last) verdicts count (omega arith);
    }
