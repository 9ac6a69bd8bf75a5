-- What one step of a replica does: the facts that runs use. Assumes nothing.
use mathlib.Core.Path.{◌≡◌, refl, sym, ap, subst, ◌∙◌}
use mathlib.Core.Logic.{◌⊎◌, inl, inr, ⊎_elim}
use mathlib.Core.Bool.{Bool, true, false, cond, false≢true}
use mathlib.Core.List.{List}
use mathlib.Core.Option.{Option, none, some}
use Prim.Native.Nat.{ℕ, ◌+◌, ◌-◌, ◌*◌, ◌/◌, ◌%◌, ◌^◌, ◌≤◌, ◌<◌}
use native.Mathlib.Omega.{arith}
use borrow.Author.Tests.{ltb-true, ltb-false, leb-true, eqb-true, eqb-false, ne_eqb}
use lib.Dec.{eqb, leb, ltb}
use lib.ListN.{get_or, set, length-set}
use lib.Seq.{get_or-set_same, get_or-set_other}
use Rattle.std.specs.declared.option.Option.TheVariants.{Some, None}
use Rattle.base.specs.Outcome.{accepted, guard}
use Rattle.base.specs.Party.{is_writer}
use Rattle.base.specs.Same.{same}
use Rattle.base.specs.Timestamp.{number, of_number, client_of, successor}
use Rattle.base.specs.declared.party.ClientId.{ClientId}
use Rattle.base.specs.declared.party.ReplicaId.{ReplicaId}
use Rattle.base.specs.declared.timestamp.Timestamp.{Timestamp}
use Rattle.base.proofs.Apart.{apart}
use Rattle.base.proofs.Booleans.{and_true_both}
use Rattle.base.proofs.Range.{bounds}
use Rattle.base.proofs.Same.{same_equal}
use Rattle.base.proofs.Timestamps.{number_of_number}
use Rattle.wire.specs.Message.{Message, kind_of, READ-STAMP, PREPARE, WRITE, READ, STAMP, PREPARED, WRITTEN, CARD, IfThere, IsDigest, ProofFits, CardFits, Fits, proof_size, size}
use Rattle.wire.specs.Acceptance.{sender_of, may_send}
use Rattle.wire.specs.Checks.{written_of}
use Rattle.wire.specs.Proof.{PreparedProof, WrittenProof, signers}
use Rattle.protocol.specs.Parts.{entries_kept, card_stands}
use Rattle.protocol.specs.RegisterReplica.{Reply, held_timestamp, held_proof, held_card, slot_count, slot_digest, slot_timestamp, raised, with_written, with_slot, holding, with_slots, with_held, slot_is, slot_takes, is_timestamp, after_prepare, after_write, on_read_stamp, on_prepare, on_write, on_read, on_request}
use Rattle.protocol.specs.declared.replica.Held.{Held}
use Rattle.protocol.specs.declared.replica.RegisterReplica.{RegisterReplica}
use Rattle.protocol.specs.declared.replica.Slots.{Slots}
use Rattle.protocol.proofs.ArrayLaws.{replaced_length, replaced_bytes, replaced_here, replaced_before, replaced_behind, filled_fits, card_kept_lem, card_in_bytes, card_in_short, entries_in_length, entries_in_fit, entries_kept_lem, entries_filled, issued_there, issued_timestamp, issued_size}
use Rattle.protocol.proofs.Accepts.{Accepts, by_test, by_value, by_refusal, by_guard, by_next}
use Rattle.protocol.proofs.Fit.{SlotsFit, HeldFits, RegisterReplicaFits, LegalMessage}
use Rattle.wire.proofs.Tests7To11.{Passed, shaped_few, issued_positive}
use Rattle.wire.proofs.card.Digests.{standing_under_short}
use Rattle.wire.specs.Parts.{prepared_timestamp, prepared_signers, timestamp_if_there}

-- A slot is kept, or moves up.
abbrev pub SlotRises : Slots → Slots → ClientId → Type 0
SlotRises before after client =
    ((slot_count after client ≡ slot_count before client) × (slot_digest after client ≡ slot_digest before client)) ⊎ (slot_count before client < slot_count after client)

-- A slot that changed was unused or at most the written timestamp, and its new timestamp is the successor of the shown proof's or 1.client.
abbrev pub SlotChange : Slots → Slots → Message → ClientId → Type 0
SlotChange before after message client =
    (slot_count after client ≡ slot_count before client)
    ⊎ (((slot_count before client ≡ 0) ⊎ (slot_timestamp before client ≤ number after.written))
    × ((digest : List ℕ) × (proof : Option PreparedProof) × (last : Option WrittenProof) × (message ≡ PREPARE client (slot_timestamp after client) digest proof last)
    × (is_timestamp (slot_timestamp after client) (successor (of_number (prepared_timestamp proof)) client) ≡ true)))

-- The reply to a request, by the record before it.
abbrev pub ReplyTo : RegisterReplica → Message → Message → Type 0
ReplyTo before (READ-STAMP client nonce) reply = reply ≡ STAMP before.id nonce (held_proof before.register.held) client
ReplyTo before (PREPARE client timestamp digest proof last) reply = reply ≡ PREPARED before.id timestamp digest
ReplyTo before (WRITE client card proof) reply = reply ≡ WRITTEN before.id proof.timestamp
ReplyTo before (READ client nonce) reply = reply ≡ CARD before.id nonce (held_card before.register.held) (held_proof before.register.held) client
ReplyTo before (STAMP sender nonce proof client) reply = ⊥
ReplyTo before (PREPARED sender timestamp digest) reply = ⊥
ReplyTo before (WRITTEN sender timestamp) reply = ⊥
ReplyTo before (CARD sender nonce card proof client) reply = ⊥

-- What is held stays, or is the card and the proof of a WRITE that passed 14.
pub data HeldChange (before after : Held) (message : Message) : Type 0 where
  stays : after ≡ before → HeldChange before after message
  stores : (client : ClientId) (card : List ℕ) (proof : PreparedProof) → message ≡ WRITE client card proof → card_stands card (some proof) ≡ true
      → held_proof after ≡ some proof → held_card after ≡ card → HeldChange before after message

-- The signers that are kept are those of the proof that is held.
abbrev pub SignersHeld : Held → Type 0
SignersHeld held = held.signers ≡ prepared_signers (held_proof held)

pub record RegisterFacts (before : RegisterReplica) (verdicts : List ℕ) (message : Message) (reply : Reply) : Type 0 where
  pub same_f : reply.next.f ≡ before.f
  pub same_id : reply.next.id ≡ before.id
  pub same_withdrawn : reply.next.withdrawn ≡ before.withdrawn
  pub fits : RegisterReplicaFits reply.next
  pub legal : LegalMessage reply.message
  pub passed : Passed before.f message verdicts
  pub reply_is : ReplyTo before message reply.message
  pub held_change : HeldChange before.register.held reply.next.register.held message
  pub held_rises : held_timestamp before.register.held ≤ held_timestamp reply.next.register.held
  pub signers_held : SignersHeld before.register.held → SignersHeld reply.next.register.held
  pub slots_rise : (client : ClientId) → 1 ≤ client.0 → client.0 ≤ 64 → SlotRises before.register.slots reply.next.register.slots client
  pub prepared_sent : (id : ReplicaId) (timestamp : ℕ) (digest : List ℕ) → reply.message ≡ PREPARED id timestamp digest
      → (id ≡ before.id) × (is_writer (client_of timestamp) ≡ true) × (slot_count reply.next.register.slots (client_of timestamp) ≡ timestamp / 256)
      × (slot_digest reply.next.register.slots (client_of timestamp) ≡ digest)
  pub prepared_asked : (id : ReplicaId) (timestamp : ℕ) (digest : List ℕ) → reply.message ≡ PREPARED id timestamp digest
      → (proof : Option PreparedProof) × (last : Option WrittenProof) × (message ≡ PREPARE (client_of timestamp) timestamp digest proof last)
  pub written_sent : (id : ReplicaId) (timestamp : ℕ) → reply.message ≡ WRITTEN id timestamp → (id ≡ before.id) × (timestamp ≤ held_timestamp reply.next.register.held)
  pub stamp_sent : (id : ReplicaId) (nonce : ℕ) (proof : Option PreparedProof) (client : ClientId) → reply.message ≡ STAMP id nonce proof client
      → (id ≡ before.id) × (proof ≡ held_proof before.register.held) × (message ≡ READ-STAMP client nonce)
  pub card_sent : (id : ReplicaId) (nonce : ℕ) (card : List ℕ) (proof : Option PreparedProof) (client : ClientId) → reply.message ≡ CARD id nonce card proof client
      → (id ≡ before.id) × (proof ≡ held_proof before.register.held) × (message ≡ READ client nonce)
  pub written_rises : number before.register.slots.written ≤ number reply.next.register.slots.written
  pub written_shown : (number reply.next.register.slots.written ≡ number before.register.slots.written)
      ⊎ ((last : WrittenProof) × (written_of message ≡ some last) × (number reply.next.register.slots.written ≡ last.timestamp))
  pub slot_change : (client : ClientId) → 1 ≤ client.0 → client.0 ≤ 64 → SlotChange before.register.slots reply.next.register.slots message client

-- ---- What a register shows

held_record : Held → PreparedProof
held_record held = record { timestamp = held_timestamp held; digest = held.digest; entries = entries_kept held.entries held.entry_count }

-- The timestamp that a register shows is the one it holds.
pub held_shown : (held : Held) → prepared_timestamp (held_proof held) ≡ held_timestamp held
unfolding held_record
held_shown held = issued_timestamp (held_timestamp held) (held_record held) refl

module _ (held : Held) (fits : HeldFits held) where
  held_fits : IfThere ProofFits (held_proof held)
  unfolding held_record
  held_fits =
      issued_there (held_timestamp held) (held_record held) ProofFits
      (omega arith, fits.digest_fits, entries_in_fit held.entries held.entry_count fits.entries_fit)

  held_size : proof_size (held_proof held) ≤ 753
  unfolding held_record
  held_size = omega (arith, issued_size (held_timestamp held) (held_record held), entries_in_length held.entries held.entry_count)

  held_card_fits : CardFits (held_card held)
  held_card_fits = (omega (arith, card_in_short held.card held.card_length), card_in_bytes held.card held.card_length fits.card_fits.1)

-- ---- Replies are legal

module _ (replica : RegisterReplica) (fits : RegisterReplicaFits replica) (nonce : ℕ) (client : ClientId) (nonce_fits : nonce < 2 ^ 64) (client_fits : client.0 < 256) where
  stamp_legal : LegalMessage (STAMP replica.id nonce (held_proof replica.register.held) client)
  unfolding Fits size
  stamp_legal register small =
      record { register_fits = small; fits = (fits.id_fits, nonce_fits, held_fits replica.register.held fits.held_fits, client_fits); short = omega (arith, held_size replica.register.held fits.held_fits) }

  card_legal : LegalMessage (CARD replica.id nonce (held_card replica.register.held) (held_proof replica.register.held) client)
  unfolding Fits size
  card_legal register small =
      record {
        register_fits = small;
        fits = (fits.id_fits, nonce_fits, held_card_fits replica.register.held fits.held_fits, held_fits replica.register.held fits.held_fits, client_fits);
        short =
            omega (arith, held_size replica.register.held fits.held_fits, card_in_short replica.register.held.card replica.register.held.card_length);
      }

pub prepared_legal : (id : ReplicaId) (timestamp : ℕ) (digest : List ℕ) → id.0 < 256 → timestamp < 2 ^ 40 → IsDigest digest → LegalMessage (PREPARED id timestamp digest)
unfolding Fits size
prepared_legal id timestamp digest hi ht hd register small = record { register_fits = small; fits = (hi, ht, hd); short = omega arith }

pub written_legal : (id : ReplicaId) (timestamp : ℕ) → id.0 < 256 → timestamp < 2 ^ 40 → LegalMessage (WRITTEN id timestamp)
unfolding Fits size
written_legal id timestamp hi ht register small = record { register_fits = small; fits = (hi, ht); short = omega arith }

-- ---- READ-STAMP and READ

stamp_facts : (before : RegisterReplica) (verdicts : List ℕ) (client : ClientId) (nonce : ℕ) → RegisterReplicaFits before → Fits (READ-STAMP client nonce)
    → Passed before.f (READ-STAMP client nonce) verdicts → Accepts (RegisterFacts before verdicts (READ-STAMP client nonce)) (on_read_stamp before client nonce)
unfolding Fits
stamp_facts before verdicts client nonce fits message_fits passed =
    by_value (record {
      same_f = refl;
      same_id = refl;
      same_withdrawn = refl;
      fits = fits;
      legal = stamp_legal before fits nonce client message_fits.1 message_fits.0;
      passed = passed;
      reply_is = refl;
      held_change = stays refl;
      held_rises = omega arith;
      signers_held = λ was. was;
      slots_rise = λ c low high. inl (refl, refl);
      prepared_sent = λ id timestamp digest e. apart (cc);
      prepared_asked = λ id timestamp digest e. apart (cc);
      written_sent = λ id timestamp e. apart (cc);
      stamp_sent = λ id asked proof c e. (cc, cc, cc);
      card_sent = λ id asked card proof c e. apart (cc);
      written_rises = omega arith;
      written_shown = inl refl;
      slot_change = λ c low high. inl refl;
    })

card_facts : (before : RegisterReplica) (verdicts : List ℕ) (client : ClientId) (nonce : ℕ) → RegisterReplicaFits before → Fits (READ client nonce) → Passed before.f (READ client nonce) verdicts
    → Accepts (RegisterFacts before verdicts (READ client nonce)) (on_read before client nonce)
unfolding Fits
card_facts before verdicts client nonce fits message_fits passed =
    by_value (record {
      same_f = refl;
      same_id = refl;
      same_withdrawn = refl;
      fits = fits;
      legal = card_legal before fits nonce client message_fits.1 message_fits.0;
      passed = passed;
      reply_is = refl;
      held_change = stays refl;
      held_rises = omega arith;
      signers_held = λ was. was;
      slots_rise = λ c low high. inl (refl, refl);
      prepared_sent = λ id timestamp digest e. apart (cc);
      prepared_asked = λ id timestamp digest e. apart (cc);
      written_sent = λ id timestamp e. apart (cc);
      stamp_sent = λ id asked proof c e. apart (cc);
      card_sent = λ id asked card proof c e. (cc, cc, cc);
      written_rises = omega arith;
      written_shown = inl refl;
      slot_change = λ c low high. inl refl;
    })

-- ---- WRITE

-- 9 leaves it q entries, which have room, and 11 a timestamp: once it is held it is shown as it came.
pub holding_shown : (f : ℕ) (verdicts : List ℕ) (client : ClientId) (card : List ℕ) (proof : PreparedProof) → Fits (WRITE client card proof) → Passed f (WRITE client card proof) verdicts
    → held_proof (holding card proof) ≡ some proof
unfolding Fits
holding_shown f verdicts client card proof message_fits passed =
    let few = shaped_few f proof.entries passed.prepared_shaped in
    let positive = issued_positive proof.timestamp passed.prepared_issued in
    rw (number_of_number proof.timestamp, ne_eqb proof.timestamp 0 (omega arith), entries_kept_lem proof.entries message_fits.2.2.1 few) refl

-- What is held after a WRITE: at least its timestamp, nothing earlier than before, and its own signers if it is stored.
record Stored (before : Held) (message : Message) (timestamp : ℕ) (after : Held) : Type 0 where
  holds : timestamp ≤ held_timestamp after
  rises : held_timestamp before ≤ held_timestamp after
  change : HeldChange before after message
  signers_held : SignersHeld before → SignersHeld after
  fits : HeldFits after

module _ (before : RegisterReplica) (verdicts : List ℕ) (client : ClientId) (card : List ℕ) (proof : PreparedProof) (fits : RegisterReplicaFits before)
    (message_fits : Fits (WRITE client card proof)) (passed : Passed before.f (WRITE client card proof) verdicts) (stands : card_stands card (some proof) ≡ true) where
  abbrev AfterWrite : Held → Type 0
  AfterWrite after = Stored before.register.held (WRITE client card proof) proof.timestamp after

  -- WRITTEN, with what is held afterwards; the slots are as they were.
  wrote : (after : Held) → AfterWrite after → RegisterFacts before verdicts (WRITE client card proof) (record { message = WRITTEN before.id proof.timestamp; next = with_held before after })
  unfolding Fits
  wrote after stored =
      record {
        same_f = refl;
        same_id = refl;
        same_withdrawn = refl;
        fits = record { id_fits = fits.id_fits; slots_fit = fits.slots_fit; held_fits = stored.fits };
        legal = written_legal before.id proof.timestamp fits.id_fits message_fits.2.0;
        passed = passed;
        reply_is = refl;
        held_change = stored.change;
        held_rises = stored.rises;
        signers_held = stored.signers_held;
        slots_rise = λ c low high. inl (refl, refl);
        prepared_sent = λ id timestamp digest e. apart (cc);
        prepared_asked = λ id timestamp digest e. apart (cc);
        written_sent = λ id timestamp e. (cc, let z : proof.timestamp ≡ timestamp = cc in omega (arith, stored.holds));
        stamp_sent = λ id asked proof c e. apart (cc);
        card_sent = λ id asked card proof c e. apart (cc);
        written_rises = omega arith;
        written_shown = inl refl;
        slot_change = λ c low high. inl refl;
      }

  holding_fits : HeldFits (holding card proof)
  unfolding Fits
  holding_fits =
      record {
        timestamp_fits = let small = message_fits.2.0 in omega arith;
        card_fits = filled_fits 17 card message_fits.1.1;
        digest_fits = message_fits.2.1;
        entries_fit = entries_filled proof.entries message_fits.2.2.1;
      }

  stored : AfterWrite (after_write card proof before.register.held)
  unfolding after_write
  stored =
      by_test AfterWrite
      (λ larger.
      let l = ltb-true (held_timestamp before.register.held) proof.timestamp larger in
      let as_it_came = holding_shown before.f verdicts client card proof message_fits passed in
      record {
        holds = omega arith;
        rises = omega arith;
        change = stores client card proof refl stands as_it_came (card_kept_lem card (standing_under_short card proof.digest stands));
        signers_held = λ was. sym (ap prepared_signers as_it_came);
        fits = holding_fits;
      })
      (λ other.
      let l = ltb-false (held_timestamp before.register.held) proof.timestamp other in
      record { holds = l; rises = omega arith; change = stays refl; signers_held = λ was. was; fits = fits.held_fits })

write_facts : (before : RegisterReplica) (verdicts : List ℕ) (client : ClientId) (card : List ℕ) (proof : PreparedProof) → RegisterReplicaFits before → Fits (WRITE client card proof)
    → Passed before.f (WRITE client card proof) verdicts → Accepts (RegisterFacts before verdicts (WRITE client card proof)) (on_write before card proof)
write_facts before verdicts client card proof fits message_fits passed =
    by_guard 14 (λ stands. by_value (wrote before verdicts client card proof fits message_fits passed stands _ (stored before verdicts client card proof fits message_fits passed stands)))

-- ---- PREPARE

-- The written timestamp with a proof shown: the larger one.
pub raised_rises : (last : ℕ) (slots : Slots) → number slots.written ≤ raised last slots
raised_rises last slots = omega arith

raised_fits : (last : Option WrittenProof) (slots : Slots) → SlotsFit slots → IfThere ProofFits last → raised (timestamp_if_there last) slots < 2 ^ 40
raised_fits none slots fits h = let old = fits.written_fits in omega arith
raised_fits (some proof) slots fits h = let old = fits.written_fits in omega arith

raised_shown : (last : Option WrittenProof) (slots : Slots)
    → (raised (timestamp_if_there last) slots ≡ number slots.written) ⊎ ((shown : WrittenProof) × (last ≡ some shown) × (raised (timestamp_if_there last) slots ≡ shown.timestamp))
raised_shown none slots = inl (omega arith)
raised_shown (some proof) slots = larger (ltb (number slots.written) proof.timestamp) refl
  where
    larger : (b : Bool) → ltb (number slots.written) proof.timestamp ≡ b
        → (raised proof.timestamp slots ≡ number slots.written) ⊎ ((shown : WrittenProof) × (some proof ≡ some shown) × (raised proof.timestamp slots ≡ shown.timestamp))
    larger true e = let l = ltb-true (number slots.written) proof.timestamp e in inr (proof, refl, omega arith)
    larger false e = let l = ltb-false (number slots.written) proof.timestamp e in inl (omega arith)

written_new_fits : (written : ℕ) (slots : Slots) → SlotsFit slots → written < 2 ^ 40 → SlotsFit (with_written written slots)
written_new_fits written slots fits h =
    record {
      counts_long = fits.counts_long;
      counts_fit = fits.counts_fit;
      digests_fit = fits.digests_fit;
      written_fits = omega arith;
    }

-- A slot that was put has its timestamp's count and its digest; the others are as they were.
module _ (slots : Slots) (fits : SlotsFit slots) (client : ClientId) (timestamp : ℕ) (digest : List ℕ) (low : 1 ≤ client.0) (high : client.0 ≤ 64) (is_digest : IsDigest digest) where
  put_count : slot_count (with_slot client timestamp digest slots) client ≡ timestamp / 256
  put_count = get_or-set_same slots.counts (client.0 - 1) (timestamp / 256) 0 (omega (arith, fits.counts_long))

  put_digest : slot_digest (with_slot client timestamp digest slots) client ≡ digest
  put_digest =
      let long = fits.digests_fit.0 in
      replaced_here (32 * (client.0 - 1)) (32 * client.0) digest slots.digests (omega arith) (omega arith) 32 is_digest.0

  put_other : (c : ClientId) → 1 ≤ c.0 → (c.0 ≡ client.0 → ⊥)
      → (slot_count (with_slot client timestamp digest slots) c ≡ slot_count slots c) × (slot_digest (with_slot client timestamp digest slots) c ≡ slot_digest slots c)
  put_other c c_low apart =
      (get_or-set_other slots.counts (client.0 - 1) (c.0 - 1) (timestamp / 256) 0 (omega arith), go (ltb c.0 client.0) refl)
    where
      go : (b : Bool) → ltb c.0 client.0 ≡ b → slot_digest (with_slot client timestamp digest slots) c ≡ slot_digest slots c
      go true e =
          let l = ltb-true c.0 client.0 e in
          let long = fits.digests_fit.0 in
          replaced_before (32 * (client.0 - 1)) (32 * client.0) digest slots.digests (omega arith) (omega arith) 32 (32 * (c.0 - 1)) (omega arith)
      go false e =
          let l = ltb-false c.0 client.0 e in
          let long = fits.digests_fit.0 in
          replaced_behind (32 * (client.0 - 1)) (32 * client.0) digest slots.digests (omega arith) (omega arith) 32 (32 * (c.0 - 1)) (omega arith)

  put_counts_fit : timestamp < 2 ^ 40 → (i : ℕ) → get_or (set slots.counts (client.0 - 1) (timestamp / 256)) i 0 < 2 ^ 32
  put_counts_fit small i = go (eqb i (client.0 - 1)) refl
    where
      go : (b : Bool) → eqb i (client.0 - 1) ≡ b → get_or (set slots.counts (client.0 - 1) (timestamp / 256)) i 0 < 2 ^ 32
      go true e = let here = eqb-true i (client.0 - 1) e in rw (here, put_count) (omega arith)
      go false e = rw (get_or-set_other slots.counts (client.0 - 1) i (timestamp / 256) 0 (eqb-false i (client.0 - 1) e)) (fits.counts_fit i)

  put_fits : timestamp < 2 ^ 40 → SlotsFit (with_slot client timestamp digest slots)
  put_fits small =
      let long = fits.digests_fit.0 in
      let wide = is_digest.0 in
      record {
        counts_long = length-set slots.counts (client.0 - 1) (timestamp / 256) ∙ fits.counts_long;
        counts_fit = put_counts_fit small;
        digests_fit = (
          replaced_length (32 * (client.0 - 1)) (32 * client.0) digest slots.digests (omega arith) (omega arith) ∙ long,
          replaced_bytes (32 * (client.0 - 1)) (32 * client.0) digest slots.digests (omega arith) (omega arith) is_digest.1 fits.digests_fit.1,
        );
        written_fits = fits.written_fits;
      }

-- What 13 lets through: a successor's number.
next_number : (timestamp : ℕ) (t : Timestamp) (client : ClientId) → is_timestamp timestamp (successor t client) ≡ true → timestamp ≡ (t.count + 1) * 256 + client.0
next_number timestamp t client e = go (eqb t.count 4_294_967_295) e
  where
    go : (b : Bool) → is_timestamp timestamp (cond b None (Some (record { count = t.count + 1; client = client }))) ≡ true → timestamp ≡ (t.count + 1) * 256 + client.0
    go true k = apart (cc)
    go false k = eqb-true timestamp ((t.count + 1) * 256 + client.0) k

-- An unused slot, or one that the written timestamp closed, below the new timestamp.
takes_cases : (client : ClientId) (timestamp written : ℕ) (slots : Slots) → slot_takes client timestamp written slots ≡ true
    → (slot_count slots client ≡ 0) ⊎ ((slot_timestamp slots client ≤ written) × (slot_timestamp slots client < timestamp))
takes_cases client timestamp written slots e =
    go (eqb (slot_count slots client) 0) (leb (slot_timestamp slots client) written) (ltb (slot_timestamp slots client) timestamp) refl refl refl
  where
    go : (unused closed below : Bool) → eqb (slot_count slots client) 0 ≡ unused → leb (slot_timestamp slots client) written ≡ closed → ltb (slot_timestamp slots client) timestamp ≡ below
        → (slot_count slots client ≡ 0) ⊎ ((slot_timestamp slots client ≤ written) × (slot_timestamp slots client < timestamp))
    go true closed below u c b = inl (eqb-true (slot_count slots client) 0 u)
    go false true true u c b = inr (leb-true (slot_timestamp slots client) written c, ltb-true (slot_timestamp slots client) timestamp b)
    -- Neither: then it is not taken.
    go false true false u c b = absurd (false≢true (simp (u, c, b) at e))
    go false false below u c b = absurd (false≢true (simp (u, c) at e))

-- A client is this one, or has another number.
for_each : (P : ClientId → Type 0) (client c : ClientId) → P client → ((c.0 ≡ client.0 → ⊥) → P c) → P c
for_each P client c here elsewhere = go (eqb c.0 client.0) refl
  where
    go : (b : Bool) → eqb c.0 client.0 ≡ b → P c
    go true e = let is : client ≡ c = ap {B = ClientId} (λ (i : ℕ). record { 0 = i }) (sym (eqb-true c.0 client.0 e)) in subst P is here
    go false e = elsewhere (eqb-false c.0 client.0 e)

module _ (before : RegisterReplica) (verdicts : List ℕ) (client : ClientId) (timestamp : ℕ) (digest : List ℕ) (proof : Option PreparedProof) (last : Option WrittenProof) (fits : RegisterReplicaFits before)
    (message_fits : Fits (PREPARE client timestamp digest proof last)) (passed : Passed before.f (PREPARE client timestamp digest proof last) verdicts)
    (from_writer : is_writer client ≡ true) (is_next : is_timestamp timestamp (successor (of_number (prepared_timestamp proof)) client) ≡ true) where
  sender_low : 1 ≤ client.0
  sender_low = (bounds 1 64 client.0 from_writer).0

  sender_high : client.0 ≤ 64
  sender_high = (bounds 1 64 client.0 from_writer).1

  own_client : timestamp % 256 ≡ client.0
  own_client = omega (arith, next_number timestamp (of_number (prepared_timestamp proof)) client is_next, sender_high)

  own_count : 1 ≤ timestamp / 256
  own_count = omega (arith, next_number timestamp (of_number (prepared_timestamp proof)) client is_next)

  -- The facts of PREPARED, with the slots afterwards; what is held is as it was.
  abbrev After : Slots → Type 0
  After after = RegisterFacts before verdicts (PREPARE client timestamp digest proof last) (record { message = PREPARED before.id timestamp digest; next = with_slots before after })

  prepared : (after : Slots) → SlotsFit after → number after.written ≡ raised (timestamp_if_there last) before.register.slots
      → ((c : ClientId) → 1 ≤ c.0 → c.0 ≤ 64 → SlotRises before.register.slots after c)
      → slot_count after client ≡ timestamp / 256 → slot_digest after client ≡ digest
      → ((c : ClientId) → 1 ≤ c.0 → c.0 ≤ 64 → SlotChange before.register.slots after (PREPARE client timestamp digest proof last) c) → After after
  unfolding Fits
  prepared after after_fits written rise count_is digest_is change =
      record {
        same_f = refl;
        same_id = refl;
        same_withdrawn = refl;
        fits = record { id_fits = fits.id_fits; slots_fit = after_fits; held_fits = fits.held_fits };
        legal = prepared_legal before.id timestamp digest fits.id_fits message_fits.1 message_fits.2;
        passed = passed;
        reply_is = refl;
        held_change = stays refl;
        held_rises = omega arith;
        signers_held = λ was. was;
        slots_rise = rise;
        prepared_sent = λ id t d e.
            let same_t : t ≡ timestamp = cc in
            let same_d : d ≡ digest = cc in
            let own = own_client in
            (cc, rw (same_t, own) from_writer, rw (same_t, own) count_is, rw (same_t, own, same_d) digest_is);
        prepared_asked = λ id t d e.
            let same_t : t ≡ timestamp = cc in
            let same_d : d ≡ digest = cc in
            let own = own_client in
            (proof, last, rw (same_t, own, same_d) refl);
        written_sent = λ id t e. apart (cc);
        stamp_sent = λ id asked shown c e. apart (cc);
        card_sent = λ id asked card shown c e. apart (cc);
        written_rises = omega (arith, raised_rises (timestamp_if_there last) before.register.slots);
        written_shown = rw written (raised_shown last before.register.slots);
        slot_change = change;
      }

  written_fits : raised (timestamp_if_there last) before.register.slots < 2 ^ 40
  unfolding Fits
  written_fits = raised_fits last before.register.slots fits.slots_fit message_fits.4

  -- The slot has timestamp and digest already.
  prepared_again : slot_is client timestamp digest before.register.slots ≡ true → After (with_written (raised (timestamp_if_there last) before.register.slots) before.register.slots)
  prepared_again e =
      let both = and_true_both (eqb (slot_timestamp before.register.slots client) timestamp) (same (slot_digest before.register.slots client) digest) e in
      let stands = eqb-true (slot_timestamp before.register.slots client) timestamp both.0 in
      let high = sender_high in
      prepared (with_written (raised (timestamp_if_there last) before.register.slots) before.register.slots)
      (written_new_fits (raised (timestamp_if_there last) before.register.slots) before.register.slots fits.slots_fit written_fits)
      (omega arith) (λ c l h. inl (refl, refl)) (omega arith) (same_equal (slot_digest before.register.slots client) digest both.1) (λ c l h. inl refl)

  -- The slot takes them.
  module _ (takes : slot_takes client timestamp (raised (timestamp_if_there last) before.register.slots) before.register.slots ≡ true) where
    after_put : Slots
    after_put = with_written (raised (timestamp_if_there last) before.register.slots) (with_slot client timestamp digest before.register.slots)

    is_digest : IsDigest digest
    unfolding Fits
    is_digest = message_fits.2

    cases : (slot_count before.register.slots client ≡ 0)
        ⊎ ((slot_timestamp before.register.slots client ≤ raised (timestamp_if_there last) before.register.slots) × (slot_timestamp before.register.slots client < timestamp))
    cases = takes_cases client timestamp (raised (timestamp_if_there last) before.register.slots) before.register.slots takes

    count_put : slot_count after_put client ≡ timestamp / 256
    unfolding after_put
    count_put = put_count before.register.slots fits.slots_fit client timestamp digest sender_low sender_high is_digest

    digest_put : slot_digest after_put client ≡ digest
    unfolding after_put
    digest_put = put_digest before.register.slots fits.slots_fit client timestamp digest sender_low sender_high is_digest

    others_kept : (c : ClientId) → 1 ≤ c.0 → (c.0 ≡ client.0 → ⊥)
        → (slot_count after_put c ≡ slot_count before.register.slots c) × (slot_digest after_put c ≡ slot_digest before.register.slots c)
    unfolding after_put
    others_kept = put_other before.register.slots fits.slots_fit client timestamp digest sender_low sender_high is_digest

    count_rises : slot_count before.register.slots client < slot_count after_put client
    count_rises =
        rw count_put
        (⊎_elim {C = slot_count before.register.slots client < timestamp / 256} (λ unused. omega (arith, own_count))
        (λ closed. omega (arith, own_client, sender_high)) cases)

    sender_change : SlotChange before.register.slots after_put (PREPARE client timestamp digest proof last) client
    unfolding after_put
    sender_change =
        let own = own_client in
        let put : slot_timestamp after_put client ≡ timestamp = omega (arith, count_put) in
        inr (⊎_elim (λ unused. inl unused) (λ closed. inr (omega arith)) cases, (digest, proof, last, rw put refl, rw put is_next))

    prepared_new : After after_put
    unfolding Fits after_put
    prepared_new =
        prepared after_put
        (written_new_fits (raised (timestamp_if_there last) before.register.slots) (with_slot client timestamp digest before.register.slots)
        (put_fits before.register.slots fits.slots_fit client timestamp digest sender_low sender_high is_digest message_fits.1) written_fits)
        (omega arith)
        (λ c low high. for_each (λ c. SlotRises before.register.slots after_put c) client c (inr count_rises) (λ other. inl (others_kept c low other)))
        count_put digest_put
        (λ c low high. for_each (λ c. SlotChange before.register.slots after_put (PREPARE client timestamp digest proof last) c) client c sender_change (λ other. inl (others_kept c low other).0))

  after_prepare_lem : Accepts After (after_prepare client timestamp digest (timestamp_if_there last) before.register.slots)
  unfolding after_prepare guard after_put
  after_prepare_lem = go (slot_is client timestamp digest before.register.slots) (slot_takes client timestamp (raised (timestamp_if_there last) before.register.slots) before.register.slots) refl refl
    where
      go : (is takes : Bool) → slot_is client timestamp digest before.register.slots ≡ is → slot_takes client timestamp (raised (timestamp_if_there last) before.register.slots) before.register.slots ≡ takes
          → Accepts After (after_prepare client timestamp digest (timestamp_if_there last) before.register.slots)
      go true takes stands t = simp stands (by_value (prepared_again stands))
      go false true other t = simp (other, t) (by_value (prepared_new t))
      go false false other t = simp (other, t) by_refusal

prepare_facts : (before : RegisterReplica) (verdicts : List ℕ) (client : ClientId) (timestamp : ℕ) (digest : List ℕ) (proof : Option PreparedProof) (last : Option WrittenProof) → RegisterReplicaFits before
    → Fits (PREPARE client timestamp digest proof last) → Passed before.f (PREPARE client timestamp digest proof last) verdicts → is_writer client ≡ true
    → Accepts (RegisterFacts before verdicts (PREPARE client timestamp digest proof last)) (on_prepare before client timestamp digest (timestamp_if_there proof) (timestamp_if_there last))
prepare_facts before verdicts client timestamp digest proof last fits message_fits passed from_writer =
    by_guard 13 (λ is_next.
    by_next (after_prepare_lem before verdicts client timestamp digest proof last fits message_fits passed from_writer is_next) (λ after facts. by_value facts))

-- ---- All kinds

module _ (before : RegisterReplica) (verdicts : List ℕ) (fits : RegisterReplicaFits before) where
  facts : (message : Message) → Fits message → may_send (kind_of message) (sender_of message) ≡ true → Passed before.f message verdicts → Accepts (RegisterFacts before verdicts message) (on_request before message)
  unfolding on_request
  facts (READ-STAMP client nonce) message_fits may passed = stamp_facts before verdicts client nonce fits message_fits passed
  facts (PREPARE client timestamp digest proof last) message_fits may passed = prepare_facts before verdicts client timestamp digest proof last fits message_fits passed may
  facts (WRITE client card proof) message_fits may passed = write_facts before verdicts client card proof fits message_fits passed
  facts (READ client nonce) message_fits may passed = card_facts before verdicts client nonce fits message_fits passed
  facts (STAMP sender nonce proof client) message_fits may passed = by_refusal
  facts (PREPARED sender timestamp digest) message_fits may passed = by_refusal
  facts (WRITTEN sender timestamp) message_fits may passed = by_refusal
  facts (CARD sender nonce card proof client) message_fits may passed = by_refusal

pub register_facts : (before : RegisterReplica) (verdicts : List ℕ) (message : Message) (reply : Reply) → RegisterReplicaFits before → Rattle.wire.specs.Message.Fits message
    → may_send (kind_of message) (sender_of message) ≡ true → Passed before.f message verdicts → on_request before message ≡ accepted reply → RegisterFacts before verdicts message reply
register_facts before verdicts message reply fits message_fits may passed e = (facts before verdicts fits message message_fits may passed).holds reply e
