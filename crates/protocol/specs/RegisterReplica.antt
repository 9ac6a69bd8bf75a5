-- Document 01, "A holder": what a replica makes of a message, with one register. `Bank` has the sixteen.
use Rattle.std.specs.Prelude.{Bool, false, ◌&&◌, ◌||◌, cond, List, ◌++◌, ℕ, ◌+◌, ◌-◌, ◌*◌, ◌/◌, max, eqb, leb, ltb, length, get_or, take, drop, set, replicate}
use Rattle.std.proofs.Math.Option.{Option, some}
use Rattle.std.specs.declared.option.Option.{Option as CodeOption}
use Rattle.std.specs.declared.option.Option.TheVariants.{Some, None}
use Rattle.base.specs.Bytes.{filled}
use Rattle.base.specs.ClientSet.{nobody}
use Rattle.base.specs.Outcome.{Outcome, accepted, refused, guard, ◌>>=◌}
use Rattle.base.specs.ReplicaSet.{empty}
use Rattle.base.specs.Same.{same}
use Rattle.base.specs.Timestamp.{number, of_number, start, successor}
use Rattle.base.specs.declared.party.ClientId.{ClientId}
use Rattle.base.specs.declared.party.RegisterId.{RegisterId}
use Rattle.base.specs.declared.party.ReplicaId.{ReplicaId}
use Rattle.base.specs.declared.timestamp.Timestamp.{Timestamp}
use Rattle.wire.specs.Acceptance.{admitted}
use Rattle.wire.specs.Decode.{register_in}
use Rattle.wire.specs.Message.{Message, READ-STAMP, PREPARE, WRITE, READ, STAMP, PREPARED, WRITTEN, CARD}
use Rattle.wire.specs.Proof.{PreparedProof, signer_set, entries_bytes}
use Rattle.wire.specs.Writing.{unsigned, roomy, in_front}
use Rattle.wire.specs.declared.message.Party.TheVariants.{Replica as AtReplica}
use Rattle.wire.specs.Layout.{card_room, entries_room}
use Rattle.protocol.specs.Parts.{card_kept, entries_kept, if_issued, card_stands}
use Rattle.protocol.specs.declared.replica.Held.{Held}
use Rattle.protocol.specs.declared.replica.Register.{Register}
use Rattle.protocol.specs.declared.replica.RegisterReplica.{RegisterReplica}
use Rattle.protocol.specs.declared.replica.Slots.{Slots}
use Rattle.wire.specs.Parts.{timestamp_if_there}

-- ---- What a register holds

abbrev pub held_timestamp : Held → ℕ
held_timestamp held = number held.timestamp

abbrev pub held_card : Held → List ℕ
held_card held = card_kept held.card held.card_length

abbrev pub held_proof : Held → Option PreparedProof
held_proof held =
    if_issued (held_timestamp held) (record { timestamp = held_timestamp held; digest = held.digest; entries = entries_kept held.entries held.entry_count })

-- "64 lines, one per desk, each a count and a digest, count 0 for an unused line": the slot of a client.
abbrev pub slot_count : Slots → ClientId → ℕ
slot_count slots client = get_or slots.counts (client.0 - 1) 0

abbrev pub slot_digest : Slots → ClientId → List ℕ
slot_digest slots client = take 32 (drop (32 * (client.0 - 1)) slots.digests)

-- A slot's timestamp: its count and its client.
abbrev pub slot_timestamp : Slots → ClientId → ℕ
slot_timestamp slots client = slot_count slots client * 256 + client.0

-- "Its record has a stamp, card and prepared proof (starting at 0.0), a written stamp (0.0), and 64 lines"
unfoldable pub fresh_register : Register
fresh_register =
    record {
      slots = record { counts = replicate 64 0; digests = replicate 2048 0; written = start };
      held =
          record {
            timestamp = start;
            card_length = 2;
            card = replicate card_room 0;
            digest = replicate 32 0;
            signers = empty;
            entry_count = 0;
            entries = replicate entries_room 0;
          };
    }

abbrev pub fresh_register_replica : ℕ → ReplicaId → RegisterReplica
fresh_register_replica f id = record { f = f; id = id; register = fresh_register; withdrawn = nobody }

-- The record of no replica.
abbrev pub no_register_replica : RegisterReplica
no_register_replica = fresh_register_replica 0 (record { 0 = 0 })

-- ---- What a register does

-- A timestamp and digest put into a client's slot.
abbrev pub with_slot : ClientId → ℕ → List ℕ → Slots → Slots
with_slot client timestamp digest slots =
    record {
      counts = set slots.counts (client.0 - 1) (timestamp / 256);
      digests = take (32 * (client.0 - 1)) slots.digests ++ (digest ++ drop (32 * client.0) slots.digests);
      written = slots.written;
    }

abbrev pub with_written : ℕ → Slots → Slots
with_written written slots = record { counts = slots.counts; digests = slots.digests; written = of_number written }

-- "take the written proof's stamp as the written stamp if larger"
abbrev pub raised : ℕ → Slots → ℕ
raised last slots = max (number slots.written) last

-- "If the line equals the stamp and digest"
abbrev pub slot_is : ClientId → ℕ → List ℕ → Slots → Bool
slot_is client timestamp digest slots = eqb (slot_timestamp slots client) timestamp && same (slot_digest slots client) digest

-- "If the line is unused, or its stamp is at most the written stamp and below the new one"
abbrev pub slot_takes : ClientId → ℕ → ℕ → Slots → Bool
slot_takes client timestamp written slots =
    eqb (slot_count slots client) 0 || (leb (slot_timestamp slots client) written && ltb (slot_timestamp slots client) timestamp)

-- PREPARE: the slots afterwards, or 15: "No PREPARE rule above takes the stamp and digest."
unfoldable pub after_prepare : ClientId → ℕ → List ℕ → ℕ → Slots → Outcome Slots
after_prepare client timestamp digest last slots =
    let written = raised last slots in
    cond (slot_is client timestamp digest slots) (accepted (with_written written slots))
    (guard 15 (slot_takes client timestamp written slots) (accepted (with_written written (with_slot client timestamp digest slots))))

-- A card and its prepared proof, as they are held. Document 02, #102: "Holders keep that set with the held proof".
abbrev pub holding : List ℕ → PreparedProof → Held
holding card proof =
    record {
      timestamp = of_number proof.timestamp;
      card_length = length card;
      card = filled card_room card;
      digest = proof.digest;
      signers = signer_set proof.entries;
      entry_count = length proof.entries;
      entries = filled entries_room (entries_bytes proof.entries);
    }

-- WRITE: whether the proof's timestamp is larger than the held one.
abbrev pub is_later : PreparedProof → Held → Bool
is_later proof held = ltb (held_timestamp held) proof.timestamp

-- WRITE: "if the proof's stamp is larger than the held one, hold its card, stamp and proof"
unfoldable pub after_write : List ℕ → PreparedProof → Held → Held
after_write card proof held = cond (ltb (held_timestamp held) proof.timestamp) (holding card proof) held

-- ---- What a replica does

-- 13: "The PREPARE stamp is not the successor of the proof's stamp for the sender."
abbrev pub is_timestamp : ℕ → CodeOption Timestamp → Bool
is_timestamp timestamp None = false
is_timestamp timestamp (Some next) = eqb timestamp (number next)

-- A reply, and the record afterwards.
pub record Reply : Type 0 where
  pub message : Message
  pub next : RegisterReplica

abbrev pub with_slots : RegisterReplica → Slots → RegisterReplica
with_slots replica slots = record { f = replica.f; id = replica.id; register = record { slots = slots; held = replica.register.held }; withdrawn = replica.withdrawn }

abbrev pub with_held : RegisterReplica → Held → RegisterReplica
with_held replica held = record { f = replica.f; id = replica.id; register = record { slots = replica.register.slots; held = held }; withdrawn = replica.withdrawn }

abbrev pub answering : Message → RegisterReplica → Outcome Reply
answering message next = accepted (record { message = message; next = next })

-- "READ-STAMP: STAMP with the nonce, the desk and the proof."
abbrev pub on_read_stamp : RegisterReplica → ClientId → ℕ → Outcome Reply
on_read_stamp replica client nonce = answering (STAMP replica.id nonce (held_proof replica.register.held) client) replica

-- PREPARE, with the timestamps of the prepared and the written proof that it shows, 0.0 for a missing one. Document 02, #106: "a PREPARE may show a
-- written proof of any desk, for the same set. Test 12 falls away." So nothing else in the two proofs counts here.
abbrev pub on_prepare : RegisterReplica → ClientId → ℕ → List ℕ → ℕ → ℕ → Outcome Reply
on_prepare replica client timestamp digest shown last =
    guard 13 (is_timestamp timestamp (successor (of_number shown) client))
    (after_prepare client timestamp digest last replica.register.slots >>= λ slots.
    answering (PREPARED replica.id timestamp digest) (with_slots replica slots))

-- "WRITTEN with the proof's stamp, stored or not."
abbrev pub on_write : RegisterReplica → List ℕ → PreparedProof → Outcome Reply
on_write replica card proof =
    guard 14 (card_stands card (some proof))
    (answering (WRITTEN replica.id proof.timestamp) (with_held replica (after_write card proof replica.register.held)))

-- "READ: CARD."
abbrev pub on_read : RegisterReplica → ClientId → ℕ → Outcome Reply
on_read replica client nonce = answering (CARD replica.id nonce (held_card replica.register.held) (held_proof replica.register.held) client) replica

-- The four requests, once 2 to 11 are passed. The other kinds do not get here: 5 refuses them.
unfoldable pub on_request : RegisterReplica → Message → Outcome Reply
on_request replica (READ-STAMP client nonce) = on_read_stamp replica client nonce
on_request replica (PREPARE client timestamp digest proof last) = on_prepare replica client timestamp digest (timestamp_if_there proof) (timestamp_if_there last)
on_request replica (WRITE client card proof) = on_write replica card proof
on_request replica (READ client nonce) = on_read replica client nonce
on_request replica (STAMP sender nonce proof client) = refused 5
on_request replica (PREPARED sender timestamp digest) = refused 5
on_request replica (WRITTEN sender timestamp) = refused 5
on_request replica (CARD sender nonce card proof client) = refused 5

-- A replica is handed bytes with verdicts.
unfoldable pub register_step : RegisterReplica → List ℕ → List ℕ → Outcome Reply
register_step replica bytes verdicts = admitted AtReplica replica.f replica.withdrawn bytes verdicts >>= λ sent. on_request replica sent.1

-- ---- The call

-- What a call of a replica leaves: its answer, which is the length of the message to send, or the refusal; record, and the output buffer.
pub record RegisterCall : Type 0 where
  pub answer : Outcome ℕ
  pub replica : RegisterReplica
  pub output : List ℕ

-- The length of the message that a reply sends, for the register that was asked for.
abbrev pub sent_length : RegisterId → Outcome Reply → Outcome ℕ
sent_length register (accepted reply) = accepted (length (unsigned register reply.message))
sent_length register (refused number) = refused number

-- "A refusal is its number alone; record and lent bytes keep their old contents."
abbrev pub register_answers : RegisterId → RegisterReplica → List ℕ → Outcome Reply → RegisterCall
register_answers register replica old (accepted reply) =
    record { answer = accepted (length (unsigned register reply.message)); replica = reply.next; output = in_front (unsigned register reply.message) old }
register_answers register replica old (refused number) = record { answer = refused number; replica = replica; output = old }

-- 1: "The output is shorter than" the longest message, which has 1,580 bytes (document 02, #103).
abbrev pub with_output : {A : Type 0} → List ℕ → Outcome A → Outcome A
with_output old next = guard 1 (roomy old) next

-- The reply is for the register that the message was for.
unfoldable pub register_call : RegisterReplica → List ℕ → List ℕ → List ℕ → RegisterCall
register_call replica bytes verdicts old = register_answers (register_in bytes) replica old (with_output old (register_step replica bytes verdicts))
