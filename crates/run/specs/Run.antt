-- Document 01, "Runs": events at correct parties (rule-followers), their records, and what was sent earlier.
use Rattle.std.specs.Prelude.{◌≡◌, Bool, true, cond, List, ℕ, zero, suc, ◌<◌, ◌≤◌, ◌^◌, eqb}
use Rattle.std.proofs.Math.Option.{Option, none, some}
use Rattle.std.proofs.Math.ListN.{get_elem?}
use Rattle.base.specs.BigEndian.{Bytes}
use Rattle.base.specs.Outcome.{Outcome, accepted, refused}
use Rattle.base.specs.Party.{is_fault_bound, is_replica, is_client, is_writer, register_place}
use Rattle.base.specs.declared.party.ClientId.{ClientId}
use Rattle.base.specs.declared.party.RegisterId.{RegisterId}
use Rattle.base.specs.declared.party.ReplicaId.{ReplicaId}
use Rattle.lms.specs.Lms.{is_public_key}
use Rattle.protocol.specs.Bank.{bank_part, fresh_bank}
use Rattle.protocol.specs.Client.{Answer, send, fresh_client}
use Rattle.protocol.specs.Events.{ReplicaEvent, ClientEvent, HandsBytes, request_handed, order_handed, write_begun, read_begun, reply_handed, made, proof_handed, replica_event_register, client_event_register, on_replica_event, next_bank, bank_answer, on_client_event, next_client, client_answer}
use Rattle.protocol.specs.RegisterReplica.{held_timestamp}
use Rattle.protocol.specs.declared.client.Client.{Client}
use Rattle.protocol.specs.declared.replica.Bank.{Bank}
use Rattle.protocol.specs.declared.replica.Register.{Register}
use Rattle.protocol.specs.declared.replica.RegisterReplica.{RegisterReplica}
use Rattle.wire.specs.Acceptance.{Sender, replica, client}
use Rattle.wire.specs.Message.{Message, body}

-- An event is at a replica or at a client.
pub data Event : Type 0 where
  at_replica : ReplicaId → ReplicaEvent → Event
  at_client : ClientId → ClientEvent → Event

abbrev pub begins_write : ClientId → RegisterId → List ℕ → Event
begins_write id x card = at_client id (write_begun x card)

abbrev pub begins_read : ClientId → RegisterId → Event
begins_read id x = at_client id (read_begun x)

abbrev pub to_replica : ReplicaId → List ℕ → List ℕ → Event
to_replica id bytes verdicts = at_replica id (request_handed bytes verdicts)

abbrev pub order_to : ReplicaId → List ℕ → Event
order_to id order = at_replica id (order_handed order)

abbrev pub to_client : ClientId → List ℕ → List ℕ → Event
to_client id bytes verdicts = at_client id (reply_handed bytes verdicts)

-- Document 02, #106: a client is made again, and is handed a written proof.
abbrev pub makes : ClientId → ℕ → Event
makes id nonce = at_client id (made nonce)

abbrev pub proof_to : ClientId → RegisterId → List ℕ → List ℕ → Event
proof_to id x bytes verdicts = at_client id (proof_handed x bytes verdicts)

-- The party of an event, as a sender of messages, and its register. A client that is made again "counts as the same desk": what it sent stays sent.
abbrev pub party_of : Event → Sender
party_of (at_replica id e) = replica id
party_of (at_client id e) = client id

abbrev pub register_of : Event → RegisterId
register_of (at_replica id e) = replica_event_register e
register_of (at_client id e) = client_event_register e

-- What is handed over is bytes, and a first nonce has eight of them.
abbrev pub HasBytes : Event → Type 0
HasBytes (at_replica id e) = HandsBytes e
HasBytes (at_client id (write_begun x card)) = Bytes card
HasBytes (at_client id (read_begun x)) = Unit {0}
HasBytes (at_client id (reply_handed bytes verdicts)) = Bytes bytes
HasBytes (at_client id (made nonce)) = nonce < 2 ^ 64
HasBytes (at_client id (proof_handed x bytes verdicts)) = Bytes bytes

abbrev pub CorrectIn : (ReplicaId → Bool) → (ClientId → Bool) → Sender → Type 0
CorrectIn correct_replica correct_client (replica id) = correct_replica id ≡ true
CorrectIn correct_replica correct_client (client id) = correct_client id ≡ true

-- A run: the fault bound, who is correct, the correct clients' first nonces, the correct replicas' keys, and the events. "Each is set up
-- once, before the first event, with the run's f and its own number, a desk with any first nonce but 0." Document 02, #105: "The holder is
-- set up with the key"; nobody says that all have one key.
pub record Run : Type 0 where
  pub f : ℕ
  pub correct_replica : ReplicaId → Bool
  pub correct_client : ClientId → Bool
  pub first_nonce_lem : ClientId → ℕ
  pub office_key : ReplicaId → List ℕ
  pub events : List Event
  pub f_in_range : is_fault_bound f ≡ true
  pub replicas_in_range : (id : ReplicaId) → correct_replica id ≡ true → is_replica f id ≡ true
  pub clients_in_range : (id : ClientId) → correct_client id ≡ true → (is_client id ≡ true) × (1 ≤ first_nonce_lem id) × (first_nonce_lem id < 2 ^ 64)
  pub keys_in_range : (id : ReplicaId) → correct_replica id ≡ true → (is_public_key (office_key id) ≡ true) × Bytes (office_key id)
  -- A viewing client has no write to begin,
  pub writers_begin : (t : ℕ) (id : ClientId) (x : RegisterId) (card : List ℕ) → get_elem? events t ≡ some (begins_write id x card) → is_writer id ≡ true
  -- is not made again, and is handed no written proof.
  pub writers_made : (t : ℕ) (id : ClientId) (nonce : ℕ) → get_elem? events t ≡ some (makes id nonce) → is_writer id ≡ true
  pub writers_take : (t : ℕ) (id : ClientId) (x : RegisterId) (bytes verdicts : List ℕ) → get_elem? events t ≡ some (proof_to id x bytes verdicts) → is_writer id ≡ true
  pub have_bytes : (t : ℕ) (e : Event) → get_elem? events t ≡ some e → HasBytes e
  pub at_correct : (t : ℕ) (e : Event) → get_elem? events t ≡ some e → CorrectIn correct_replica correct_client (party_of e)

-- "Its party gets the record that its own last event left"; another party's event leaves it.
abbrev pub after_at_replica : ReplicaId → Option Event → Bank → Bank
after_at_replica id none before = before
after_at_replica id (some (at_replica at e)) before = cond (eqb at.0 id.0) (next_bank before (on_replica_event e before)) before
after_at_replica id (some (at_client at e)) before = before

-- With the run's f, which a client is made again with.
abbrev pub after_at_client : ℕ → ClientId → Option Event → Client → Client
after_at_client f id none before = before
after_at_client f id (some (at_replica at e)) before = before
after_at_client f id (some (at_client at e)) before = cond (eqb at.0 id.0) (next_client before (on_client_event f at e before)) before

module _ (R : Run) where
  -- Event t, counted from 0.
  abbrev pub event : ℕ → Option Event
  event t = get_elem? R.events t

  -- The records before event t, "at first the fresh one".
  unfoldable pub bank_at : ReplicaId → ℕ → Bank
  bank_at id zero = fresh_bank R.f id (R.office_key id)
  bank_at id (suc t) = after_at_replica id (event t) (bank_at id t)

  unfoldable pub client_at : ClientId → ℕ → Client
  client_at id zero = fresh_client R.f id (R.first_nonce_lem id)
  client_at id (suc t) = after_at_client R.f id (event t) (client_at id t)

  -- The answer to an event at time t; where there is none, a refusal without a number of document 01's.
  unfoldable pub answer_to : ℕ → Option Event → Outcome Answer
  answer_to t none = refused 0
  answer_to t (some (at_replica id e)) = bank_answer (on_replica_event e (bank_at id t))
  answer_to t (some (at_client id e)) = client_answer (on_client_event R.f id e (client_at id t))

  abbrev pub answer_at : ℕ → Outcome Answer
  answer_at t = answer_to t (event t)

  abbrev pub At : ℕ → Sender → Type 0
  At t party = (e : Event) × (event t ≡ some e) × (party_of e ≡ party)

  abbrev pub Correct : Sender → Type 0
  Correct party = CorrectIn R.correct_replica R.correct_client party

  -- One register of a replica before event t, with the replica's f and number, and alone.
  abbrev pub register_replica_at : RegisterId → ReplicaId → ℕ → RegisterReplica
  register_replica_at x id t = bank_part (register_place x) (bank_at id t)

  abbrev pub register_at : RegisterId → ReplicaId → ℕ → Register
  register_at x id t = (register_replica_at x id t).register

  -- The timestamp that it holds.
  abbrev pub held : RegisterId → ReplicaId → ℕ → ℕ
  held x id t = held_timestamp (register_at x id t).held

  -- "one of its earlier events was answered with it": the party said this message, for this register, before event t.
  pub record Said (x : RegisterId) (party : Sender) (message : Message) (t : ℕ) : Type 0 where
    pub time : ℕ
    pub earlier : time < t
    pub by : At time party
    pub register_is : register_of by.0 ≡ x
    pub answered : answer_at time ≡ accepted (send message)

  -- "A party sent a message earlier if one of its earlier events was answered with it, all bytes before the seal being equal."
  pub record Sent (party : Sender) (bytes : List ℕ) (t : ℕ) : Type 0 where
    pub register : RegisterId
    pub message : Message
    pub said : Said register party message t
    pub same_bytes : body register message ≡ bytes
