-- Document 01, "Runs": a party's events, and what it makes of each: the step, and the call with its lent output. Viewing clients (document
-- 02, #101) are clients here: a client's number decides which engine its events are at.
use Rattle.std.specs.Prelude.{cond, List, [], ℕ, take}
use Rattle.base.specs.BigEndian.{Bytes}
use Rattle.base.specs.Outcome.{Outcome, accepted, refused, ◌>>=◌}
use Rattle.base.specs.Party.{is_writer}
use Rattle.base.specs.declared.party.ClientId.{ClientId}
use Rattle.base.specs.declared.party.RegisterId.{RegisterId}
use Rattle.wire.specs.Decode.{register_in}
use Rattle.wire.specs.Writing.{unsigned}
use Rattle.protocol.specs.Bank.{with_bank_part, place_in, bank_step, BankCall, bank_call}
use Rattle.protocol.specs.Client.{Answer, send, waits, done, ended, Turn, turn, made_client, begin_write, begin_read, client_step, Response, Send, Counted, Given, giving, ClientCall, leaving, begin_write_call, begin_read_call, client_call}
use Rattle.protocol.specs.Handing.{making, take_proof, TakingCall, hand_call, making_call}
use Rattle.protocol.specs.Order.{take_order, OrderCall, order_call}
use Rattle.protocol.specs.RegisterReplica.{Reply}
use Rattle.protocol.specs.Viewer.{made_viewer, viewer_step, viewer_call}
use Rattle.protocol.specs.declared.client.Client.{Client}
use Rattle.protocol.specs.declared.replica.Bank.{Bank}

-- "a holder or a desk is handed a message, of any bytes and length, with marks of any number and value": the bytes, and the verdicts. At a
-- replica it is a request. Document 02, #105: "handing a holder an order is an event too, refused or not".
pub data ReplicaEvent : Type 0 where
  request_handed : List ℕ → List ℕ → ReplicaEvent
  order_handed : List ℕ → ReplicaEvent

-- What is handed over is bytes, which are below 256; verdicts may be any numbers.
abbrev pub HandsBytes : ReplicaEvent → Type 0
HandsBytes (request_handed bytes verdicts) = Bytes bytes
HandsBytes (order_handed order) = Bytes order

-- At a client it is a reply; "a desk begins a write of some card or begins a read". Document 02, #103: "A desk names its set at each beginning".
pub data ClientEvent : Type 0 where
  write_begun : RegisterId → List ℕ → ClientEvent
  read_begun : RegisterId → ClientEvent
  reply_handed : List ℕ → List ℕ → ClientEvent
  -- Document 02, #106: "making it and handing it a proof are events too, refused or not": a first nonce; a register, a proof's bytes, verdicts.
  made : ℕ → ClientEvent
  proof_handed : RegisterId → List ℕ → List ℕ → ClientEvent

-- The register of an event, and of what is answered to it: the one that is named, or that the message is for. An order and a making are for
-- all of them, and nothing is sent for them: 0 is no register's number.
abbrev pub replica_event_register : ReplicaEvent → RegisterId
replica_event_register (request_handed bytes verdicts) = register_in bytes
replica_event_register (order_handed order) = record { 0 = 0 }

abbrev pub client_event_register : ClientEvent → RegisterId
client_event_register (write_begun x card) = x
client_event_register (read_begun x) = x
client_event_register (reply_handed bytes verdicts) = register_in bytes
client_event_register (made nonce) = record { 0 = 0 }
client_event_register (proof_handed x bytes verdicts) = x

-- ---- A replica

-- An answer, and the bank afterwards.
pub record BankTurn : Type 0 where
  pub answer : Answer
  pub next : Bank

-- A register's reply is to send, and its part goes back to its place.
abbrev pub bank_turn : ℕ → Bank → Outcome Reply → Outcome BankTurn
bank_turn at before (accepted reply) = accepted (record { answer = send reply.message; next = with_bank_part at reply.next before })
bank_turn at before (refused number) = refused number

-- An order that is taken answers as what is counted does: nothing is to send.
abbrev pub order_turn : Outcome Bank → Outcome BankTurn
order_turn (accepted next) = accepted (record { answer = waits; next = next })
order_turn (refused number) = refused number

-- The step of an event.
abbrev pub on_replica_event : ReplicaEvent → Bank → Outcome BankTurn
on_replica_event (request_handed bytes verdicts) before = bank_turn (place_in bytes) before (bank_step before bytes verdicts)
on_replica_event (order_handed order) before = order_turn (take_order before order)

-- The record that a step leaves, "a refusal leaves it as it was", and its answer alone.
abbrev pub next_bank : Bank → Outcome BankTurn → Bank
next_bank before (accepted turn) = turn.next
next_bank before (refused number) = before

abbrev pub bank_answer : Outcome BankTurn → Outcome Answer
bank_answer (accepted turn) = accepted turn.answer
bank_answer (refused number) = refused number

-- The bytes that an answer sends for a register, their signature as zeros. A taken order's answer sends none; the last two are a client's.
abbrev pub sent_for : RegisterId → Answer → List ℕ
sent_for register (send message) = unsigned register message
sent_for register waits = []
sent_for register (done timestamp card signers) = []
sent_for register ended = []

-- What a correct replica answers, as bytes. With room for every reply, so that refusal 1 is never one of them.
unfoldable pub expected : Bank → ReplicaEvent → Outcome (List ℕ)
expected bank e = bank_answer (on_replica_event e bank) >>= λ answer. accepted (sent_for (replica_event_register e) answer)

-- The bank that it leaves.
abbrev pub bank_after : Bank → ReplicaEvent → Bank
bank_after bank e = next_bank bank (on_replica_event e bank)

-- What a call answered, as bytes: its reply stands in front of its output.
abbrev pub answered_by : Outcome ℕ → List ℕ → Outcome (List ℕ)
answered_by (accepted size) output = accepted (take size output)
answered_by (refused number) output = refused number

-- What a replica answers to a request is one of the answers of a client, and so is what it answers to an order.
abbrev pub as_client_answer : Outcome ℕ → Outcome Response
as_client_answer (accepted size) = accepted (Send size)
as_client_answer (refused number) = refused number

abbrev pub taking_answer : Outcome (Unit {0}) → Outcome Response
taking_answer (accepted taken) = accepted Counted
taking_answer (refused number) = refused number

-- What an event's call leaves: what it gives, with no card beside it, and the bank. "No output is lent with an order": one that there was
-- stays as it was.
pub record ReplicaCall : Type 0 where
  pub gives : Given
  pub bank : Bank

abbrev pub after_request : BankCall → ReplicaCall
after_request call = record { gives = giving (as_client_answer call.answer) [] call.output; bank = call.bank }

abbrev pub after_order : List ℕ → OrderCall → ReplicaCall
after_order old call = record { gives = giving (taking_answer call.answer) [] old; bank = call.bank }

abbrev pub replica_event_call : ReplicaEvent → List ℕ → Bank → ReplicaCall
replica_event_call (request_handed bytes verdicts) old before = after_request (bank_call before bytes verdicts old)
replica_event_call (order_handed order) old before = after_order old (order_call before order)

-- ---- A client

-- By its number, "viewing desks, with an engine of their own": how it is made, and what it makes of a message.
abbrev pub made_with : ℕ → ClientId → ℕ → Client
made_with f id first_nonce = cond (is_writer id) (made_client f id first_nonce) (made_viewer f id first_nonce)

abbrev pub handed_step : ClientId → Client → List ℕ → List ℕ → Outcome Turn
handed_step id before bytes verdicts = cond (is_writer id) (client_step before bytes verdicts) (viewer_step before bytes verdicts)

abbrev pub handed_call : ClientId → Client → List ℕ → List ℕ → List ℕ → ClientCall
handed_call id before bytes verdicts old = cond (is_writer id) (client_call before bytes verdicts old) (viewer_call before bytes verdicts old)

-- A making and a proof that is taken answer as what is counted does: nothing is to send.
abbrev pub taking_turn : Outcome Client → Outcome Turn
taking_turn (accepted next) = turn waits next
taking_turn (refused number) = refused number

abbrev pub after_taking : List ℕ → TakingCall → ClientCall
after_taking old call = leaving call.client (giving (taking_answer call.answer) [] old)

-- The step of an event, and its call, with the f that a client is made with.
abbrev pub on_client_event : ℕ → ClientId → ClientEvent → Client → Outcome Turn
on_client_event f id (write_begun x card) before = begin_write before x card
on_client_event f id (read_begun x) before = begin_read before x
on_client_event f id (reply_handed bytes verdicts) before = handed_step id before bytes verdicts
on_client_event f id (made nonce) before = taking_turn (making f id nonce)
on_client_event f id (proof_handed x bytes verdicts) before = taking_turn (take_proof before x bytes verdicts)

abbrev pub client_event_call : ℕ → ClientId → ClientEvent → List ℕ → Client → ClientCall
client_event_call f id (write_begun x card) old before = begin_write_call before x card old
client_event_call f id (read_begun x) old before = begin_read_call before x old
client_event_call f id (reply_handed bytes verdicts) old before = handed_call id before bytes verdicts old
client_event_call f id (made nonce) old before = after_taking old (making_call f id nonce before)
client_event_call f id (proof_handed x bytes verdicts) old before = after_taking old (hand_call before x bytes verdicts)

-- The record that a step leaves, and its answer alone.
abbrev pub next_client : Client → Outcome Turn → Client
next_client before (accepted turn) = turn.next
next_client before (refused number) = before

abbrev pub client_answer : Outcome Turn → Outcome Answer
client_answer (accepted turn) = accepted turn.answer
client_answer (refused number) = refused number

abbrev pub given_by_client : ClientCall → Given
given_by_client call = record { answer = call.answer; card_length = call.card_length; card = call.card; output = call.output }
