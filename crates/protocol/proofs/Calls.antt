-- Calls and steps: an output long enough leaves answer and record to the step, a shorter one refuses with 1; the call of an event. Assumes nothing.
use mathlib.Core.Path.{◌≡◌, refl, sym, ap, subst, ◌∙◌}
use mathlib.Core.Bool.{Bool, true, false, cond}
use mathlib.Core.List.{List}
use Prim.Native.Nat.{ℕ, ◌≤◌, ◌<◌}
use borrow.Author.Tests.{le-leb, lt-leb}
use lib.Dec.{leb}
use lib.ListN.{length, drop}
use lib.Seq.{take-append_seam}
use Rattle.base.specs.Outcome.{Outcome, accepted, refused, ◌>>=◌}
use Rattle.base.proofs.Outcome.{guard_passes, guard_refuses}
use Rattle.base.specs.Party.{is_writer, client_setup}
use Rattle.base.specs.declared.party.ClientId.{ClientId}
use Rattle.base.specs.declared.party.RegisterId.{RegisterId}
use Rattle.wire.specs.Decode.{register_in}
use Rattle.wire.specs.Message.{Message, longest}
use Rattle.wire.specs.Writing.{unsigned}
use Rattle.protocol.specs.Bank.{bank_part, place_in, bank_step, BankCall, put_back, bank_call}
use Rattle.protocol.specs.Client.{Answer, send, waits, done, ended, Turn, turn, fresh_client, client_if_set_up, given, ClientCall, client_answers, begin_write, begin_read, client_step, begin_write_call, begin_read_call, client_call}
use Rattle.protocol.specs.Events.{ReplicaEvent, ClientEvent, request_handed, order_handed, write_begun, read_begun, reply_handed, made, proof_handed, replica_event_register, BankTurn, bank_turn, order_turn, on_replica_event, next_bank, bank_answer, sent_for, expected, bank_after, answered_by, ReplicaCall, after_request, after_order, replica_event_call, handed_step, handed_call, taking_turn, after_taking, on_client_event, client_event_call, next_client, client_answer, given_by_client}
use Rattle.protocol.specs.Handing.{making, take_proof, taking_answers, hand_call, making_call}
use Rattle.protocol.specs.Order.{take_order, order_answers, order_call}
use Rattle.protocol.specs.RegisterReplica.{Reply, register_answers, with_output, register_step, RegisterCall, register_call}
use Rattle.protocol.specs.Viewer.{viewer_step, viewer_call}
use Rattle.protocol.specs.declared.client.Client.{Client}
use Rattle.protocol.specs.declared.replica.Bank.{Bank}
use Rattle.protocol.specs.declared.replica.RegisterReplica.{RegisterReplica}
use Rattle.protocol.proofs.BankFacts.{part_itself, refused_back}

module _ {A : Type 0} (old : List ℕ) (next : Outcome A) where
  pub long_output : longest ≤ length old → with_output old next ≡ next
  long_output h = guard_passes 1 (leb longest (length old)) next (le-leb longest (length old) h)

  pub short_output : length old < longest → with_output old next ≡ refused 1
  short_output h = guard_refuses 1 (leb longest (length old)) next (lt-leb longest (length old) h)

-- ---- A replica

module _ (replica : RegisterReplica) (bytes verdicts old : List ℕ) where
  -- A call whose output is long enough does what the step says.
  pub register_takes : longest ≤ length old → register_call replica bytes verdicts old ≡ register_answers (register_in bytes) replica old (register_step replica bytes verdicts)
  unfolding register_call
  register_takes h = ap (register_answers (register_in bytes) replica old) (long_output old (register_step replica bytes verdicts) h)

  pub register_short : length old < longest → register_call replica bytes verdicts old ≡ record { answer = refused 1; replica = replica; output = old }
  unfolding register_call
  register_short h = ap (register_answers (register_in bytes) replica old) (short_output old (register_step replica bytes verdicts) h)

-- The same of a bank.
request_takes : (bank : Bank) (bytes verdicts old : List ℕ) → longest ≤ length old
    → bank_call bank bytes verdicts old ≡ put_back (place_in bytes) bank (register_answers (register_in bytes) (bank_part (place_in bytes) bank) old (bank_step bank bytes verdicts))
unfolding bank_call bank_step
request_takes bank bytes verdicts old long = ap (put_back (place_in bytes) bank) (register_takes (bank_part (place_in bytes) bank) bytes verdicts old long)

pub request_short : (bank : Bank) (bytes verdicts old : List ℕ) → length old < longest → bank_call bank bytes verdicts old ≡ record { answer = refused 1; bank = bank; output = old }
unfolding bank_call
request_short bank bytes verdicts old short =
    ap (put_back (place_in bytes) bank) (register_short (bank_part (place_in bytes) bank) bytes verdicts old short)
    ∙ refused_back bank bytes verdicts old (place_in bytes) 1

-- ---- A client, each of its three calls, and what a viewing client hears

module _ (client : Client) (old : List ℕ) (long : longest ≤ length old) where
  pub begin_write_takes : (register : RegisterId) (card : List ℕ) → begin_write_call client register card old ≡ client_answers client old (begin_write client register card)
  unfolding begin_write_call
  begin_write_takes register card = ap (client_answers client old) (long_output old (begin_write client register card) long)

  pub begin_read_takes : (register : RegisterId) → begin_read_call client register old ≡ client_answers client old (begin_read client register)
  unfolding begin_read_call
  begin_read_takes register = ap (client_answers client old) (long_output old (begin_read client register) long)

  pub client_step_takes : (bytes verdicts : List ℕ) → client_call client bytes verdicts old ≡ client_answers client old (client_step client bytes verdicts)
  unfolding client_call
  client_step_takes bytes verdicts = ap (client_answers client old) (long_output old (client_step client bytes verdicts) long)

  pub viewer_step_takes : (bytes verdicts : List ℕ) → viewer_call client bytes verdicts old ≡ client_answers client old (viewer_step client bytes verdicts)
  unfolding viewer_call
  viewer_step_takes bytes verdicts = ap (client_answers client old) (long_output old (viewer_step client bytes verdicts) long)

  handed_step_takes : (id : ClientId) (bytes verdicts : List ℕ) → handed_call id client bytes verdicts old ≡ client_answers client old (handed_step id client bytes verdicts)
  handed_step_takes id bytes verdicts = go (is_writer id)
    where
      go : (w : Bool) → cond w (client_call client bytes verdicts old) (viewer_call client bytes verdicts old) ≡ client_answers client old (cond w (client_step client bytes verdicts) (viewer_step client bytes verdicts))
      go true = client_step_takes bytes verdicts
      go false = viewer_step_takes bytes verdicts

-- ---- An event's call leaves the record that the event leaves, and gives its answer

pub record ReplicaSays (register : RegisterId) (before : Bank) (old : List ℕ) (step : Outcome BankTurn) (made : ReplicaCall) : Type 0 where
  pub leaves : made.bank ≡ next_bank before step
  pub gives : made.gives ≡ given register old (bank_answer step)

pub record ClientSays (before : Client) (old : List ℕ) (step : Outcome Turn) (made : ClientCall) : Type 0 where
  pub leaves : made.client ≡ next_client before step
  -- What is sent is for the register of the record afterwards.
  pub gives : (register : RegisterId) → ((turn : Turn) (message : Message) → step ≡ accepted turn → turn.answer ≡ send message → turn.next.register ≡ register)
      → given_by_client made ≡ given register old (client_answer step)

replica_says : (at : ℕ) (register : RegisterId) (before : Bank) (old : List ℕ) (step : Outcome Reply)
    → ReplicaSays register before old (bank_turn at before step) (after_request (put_back at before (register_answers register (bank_part at before) old step)))
replica_says at register before old (accepted reply) = record { leaves = refl; gives = refl }
replica_says at register before old (refused number) = record { leaves = part_itself before at; gives = refl }

order_says : (register : RegisterId) (before : Bank) (old : List ℕ) (step : Outcome Bank)
    → ReplicaSays register before old (order_turn step) (after_order old (order_answers before step))
order_says register before old (accepted next) = record { leaves = refl; gives = refl }
order_says register before old (refused number) = record { leaves = refl; gives = refl }

answer_says : (before : Client) (old : List ℕ) (answer : Answer) (next : Client)
    → ClientSays before old (turn answer next) (client_answers before old (turn answer next))
answer_says before old (send message) next =
    record { leaves = refl; gives = λ register is. ap (λ (r : RegisterId). given r old (accepted (send message))) (is (record { answer = send message; next = next }) message refl refl) }
answer_says before old waits next = record { leaves = refl; gives = λ register is. refl }
answer_says before old (done timestamp card signers) next = record { leaves = refl; gives = λ register is. refl }
answer_says before old ended next = record { leaves = refl; gives = λ register is. refl }

client_says : (before : Client) (old : List ℕ) (step : Outcome Turn) → ClientSays before old step (client_answers before old step)
client_says before old (accepted turn) = answer_says before old turn.answer turn.next
client_says before old (refused number) = record { leaves = refl; gives = λ register is. refl }

-- A proof handed over, and a client made again by the call that sets one up.
taking_says : (before : Client) (old : List ℕ) (step : Outcome Client) → ClientSays before old (taking_turn step) (after_taking old (taking_answers before step))
taking_says before old (accepted next) = record { leaves = refl; gives = λ register is. refl }
taking_says before old (refused number) = record { leaves = refl; gives = λ register is. refl }

-- The record that a set-up makes, where it is not refused, is a fresh one: of a client (`making`) and of a viewing client.
pub made_same : (setup : Outcome (Unit {0})) (fresh : Client) → (setup >>= λ ready. accepted (client_if_set_up setup fresh)) ≡ (setup >>= λ ready. accepted fresh)
made_same (accepted ready) fresh = refl
made_same (refused number) fresh = refl

module _ (old : List ℕ) (long : longest ≤ length old) where
  pub replica_called : (e : ReplicaEvent) (before : Bank) → ReplicaSays (replica_event_register e) before old (on_replica_event e before) (replica_event_call e old before)
  unfolding order_call
  replica_called (request_handed bytes verdicts) before =
      subst (λ (made : BankCall). ReplicaSays (register_in bytes) before old (on_replica_event (request_handed bytes verdicts) before) (after_request made))
      (sym (request_takes before bytes verdicts old long)) (replica_says (place_in bytes) (register_in bytes) before old (bank_step before bytes verdicts))
  replica_called (order_handed order) before = order_says (replica_event_register (order_handed order)) before old (take_order before order)

  pub client_called : (f : ℕ) (id : ClientId) (e : ClientEvent) (before : Client) → ClientSays before old (on_client_event f id e before) (client_event_call f id e old before)
  unfolding hand_call making_call
  client_called f id (write_begun x card) before = rw (begin_write_takes before old long x card) (client_says before old (begin_write before x card))
  client_called f id (read_begun x) before = rw (begin_read_takes before old long x) (client_says before old (begin_read before x))
  client_called f id (reply_handed bytes verdicts) before = rw (handed_step_takes before old long id bytes verdicts) (client_says before old (handed_step id before bytes verdicts))
  client_called f id (made nonce) before = rw (made_same (client_setup f id nonce) (fresh_client f id nonce)) (taking_says before old (making f id nonce))
  client_called f id (proof_handed x bytes verdicts) before = taking_says before old (take_proof before x bytes verdicts)

-- ---- A request's call answers as bytes what is expected, and leaves the bank of the step

module _ (bank : Bank) (bytes verdicts old : List ℕ) (long : longest ≤ length old) where
  pub request_answers : answered_by (bank_call bank bytes verdicts old).answer (bank_call bank bytes verdicts old).output ≡ expected bank (request_handed bytes verdicts)
  unfolding expected
  request_answers = ap (λ (call : BankCall). answered_by call.answer call.output) (request_takes bank bytes verdicts old long) ∙ go (bank_step bank bytes verdicts)
    where
      calls : Outcome Reply → RegisterCall
      calls step = register_answers (register_in bytes) (bank_part (place_in bytes) bank) old step

      go : (step : Outcome Reply) → answered_by (calls step).answer (calls step).output ≡ (bank_answer (bank_turn (place_in bytes) bank step) >>= λ answer. accepted (sent_for (register_in bytes) answer))
      go (accepted reply) = ap accepted (take-append_seam (unsigned (register_in bytes) reply.message) (drop (length (unsigned (register_in bytes) reply.message)) old))
      go (refused number) = refl

  pub request_leaves : (bank_call bank bytes verdicts old).bank ≡ bank_after bank (request_handed bytes verdicts)
  request_leaves = (replica_called old long (request_handed bytes verdicts) bank).leaves
