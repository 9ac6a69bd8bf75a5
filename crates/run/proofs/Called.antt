-- The engines' calls, one for each event, leave the run's records and give its answers. Assumes nothing.
use mathlib.Core.Path.{◌≡◌, refl, sym, ap, ◌∙◌}
use mathlib.Core.Bool.{Bool, true, false, cond}
use mathlib.Core.List.{List}
use mathlib.Core.Option.{Option, none, some}
use Prim.Native.Nat.{ℕ, zero, suc, ◌≤◌}
use borrow.Author.Tests.{le-leb}
use lib.Dec.{eqb}
use lib.ListN.{length}
use Rattle.base.specs.Outcome.{Outcome, accepted, refused, guard}
use Rattle.base.specs.Party.{is_writer}
use Rattle.base.specs.declared.party.ClientId.{ClientId}
use Rattle.base.specs.declared.party.ReplicaId.{ReplicaId}
use Rattle.base.proofs.Apart.{apart}
use Rattle.wire.specs.Message.{Message, longest}
use Rattle.wire.specs.declared.message.Party.TheVariants.{Client as AtClient}
use Rattle.wire.proofs.OneForm.{found_register}
use Rattle.protocol.specs.Client.{send, waits, Turn, fresh_client, given}
use Rattle.protocol.specs.Bank.{fresh_bank, made_bank}
use Rattle.protocol.specs.declared.client.Client.{Client}
use Rattle.protocol.specs.declared.replica.Bank.{Bank}
use Rattle.protocol.proofs.ClientFacts.{begins_write as begins_write_facts, begins_read as begins_read_facts}
use Rattle.protocol.proofs.Calls.{replica_called, client_called}
use Rattle.protocol.specs.Events.{ClientEvent, write_begun, read_begun, reply_handed, made, proof_handed, replica_event_call, made_with, taking_turn, on_client_event}
use Rattle.protocol.specs.Handing.{making, take_proof}
use Rattle.run.specs.Calls.{called_at_replica, called_at_client, called_replica, called_client, given_at, CallsAreRun}
use Rattle.run.specs.Run.{Event, at_replica, at_client, begins_write, begins_read, to_client, register_of, Run, after_at_replica, after_at_client, event, bank_at, client_at, answer_to}
use Rattle.run.proofs.Turns.{good_client, handed_takes}

module _ (old : List ℕ) (long : longest ≤ length old) where
  -- An event's call leaves the record that the event leaves.
  replica_left : (id : ReplicaId) (e : Option Event) (before : Bank) → called_at_replica id e old before ≡ after_at_replica id e before
  replica_left id none before = refl
  replica_left id (some (at_replica at e)) before = ap (λ (r : Bank). cond (eqb at.0 id.0) r before) (replica_called old long e before).leaves
  replica_left id (some (at_client at e)) before = refl

  client_left : (f : ℕ) (id : ClientId) (e : Option Event) (before : Client) → called_at_client f id e old before ≡ after_at_client f id e before
  client_left f id none before = refl
  client_left f id (some (at_replica at e)) before = refl
  client_left f id (some (at_client at e)) before = ap (λ (c : Client). cond (eqb at.0 id.0) c before) (client_called old long f at e before).leaves

-- ---- All calls of a run

module _ (R : Run) (output : ℕ → List ℕ) (long : (t : ℕ) → longest ≤ length (output t)) where
  made_replica : (id : ReplicaId) → R.correct_replica id ≡ true → made_bank R.f id (R.office_key id) ≡ fresh_bank R.f id (R.office_key id)
  unfolding made_bank guard
  made_replica id c = rw (R.f_in_range, R.replicas_in_range id c, (R.keys_in_range id c).0)

  made_client_lem : (id : ClientId) → R.correct_client id ≡ true → made_with R.f id (R.first_nonce_lem id) ≡ fresh_client R.f id (R.first_nonce_lem id)
  unfolding guard
  made_client_lem id c = go (is_writer id) refl
    where
      -- Its number is a writer's, or a client's that is no writer.
      go : (w : Bool) → is_writer id ≡ w → made_with R.f id (R.first_nonce_lem id) ≡ fresh_client R.f id (R.first_nonce_lem id)
      go true q = let r = R.clients_in_range id c in rw (q, R.f_in_range, le-leb 1 (R.first_nonce_lem id) r.1)
      go false q = let r = R.clients_in_range id c in rw (q, R.f_in_range, r.0, le-leb 1 (R.first_nonce_lem id) r.1)

  replicas : (id : ReplicaId) → R.correct_replica id ≡ true → (t : ℕ) → called_replica R output id t ≡ bank_at R id t
  unfolding bank_at called_replica
  replicas id c zero = made_replica id c
  replicas id c (suc t) = replica_left (output t) (long t) id (event R t) (called_replica R output id t) ∙ ap (after_at_replica id (event R t)) (replicas id c t)

  clients : (id : ClientId) → R.correct_client id ≡ true → (t : ℕ) → called_client R output id t ≡ client_at R id t
  unfolding client_at called_client
  clients id c zero = made_client_lem id c
  clients id c (suc t) = client_left (output t) (long t) R.f id (event R t) (called_client R output id t) ∙ ap (after_at_client R.f id (event R t)) (clients id c t)

  -- A client that sends a message at its event is left with the event's register; what it takes sends none.
  taking_sends_none : {A : Type 0} (step : Outcome Client) (turn : Turn) (message : Message) → taking_turn step ≡ accepted turn → turn.answer ≡ send message → A
  taking_sends_none (accepted next) turn message e sends = let is : waits ≡ turn.answer = cc in apart (cc)
  taking_sends_none (refused number) turn message e sends = apart (cc)

  event_for : (id : ClientId) (t : ℕ) (e : ClientEvent) → event R t ≡ some (at_client id e) → (turn : Turn) (message : Message) → on_client_event R.f id e (client_at R id t) ≡ accepted turn
      → turn.answer ≡ send message → turn.next.register ≡ register_of (at_client id e)
  event_for id t (write_begun x card) q turn m e sends =
      (begins_write_facts (client_at R id t) x card turn (good_client R id (R.at_correct t (begins_write id x card) q) t).fits (R.have_bytes t (begins_write id x card) q) e).register_is
  event_for id t (read_begun x) q turn m e sends = (begins_read_facts (client_at R id t) x turn (good_client R id (R.at_correct t (begins_read id x) q) t).fits e).register_is
  event_for id t (reply_handed bytes verdicts) q turn m e sends =
      let here = to_client id bytes verdicts in
      let (message, admitted, stepped, facts) = handed_takes R id (client_at R id t) bytes verdicts turn (good_client R id (R.at_correct t here q) t) (R.have_bytes t here q) e in
      facts.same_register ∙ sym (found_register AtClient bytes (client_at R id t).register message admitted.decodes)
  event_for id t (made nonce) q turn m e sends = taking_sends_none (making R.f id nonce) turn m e sends
  event_for id t (proof_handed x bytes verdicts) q turn m e sends = taking_sends_none (take_proof (client_at R id t) x bytes verdicts) turn m e sends

  answers_to : (t : ℕ) (e : Event) → event R t ≡ some e → given_at R output t e ≡ given (register_of e) (output t) (answer_to R t (some e))
  unfolding given_at answer_to
  answers_to t (at_replica id e) q =
      ap (λ (bank : Bank). (replica_event_call e (output t) bank).gives) (replicas id (R.at_correct t (at_replica id e) q) t) ∙ (replica_called (output t) (long t) e (bank_at R id t)).gives
  answers_to t (at_client id e) q =
      rw (clients id (R.at_correct t (at_client id e) q) t) ((client_called (output t) (long t) R.f id e (client_at R id t)).gives (register_of (at_client id e)) (event_for id t e q))

  -- For every run, whatever stood in the outputs.
  pub calls_are_run : CallsAreRun R output
  calls_are_run = record { replicas = replicas; clients = clients; answers = λ t e q. rw q (answers_to t e q) }
