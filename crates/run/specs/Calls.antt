-- Document 01, "Runs": "Each event is one call, with a lent output of its own." What the engines' calls make of a run's events,
-- and that this is the run.
use Rattle.std.specs.Prelude.{◌≡◌, true, cond, List, ℕ, zero, suc, eqb}
use Rattle.std.proofs.Math.Option.{Option, none, some}
use Rattle.base.specs.declared.party.ClientId.{ClientId}
use Rattle.base.specs.declared.party.ReplicaId.{ReplicaId}
use Rattle.protocol.specs.Bank.{made_bank}
use Rattle.protocol.specs.Client.{Given, given}
use Rattle.protocol.specs.Events.{replica_event_call, made_with, client_event_call, given_by_client}
use Rattle.protocol.specs.declared.client.Client.{Client}
use Rattle.protocol.specs.declared.replica.Bank.{Bank}
use Rattle.run.specs.Run.{Event, at_replica, at_client, register_of, Run, event, bank_at, client_at, answer_at}

-- The record that an event's call leaves to its party; another party's event leaves it.
abbrev pub called_at_replica : ReplicaId → Option Event → List ℕ → Bank → Bank
called_at_replica id none old before = before
called_at_replica id (some (at_replica at e)) old before = cond (eqb at.0 id.0) (replica_event_call e old before).bank before
called_at_replica id (some (at_client at e)) old before = before

-- With the run's f, which a client is made again with.
abbrev pub called_at_client : ℕ → ClientId → Option Event → List ℕ → Client → Client
called_at_client f id none old before = before
called_at_client f id (some (at_replica at e)) old before = before
called_at_client f id (some (at_client at e)) old before = cond (eqb at.0 id.0) (client_event_call f at e old before).client before

-- `output t` is what the output that is lent to event t's call holds before it.
module _ (R : Run) (output : ℕ → List ℕ) where
  -- The records before event t: those that set-up made, handed from call to call.
  unfoldable pub called_replica : ReplicaId → ℕ → Bank
  called_replica id zero = made_bank R.f id (R.office_key id)
  called_replica id (suc t) = called_at_replica id (event R t) (output t) (called_replica id t)

  unfoldable pub called_client : ClientId → ℕ → Client
  called_client id zero = made_with R.f id (R.first_nonce_lem id)
  called_client id (suc t) = called_at_client R.f id (event R t) (output t) (called_client id t)

  -- What the call of an event at time t gives back.
  unfoldable pub given_at : ℕ → Event → Given
  given_at t (at_replica id e) = (replica_event_call e (output t) (called_replica id t)).gives
  given_at t (at_client id e) = given_by_client (client_event_call R.f id e (output t) (called_client id t))

  pub record CallsAreRun : Type 0 where
    -- "Each is set up once, before the first event, with the run's f and its own number" .. "Its party gets the record that its
    -- own last event left, at first the fresh one, and nobody else writes that record."
    pub replicas : (id : ReplicaId) → R.correct_replica id ≡ true → (t : ℕ) → called_replica id t ≡ bank_at R id t
    pub clients : (id : ClientId) → R.correct_client id ≡ true → (t : ℕ) → called_client id t ≡ client_at R id t
    -- "Each event is one call, with a lent output of its own.": it gives the run's answer.
    pub answers : (t : ℕ) (e : Event) → event R t ≡ some e → given_at t e ≡ given (register_of e) (output t) (answer_at R t)
