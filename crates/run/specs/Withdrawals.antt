-- Document 02, #105: who is withdrawn at a replica, and what becomes of its requests there. No premise is needed.
use Rattle.std.specs.Prelude.{◌≡◌, true, List, ℕ, ◌<◌, ◌≤◌}
use Rattle.std.proofs.Math.Option.{some}
use Rattle.base.specs.ClientSet.{has}
use Rattle.base.specs.Outcome.{accepted, refused}
use Rattle.base.specs.Party.{is_register}
use Rattle.base.specs.declared.client_set.ClientSet.{ClientSet}
use Rattle.base.specs.declared.party.ClientId.{ClientId}
use Rattle.base.specs.declared.party.RegisterId.{RegisterId}
use Rattle.base.specs.declared.party.ReplicaId.{ReplicaId}
use Rattle.protocol.specs.Order.{is_signed}
use Rattle.wire.specs.Acceptance.{client, sender_of, may_send}
use Rattle.wire.specs.Checks.{one_verdict_each, own_genuine}
use Rattle.wire.specs.Decode.{for_register, decode}
use Rattle.wire.specs.Message.{Message, kind_of}
use Rattle.wire.specs.Order.{client_named}
use Rattle.wire.specs.declared.message.Party.TheVariants.{Replica as AtReplica}
use Rattle.run.specs.Premises.{Accepted}
use Rattle.run.specs.Run.{to_replica, order_to, Run, event, bank_at, answer_at}

module _ (R : Run) where
  -- The withdrawn clients of a replica before event t.
  abbrev pub withdrawn_at : ReplicaId → ℕ → ClientSet
  withdrawn_at id t = (bank_at R id t).withdrawn

  -- Before event t the replica was handed an order that names this client, and took it.
  pub record OrderTaken (id : ReplicaId) (c : ClientId) (t : ℕ) : Type 0 where
    pub time : ℕ
    pub earlier : time < t
    pub order : List ℕ
    pub event_is : event R time ≡ some (order_to id order)
    pub names : client_named order ≡ c
    pub taken : Accepted R time

  -- Event u hands the replica a message of this client: 2 to 5 let it through.
  pub record FromClient (id : ReplicaId) (c : ClientId) (u : ℕ) : Type 0 where
    pub bytes : List ℕ
    pub verdicts : List ℕ
    pub register : RegisterId
    pub message : Message
    pub event_is : event R u ≡ some (to_replica id bytes verdicts)
    pub decoded : decode AtReplica bytes ≡ accepted (for_register register message)
    pub sender : sender_of message ≡ client c

  -- 19, 20, 7 and 8 let it through as well; 6 does, where an order named the client.
  pub record PassesEight (id : ReplicaId) (c : ClientId) (u : ℕ) : Type 0 where
    pub from : FromClient id c u
    pub may_send_lem : may_send (kind_of from.message) (client c) ≡ true
    pub registered : is_register from.register ≡ true
    pub one_each : one_verdict_each from.message from.verdicts ≡ true
    pub own : own_genuine from.verdicts ≡ true

  pub record Withdrawals : Type 0 where
    -- "A good one is answered "taken" and marks the desk withdrawn for good, for every set.": just the clients that orders named.
    pub withdrawn_by : (id : ReplicaId) (c : ClientId) (t : ℕ) → has (withdrawn_at id t) c ≡ true → OrderTaken id c t
    pub withdraws : (id : ReplicaId) (c : ClientId) (t : ℕ) → OrderTaken id c t → has (withdrawn_at id t) c ≡ true
    -- "under the office key": such an order's signature is genuine under the key that the replica was set up with.
    pub signed : (id : ReplicaId) (c : ClientId) (t : ℕ) (o : OrderTaken id c t) → is_signed (R.office_key id) o.order ≡ true
    -- From then on the replica takes no message of that client, of any kind and for any register,
    pub shut_out : (id : ReplicaId) (c : ClientId) (t u : ℕ) → OrderTaken id c t → t ≤ u → FromClient id c u → Accepted R u → ⊥
    -- and where 19, 20, 7 and 8 pass it answers 23.
    pub refused_23 : (id : ReplicaId) (c : ClientId) (t u : ℕ) → OrderTaken id c t → t ≤ u → PassesEight id c u → answer_at R u ≡ refused 23
