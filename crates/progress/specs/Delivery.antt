-- Document 02, #107: "each message it sent has reached one quorum of rule-following holders and their replies have been delivered to it". A message
-- reaches a replica after it was sent, and a reply is delivered after it was given.
use Rattle.std.specs.Prelude.{◌≡◌, Bool, true, false, List, ℕ, ◌<◌, ◌≤◌, length}
use Rattle.std.proofs.Math.Option.{some}
use Rattle.base.specs.ClientSet.{has}
use Rattle.base.specs.Counting.{count}
use Rattle.base.specs.Outcome.{accepted}
use Rattle.base.specs.Party.{replica_count, quorum_size}
use Rattle.base.specs.declared.party.RegisterId.{RegisterId}
use Rattle.base.specs.declared.party.ReplicaId.{ReplicaId}
use Rattle.protocol.specs.Client.{send}
use Rattle.run.specs.Run.{to_replica, to_client, Run, event, answer_at}
use Rattle.run.specs.Withdrawals.{withdrawn_at}
use Rattle.wire.specs.Acceptance.{Sender, replica, client}
use Rattle.wire.specs.Message.{Message, body, encode}
use Rattle.wire.specs.Signatures.{Signature}
use Rattle.progress.specs.Operations.{Invocation}

-- So it is with each replica of one quorum of correct ones.
pub record AtQuorum (R : Run) (So : ReplicaId → Type 0) : Type 0 where
  pub who : ReplicaId → Bool
  pub enough : quorum_size R.f ≤ count (replica_count R.f) who
  pub correct : (id : ReplicaId) → who id ≡ true → R.correct_replica id ≡ true
  pub each : (id : ReplicaId) → who id ≡ true → So id

module _ (R : Run) (x : RegisterId) (Made : Signature → Type 0) where
  -- 64 bytes that the sender's box made for a message of the register.
  pub record Boxed (sender : Sender) (message : Message) (signature : List ℕ) : Type 0 where
    pub long : length signature ≡ 64
    pub made : Made (record { signer = sender; covers = body x message; bytes = signature })

  -- A message that was sent at event u is handed to a replica after that, at i, with a signature.
  pub record Handed (u : ℕ) (message : Message) (id : ReplicaId) : Type 0 where
    pub i : ℕ
    pub after_sent : u < i
    pub signature : List ℕ
    pub verdicts : List ℕ
    pub event_is : event R i ≡ some (to_replica id (encode x message signature) verdicts)

  -- A replica's reply, given at event i, is handed to the operation's client after that, at j, and before event t.
  pub record Delivered (o : Invocation R x) (t : ℕ) (id : ReplicaId) (i : ℕ) (reply : Message) : Type 0 where
    pub j : ℕ
    pub after_given : i < j
    pub before : j < t
    pub signature : List ℕ
    pub verdicts : List ℕ
    pub boxed : Boxed (replica id) reply signature
    pub event_is : event R j ≡ some (to_client o.id (encode x reply signature) verdicts)

  -- A message that the operation sent at event u is handed to a replica and answered, and the reply is delivered before event t.
  pub record Replied (o : Invocation R x) (u : ℕ) (message : Message) (t : ℕ) (id : ReplicaId) : Type 0 where
    pub handed : Handed u message id
    pub long : length handed.signature ≡ 64
    pub reply : Message
    pub replies : answer_at R handed.i ≡ accepted (send reply)
    pub delivered : Delivered o t id handed.i reply

  -- The same without saying that it is answered: it is handed over before event t as the client's box signed it, where the client is not withdrawn, and
  -- whatever is answered is delivered.
  pub record Reached (o : Invocation R x) (u : ℕ) (message : Message) (t : ℕ) (id : ReplicaId) : Type 0 where
    pub handed : Handed u message id
    pub before : handed.i < t
    pub boxed : Boxed (client o.id) message handed.signature
    pub not_withdrawn : has (withdrawn_at R id handed.i) o.id ≡ false
    pub delivered : (reply : Message) → answer_at R handed.i ≡ accepted (send reply) → Delivered o t id handed.i reply
