-- Document 02, #107: an operation of a register from its beginning to its end: while it lasts, what it sends, and when it is over. Views are
-- operations too.
use Rattle.std.specs.Prelude.{◌≡◌, ◌⊎◌, Bool, List, ℕ, ◌<◌, ◌≤◌}
use Rattle.std.proofs.Math.Option.{some}
use Rattle.base.specs.Outcome.{accepted}
use Rattle.base.specs.declared.party.ClientId.{ClientId}
use Rattle.base.specs.declared.party.RegisterId.{RegisterId}
use Rattle.base.specs.declared.replica_set.ReplicaSet.{ReplicaSet}
use Rattle.base.specs.declared.timestamp.Timestamp.{Timestamp}
use Rattle.protocol.specs.Client.{send, done, ended}
use Rattle.run.specs.Claims.{Begins, GoesOn}
use Rattle.run.specs.Premises.{Accepted}
use Rattle.run.specs.Run.{makes, Run, event, answer_at, At}
use Rattle.wire.specs.Acceptance.{client}
use Rattle.wire.specs.Message.{Message}

-- "on one laptop": at no event from `from` on, before t, is the client made again. A refused making changes nothing.
abbrev pub OneLaptop : Run → ClientId → ℕ → ℕ → Type 0
OneLaptop R id from t = (u nonce : ℕ) → from ≤ u → u < t → event R u ≡ some (makes id nonce) → Accepted R u → ⊥

module _ (R : Run) (x : RegisterId) where
  -- A read, write or view of the register that a client began, and that was not refused.
  pub record Invocation : Type 0 where
    pub id : ClientId
    pub is_write_lem : Bool
    pub begun : ℕ
    pub begins : Begins R x is_write_lem id (event R begun)
    pub not_refused : Accepted R begun

  -- "while that lasts": at event t it has begun, and since then its client was neither done nor ended, nor made again.
  pub record Lasts (o : Invocation) (t : ℕ) : Type 0 where
    pub has_begun : o.begun ≤ t
    pub goes_on : (u : ℕ) → o.begun < u → u < t → At R u (client o.id) → GoesOn R u

  -- A message of the operation, sent at event u.
  pub record Sends (o : Invocation) (u : ℕ) (message : Message) : Type 0 where
    pub lasts : Lasts o u
    pub by : At R u (client o.id)
    pub answered : answer_at R u ≡ accepted (send message)

  -- The last one that it has sent before event t.
  pub record SentLast (o : Invocation) (t u : ℕ) (message : Message) : Type 0 where
    pub sends : Sends o u message
    pub before : u < t
    pub none_since : (v : ℕ) (other : Message) → u < v → v < t → Sends o v other → ⊥

  -- Done, or ended.
  abbrev pub IsEnd : ℕ → Type 0
  IsEnd t = ((timestamp : Timestamp) × (card : List ℕ) × (signers : ReplicaSet) × (answer_at R t ≡ accepted (done timestamp card signers))) ⊎ (answer_at R t ≡ accepted ended)

  -- The operation's end stands before event t.
  pub record Over (o : Invocation) (t : ℕ) : Type 0 where
    pub end : ℕ
    pub after : o.begun < end
    pub before : end < t
    pub lasts : Lasts o end
    pub at_client : At R end (client o.id)
    pub is_end : IsEnd end
