-- Document 02, #107: messages that are not refused, and operations that finish. Of one register, for any say on which signatures were made.
use Rattle.std.specs.Prelude.{◌≡◌, false, List, ℕ, ◌<◌}
use Rattle.std.proofs.Math.Option.{some}
use Rattle.base.specs.ClientSet.{has}
use Rattle.base.specs.Outcome.{accepted}
use Rattle.base.specs.declared.party.RegisterId.{RegisterId}
use Rattle.base.specs.declared.party.ReplicaId.{ReplicaId}
use Rattle.protocol.specs.Client.{send}
use Rattle.run.specs.Run.{to_replica, Run, event, answer_at}
use Rattle.run.specs.Withdrawals.{withdrawn_at}
use Rattle.wire.specs.Acceptance.{client}
use Rattle.wire.specs.Message.{Message, encode}
use Rattle.wire.specs.Signatures.{Signature}
use Rattle.progress.specs.Delivery.{AtQuorum, Boxed, Replied, Reached}
use Rattle.progress.specs.Operations.{OneLaptop, Invocation, Lasts, Sends, Over}

pub record Progress (R : Run) (x : RegisterId) (Made : Signature → Type 0) : Type 0 where
  -- "where a rule-following, unwithdrawn desk has run from its first nonce on one laptop, no rule-following holder refuses a message of its operation
  -- while that lasts": event t hands the message to a replica, which is correct since it has an event.
  pub not_refused : (o : Invocation R x) (u t : ℕ) (message : Message) (id : ReplicaId) (signature verdicts : List ℕ) → Sends R x o u message → u < t → Lasts R x o t
      → OneLaptop R o.id 0 t → has (withdrawn_at R id t) o.id ≡ false → Boxed R x Made (client o.id) message signature
      → event R t ≡ some (to_replica id (encode x message signature) verdicts) → (reply : Message) × (answer_at R t ≡ accepted (send reply))
  -- "and it finishes at the latest when each message it sent has reached one quorum of rule-following holders and their replies have been delivered to
  -- it, or ends where no successor exists". Where the replies were given, neither orders nor earlier laptops matter.
  pub finishes : (o : Invocation R x) (t : ℕ) → o.begun < t → OneLaptop R o.id o.begun t
      → ((u : ℕ) (message : Message) → u < t → Sends R x o u message → AtQuorum R (Replied R x Made o u message t)) → Over R x o t
  -- Both at once.
  pub delivered : (o : Invocation R x) (t : ℕ) → o.begun < t → OneLaptop R o.id 0 t
      → ((u : ℕ) (message : Message) → u < t → Sends R x o u message → AtQuorum R (Reached R x Made o u message t)) → Over R x o t
