-- Document 02, #107: the three further conditions on verdicts (marks) under which operations are not refused and finish.
use Rattle.std.specs.Prelude.{◌≡◌, true, List, [], ℕ, ◌<◌, ◌≤◌, length}
use Rattle.std.proofs.Math.Option.{Option, none, some}
use Rattle.std.proofs.Math.ListN.{get_elem?}
use Rattle.protocol.specs.Events.{request_handed, order_handed, write_begun, read_begun, reply_handed, made, proof_handed}
use Rattle.run.specs.Run.{Event, at_replica, at_client, Run, event, Correct, Sent}
use Rattle.wire.specs.Checks.{verdicts_fit}
use Rattle.wire.specs.Signatures.{Signature, signatures_to, handed_signatures}
use Rattle.wire.specs.declared.message.Party.TheVariants.{Replica as AtReplica, Client as AtClient}

-- The signatures (seals) that come with an event: of a message that passes 2 to 5 "the message's own first, then entries in order", of a handed
-- proof its entries'. Other bytes have none, and an order's is not judged by marks.
abbrev pub signatures_at : Option Event → List Signature
signatures_at none = []
signatures_at (some (at_replica id (request_handed bytes verdicts))) = signatures_to AtReplica bytes
signatures_at (some (at_replica id (order_handed order))) = []
signatures_at (some (at_client id (write_begun x card))) = []
signatures_at (some (at_client id (read_begun x))) = []
signatures_at (some (at_client id (reply_handed bytes verdicts))) = signatures_to AtClient bytes
signatures_at (some (at_client id (made nonce))) = []
signatures_at (some (at_client id (proof_handed x bytes verdicts))) = handed_signatures x bytes

-- The verdicts that come with it.
abbrev pub verdicts_at : Option Event → List ℕ
verdicts_at none = []
verdicts_at (some (at_replica id (request_handed bytes verdicts))) = verdicts
verdicts_at (some (at_replica id (order_handed order))) = []
verdicts_at (some (at_client id (write_begun x card))) = []
verdicts_at (some (at_client id (read_begun x))) = []
verdicts_at (some (at_client id (reply_handed bytes verdicts))) = verdicts
verdicts_at (some (at_client id (made nonce))) = []
verdicts_at (some (at_client id (proof_handed x bytes verdicts))) = verdicts

-- A signature and a verdict stand at one place of their lists.
abbrev pub Beside : List Signature → List ℕ → Signature → ℕ → Type 0
Beside signatures verdicts s v = (i : ℕ) × (get_elem? signatures i ≡ some s) × (get_elem? verdicts i ≡ some v)

module _ (R : Run) where
  -- At event t this signature came with this verdict.
  abbrev pub SignedAt : ℕ → Signature → ℕ → Type 0
  SignedAt t s v = Beside (signatures_at (event R t)) (verdicts_at (event R t)) s v

  -- Which signatures the parties' boxes made is for the reader to say.
  pub record Judged (Made : Signature → Type 0) : Type 0 where
    -- M1: "each seal comes with one mark", 0 or 1
    pub one_each : (t : ℕ) → 1 ≤ length (signatures_at (event R t)) → verdicts_fit (length (signatures_at (event R t))) (verdicts_at (event R t)) ≡ true
    -- M2: "every seal a rule-follower did make is marked genuine"
    pub made_genuine : (t : ℕ) (s : Signature) (v : ℕ) → SignedAt t s v → Correct R s.signer → Sent R s.signer s.covers t → Made s → v ≡ 1
    -- M3: "a seal marked genuine by one party is marked so by all": from then on, whoever made it
    pub genuine_for_all : (u t : ℕ) (s : Signature) (v : ℕ) → SignedAt u s 1 → u < t → SignedAt t s v → v ≡ 1
