-- The premises of demand 3: few faulty replicas, true verdicts (marks), new nonces for clients that are made again, no two cards with one digest.
use Rattle.std.specs.Prelude.{◌≡◌, not, List, [], ◌∷◌, ℕ, ◌≤◌, ◌<◌}
use Rattle.std.proofs.Math.Option.{Option, none, some}
use Rattle.base.specs.Counting.{count}
use Rattle.base.specs.Outcome.{Outcome, accepted, refused}
use Rattle.base.specs.Party.{replica_count}
use Rattle.base.specs.declared.party.ClientId.{ClientId}
use Rattle.base.specs.declared.party.RegisterId.{RegisterId}
use Rattle.protocol.specs.Client.{Answer}
use Rattle.wire.specs.Acceptance.{client}
use Rattle.wire.specs.Decode.{decode}
use Rattle.wire.specs.Message.{Message, READ-STAMP, PREPARE, WRITE, READ, STAMP, PREPARED, WRITTEN, CARD}
use Rattle.wire.specs.Sha256.{sha256}
use Rattle.wire.specs.Signatures.{Signature, signatures_of}
use Rattle.wire.specs.declared.message.Party.TheVariants.{Replica as AtReplica, Client as AtClient}
use Rattle.protocol.specs.Events.{request_handed, order_handed, write_begun, read_begun, reply_handed, made, proof_handed}
use Rattle.run.specs.Run.{Event, at_replica, at_client, makes, Run, event, answer_at, Correct, Said, Sent}

-- A question of a client, with a nonce.
pub data Asks (id : ClientId) (nonce : ℕ) (message : Message) : Type 0 where
  for_stamps : message ≡ READ-STAMP id nonce → Asks id nonce message
  for_cards : message ≡ READ id nonce → Asks id nonce message

module _ (R : Run) where
  -- "A mark is true when a seal of a rule-follower is marked 1 only if that party sent that message earlier."
  unfoldable pub TrueVerdicts : ℕ → List Signature → List ℕ → Type 0
  TrueVerdicts t [] verdicts = Unit {0}
  TrueVerdicts t (signature ∷ signatures) [] = Unit {0}
  TrueVerdicts t (signature ∷ signatures) (verdict ∷ verdicts) =
      (verdict ≡ 1 → Correct R signature.signer → Sent R signature.signer signature.covers t) × TrueVerdicts t signatures verdicts

  -- Asked only of bytes that are a message for their party (2 to 5 passed). Document 02, #103: "an entry's seal is that of a message for the
  -- set that its proof is shown for".
  abbrev pub TrueFor : ℕ → List ℕ → List ℕ → Outcome (RegisterId × Message) → Type 0
  TrueFor t bytes verdicts (accepted sent) = TrueVerdicts t (signatures_of bytes sent) verdicts
  TrueFor t bytes verdicts (refused number) = Unit {0}

  unfoldable pub TrueAt : ℕ → Option Event → Type 0
  TrueAt t none = Unit {0}
  TrueAt t (some (at_client id (write_begun x card))) = Unit {0}
  TrueAt t (some (at_client id (read_begun x))) = Unit {0}
  TrueAt t (some (at_replica id (request_handed bytes verdicts))) = TrueFor t bytes verdicts (decode AtReplica bytes)
  TrueAt t (some (at_replica id (order_handed order))) = Unit {0}
  TrueAt t (some (at_client id (reply_handed bytes verdicts))) = TrueFor t bytes verdicts (decode AtClient bytes)
  TrueAt t (some (at_client id (made nonce))) = Unit {0}
  -- Nothing is asked of a handed proof's verdicts: the replicas that the proof is shown to judge it for themselves.
  TrueAt t (some (at_client id (proof_handed x bytes verdicts))) = Unit {0}

  -- "The cards of a run are those that a write was begun with or that a message carried, in events not refused"
  abbrev pub carried_by : Outcome (RegisterId × Message) → Option (List ℕ)
  carried_by (accepted (x, WRITE id card proof)) = some card
  carried_by (accepted (x, CARD id nonce card proof addressed)) = some card
  carried_by (accepted (x, READ-STAMP id nonce)) = none
  carried_by (accepted (x, PREPARE id timestamp digest proof last)) = none
  carried_by (accepted (x, READ id nonce)) = none
  carried_by (accepted (x, STAMP id nonce proof addressed)) = none
  carried_by (accepted (x, PREPARED id timestamp digest)) = none
  carried_by (accepted (x, WRITTEN id timestamp)) = none
  carried_by (refused number) = none

  abbrev pub event_card : Option Event → Option (List ℕ)
  event_card none = none
  event_card (some (at_client id (write_begun x card))) = some card
  event_card (some (at_client id (read_begun x))) = none
  event_card (some (at_replica id (request_handed bytes verdicts))) = carried_by (decode AtReplica bytes)
  event_card (some (at_replica id (order_handed order))) = none
  event_card (some (at_client id (reply_handed bytes verdicts))) = carried_by (decode AtClient bytes)
  event_card (some (at_client id (made nonce))) = none
  event_card (some (at_client id (proof_handed x bytes verdicts))) = none

  -- Event t is not refused.
  abbrev pub Accepted : ℕ → Type 0
  Accepted t = (answer : Answer) × (answer_at R t ≡ accepted answer)

  pub record CardOfRun (card : List ℕ) : Type 0 where
    pub time : ℕ
    pub carried : event_card (event R time) ≡ some card
    pub not_refused : Accepted time

  -- A nonce "used under that number" before event t: the client sent a READ-STAMP or a READ with it, for any register, on this laptop or an earlier one.
  abbrev pub Used : ClientId → ℕ → ℕ → Type 0
  Used id n t = (x : RegisterId) × (message : Message) × Asks id n message × Said R x (client id) message t

  -- Document 02, #106: "a first nonce above all used under that number". A refused making uses none.
  abbrev pub NewNonces : Type 0
  NewNonces = (t : ℕ) (id : ClientId) (nonce : ℕ) → event R t ≡ some (makes id nonce) → Accepted t → (n : ℕ) → Used id n t → n < nonce

  -- "The rule-followers are all holders but f at most"
  abbrev pub FewFaulty : Type 0
  FewFaulty = count (replica_count R.f) (λ id. not (R.correct_replica id)) ≤ R.f

  pub record Premises : Type 0 where
    -- "at most f holders break the rules"
    pub few_faulty : FewFaulty
    -- "seal marks are true": "All marks handed over are true at their event."
    pub true_verdicts_lem : (t : ℕ) → TrueAt t (event R t)
    -- Document 02, #106, of clients that are made again
    pub new_nonces_lem : NewNonces
    -- "no two cards in the run share a digest"
    pub different_digests_lem : (card card' : List ℕ) → CardOfRun card → CardOfRun card' → sha256 card ≡ sha256 card' → card ≡ card'
