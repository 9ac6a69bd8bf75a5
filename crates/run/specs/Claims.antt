-- The claims of demand 3 of one register: genuine prepared proofs, finished operations, and their order; and views beside them. Document 02,
-- #103: "One digest per stamp, the order of reads and writes and #101's claim on screens are wanted per set."
use Rattle.std.specs.Prelude.{◌≡◌, ◌⊎◌, Bool, true, false, List, ℕ, ◌<◌, ◌≤◌, length}
use Rattle.std.proofs.Math.Option.{Option, some}
use Rattle.base.specs.BigEndian.{Bytes}
use Rattle.base.specs.Outcome.{accepted}
use Rattle.base.specs.Party.{is_writer, is_viewer}
use Rattle.base.specs.Timestamp.{number}
use Rattle.base.specs.declared.party.ClientId.{ClientId}
use Rattle.base.specs.declared.party.RegisterId.{RegisterId}
use Rattle.base.specs.declared.replica_set.ReplicaSet.{ReplicaSet}
use Rattle.base.specs.declared.timestamp.Timestamp.{Timestamp}
use Rattle.protocol.specs.Client.{done, ended}
use Rattle.wire.specs.Checks.{proof_outcome}
use Rattle.wire.specs.Proof.{PreparedProof, signer_set, read_proof}
use Rattle.wire.specs.Signatures.{prepared_signatures}
use Rattle.run.specs.Premises.{TrueVerdicts, Accepted}
use Rattle.wire.specs.Acceptance.{client}
use Rattle.run.specs.Run.{Event, begins_write, begins_read, makes, Run, event, answer_at, At}

module _ (R : Run) where
  abbrev pub NotDone : ℕ → Type 0
  NotDone t = (timestamp : Timestamp) (card : List ℕ) (signers : ReplicaSet) → answer_at R t ≡ accepted (done timestamp card signers) → ⊥

  -- No client is made again.
  abbrev pub NotMade : ℕ → Type 0
  NotMade t = (id : ClientId) (nonce : ℕ) → event R t ≡ some (makes id nonce) → Accepted R t → ⊥

  -- Neither done nor ended; and not made again, since that leaves the client "with its interrupted operation never finished" (document 02, #106).
  pub record GoesOn (t : ℕ) : Type 0 where
    pub not_done : NotDone t
    pub not_ended : answer_at R t ≡ accepted ended → ⊥
    pub not_made : NotMade t

-- At one timestamp: "the write before the reads, and of two reads the one finished earlier"
abbrev pub AtOneTimestamp : Bool → Bool → ℕ → ℕ → Type 0
AtOneTimestamp true true at at' = ⊥
AtOneTimestamp true false at at' = Unit {0}
AtOneTimestamp false true at at' = ⊥
AtOneTimestamp false false at at' = at < at'

-- "The smaller stamp lies first": timestamp, whether a write, and when finished, of each.
abbrev pub LiesBefore : ℕ → Bool → ℕ → ℕ → Bool → ℕ → Type 0
LiesBefore s w at s' w' at' = (s < s') ⊎ ((s ≡ s') × AtOneTimestamp w w' at at')

-- What is claimed of register x.
module _ (R : Run) (x : RegisterId) where
  -- "A prepared proof, of any bytes and from anyone, is judged genuine with marks that are true at the end of the list."
  -- "A proof is genuine when its marks are true and it passes 9 to 11.": for the register that it is shown for.
  pub record Genuine (proof : PreparedProof) : Type 0 where
    pub bytes : List ℕ
    pub verdicts : List ℕ
    pub are_bytes : Bytes bytes
    pub reads : read_proof 32 bytes ≡ accepted proof
    pub one_each : length verdicts ≡ length proof.entries
    pub passes : proof_outcome R.f proof.entries verdicts proof.timestamp ≡ accepted (signer_set proof.entries)
    pub true_verdicts_lem : TrueVerdicts R (length R.events) (prepared_signatures x proof) verdicts

  -- "no two genuine prepared proofs .. carry one stamp and two digests"
  abbrev pub OneDigest : Type 0
  OneDigest = (proof proof' : PreparedProof) → Genuine proof → Genuine proof' → proof.timestamp ≡ proof'.timestamp → proof.digest ≡ proof'.digest

  -- "A read or write begins with the event that begins it, unless refused." True for a write.
  abbrev pub Begins : Bool → ClientId → Option Event → Type 0
  Begins true id e = (card : List ℕ) × (e ≡ some (begins_write id x card))
  Begins false id e = e ≡ some (begins_read id x)

  -- "It is finished by its desk's first done after that, if no ended comes between; its stamp and card are those of that done." So are
  -- the card's signers (document 02, #102). Nor may an accepted making come between (#106).
  pub record Finished : Type 0 where
    pub id : ClientId
    -- Reads of viewing clients "are left out of the ordering of reads and writes".
    pub by_writer : is_writer id ≡ true
    pub is_write_lem : Bool
    pub begun : ℕ
    pub finished : ℕ
    pub timestamp : Timestamp
    pub card : List ℕ
    pub signers : ReplicaSet
    pub begins : Begins is_write_lem id (event R begun)
    pub not_refused : Accepted R begun
    pub after : begun < finished
    pub at_client : At R finished (client id)
    pub is_done_lem : answer_at R finished ≡ accepted (done timestamp card signers)
    pub none_between : (t : ℕ) → begun < t → t < finished → At R t (client id) → GoesOn R t

  -- A view (document 02, #101): a viewing client's, which is not made again, from its READ to the client's first done after that.
  pub record Viewed : Type 0 where
    pub id : ClientId
    pub by_viewer : is_viewer id ≡ true
    pub begun : ℕ
    pub finished : ℕ
    pub timestamp : Timestamp
    pub card : List ℕ
    pub signers : ReplicaSet
    pub begins : event R begun ≡ some (begins_read id x)
    pub not_refused : Accepted R begun
    pub after : begun < finished
    pub at_client : At R finished (client id)
    pub is_done_lem : answer_at R finished ≡ accepted (done timestamp card signers)
    pub none_between : (t : ℕ) → begun < t → t < finished → At R t (client id) → NotDone R t

  -- Two that are one operation. `same_operation` proves it of any two that begin with one event.
  pub record SameOperation (o o' : Finished) : Type 0 where
    pub same_id : o.id ≡ o'.id
    pub same_kind : o.is_write_lem ≡ o'.is_write_lem
    pub same_end : o.finished ≡ o'.finished
    pub same_timestamp : o.timestamp ≡ o'.timestamp
    pub same_card : o.card ≡ o'.card
    pub same_signers : o.signers ≡ o'.signers

  -- "One finished before another began if the first's done stands earlier in the list than the other's beginning."
  abbrev pub FinishedBefore : Finished → Finished → Type 0
  FinishedBefore o o' = o.finished < o'.begun

  abbrev pub Before : Finished → Finished → Type 0
  Before o o' = LiesBefore (number o.timestamp) o.is_write_lem o.finished (number o'.timestamp) o'.is_write_lem o'.finished

  -- "a screen that begins after a write or an ordinary read has finished never shows an earlier stamp than that one"
  abbrev pub ViewAfter : Type 0
  ViewAfter = (o : Finished) (v : Viewed) → o.finished < v.begun → number o.timestamp ≤ number v.timestamp

  pub record Claims : Type 0 where
    -- "no two genuine prepared proofs, whoever gathered them, carry one stamp and two digests"
    pub one_digest : OneDigest
    -- "laid in order of stamp, a write ahead of reads and reads as they finished": an order of all finished operations
    pub irreflexive : (o : Finished) → Before o o → ⊥
    pub transitive : (o o' o'' : Finished) → Before o o' → Before o' o'' → Before o o''
    pub total : (o o' : Finished) → (o.begun ≡ o'.begun) ⊎ (Before o o' ⊎ Before o' o)
    -- "show one card per stamp"
    pub one_card : (o o' : Finished) → number o.timestamp ≡ number o'.timestamp → o.card ≡ o'.card
    -- "none that finished before another began lies after it"
    pub in_order : (o o' : Finished) → FinishedBefore o o' → Before o' o → ⊥
    -- "a write begun after another finished has a later stamp"
    pub later_write : (o o' : Finished) → o'.is_write_lem ≡ true → FinishedBefore o o' → number o.timestamp < number o'.timestamp
    -- "Their reads, which may fall back during a write, are left out of the ordering of reads and writes."
    pub view_after : ViewAfter
