-- What a finished operation of a register shows was written there: by whom, and when it was begun.
use Rattle.std.specs.Prelude.{◌≡◌, true, List, ℕ, ◌<◌, ◌≤◌}
use Rattle.std.proofs.Math.Option.{Option, some}
use Rattle.base.specs.Outcome.{accepted}
use Rattle.base.specs.Party.{is_writer}
use Rattle.base.specs.Timestamp.{number}
use Rattle.base.specs.declared.party.ClientId.{ClientId}
use Rattle.base.specs.declared.party.RegisterId.{RegisterId}
use Rattle.wire.specs.Acceptance.{client}
use Rattle.wire.specs.Message.{PREPARE}
use Rattle.wire.specs.Proof.{PreparedProof, WrittenProof}
use Rattle.protocol.specs.Client.{send}
use Rattle.protocol.specs.Parts.{start_card}
use Rattle.run.specs.Claims.{GoesOn, Finished}
use Rattle.run.specs.Premises.{Accepted}
use Rattle.run.specs.Run.{begins_write, Run, event, answer_at, At}

module _ (R : Run) (x : RegisterId) where
  -- A write of a correct client to the register that has its timestamp: begun with a card, not refused, and then answered with a PREPARE. It may
  -- have finished, be under way at the end of the list, or have been broken off since its client was made again.
  pub record Write : Type 0 where
    pub id : ClientId
    pub card : List ℕ
    pub begun : ℕ
    pub begins : event R begun ≡ some (begins_write id x card)
    pub not_refused : Accepted R begun
    pub timestamp : ℕ
    pub digest : List ℕ
    pub shown : Option PreparedProof
    pub last : Option WrittenProof
    pub prepared : ℕ
    pub after : begun < prepared
    pub at_client : At R prepared (client id)
    pub prepares : answer_at R prepared ≡ accepted (send (PREPARE id timestamp digest shown last))
    pub none_between : (t : ℕ) → begun < t → t < prepared → At R t (client id) → GoesOn R t

  abbrev pub CarriesCorrect : Finished R x → Type 0
  CarriesCorrect o = R.correct_client o.timestamp.client ≡ true

  pub record ReadsFrom : Type 0 where
    -- A finished operation whose timestamp carries a correct client shows the card with which that client began a write before
    -- the operation's done; the write has this timestamp.
    pub reads_from : (o : Finished R x) → CarriesCorrect o
        → (w : Write) × (w.id ≡ o.timestamp.client) × (w.timestamp ≡ number o.timestamp) × (w.card ≡ o.card) × (w.begun < o.finished)
    -- A finished write shows the card that it was begun with, and its timestamp carries its client.
    pub writes_own : (o : Finished R x) (card : List ℕ) → event R o.begun ≡ some (begins_write o.id x card) → (o.card ≡ card) × (o.timestamp.client ≡ o.id)
    -- A timestamp is 0.0, with the starting card, or carries a writer.
    pub starts_from : (o : Finished R x) → number o.timestamp ≡ 0 → o.card ≡ start_card
    pub carries_writer : (o : Finished R x) → 1 ≤ number o.timestamp → is_writer o.timestamp.client ≡ true
