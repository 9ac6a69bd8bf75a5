-- Document 02, #107: how many messages an operation sends, and the timestamps of the CARDs and STAMPs that it takes. "Screens apart": finished
-- operations are those of ordinary clients.
use Rattle.std.specs.Prelude.{◌≡◌, Bool, true, false, cond, List, [], ◌∷◌, ◌++◌, ℕ, zero, suc, ◌/◌, ◌<◌, max, eqb, leb, length}
use Rattle.std.proofs.Math.Option.{Option, none, some}
use Rattle.base.specs.Outcome.{Outcome, accepted, refused}
use Rattle.base.specs.Party.{quorum_size}
use Rattle.base.specs.declared.party.ClientId.{ClientId}
use Rattle.base.specs.declared.party.RegisterId.{RegisterId}
use Rattle.protocol.specs.Client.{Answer, send, waits, done, ended}
use Rattle.protocol.specs.Events.{ClientEvent, write_begun, read_begun, reply_handed, made, proof_handed}
use Rattle.run.specs.Claims.{Begins, GoesOn, Finished}
use Rattle.run.specs.Premises.{Accepted}
use Rattle.run.specs.Run.{Event, at_replica, at_client, Run, event, answer_at, At}
use Rattle.wire.specs.Acceptance.{client}
use Rattle.wire.specs.Checks.{prepared_of, all}
use Rattle.wire.specs.Decode.{decode}
use Rattle.wire.specs.Message.{Message, kind_of}
use Rattle.wire.specs.Parts.{prepared_timestamp}
use Rattle.wire.specs.declared.message.Party.TheVariants.{Client as AtClient}

-- What is looked for in a client's event that is not refused, and in its answer.
abbrev pub Look : Type 0 → Type 0
Look A = ClientEvent → Answer → List A

-- The message that is sent.
abbrev pub sent_in : Look Message
sent_in e (send message) = message ∷ []
sent_in e waits = []
sent_in e (done timestamp card signers) = []
sent_in e ended = []

-- The timestamp that a reply of a kind shows: CARD is 8, STAMP 5.
abbrev pub shown_by : ℕ → Outcome (RegisterId × Message) → List ℕ
shown_by kind (accepted (x, message)) = cond (eqb (kind_of message) kind) (prepared_timestamp (prepared_of message) ∷ []) []
shown_by kind (refused number) = []

abbrev pub card_shown : Outcome (RegisterId × Message) → List ℕ
card_shown = shown_by 8

abbrev pub stamp_shown : Outcome (RegisterId × Message) → List ℕ
stamp_shown = shown_by 5

-- In a message that is taken.
abbrev pub taken_in : (Outcome (RegisterId × Message) → List ℕ) → Look ℕ
taken_in shown (reply_handed bytes verdicts) answer = shown (decode AtClient bytes)
taken_in shown (write_begun x card) answer = []
taken_in shown (read_begun x) answer = []
taken_in shown (made nonce) answer = []
taken_in shown (proof_handed x bytes verdicts) answer = []

abbrev pub seen_at : {A : Type 0} → Look A → ClientId → Option Event → Outcome Answer → List A
seen_at look id none out = []
seen_at look id (some (at_replica at e)) out = []
seen_at look id (some (at_client at e)) (accepted answer) = cond (eqb at.0 id.0) (look e answer) []
seen_at look id (some (at_client at e)) (refused number) = []

module _ (R : Run) where
  -- What is found at a client's events from `from` on, before t, in their order.
  unfoldable pub seen : {A : Type 0} → Look A → ClientId → ℕ → ℕ → List A
  seen look id from zero = []
  seen look id from (suc t) = seen look id from t ++ cond (leb from t) (seen_at look id (event R t) (answer_at R t)) []

  -- From an operation's beginning to its end: the messages sent, and the timestamps of the CARDs and of the STAMPs taken.
  abbrev pub sent_from : ClientId → ℕ → ℕ → List Message
  sent_from id begun end = seen sent_in id begun (suc end)

  abbrev pub cards_from : ClientId → ℕ → ℕ → List ℕ
  cards_from id begun end = seen (taken_in card_shown) id begun (suc end)

  abbrev pub stamps_from : ClientId → ℕ → ℕ → List ℕ
  stamps_from id begun end = seen (taken_in stamp_shown) id begun (suc end)

abbrev pub are_all_same : List ℕ → Bool
are_all_same [] = true
are_all_same (s ∷ ss) = all (λ n. eqb n s) ss

abbrev pub largest : List ℕ → ℕ
largest [] = 0
largest (s ∷ ss) = max s (largest ss)

-- "exactly one message if the q CARDs all had one stamp, and exactly two otherwise"
abbrev pub read_messages : List ℕ → ℕ
read_messages cards = cond (are_all_same cards) 1 2

module _ (R : Run) (x : RegisterId) where
  -- As `Finished`, with ended: an operation "that ended for lack of a successor".
  pub record Ended : Type 0 where
    pub id : ClientId
    pub is_write_lem : Bool
    pub begun : ℕ
    pub finished : ℕ
    pub begins : Begins R x is_write_lem id (event R begun)
    pub not_refused : Accepted R begun
    pub after : begun < finished
    pub at_client : At R finished (client id)
    pub is_ended : answer_at R finished ≡ accepted ended
    pub none_between : (t : ℕ) → begun < t → t < finished → At R t (client id) → GoesOn R t

  abbrev pub sent : Finished R x → ℕ
  sent o = length (sent_from R o.id o.begun o.finished)

  abbrev pub cards_taken : Finished R x → List ℕ
  cards_taken o = cards_from R o.id o.begun o.finished

  pub record Counts : Type 0 where
    -- "A finished write sent exactly three"
    pub write_sends : (o : Finished R x) → o.is_write_lem ≡ true → sent o ≡ 3
    -- "the q CARDs" of a finished read are those that it took,
    pub read_takes : (o : Finished R x) → o.is_write_lem ≡ false → length (cards_taken o) ≡ quorum_size R.f
    -- and it "sent exactly" so many.
    pub read_sends : (o : Finished R x) → o.is_write_lem ≡ false → sent o ≡ read_messages (cards_taken o)
    -- "and one that ended for lack of a successor exactly one"
    pub ended_sends : (o : Ended) → length (sent_from R o.id o.begun o.finished) ≡ 1
    -- "where no successor exists": its largest STAMP has the last count.
    pub ended_last : (o : Ended) → largest (stamps_from R o.id o.begun o.finished) / 256 ≡ 4_294_967_295
