-- What a correct client sends: a request of its own, of a kind that it may send. Assumes nothing.
use mathlib.Core.Path.{◌≡◌, refl, sym, ap, subst, ◌∙◌}
use mathlib.Core.Bool.{Bool, true, false, cond}
use mathlib.Core.List.{List}
use Prim.Native.Nat.{ℕ, ◌+◌}
use Rattle.base.specs.Outcome.{accepted}
use Rattle.base.specs.Party.{is_writer}
use Rattle.base.specs.declared.party.ClientId.{ClientId}
use Rattle.base.proofs.Apart.{apart}
use Rattle.protocol.specs.Client.{Answer, send, waits, done, ended, Turn, on_reply}
use Rattle.protocol.specs.Viewer.{on_viewer_reply}
use Rattle.protocol.specs.declared.client.Client.{Client}
use Rattle.protocol.specs.declared.client.Phase.{Phase}
use Rattle.protocol.proofs.ClientCases.{Leaves, ClientCase, stamp_counted, stamps_enough, stamps_ended, prepared_counted, prepareds_enough, written_counted, writtens_enough, card_counted, cards_agree, cards_viewed, cards_differ, back_counted, back_enough}
use Rattle.protocol.proofs.OperationMessages.{sends, reply_quiet}
use Rattle.run.specs.Run.{Run, client_at, answer_at, At}
use Rattle.run.proofs.Turns.{good_client, Heard, ClientTurn, rested, wrote, asked, heard, made_again, took, client_turn_lem}
use Rattle.wire.specs.Acceptance.{client, sender_of, may_send}
use Rattle.wire.specs.Decode.{taker_of}
use Rattle.wire.specs.Layout.{signature}
use Rattle.wire.specs.Message.{Message, kind_of, READ-STAMP, READ}
use Rattle.wire.specs.declared.message.Party.TheVariants.{Replica as AtReplica}

pub record Request (id : ClientId) (message : Message) : Type 0 where
  pub sender_is : sender_of message ≡ client id
  pub taken_by : taker_of message ≡ AtReplica
  pub may_send_lem : may_send (kind_of message) (sender_of message) ≡ true

-- All but READ are a writer's to send (19).
abbrev AsWriter : ClientId → Message → Type 0
AsWriter id message = is_writer id ≡ true → Request id message

abbrev AnswerAsks : ClientId → Answer → Type 0
AnswerAsks id (send message) = AsWriter id message
AnswerAsks id waits = Unit {0}
AnswerAsks id (done timestamp card signers) = Unit {0}
AnswerAsks id ended = Unit {0}

asks : (now : Client) (own : List ℕ) (message : Message) (turn : Turn) → ClientCase now own message turn → AnswerAsks now.id turn.answer
asks now own message turn case = go case
  where
    from : {answer : Answer} {phase : Phase} → Leaves turn answer phase → AnswerAsks now.id answer → AnswerAsks now.id turn.answer
    from left it = subst (AnswerAsks now.id) (sym left.answer_is) it

    go : ClientCase now own message turn → AnswerAsks now.id turn.answer
    go (stamp_counted s n p b k e₁ e₂ e₃ e₄ e₅ left) = from left tt
    go (stamps_enough s n p b k next shown last e₁ e₂ e₃ e₄ e₅ e₆ e₇ e₈ e₉ e₁₀ left) = from left (λ w. record { sender_is = refl; taken_by = refl; may_send_lem = w })
    go (stamps_ended s n p b k e₁ e₂ e₃ left) = from left tt
    go (prepared_counted s t k e₁ e₂ e₃ e₄ e₅ left) = from left tt
    go (prepareds_enough s t k p e₁ e₂ e₃ e₄ e₅ e₆ e₇ left) = from left (λ w. record { sender_is = refl; taken_by = refl; may_send_lem = w })
    go (written_counted s t k e₁ e₂ e₃ e₄ e₅ left) = from left tt
    go (writtens_enough s t k e₁ e₂ e₃ e₄ e₅ left) = from left tt
    go (card_counted s n c p b k g e₁ e₂ e₃ e₄ e₅ e₆ left) = from left tt
    go (cards_agree s n c p b k g e₁ e₂ e₃ e₄ e₅ left) = from left tt
    go (cards_viewed s n c p b k g e₁ e₂ e₃ e₄ e₅ left) = from left tt
    go (cards_differ s n c p b k g e₁ e₂ e₃ e₄ e₅ e₆ e₇ left) = from left (λ w. record { sender_is = refl; taken_by = refl; may_send_lem = w })
    go (back_counted s t k e₁ e₂ e₃ e₄ left) = from left tt
    go (back_enough s t k e₁ e₂ e₃ left) = from left tt

module _ (R : Run) (id : ClientId) where
  -- A client that sends when it takes a message is no viewing one.
  pub sends_writer : (t : ℕ) (h : Heard R id t) (m : Message) → h.turn.answer ≡ send m → is_writer id ≡ true
  sends_writer t h m a = go (is_writer id) refl h.stepped
    where
      go : (w : Bool) → is_writer id ≡ w → cond w (on_reply (client_at R id t) (signature h.bytes) h.message) (on_viewer_reply (client_at R id t) h.message) ≡ accepted h.turn → is_writer id ≡ true
      go true w e = w
      go false w e = let quiet = ((reply_quiet (client_at R id t) h.message).holds h.turn e).sends_none in apart (cc (ap sends a))

  pub request : R.correct_client id ≡ true → (t : ℕ) (m : Message) → At R t (client id) → answer_at R t ≡ accepted (send m) → Request id m
  request c t m at a = subst (λ (i : ClientId). Request i m) same (go (client_turn_lem R id c t))
    where
      now : Client
      now = client_at R id t

      same : now.id ≡ id
      same = (good_client R id c t).id_is

      go : ClientTurn R id t → Request now.id m
      go (rested kept silent) = absurd (silent at (send m) a)
      go (wrote x card turn e b s) =
          let is : READ-STAMP now.id (now.last_nonce + 1) ≡ m = cc (s.answer_is, b.sends) in
          subst (Request now.id) is (record { sender_is = refl; taken_by = refl; may_send_lem = ap is_writer same ∙ R.writers_begin t id x card e })
      go (asked x turn e b s) =
          let is : READ now.id (now.last_nonce + 1) ≡ m = cc (s.answer_is, b.sends) in
          subst (Request now.id) is (record { sender_is = refl; taken_by = refl; may_send_lem = refl })
      go (heard h) =
          let sent : h.turn.answer ≡ send m = cc h.step.answer_is in
          subst (AnswerAsks now.id) sent (asks now _ h.message h.turn h.facts.case) (ap is_writer same ∙ sends_writer t h m sent)
      go (made_again nonce e positive s) = apart (cc s.answer_is)
      go (took x bytes verdicts next e it s) = apart (cc s.answer_is)
