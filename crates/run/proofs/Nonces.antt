-- The nonces that a client used before an event are at most its record's last one: what it asked before a beginning has another nonce. A making may lower
-- the last one, but not below a nonce that was used. Assumes nothing.
use mathlib.Core.Path.{◌≡◌, ap, subst, ◌∙◌}
use mathlib.Core.Logic.{⊎_elim}
use mathlib.Core.Bool.{Bool, true, false}
use mathlib.Core.List.{List}
use Prim.Native.Nat.{ℕ, zero, suc, ◌+◌, ◌-◌, ◌≤◌, ◌<◌}
use native.Mathlib.Omega.{arith}
use Rattle.base.specs.Outcome.{accepted}
use Rattle.base.specs.declared.party.ClientId.{ClientId}
use Rattle.base.specs.declared.party.RegisterId.{RegisterId}
use Rattle.base.proofs.Apart.{apart}
use Rattle.wire.specs.Message.{Message, READ-STAMP, PREPARE, WRITE, READ, STAMP, PREPARED, WRITTEN, CARD}
use Rattle.protocol.specs.Client.{Answer, send, waits, done, ended, Turn}
use Rattle.protocol.specs.declared.client.Client.{Client}
use Rattle.protocol.specs.declared.client.Phase.{Phase}
use Rattle.protocol.proofs.ClientCases.{Begun, ClientCase, stamp_counted, stamps_enough, stamps_ended, prepared_counted, prepareds_enough, written_counted, writtens_enough, card_counted, cards_agree, cards_viewed, cards_differ, back_counted, back_enough}
use Rattle.wire.specs.Acceptance.{client}
use Rattle.run.specs.Premises.{Asks, for_stamps, for_cards, Used, Premises}
use Rattle.run.specs.Run.{Run, client_at, answer_at, At, Said}
use Rattle.run.proofs.Turns.{ClientStep, ClientTurn, rested, wrote, asked, heard, client_turn_lem, made_again, took}
use Rattle.run.proofs.Slots.{order, split_last}

-- Whether an answer is a question with a nonce.
abbrev is_question : Answer → Bool
is_question (send (READ-STAMP id nonce)) = true
is_question (send (PREPARE id timestamp digest proof last)) = false
is_question (send (WRITE id card proof)) = false
is_question (send (READ id nonce)) = true
is_question (send (STAMP id nonce proof addressed)) = false
is_question (send (PREPARED id timestamp digest)) = false
is_question (send (WRITTEN id timestamp)) = false
is_question (send (CARD id nonce card proof addressed)) = false
is_question waits = false
is_question (done timestamp card signers) = false
is_question ended = false

-- A client that takes a message asks nothing.
quiet : (before : Client) (own : List ℕ) (message : Message) (turn : Turn) → ClientCase before own message turn → is_question turn.answer ≡ false
quiet before own message turn (stamp_counted s n p b k e₁ e₂ e₃ e₄ e₅ left) = ap is_question left.answer_is
quiet before own message turn (stamps_enough s n p b k next shown last e₁ e₂ e₃ e₄ e₅ e₆ e₇ e₈ e₉ e₁₀ left) = ap is_question left.answer_is
quiet before own message turn (stamps_ended s n p b k e₁ e₂ e₃ left) = ap is_question left.answer_is
quiet before own message turn (prepared_counted s t k e₁ e₂ e₃ e₄ e₅ left) = ap is_question left.answer_is
quiet before own message turn (prepareds_enough s t k p e₁ e₂ e₃ e₄ e₅ e₆ e₇ left) = ap is_question left.answer_is
quiet before own message turn (written_counted s t k e₁ e₂ e₃ e₄ e₅ left) = ap is_question left.answer_is
quiet before own message turn (writtens_enough s t k e₁ e₂ e₃ e₄ e₅ left) = ap is_question left.answer_is
quiet before own message turn (card_counted s n c p b k g e₁ e₂ e₃ e₄ e₅ e₆ left) = ap is_question left.answer_is
quiet before own message turn (cards_agree s n c p b k g e₁ e₂ e₃ e₄ e₅ left) = ap is_question left.answer_is
quiet before own message turn (cards_viewed s n c p b k g e₁ e₂ e₃ e₄ e₅ left) = ap is_question left.answer_is
quiet before own message turn (cards_differ s n c p b k g e₁ e₂ e₃ e₄ e₅ e₆ e₇ left) = ap is_question left.answer_is
quiet before own message turn (back_counted s t k e₁ e₂ e₃ e₄ left) = ap is_question left.answer_is
quiet before own message turn (back_enough s t k e₁ e₂ e₃ left) = ap is_question left.answer_is

asks_question : (id : ClientId) (n : ℕ) (m : Message) → Asks id n m → is_question (send m) ≡ true
asks_question id n m (for_stamps e) = ap (λ (x : Message). is_question (send x)) e
asks_question id n m (for_cards e) = ap (λ (x : Message). is_question (send x)) e

stamps_nonce : (id id' : ClientId) (n n' : ℕ) (m : Message) → Asks id n m → m ≡ READ-STAMP id' n' → n ≡ n'
stamps_nonce id id' n n' m (for_stamps e) q = cc
stamps_nonce id id' n n' m (for_cards e) q = apart (cc)

cards_nonce : (id id' : ClientId) (n n' : ℕ) (m : Message) → Asks id n m → m ≡ READ id' n' → n ≡ n'
cards_nonce id id' n n' m (for_stamps e) q = apart (cc)
cards_nonce id id' n n' m (for_cards e) q = cc

module _ (R : Run) (id : ClientId) (c : R.correct_client id ≡ true) (P : Premises R) where
  abbrev last : ℕ → ℕ
  last t = (client_at R id t).last_nonce

  -- What event t does to the client's nonces, and what it asks.
  record Moves (t : ℕ) : Type 0 where
    up : (n : ℕ) → Used R id n t → n ≤ last t → n ≤ last (suc t)
    asks : (n : ℕ) (m : Message) → Asks id n m → At R t (client id) → answer_at R t ≡ accepted (send m) → n ≤ last (suc t)

  begun_moves : (t : ℕ) (x : RegisterId) (question : Message) (phase : Phase) (card : List ℕ) (turn : Turn)
      → ((n : ℕ) (m : Message) → Asks id n m → m ≡ question → n ≡ (client_at R id t).last_nonce + 1)
      → Begun (client_at R id t) x question phase card turn → ClientStep R id t turn → Moves t
  begun_moves t x question phase card turn own b s =
      let next : (client_at R id (suc t)).last_nonce ≡ (client_at R id t).last_nonce + 1 = rw s.next_is b.nonce in
      record {
        up = λ n used low. omega arith;
        asks = λ n m a at e.
            let same : m ≡ question = cc (s.answer_is, b.sends) in
            let is = own n m a same in
            omega arith;
      }

  moves : (t : ℕ) → Moves t
  moves t = go (client_turn_lem R id c t)
    where
      go : ClientTurn R id t → Moves t
      go (rested same silent) = record { up = λ n used low. let next : last (suc t) ≡ last t = ap (λ (after : Client). after.last_nonce) same in omega arith; asks = λ n m a at e. absurd (silent at (send m) e) }
      go (wrote x card turn e b s) = begun_moves t x _ _ card turn (λ n m a q. stamps_nonce id _ n _ m a q) b s
      go (asked x turn e b s) = begun_moves t x _ _ _ turn (λ n m a q. cards_nonce id _ n _ m a q) b s
      go (heard h) =
          let next : (client_at R id (suc t)).last_nonce ≡ (client_at R id t).last_nonce = rw h.step.next_is h.facts.same_nonce in
          record {
            up = λ n used low. omega arith;
            asks = λ n m a at e.
                let is : h.turn.answer ≡ send m = cc h.step.answer_is in
                let no_question = quiet (client_at R id t) _ h.message h.turn h.facts.case in
                let question = ap is_question is ∙ asks_question id n m a in
                apart (cc);
          }
      -- The premise on new nonces is for this.
      go (made_again nonce e positive s) =
          let next : (client_at R id (suc t)).last_nonce ≡ nonce - 1 = ap (λ (after : Client). after.last_nonce) s.next_is in
          record {
            up = λ n used low. let above = P.new_nonces_lem t id nonce e (waits, s.answer_is) n used in omega arith;
            asks = λ n m a at q. apart (cc s.answer_is);
          }
      go (took x bytes verdicts after e it s) =
          let next : (client_at R id (suc t)).last_nonce ≡ (client_at R id t).last_nonce = ap (λ (after : Client). after.last_nonce) (s.next_is ∙ it.after_is) in
          record { up = λ n used low. omega arith; asks = λ n m a at q. apart (cc s.answer_is) }

  -- All nonces used before event t are at most the record's last one.
  used_below : (t n : ℕ) → Used R id n t → n ≤ last t
  used_below zero n (x, m, a, e) = let l = e.earlier in absurd (omega arith)
  used_below (suc t) n (x, m, a, e) =
      split_last e.time t e.earlier
      (λ z. subst (λ (u : ℕ). n ≤ last (suc u)) z ((moves e.time).asks n m a e.by e.answered))
      (λ l. let before : Used R id n t = (x, m, a, record { time = e.time; earlier = l; by = e.by; register_is = e.register_is; answered = e.answered }) in
      (moves t).up n before (used_below t n before))

  -- A question with a nonce above those used before t₀ was sent at t₀ or later.
  pub asked_since : (t₀ t n : ℕ) (x : RegisterId) (m : Message) → Asks id n m → (client_at R id t₀).last_nonce < n → (e : Said R x (client id) m t) → t₀ ≤ e.time
  asked_since t₀ t n x m a above e =
      ⊎_elim (λ (l : t₀ ≤ e.time). l)
      (λ (l : e.time < t₀).
      let used = used_below t₀ n (x, m, a, record { time = e.time; earlier = l; by = e.by; register_is = e.register_is; answered = e.answered }) in
      absurd (omega arith))
      (order t₀ e.time)
