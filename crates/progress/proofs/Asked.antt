-- What a correct client on one laptop asked replicas to prepare in a register: it asks for it now, or it is at most its own last written timestamp there.
-- Assumes nothing.
use mathlib.Core.Path.{◌≡◌, refl, sym, ap, subst, ◌∙◌}
use mathlib.Core.Logic.{◌⊎◌, inl, inr}
use mathlib.Core.Bool.{true, false}
use mathlib.Core.List.{List}
use mathlib.Core.Option.{Option, none, some}
use Prim.Native.Nat.{ℕ, zero, suc, ◌≤◌}
use native.Mathlib.Omega.{arith}
use Rattle.base.specs.Outcome.{accepted}
use Rattle.base.specs.Party.{is_register, register_place}
use Rattle.base.specs.Timestamp.{number}
use Rattle.base.specs.declared.party.ClientId.{ClientId}
use Rattle.base.specs.declared.party.RegisterId.{RegisterId}
use Rattle.base.proofs.Apart.{apart}
use Rattle.protocol.specs.Client.{Answer, send, waits, current_card, written_in_place, written_kept}
use Rattle.protocol.specs.declared.client.Client.{Client}
use Rattle.protocol.specs.declared.client.Phase.TheVariants.{Idle}
use Rattle.protocol.specs.declared.client.Written.{Written}
use Rattle.run.specs.Premises.{Accepted, Premises}
use Rattle.run.specs.Run.{makes, Run, register_of, event, client_at, answer_at, At, Said}
use Rattle.run.proofs.Slots.{split_last}
use Rattle.run.proofs.Stages.{prepared_for, is_prepare, Stage, stamping, prepares, keeps, finishes, others, stage}
use Rattle.run.proofs.Turns.{Heard, heard_register, ClientTurn, rested, wrote, asked, heard, made_again, took, client_turn_lem}
use Rattle.wire.specs.Acceptance.{client}
use Rattle.wire.specs.Message.{PREPARE}
use Rattle.wire.specs.Proof.{PreparedProof, WrittenProof}
use Rattle.wire.specs.Sha256.{sha256}
use Rattle.progress.specs.Operations.{OneLaptop}
use Rattle.progress.proofs.OwnWritten.{last_at, last_timestamp, Moves, keeps_last, own_last, handed_last, no_last, own_there, moves, own_below}

module _ (R : Run) (P : Premises R) (id : ClientId) (c : R.correct_client id ≡ true) (x : RegisterId) (registered : is_register x ≡ true) where
  abbrev now : ℕ → Client
  now t = client_at R id t

  -- A write of the register has this timestamp, and its card this digest.
  abbrev pub Current : ℕ → ℕ → List ℕ → Type 0
  Current t s d = ((now t).register ≡ x) × (prepared_for (now t).phase ≡ some s) × (sha256 (current_card (now t)) ≡ d)

  abbrev pub AskedNow : ℕ → ℕ → List ℕ → Type 0
  AskedNow t s d = (((last_at R P id c x t).own ≡ true) × (s ≤ last_timestamp R P id c x t)) ⊎ Current t s d

  -- A PREPARE for the register is sent when a message is taken; it makes its timestamp current, and shows the written proof that is kept.
  pub sent_now : (t s : ℕ) (d : List ℕ) (shown : Option PreparedProof) (last : Option WrittenProof) (at : At R t (client id)) → register_of at.0 ≡ x → answer_at R t ≡ accepted (send (PREPARE id s d shown last))
      → Heard R id t × Current (suc t) s d × (last ≡ written_kept (last_at R P id c x t))
  sent_now t s d shown last at is a = go (client_turn_lem R id c t)
    where
      no : {A : Type 0} (answer : Answer) → answer_at R t ≡ accepted answer → is_prepare answer ≡ false → A
      no answer q k = let same : answer ≡ send (PREPARE id s d shown last) = cc in apart (cc (k, ap is_prepare same))

      go : ClientTurn R id t → Heard R id t × Current (suc t) s d × (last ≡ written_kept (last_at R P id c x t))
      go (rested same silent) = absurd (silent at (send (PREPARE id s d shown last)) a)
      go (wrote y card turn q b k) = no turn.answer k.answer_is (ap is_prepare b.sends)
      go (asked y turn q b k) = no turn.answer k.answer_is (ap is_prepare b.sends)
      go (made_again nonce q positive k) = no waits k.answer_is refl
      go (took y bytes verdicts next q it k) = no waits k.answer_is refl
      go (heard h) = by (stage (now t) h.turn _ h.message h.facts.case)
        where
          by : Stage (now t) h.turn → Heard R id t × Current (suc t) s d × (last ≡ written_kept (last_at R P id c x t))
          by (stamping was none_was none_next same answer) = no h.turn.answer h.step.answer_is (ap is_prepare answer)
          by (prepares timestamp shown' last' was none_was no_stamps for same answer shows) =
              let same_timestamp : timestamp ≡ s = cc h.step.answer_is in
              let same_digest : sha256 (current_card (now t)) ≡ d = cc h.step.answer_is in
              let same_last : last ≡ last' = cc h.step.answer_is in
              let for_it : (now t).register ≡ x = sym (heard_register R id t h at) ∙ is in (
                h,
                rw h.step.next_is (h.facts.same_register ∙ for_it, for ∙ ap some same_timestamp, ap sha256 same ∙ same_digest),
                same_last ∙ shows ∙ ap (λ (y : RegisterId). written_kept (written_in_place (register_place y) (now t))) for_it,
              )
          by (keeps timestamp was for no_stamps same no_prepare over) = no h.turn.answer h.step.answer_is no_prepare
          by (finishes timestamp card signers entries was none_next no_stamps written answer) = no h.turn.answer h.step.answer_is (ap is_prepare answer)
          by (others was none_next no_stamps no_prepare) = no h.turn.answer h.step.answer_is no_prepare

  -- What is asked for stays so, or is the client's own written timestamp then.
  current_next : (t s : ℕ) (d : List ℕ) → ((nonce : ℕ) → event R t ≡ some (makes id nonce) → answer_at R t ≡ accepted waits → ⊥) → Current t s d → AskedNow (suc t) s d
  current_next t s d not_made (is, has, digest) = go (client_turn_lem R id c t)
    where
      busy : {A : Type 0} → (now t).phase ≡ Idle → A
      busy e = let none_there : prepared_for (now t).phase ≡ none = ap prepared_for e in apart (cc)

      go : ClientTurn R id t → AskedNow (suc t) s d
      go (rested same silent) = inr (rw same (is, has, digest))
      go (wrote y card turn q b k) = busy b.was_idle
      go (asked y turn q b k) = busy b.was_idle
      go (made_again nonce q positive k) = absurd (not_made nonce q k.answer_is)
      go (took y bytes verdicts next q it k) = busy it.was_idle
      go (heard h) = by (stage (now t) h.turn _ h.message h.facts.case)
        where
          by : Stage (now t) h.turn → AskedNow (suc t) s d
          by (stamping was none_was none_next same answer) = apart (cc)
          by (prepares timestamp shown last was none_was no_stamps for same answer shows) = apart (cc)
          by (keeps timestamp was for no_stamps same no_prepare over) =
              let same_timestamp : timestamp ≡ s = cc in
              inr (rw h.step.next_is (h.facts.same_register ∙ is, for ∙ ap some same_timestamp, ap sha256 same ∙ digest))
          by (finishes timestamp card signers entries was none_next no_stamps written answer) =
              let new = own_there R P id c x registered t h timestamp entries (ap register_place (sym is)) written in
              let same : number timestamp ≡ s = cc in
              inl (ap (λ (w : Written). w.own) new, omega (arith, ap (λ (w : Written). number w.timestamp) new))
          by (others was none_next no_stamps no_prepare) = apart (cc)

  -- What is at most its own written timestamp stays so.
  below_next : (t s : ℕ) (d : List ℕ) → ((nonce : ℕ) → event R t ≡ some (makes id nonce) → Accepted R t → ⊥) → (last_at R P id c x t).own ≡ true → s ≤ last_timestamp R P id c x t → AskedNow (suc t) s d
  below_next t s d not_made own l = inl (go (moves R P id c x registered t))
    where
      go : Moves R P id c x registered t → ((last_at R P id c x (suc t)).own ≡ true) × (s ≤ last_timestamp R P id c x (suc t))
      go (keeps_last same) = rw same (own, l)
      go (own_last timestamp is was is_own of settled) = (is_own, omega (arith, own_below R P id c x registered t (number timestamp) was is own, ap number of))
      go (handed_last idle was_not is_not) = apart (cc)
      go (no_last nonce e a is_not) = absurd (not_made nonce e a)

  pub asked_now : (t s : ℕ) (d : List ℕ) (shown : Option PreparedProof) (last : Option WrittenProof) → OneLaptop R id 0 t → Said R x (client id) (PREPARE id s d shown last) t → AskedNow t s d
  asked_now zero s d shown last one e = let l = e.earlier in absurd (omega arith)
  asked_now (suc t) s d shown last one e = split_last e.time t e.earlier now_sent (λ l. go (asked_now t s d shown last (λ u nonce low high. one u nonce low (omega arith)) (record { time = e.time; earlier = l; by = e.by; register_is = e.register_is; answered = e.answered })))
    where
      now_sent : e.time ≡ t → AskedNow (suc t) s d
      now_sent z = inr (subst (λ (u : ℕ). Current (suc u) s d) z (sent_now e.time s d shown last e.by e.register_is e.answered).1)

      go : AskedNow t s d → AskedNow (suc t) s d
      go (inl (own, l)) = below_next t s d (λ nonce q a. one t nonce (omega arith) (omega arith) q a) own l
      go (inr k) = current_next t s d (λ nonce q a. one t nonce (omega arith) (omega arith) q (waits, a)) k
