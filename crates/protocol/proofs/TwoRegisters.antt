-- Requests for two registers commute, of whatever kind and content, refused or not. Assumes nothing.
use mathlib.Core.Path.{◌≡◌, refl, sym, ap, fun_ext, ◌∙◌}
use mathlib.Core.Bool.{Bool, true, false, cond}
use mathlib.Core.List.{List}
use Prim.Native.Nat.{ℕ}
use borrow.Author.Tests.{leb-true, leb-false}
use lib.ListN.{length}
use lib.Seq.{set_comm}
use Rattle.base.specs.Outcome.{Outcome, accepted, refused, ◌>>=◌}
use Rattle.base.specs.Party.{is_register}
use Rattle.base.specs.declared.party.RegisterId.{RegisterId}
use Rattle.base.proofs.Registers.{place_injective}
use Rattle.wire.specs.Acceptance.{admitted}
use Rattle.wire.specs.Decode.{register_in}
use Rattle.wire.specs.Message.{Message, longest}
use Rattle.wire.specs.Writing.{roomy}
use Rattle.wire.specs.declared.message.Party.TheVariants.{Replica as AtReplica}
use Rattle.protocol.specs.Bank.{bank_part, with_bank_part, place_in, bank_step}
use Rattle.protocol.specs.Events.{bank_turn, next_bank, bank_answer, sent_for, expected}
use Rattle.protocol.specs.RegisterReplica.{Reply, register_step}
use Rattle.protocol.specs.Writes.{Delivering, by_step, after_call, by_call, Commute}
use Rattle.protocol.specs.declared.replica.Bank.{Bank}
use Rattle.protocol.specs.declared.replica.Register.{Register}
use Rattle.protocol.specs.declared.replica.RegisterReplica.{RegisterReplica}
use Rattle.protocol.proofs.BankFacts.{part_elsewhere, let_through, refused_alike}
use Rattle.protocol.proofs.Calls.{request_short}
use Rattle.protocol.proofs.GoodBank.{taken_register}
use Rattle.protocol.proofs.Writes.{call_delivers}

parts_commute : (bank : Bank) (i j : ℕ) (part part' : RegisterReplica) → (i ≡ j → ⊥) → with_bank_part j part' (with_bank_part i part bank) ≡ with_bank_part i part (with_bank_part j part' bank)
parts_commute bank i j part part' differ =
    ap (λ (registers : List Register). record { f = bank.f; id = bank.id; registers = registers; withdrawn = bank.withdrawn; key = bank.key })
    (set_comm bank.registers i j part.register part'.register differ)

-- What a request leaves, by its step.
abbrev left : ℕ → Bank → Outcome Reply → Bank
left at bank step = next_bank bank (bank_turn at bank step)

-- Two registers have two places.
two_places : (bytes bytes' : List ℕ) → is_register (register_in bytes) ≡ true → is_register (register_in bytes') ≡ true → (register_in bytes ≡ register_in bytes' → ⊥) → place_in bytes ≡ place_in bytes' → ⊥
two_places bytes bytes' known known' differ same = differ (place_injective (register_in bytes) (register_in bytes') known known' same)

module _ (bank : Bank) (bytes verdicts bytes' verdicts' : List ℕ) (differ : register_in bytes ≡ register_in bytes' → ⊥) where
  -- Behind the other the step is the same,
  same_step : (step' : Outcome Reply) → bank_step bank bytes' verdicts' ≡ step' → bank_step (left (place_in bytes') bank step') bytes verdicts ≡ bank_step bank bytes verdicts
  unfolding bank_step
  same_step (refused n) e = refl
  same_step (accepted reply) e = go (admitted AtReplica bank.f bank.withdrawn bytes verdicts) refl
    where
      go : (o : Outcome (RegisterId × Message)) → admitted AtReplica bank.f bank.withdrawn bytes verdicts ≡ o
          → register_step (bank_part (place_in bytes) (with_bank_part (place_in bytes') reply.next bank)) bytes verdicts ≡ register_step (bank_part (place_in bytes) bank) bytes verdicts
      go (accepted (register, message)) passed =
          let its = (let_through bytes verdicts bank.f bank.withdrawn register message passed).0 in
          let other = taken_register bank bytes' verdicts' reply e in
          ap (λ (part : RegisterReplica). register_step part bytes verdicts)
          (part_elsewhere bank (place_in bytes') reply.next (place_in bytes) (two_places bytes bytes' its other differ))
      go (refused n) stopped =
          refused_alike bytes verdicts (bank_part (place_in bytes) (with_bank_part (place_in bytes') reply.next bank)) n stopped
          ∙ sym (refused_alike bytes verdicts (bank_part (place_in bytes) bank) n stopped)

  -- and so is the reply, which does not look at the bank.
  reply_alike : (by_step (by_step bank bytes' verdicts').left bytes verdicts).reply ≡ (by_step bank bytes verdicts).reply
  unfolding expected
  reply_alike = ap (sent (left (place_in bytes') bank (bank_step bank bytes' verdicts'))) (same_step (bank_step bank bytes' verdicts') refl) ∙ alike (bank_step bank bytes verdicts)
    where
      sent : Bank → Outcome Reply → Outcome (List ℕ)
      sent before step = bank_answer (bank_turn (place_in bytes) before step) >>= λ answer. accepted (sent_for (register_in bytes) answer)

      alike : (step : Outcome Reply) → sent (left (place_in bytes') bank (bank_step bank bytes' verdicts')) step ≡ sent bank step
      alike (accepted reply) = refl
      alike (refused n) = refl

module _ (bank : Bank) (bytes verdicts bytes' verdicts' : List ℕ) (differ : register_in bytes ≡ register_in bytes' → ⊥) where
  same_left : (by_step (by_step bank bytes verdicts).left bytes' verdicts').left ≡ (by_step (by_step bank bytes' verdicts').left bytes verdicts).left
  same_left =
      let step = bank_step bank bytes verdicts in
      let step' = bank_step bank bytes' verdicts' in
      ap (left (place_in bytes') (left (place_in bytes) bank step)) (same_step bank bytes' verdicts' bytes verdicts (λ e. differ (sym e)) step refl)
      ∙ go step step' refl refl
      ∙ sym (ap (left (place_in bytes) (left (place_in bytes') bank step')) (same_step bank bytes verdicts bytes' verdicts' differ step' refl))
    where
      go : (o o' : Outcome Reply) → bank_step bank bytes verdicts ≡ o → bank_step bank bytes' verdicts' ≡ o'
          → left (place_in bytes') (left (place_in bytes) bank o) o' ≡ left (place_in bytes) (left (place_in bytes') bank o') o
      go (accepted reply) (accepted reply') e e' =
          parts_commute bank (place_in bytes) (place_in bytes') reply.next reply'.next
          (two_places bytes bytes' (taken_register bank bytes verdicts reply e) (taken_register bank bytes' verdicts' reply' e') differ)
      go (accepted reply) (refused n) e e' = refl
      go (refused n) o' e e' = refl

  pub two_registers : Commute bank bytes verdicts bytes' verdicts' by_step by_step
  two_registers =
      record {
        first_reply = reply_alike bank bytes verdicts bytes' verdicts' differ;
        second_reply = reply_alike bank bytes' verdicts' bytes verdicts (λ e. differ (sym e));
        same_record = same_left;
      }

-- ---- Calls, with outputs of any length

refusing : Delivering
refusing bank bytes verdicts = record { reply = refused 1; left = bank }

-- A call delivers as the step does, or refuses with 1.
any_call : (old : List ℕ) → by_call old ≡ cond (roomy old) by_step refusing
unfolding refusing
any_call old = go (roomy old) refl
  where
    go : (b : Bool) → roomy old ≡ b → by_call old ≡ cond b by_step refusing
    go true e = call_delivers old (leb-true longest (length old) e)
    go false e = fun_ext (λ bank. fun_ext (λ bytes. fun_ext (λ verdicts. ap after_call (request_short bank bytes verdicts old (leb-false longest (length old) e)))))

pub calls_two_registers : (bank : Bank) (bytes verdicts bytes' verdicts' : List ℕ) → (register_in bytes ≡ register_in bytes' → ⊥) → (old old' : List ℕ)
    → Commute bank bytes verdicts bytes' verdicts' (by_call old) (by_call old')
unfolding refusing
calls_two_registers bank bytes verdicts bytes' verdicts' differ old old' = rw (any_call old, any_call old') (go (roomy old) (roomy old'))
  where
    go : (b b' : Bool) → Commute bank bytes verdicts bytes' verdicts' (cond b by_step refusing) (cond b' by_step refusing)
    go true true = two_registers bank bytes verdicts bytes' verdicts' differ
    go true false = record { first_reply = refl; second_reply = refl; same_record = refl }
    go false b' = record { first_reply = refl; second_reply = refl; same_record = refl }
