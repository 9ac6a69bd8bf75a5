-- What a bank's step leaves, from the contract of the register's part that was stepped. Assumes nothing.
use mathlib.Core.Path.{◌≡◌, refl, ap, ◌∙◌}
use mathlib.Core.List.{List}
use Prim.Native.Nat.{ℕ}
use Rattle.base.specs.Outcome.{Outcome, accepted, refused}
use Rattle.base.specs.Party.{register_place}
use Rattle.base.specs.declared.party.RegisterId.{RegisterId}
use Rattle.wire.specs.Decode.{register_in}
use Rattle.protocol.specs.Bank.{bank_part, with_bank_part, bank_step, BankCall, bank_call_at, bank_call, place_in}
use Rattle.protocol.specs.RegisterReplica.{Reply, register_step, sent_length, register_answers, with_output, register_call}
use Rattle.protocol.specs.declared.replica.Bank.{Bank}
use Rattle.protocol.specs.declared.replica.RegisterReplica.{RegisterReplica}
use Rattle.protocol.proofs.BankFacts.{call_by_last_byte}
use Rattle.wire.specs.Parts.{last_register}
use Rattle.register_replica.specs.Stepping.{Steps}
use Rattle.bank.specs.Stepping.{BankSteps}

answered : (register : RegisterId) (part : RegisterReplica) (old : List ℕ) (outcome : Outcome Reply) → (register_answers register part old outcome).answer ≡ sent_length register outcome
answered register part old (accepted reply) = refl
answered register part old (refused number) = refl

module _ (bank : Bank) (bytes verdicts old : List ℕ) where
  outcome_is : (bank_call bank bytes verdicts old).answer ≡ sent_length (register_in bytes) (with_output old (bank_step bank bytes verdicts))
  unfolding bank_call bank_step register_call
  outcome_is = answered (register_in bytes) (bank_part (place_in bytes) bank) old (with_output old (register_step (bank_part (place_in bytes) bank) bytes verdicts))

  -- The part at the place where the code looks for the message's register, put back.
  pub bank_steps : (i : ℕ) (answer : Outcome ℕ) (left : RegisterReplica) (new : List ℕ) → i ≡ register_place (last_register bytes) → Steps (bank_part i bank) bytes verdicts old answer left new
      → BankSteps bank bytes verdicts old answer (with_bank_part i left bank) new
  bank_steps i answer left new at steps =
      let call : bank_call_at i bank bytes verdicts old ≡ bank_call bank bytes verdicts old = ap (λ (j : ℕ). bank_call_at j bank bytes verdicts old) at ∙ call_by_last_byte bank bytes verdicts old in
      let same = steps.answer ∙ ap (λ (c : BankCall). c.answer) call in
      record {
        answer = same;
        outcome = same ∙ outcome_is;
        next = ap (λ (part : RegisterReplica). with_bank_part i part bank) steps.next ∙ ap (λ (c : BankCall). c.bank) call;
        output = steps.output ∙ ap (λ (c : BankCall). c.output) call;
      }
