-- The contract of a step of a bank, by value and on a lent one alike: its answer, and the bank and the output afterwards.
use Rattle.std.specs.Prelude.{◌≡◌, List, ℕ}
use Rattle.base.specs.Outcome.{Outcome}
use Rattle.wire.specs.Decode.{register_in}
use Rattle.protocol.specs.Bank.{bank_step, bank_call}
use Rattle.protocol.specs.RegisterReplica.{sent_length, with_output}
use Rattle.protocol.specs.declared.replica.Bank.{Bank}

-- `outcome` says the answer by document 01's numbers: the length of the message to send, or the refusal.
pub record BankSteps (bank : Bank) (bytes verdicts old : List ℕ) (answered : Outcome ℕ) (left : Bank) (new : List ℕ) : Type 0 where
  pub answer : answered ≡ (bank_call bank bytes verdicts old).answer
  pub outcome : answered ≡ sent_length (register_in bytes) (with_output old (bank_step bank bytes verdicts))
  pub next : left ≡ (bank_call bank bytes verdicts old).bank
  pub output : new ≡ (bank_call bank bytes verdicts old).output
