-- The contract of a call that is made on a bank.
use Rattle.std.specs.Prelude.{◌≡◌}
use Rattle.base.specs.Refusal.{outcome}
use Rattle.protocol.specs.Events.{ReplicaEvent, expected, bank_after, answered_by}
use Rattle.protocol.specs.declared.replica.Bank.{Bank}
use Rattle.audit.specs.declared.calling.Called.{Called}

-- What is answered, "length 0 for "taken"", and the bank that is left.
pub record MakesCall (bank : Bank) (call : ReplicaEvent) (r : Called) : Type 0 where
  pub answers : answered_by (outcome r.answer) r.out ≡ expected bank call
  pub leaves : r.bank ≡ bank_after bank call
