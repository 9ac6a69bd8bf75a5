-- The contracts of the functions for Rust and C.
use Rattle.std.specs.Prelude.{◌≡◌, Bool, true, false, List, ℕ}
use Rattle.base.specs.Outcome.{Outcome, accepted, refused}
use Rattle.protocol.specs.Bank.{bank_call}
use Rattle.protocol.specs.Order.{order_call}
use Rattle.protocol.specs.declared.replica.Bank.{Bank}
use Rattle.bank.specs.declared.exported.NumberedAnswer.{NumberedAnswer}
use Rattle.bank.specs.declared.exported.NumberedTaking.{NumberedTaking}

-- An answer in numbers: whether a message is sent, with its length or the refusal's number.
abbrev pub in_numbers : Outcome ℕ → NumberedAnswer
in_numbers (accepted n) = record { sent = true; number = n }
in_numbers (refused number) = record { sent = false; number = number }

-- Whether setting up was not refused.
abbrev pub is_good : Outcome (Unit {0}) → Bool
is_good (accepted done) = true
is_good (refused number) = false

-- The contract of a step: what `BankSteps` says, with the answer in numbers.
pub record StepsInNumbers (bank : Bank) (bytes verdicts old : List ℕ) (answered : NumberedAnswer) (left : Bank) (new : List ℕ) : Type 0 where
  pub answer : answered ≡ in_numbers (bank_call bank bytes verdicts old).answer
  pub next : left ≡ (bank_call bank bytes verdicts old).bank
  pub output : new ≡ (bank_call bank bytes verdicts old).output

-- The answer to an order in numbers, and its contract.
abbrev pub taking_in_numbers : Outcome (Unit {0}) → NumberedTaking
taking_in_numbers (accepted done) = record { taken = true; number = 0 }
taking_in_numbers (refused number) = record { taken = false; number = number }

pub record OrdersInNumbers (bank : Bank) (order : List ℕ) (answered : NumberedTaking) (left : Bank) : Type 0 where
  pub answer : answered ≡ taking_in_numbers (order_call bank order).answer
  pub next : left ≡ (order_call bank order).bank
