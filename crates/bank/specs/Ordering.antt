-- The contract of an order handed to a bank, by value and on a lent one alike.
use Rattle.std.specs.Prelude.{◌≡◌, List, ℕ}
use Rattle.base.specs.ClientSet.{with}
use Rattle.base.specs.Outcome.{Outcome, accepted, ◌>>=◌}
use Rattle.base.specs.declared.client_set.ClientSet.{ClientSet}
use Rattle.base.specs.declared.party.ClientId.{ClientId}
use Rattle.protocol.specs.Order.{take_order, order_call}
use Rattle.protocol.specs.declared.replica.Bank.{Bank}

-- Who is withdrawn afterwards, from who was and whom an order withdraws.
abbrev pub withdrawal : ClientSet → Outcome ClientId → Outcome ClientSet
withdrawal before ordered = ordered >>= λ client. accepted (with before client)

-- `outcome` says the answer by document 02's numbers.
pub record OrderSteps (bank : Bank) (order : List ℕ) (answered : Outcome (Unit {0})) (left : Bank) : Type 0 where
  pub answer : answered ≡ (order_call bank order).answer
  pub outcome : answered ≡ (take_order bank order >>= λ next. accepted tt)
  pub next : left ≡ (order_call bank order).bank
