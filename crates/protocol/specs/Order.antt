-- Document 02, #105: withdrawal orders under the office key. What a replica makes of an order, which shuts out a client "for every set".
use Rattle.std.specs.Prelude.{Bool, List, ℕ}
use Rattle.base.specs.ClientSet.{with}
use Rattle.base.specs.Outcome.{Outcome, accepted, refused, guard, ◌>>=◌}
use Rattle.base.specs.declared.client_set.ClientSet.{ClientSet}
use Rattle.base.specs.declared.party.ClientId.{ClientId}
use Rattle.lms.specs.Lms.{genuine}
use Rattle.wire.specs.Order.{client_named, order_covered, order_signature, is_order}
use Rattle.protocol.specs.declared.replica.Bank.{Bank}

-- 22: "its signature fails, tested after 21".
abbrev pub is_signed : List ℕ → List ℕ → Bool
is_signed key order = genuine key (order_covered order) (order_signature order)

-- The client that an order withdraws where this is the key, or its refusal: 21 first.
unfoldable pub ordered : List ℕ → List ℕ → Outcome ClientId
ordered key order = guard 21 (is_order order) (guard 22 (is_signed key order) (accepted (client_named order)))

-- A bank where other clients are withdrawn, and where one more is: "withdrawn for good, for every set".
abbrev pub with_withdrawn : ClientSet → Bank → Bank
with_withdrawn withdrawn bank = record { f = bank.f; id = bank.id; registers = bank.registers; withdrawn = withdrawn; key = bank.key }

abbrev pub withdrawing : ClientId → Bank → Bank
withdrawing client bank = with_withdrawn (with bank.withdrawn client) bank

-- A replica is handed an order.
unfoldable pub take_order : Bank → List ℕ → Outcome Bank
take_order bank order = ordered bank.key order >>= λ client. accepted (withdrawing client bank)

-- ---- The call: "No output is lent with an order."

pub record OrderCall : Type 0 where
  pub answer : Outcome (Unit {0})
  pub bank : Bank

-- "A good one is answered "taken"", and a refused one changes nothing.
abbrev pub order_answers : Bank → Outcome Bank → OrderCall
order_answers bank (accepted next) = record { answer = accepted tt; bank = next }
order_answers bank (refused number) = record { answer = refused number; bank = bank }

unfoldable pub order_call : Bank → List ℕ → OrderCall
order_call bank order = order_answers bank (take_order bank order)
