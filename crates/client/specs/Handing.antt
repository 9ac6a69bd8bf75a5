-- The contract of a written proof handed to a client.
use Rattle.std.specs.Prelude.{◌≡◌, List, ℕ}
use Rattle.base.specs.Outcome.{accepted, ◌>>=◌}
use Rattle.base.specs.Refusal.{outcome}
use Rattle.base.specs.declared.party.RegisterId.{RegisterId}
use Rattle.protocol.specs.Handing.{take_proof, hand_call}
use Rattle.protocol.specs.declared.client.Client.{Client}
use Rattle.client.specs.declared.handing.Handed.{Handed}

-- `says` says the answer by document 02's numbers.
pub record Hands (client : Client) (register : RegisterId) (bytes verdicts : List ℕ) (handed : Handed) : Type 0 where
  pub answer : outcome handed.answer ≡ (hand_call client register bytes verdicts).answer
  pub says : outcome handed.answer ≡ (take_proof client register bytes verdicts >>= λ next. accepted tt)
  pub next : handed.client ≡ (hand_call client register bytes verdicts).client
