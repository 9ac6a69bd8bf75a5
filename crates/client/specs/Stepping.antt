-- The contracts of the client's calls.
use Rattle.std.specs.Prelude.{◌≡◌, List, ℕ, Result}
use Rattle.base.specs.Outcome.{Outcome, accepted, ◌>>=◌}
use Rattle.base.specs.Party.{client_setup}
use Rattle.base.specs.Refusal.{outcome}
use Rattle.base.specs.declared.party.ClientId.{ClientId}
use Rattle.base.specs.declared.refusal.Refusal.{Refusal}
use Rattle.protocol.specs.Client.{made_client, Turn, ClientCall, answer_outcome, client_outcome, step_outcome}
use Rattle.protocol.specs.declared.client.Client.{Client}
use Rattle.client.specs.declared.Stepped.{Stepped}

-- A client that is set up, or refusal 16.
abbrev pub Made : ℕ → ClientId → ℕ → Result Client Refusal → Type 0
Made f id first_nonce fresh = outcome fresh ≡ (client_setup f id first_nonce >>= λ ready. accepted (made_client f id first_nonce))

-- The contract of the three calls: `made` is what document 01 says of the call, `step` what it says of the step behind test 1.
pub record Calls (made : ClientCall) (step : Outcome Turn) (stepped : Stepped) (new : List ℕ) : Type 0 where
  pub answer : answer_outcome stepped.answer ≡ made.answer
  pub card_length : stepped.card_length ≡ made.card_length
  pub card : stepped.card ≡ made.card
  pub client : stepped.client ≡ made.client
  pub output : new ≡ made.output
  -- What the answer stands for, with the card beside it and the message in the output.
  pub says : client_outcome (answer_outcome stepped.answer) stepped.card_length stepped.card new ≡ step_outcome step
