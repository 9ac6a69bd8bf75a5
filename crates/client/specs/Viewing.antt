-- The contracts of the viewing client's calls: those of a client's, of the record within.
use Rattle.std.specs.Prelude.{◌≡◌, ℕ, Result}
use Rattle.base.specs.Outcome.{accepted, ◌>>=◌}
use Rattle.base.specs.Party.{viewer_setup}
use Rattle.base.specs.Refusal.{outcome}
use Rattle.base.specs.declared.party.ClientId.{ClientId}
use Rattle.base.specs.declared.refusal.Refusal.{Refusal}
use Rattle.protocol.specs.Viewer.{made_viewer}
use Rattle.client.specs.declared.Stepped.{Stepped}
use Rattle.client.specs.declared.viewer.Viewer.{Viewer}
use Rattle.client.specs.declared.viewer.ViewerStepped.{ViewerStepped}

-- A viewing client that is set up, or refusal 16.
abbrev pub ViewerMade : ℕ → ClientId → ℕ → Result Viewer Refusal → Type 0
ViewerMade f id first_nonce fresh =
    (outcome fresh >>= λ viewer. accepted viewer.client) ≡ (viewer_setup f id first_nonce >>= λ ready. accepted (made_viewer f id first_nonce))

-- What a call leaves, as a client's call leaves it.
abbrev pub of_viewer : ViewerStepped → Stepped
of_viewer stepped = record { answer = stepped.answer; card_length = stepped.card_length; card = stepped.card; client = stepped.viewer.client }
