-- What an ordinary client does and what a viewing one does, by the role that the code hands on.
use Rattle.std.specs.Prelude.{List, ℕ}
use Rattle.base.specs.Outcome.{Outcome}
use Rattle.protocol.specs.Client.{AfterCards, after_card, Turn, client_step}
use Rattle.protocol.specs.Viewer.{after_view, viewer_step}
use Rattle.protocol.specs.declared.client.Client.{Client}
use Rattle.client.specs.declared.role.Role.{Role}
use Rattle.client.specs.declared.role.Role.TheVariants.{Ordinary, Viewing}

abbrev pub after_cards : Role → AfterCards
after_cards Ordinary = after_card
after_cards Viewing = after_view

abbrev pub role_step : Role → Client → List ℕ → List ℕ → Outcome Turn
role_step Ordinary = client_step
role_step Viewing = viewer_step
