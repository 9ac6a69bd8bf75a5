-- `wire::parts::card` meets its contract.
use Rattle.std.proofs.Common.{◌∙◌}
use Rattle.wire.proofs.parts.card.Goals as goal

pub returns : goal.returns
returns c = c.behind.ensures ∙ rw c.part.ensures
