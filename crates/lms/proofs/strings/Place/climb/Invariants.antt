-- `lms::strings::Place::climb` meets its contract: after i turns it stands i levels above the leaf.
use mathlib.Core.Path.{◌≡◌}
use Rattle.lms.specs.Lms.{above, climb}
use Rattle.lms.proofs.strings.Place.climb.Given as goal

abbrev pub invariant-loop-i : goal.invariant-loop-i
invariant-loop-i l =
    (l.node.identifier ≡ l.fn.self.identifier) × (l.node.number ≡ above l.fn.self.number l.i)
    × (l.tmp ≡ climb l.fn.self.identifier l.signature l.fn.self.number l.initial.tmp l.i)
