-- What the player is to read in a run's text, by its own grammar (`play/specs/Grammar`).
use Rattle.std.specs.Prelude.{Option, Some, List, ◌∷◌, map}
use Rattle.play.specs.declared.grammar.Command.{Command}
use Rattle.play.specs.declared.grammar.Command.TheVariants.{Write, Read, ToReplica}
use Rattle.deliveries.specs.ShortRuns.{Delivery}

-- "`h H M` delivers message M to holder H"
abbrev pub asks : Delivery → Option Command
asks d = Some (ToReplica d.replica d.message)

-- "After `w 1 0000` (message 1) and `r 2` (message 2)" the deliveries.
abbrev pub commands : List Delivery → List (Option Command)
commands run = Some (Write (record { 0 = 1 })) ∷ Some (Read (record { 0 = 2 })) ∷ map asks run
