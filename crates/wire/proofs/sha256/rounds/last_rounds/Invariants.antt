-- `last_rounds`: 48 rounds are done and four for each turn, from any start from which 48 gave `middle`.
use Rattle.std.proofs.Common.{◌≡◌, ◌+◌, ◌*◌}
use Rattle.wire.specs.declared.sha256.rounds.WorkingVariables.{WorkingVariables}
use Rattle.wire.specs.Sha256.{rounds}
use Rattle.wire.proofs.sha256.rounds.last_rounds.Given as goal

abbrev pub invariant-loop-turn : goal.invariant-loop-turn
invariant-loop-turn l = (start : WorkingVariables) → l.initial.v ≡ rounds l.w start 48 → l.v ≡ rounds l.w start (48 + 4 * l.turn)
