-- `first_rounds`: after so many turns the schedule has eight times as many more words.
use Rattle.std.proofs.Common.{◌*◌, take}
use Rattle.wire.proofs.sha256.rounds.Schedule.{Turned}
use Rattle.wire.proofs.sha256.rounds.first_rounds.Given as goal

abbrev pub invariant-loop-turn : goal.invariant-loop-turn
invariant-loop-turn l = Turned (take 16 l.initial.w) l.initial.v l.w l.v (8 * l.turn)
