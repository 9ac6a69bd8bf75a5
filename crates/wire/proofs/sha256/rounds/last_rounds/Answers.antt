-- `last_rounds`: 48 rounds are done and four for each turn, from any start from which 48 gave `middle`.
use Rattle.std.proofs.Common.{◌+◌, ◌*◌, arith}
use Rattle.wire.proofs.sha256.rounds.Schedule.{round_next}
use Rattle.wire.proofs.sha256.rounds.last_rounds.Goals as goal

pub loop-turn-preserved : goal.loop-turn-preserved
loop-turn-preserved c = λ start e.
    let w = c.args.w.now in
    let t = 48 + 4 * c.loop-turn.turn in
    let s₁ = round_next w start t (t + 1) (omega arith) (c.loop-turn.invariant start e) c.round_at-v.ensures in
    let s₂ = round_next w start (t + 1) (t + 2) (omega arith) s₁ c.round_at-v-in-loop-turn.ensures in
    let s₃ = round_next w start (t + 2) (t + 3) (omega arith) s₂ c.round_at-v-in-loop-turn-2.ensures in
    round_next w start (t + 3) (48 + 4 * (c.loop-turn.turn + 1)) (omega arith) s₃ c.round_at-v-in-loop-turn-3.ensures
