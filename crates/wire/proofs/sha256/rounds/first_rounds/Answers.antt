-- `first_rounds`: after so many turns the schedule has eight times as many more words.
use Rattle.std.proofs.Common.{◌+◌, ◌*◌, refl, arith}
use Rattle.wire.specs.Sha256.{schedule, rounds}
use Rattle.wire.proofs.sha256.rounds.Schedule.{turn}
use Rattle.wire.proofs.sha256.rounds.first_rounds.Goals as goal

pub loop-turn-init : goal.loop-turn-init
unfolding schedule rounds
loop-turn-init c = record { size = c.requires.1; scheduled = refl; variables = refl }

pub loop-turn-preserved : goal.loop-turn-preserved
loop-turn-preserved c =
    let t = 8 * c.loop-turn.turn in
    let r₁ = c.round_and_word-v.ensures in
    let r₂ = c.round_and_word-v-in-loop-turn.ensures in
    let r₃ = c.round_and_word-v-in-loop-turn-2.ensures in
    let r₄ = c.round_and_word-v-in-loop-turn-3.ensures in
    let r₅ = c.round_and_word-v-in-loop-turn-4.ensures in
    let r₆ = c.round_and_word-v-in-loop-turn-5.ensures in
    let r₇ = c.round_and_word-v-in-loop-turn-6.ensures in
    let r₈ = c.round_and_word-v-in-loop-turn-7.ensures in
    let s₁ = turn (t + 1) (omega arith) (omega arith) c.loop-turn.invariant r₁.0 r₁.1 r₁.2 in
    let s₂ = turn (t + 2) (omega arith) (omega arith) s₁ r₂.0 r₂.1 r₂.2 in
    let s₃ = turn (t + 3) (omega arith) (omega arith) s₂ r₃.0 r₃.1 r₃.2 in
    let s₄ = turn (t + 4) (omega arith) (omega arith) s₃ r₄.0 r₄.1 r₄.2 in
    let s₅ = turn (t + 5) (omega arith) (omega arith) s₄ r₅.0 r₅.1 r₅.2 in
    let s₆ = turn (t + 6) (omega arith) (omega arith) s₅ r₆.0 r₆.1 r₆.2 in
    let s₇ = turn (t + 7) (omega arith) (omega arith) s₆ r₇.0 r₇.1 r₇.2 in
    turn (8 * (c.loop-turn.turn + 1)) (omega arith) (omega arith) s₇ r₈.0 r₈.1 r₈.2
