-- `load_message`: after j turns the first j words are the block's, and the others as before.
use Rattle.std.proofs.Common.{◌≡◌, length, take, drop}
use Rattle.wire.specs.Sha256.{padded, block, words}
use Rattle.wire.proofs.sha256.padding.load_message.Given as goal

abbrev pub invariant-loop-j : goal.invariant-loop-j
invariant-loop-j l = (length l.w ≡ 64) × (take l.j l.w ≡ words (block (padded l.message) l.i) l.j) × (drop l.full l.w ≡ drop l.full l.initial.w)
