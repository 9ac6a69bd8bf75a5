-- `lms::strings::Place::chain_end` meets its contract: before step j the steps from `from` to j - 1 are done.
use mathlib.Core.Path.{◌≡◌}
use Prim.Native.Nat.{◌-◌}
use Rattle.lms.specs.LmOts.{head, chain}
use Rattle.lms.proofs.strings.Place.chain_end.Given as goal

abbrev pub invariant-loop-j : goal.invariant-loop-j
invariant-loop-j l = l.tmp ≡ chain (head l.self.identifier l.self.number l.fn.i) l.from (l.j - l.from) l.initial.tmp
