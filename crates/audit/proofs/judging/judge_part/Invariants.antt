-- `audit::judging::judge_part` meets its contract.
use Prim.Native.Nat.{◌-◌}
use lib.ListN.{length}
use Rattle.audit.proofs.Parts.{SoFar}
use Rattle.audit.proofs.judging.judge_part.Given as goal

abbrev pub invariant-loop-places : goal.invariant-loop-places
invariant-loop-places l = SoFar l.initial.bank l.part l.bank l.agreed l.used

abbrev pub decreases-loop-places : goal.decreases-loop-places
decreases-loop-places l = length l.part - l.used
