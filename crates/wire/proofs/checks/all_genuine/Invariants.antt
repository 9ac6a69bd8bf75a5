-- `wire::checks::all_genuine` meets its contract.
use Rattle.std.proofs.Common.{◌≡◌, ◌*◌, drop}
use Rattle.wire.specs.Checks.{genuine}
use Rattle.wire.proofs.checks.all_genuine.Given as goal

abbrev pub invariant-loop-i : goal.invariant-loop-i
invariant-loop-i l = genuine l.verdicts ≡ genuine (drop (4 * l.i) l.verdicts)

abbrev pub invariant-loop-verdict : goal.invariant-loop-verdict
invariant-loop-verdict l = genuine l.verdicts ≡ genuine (drop l.verdict-index l.rest)
