-- `wire::checks::check_signers` meets its contract.
use Rattle.wire.specs.Judging.{entries_in, rising_signers}
use Rattle.wire.proofs.Signers.{from, Gathered}
use Rattle.wire.proofs.checks.check_signers.Given as goal

abbrev pub invariant-loop-i : goal.invariant-loop-i
invariant-loop-i l = Gathered l.n (rising_signers l.n (entries_in l.entries)) l.bits l.last (from l.count l.entries l.i)
