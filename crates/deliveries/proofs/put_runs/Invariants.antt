-- `deliveries::put_runs` meets its contract.
use Rattle.deliveries.proofs.Listing.{Listing}
use Rattle.deliveries.proofs.put_runs.Given as goal

abbrev pub invariant-loop-i : goal.invariant-loop-i
invariant-loop-i l = Listing l.initial.out l.initial.next l.k l.out l.next l.i
