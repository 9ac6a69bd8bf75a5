-- `deliveries::put_runs` meets its contract.
use native.Mathlib.Omega.{arith}
use Rattle.deliveries.proofs.Listing.{none_listed, next_listed, all_listed}
use Rattle.deliveries.proofs.Runs.{how_many_lem}
use Rattle.deliveries.proofs.put_runs.Goals as goal

pub loop-i-init : goal.loop-i-init
loop-i-init c = none_listed _ _ _

pub loop-i-preserved : goal.loop-i-preserved
loop-i-preserved c =
    let count = c.falling_factorial-count.ensures in
    let all = how_many_lem c.args.k in
    next_listed c.loop-i.invariant (omega arith) c.put_run-next.ensures

pub returns : goal.returns
returns c =
    let count = c.falling_factorial-count.ensures in
    let all = how_many_lem c.args.k in
    all_listed c.loop-i.invariant (omega arith)
