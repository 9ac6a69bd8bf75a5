-- `deliveries::put_all` meets its contract.
use Rattle.text.proofs.Putting.{then}
use Rattle.deliveries.specs.ShortRuns.{printed}
use Rattle.deliveries.proofs.put_all.Goals as goal

pub returns : goal.returns
unfolding printed
returns c =
    then (then (then c.put_runs-one.ensures c.put_runs-two.ensures) c.put_runs-three.ensures) c.put_runs.ensures
