-- The number of deliveries that are left falls.
use Rattle.deliveries.proofs.+put_deliveries.Given as goal

abbrev pub decreases-put_deliveries : goal.decreases-put_deliveries
decreases-put_deliveries l = l.k
