-- The place falls.
use Rattle.deliveries.proofs.+take_out.Given as goal

abbrev pub decreases-take_out : goal.decreases-take_out
decreases-take_out l = l.place
