-- The number of factors falls.
use Rattle.deliveries.proofs.+falling_factorial.Given as goal

abbrev pub decreases-falling_factorial : goal.decreases-falling_factorial
decreases-falling_factorial l = l.k
