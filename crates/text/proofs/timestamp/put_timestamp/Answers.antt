-- The count, the dot and the client, one after another.
use Rattle.text.proofs.Putting.{then}
use Rattle.text.specs.Timestamp.{stamp}
use Rattle.text.proofs.timestamp.put_timestamp.Goals as goal

pub returns : goal.returns
unfolding stamp
returns c = rw (← c.from.ensures, ← c.from-2.ensures) (then (then c.put_number-count.ensures c.put-dot.ensures) c.put_number.ensures)
