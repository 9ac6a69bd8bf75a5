-- `client::begin_write` meets its contract.
use Rattle.client.proofs.Calling.{write_calls}
use Rattle.client.proofs.begin_write.Goals as goal

pub returns : goal.returns
returns c = let a = c.args in rw c.stepped.ensures (write_calls a.client a.out.now c.begin_write.result c.begin_write.new.out a.register a.card.now c.begin_write.ensures)
