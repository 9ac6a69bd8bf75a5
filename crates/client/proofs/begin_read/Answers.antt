-- `client::begin_read` meets its contract.
use Rattle.client.proofs.Calling.{read_calls}
use Rattle.client.proofs.begin_read.Goals as goal

pub returns : goal.returns
returns c = let a = c.args in rw c.stepped.ensures (read_calls a.client a.out.now c.begin_read.result c.begin_read.new.out a.register c.begin_read.ensures)
