-- `client::record::beginning` meets its contract.
use Rattle.client.proofs.record.beginning.Goals as goal

pub returns : goal.returns
returns c = rw (c.array.ensures, c.empty.ensures)
