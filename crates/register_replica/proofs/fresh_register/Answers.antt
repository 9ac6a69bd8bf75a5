-- `register_replica::fresh_register` meets its contract.
use Rattle.protocol.specs.RegisterReplica.{fresh_register}
use Rattle.register_replica.proofs.fresh_register.Goals as goal

pub returns : goal.returns
unfolding fresh_register
returns c = rw (c.start.ensures, c.start-2.ensures, c.empty.ensures)
