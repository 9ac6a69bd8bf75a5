-- `client::step` meets its contract.
use Rattle.client.proofs.Calling.{step_calls}
use Rattle.client.proofs.step.Goals as goal

pub returns : goal.returns
returns c = let a = c.args in rw c.stepped.ensures (step_calls a.client a.out.now c.hear.result c.hear.new.out a.message.now a.verdicts.now c.hear.ensures)
