-- `client::viewer::step` meets its contract.
use Rattle.client.proofs.Calling.{view_calls}
use Rattle.client.proofs.viewer.step.Goals as goal

pub returns : goal.returns
returns c = let a = c.args in rw (c.viewed.ensures, c.stepped.ensures) (view_calls a.viewer.client a.out.now c.hear.result c.hear.new.out a.message.now a.verdicts.now c.hear.ensures)
