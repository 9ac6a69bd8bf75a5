-- `audit::calling::call_order` meets its contract.
use native.Mathlib.Omega.{arith}
use Rattle.std.proofs.lemmas.Grind.{common_steps}
use Rattle.audit.proofs.CallsMade.{calls_order}
use Rattle.audit.proofs.calling.call_order.Goals as goal

pub returns : goal.returns
returns c = calls_order _ _ _ _ c.take_order_in_place-taken.ensures (grind (arith, common_steps))
