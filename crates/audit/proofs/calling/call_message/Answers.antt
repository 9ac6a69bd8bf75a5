-- `audit::calling::call_message` meets its contract.
use native.Mathlib.Omega.{arith}
use Rattle.audit.proofs.CallsMade.{calls_message}
use Rattle.audit.proofs.calling.call_message.Goals as goal

pub returns : goal.returns
returns c = calls_message _ _ _ _ (omega arith) _ c.step_in_place-answer.ensures
