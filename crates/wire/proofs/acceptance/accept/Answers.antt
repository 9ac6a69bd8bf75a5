-- `wire::acceptance::accept` meets its contract.
use Rattle.wire.proofs.AcceptanceInHalves.{opened_accepted, both_good, second_refuses, first_refuses}
use Rattle.wire.proofs.Passing.{passed_on}
use Rattle.wire.proofs.acceptance.accept.Goals as goal

pub returns-in_err-fields : goal.returns-in_err-fields
returns-in_err-fields c = passed_on c.from_residual.result _ c.from_residual.ensures.1 (first_refuses _ _ _ _ _ _ c.in_err-fields.ensures)

pub judge-requires : goal.judge-requires
judge-requires c = (opened_accepted _ _ _ _ _ _ c.in_ok-fields.ensures).ready

pub returns-in_err-signers : goal.returns-in_err-signers
returns-in_err-signers c = passed_on c.from_residual-in_err-signers.result _ c.from_residual-in_err-signers.ensures.1 (second_refuses _ _ _ _ _ _ c.in_ok-fields.ensures _ c.in_err-signers.ensures)

pub returns : goal.returns
returns c = both_good _ _ _ _ _ _ c.in_ok-fields.ensures _ c.in_ok-signers.ensures
