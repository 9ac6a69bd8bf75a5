-- `wire::checks::check_proof` meets its contract.
use Rattle.std.proofs.Common.{sym, ap, ◌∙◌, arith}
use Rattle.std.proofs.lemmas.Result.{err_from_is_err_and}
use Rattle.base.specs.Timestamp.{number, is_issued}
use Rattle.base.proofs.Timestamps.{of_number_number}
use Rattle.wire.specs.Judging.{entries_in}
use Rattle.wire.proofs.FirstRefusal.{shape_refused, not_real, not_issued, all_passed}
use Rattle.wire.proofs.checks.check_proof.Goals as goal

pub returns-in_err-signers : goal.returns-in_err-signers
returns-in_err-signers c =
    let a = c.args in
    let p = err_from_is_err_and c.from_residual.result c.from_residual.ensures.1 in
    rw (p.1, p.2) (sym (shape_refused a.f (entries_in a.entries.now) a.verdicts.now (number a.timestamp) _ (sym c.in_err-signers.ensures)))

pub returns-then-not-all_genuine : goal.returns-then-not-all_genuine
returns-then-not-all_genuine c =
    let a = c.args in
    sym (not_real a.f (entries_in a.entries.now) a.verdicts.now (number a.timestamp) (sym c.in_ok-signers.ensures) (sym c.all_genuine.ensures ∙ c.if-not-all_genuine.true))

pub returns-then-not-is_issued : goal.returns-then-not-is_issued
returns-then-not-is_issued c =
    let a = c.args in
    let time = ap is_issued (of_number_number a.timestamp (omega arith)) ∙ sym c.is_issued.ensures in
    sym (not_issued a.f (entries_in a.entries.now) a.verdicts.now (number a.timestamp) (sym c.in_ok-signers.ensures) (sym c.all_genuine.ensures ∙ c.if-not-all_genuine.false) (time ∙ c.if-not-is_issued.true))

pub returns : goal.returns
returns c =
    let a = c.args in
    let time = ap is_issued (of_number_number a.timestamp (omega arith)) ∙ sym c.is_issued.ensures in
    sym (all_passed a.f (entries_in a.entries.now) a.verdicts.now (number a.timestamp) (sym c.in_ok-signers.ensures) (sym c.all_genuine.ensures ∙ c.if-not-all_genuine.false) (time ∙ c.if-not-is_issued.false))
