-- `client::messages::hear` meets its contract.
use mathlib.Core.Path.{sym}
use Rattle.std.proofs.lemmas.Grind.{merely}
use Rattle.std.proofs.lemmas.Result.{err_from_is_err_and}
use Rattle.protocol.proofs.Calls.{long_output, short_output}
use Rattle.client.specs.Roles.{role_step}
use Rattle.client.proofs.Parting.{step_refused, passed_step}
use Rattle.client.proofs.messages.hear.Goals as goal

pub returns-then-out-lt-LONGEST_MESSAGE : goal.returns-then-out-lt-LONGEST_MESSAGE
returns-then-out-lt-LONGEST_MESSAGE c =
    let a = c.args in
    rw (short_output a.out.now (role_step a.role a.client a.message.now a.verdicts.now) c.if-out-lt-LONGEST_MESSAGE.true)

pub returns-in_err-fields : goal.returns-in_err-fields
returns-in_err-fields c =
    let a = c.args in
    let p = err_from_is_err_and c.from_residual.result c.from_residual.ensures.1 in
    rw (
      p.1,
      p.2,
      long_output a.out.now (role_step a.role a.client a.message.now a.verdicts.now) c.if-out-lt-LONGEST_MESSAGE.false,
      step_refused a.role a.client a.message.now a.verdicts.now _ (sym (rw c.nobody.ensures at c.in_err-fields.ensures)),
    )

pub invariant_of-reply : goal.invariant_of-reply
invariant_of-reply c =
    let a = c.args in
    record { passed = merely (record { f = a.client.f; verdicts = a.verdicts.now; passes = sym (rw c.nobody.ensures at c.in_ok-fields.ensures) }) }

pub returns-in-Ordinary : goal.returns-in-Ordinary
returns-in-Ordinary c =
    let a = c.args in
    rw (
      long_output a.out.now (role_step a.role a.client a.message.now a.verdicts.now) c.if-out-lt-LONGEST_MESSAGE.false,
      passed_step a.client a.message.now a.verdicts.now _ _ (sym (rw c.nobody.ensures at c.in_ok-fields.ensures)) a.role,
      c.in-Ordinary.is,
    ) c.take_reply.ensures

pub returns-in-Viewing : goal.returns-in-Viewing
returns-in-Viewing c =
    let a = c.args in
    rw (
      long_output a.out.now (role_step a.role a.client a.message.now a.verdicts.now) c.if-out-lt-LONGEST_MESSAGE.false,
      passed_step a.client a.message.now a.verdicts.now _ _ (sym (rw c.nobody.ensures at c.in_ok-fields.ensures)) a.role,
      c.in-Viewing.is,
    ) c.take_view.ensures
