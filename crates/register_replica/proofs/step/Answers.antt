-- `register_replica::step` meets its contract.
use mathlib.Core.Path.{sym}
use native.Mathlib.Omega.{arith}
use Rattle.wire.specs.Decode.{register_in}
use Rattle.register_replica.proofs.Asked.{step_refused, steps_long, steps_short}
use Rattle.register_replica.proofs.Replies.{refuses}
use Rattle.register_replica.proofs.step.Goals as goal

pub returns-then-out-lt-LONGEST_MESSAGE : goal.returns-then-out-lt-LONGEST_MESSAGE
returns-then-out-lt-LONGEST_MESSAGE c =
    let x = c.args in
    steps_short x.replica x.message.now x.verdicts.now x.out.now c.refuse.result (omega (arith, c.if-out-lt-LONGEST_MESSAGE.true)) c.refuse.ensures

pub on_message-requires : goal.on_message-requires
on_message-requires c = (record { verdicts = c.args.verdicts.now; passes = sym c.in-Ok.ensures }, omega (arith, c.if-out-lt-LONGEST_MESSAGE.false))

pub returns-in-Ok : goal.returns-in-Ok
returns-in-Ok c =
    let x = c.args in
    steps_long x.replica x.message.now x.verdicts.now x.out.now _ _ (omega (arith, c.if-out-lt-LONGEST_MESSAGE.false))
    (c.on_message.ensures.leaves x.verdicts.now _ (sym c.in-Ok.ensures))

pub returns-in-Err : goal.returns-in-Err
returns-in-Err c =
    let x = c.args in
    steps_long x.replica x.message.now x.verdicts.now x.out.now _ _ (omega (arith, c.if-out-lt-LONGEST_MESSAGE.false))
    (refuses (register_in x.message.now) x.replica x.out.now _ c.in-Err.refusal c.refuse-in-Err.result
    (step_refused x.replica x.message.now x.verdicts.now _ (sym c.in-Err.ensures)) c.refuse-in-Err.ensures)
