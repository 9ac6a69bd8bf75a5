-- `register_replica::on_message` meets its contract.
use Rattle.register_replica.proofs.Asked.{step_read_stamp, step_read, last_kind, answers}
use Rattle.register_replica.proofs.on_message.Goals as goal

pub returns-in-ReadStamp : goal.returns-in-ReadStamp
returns-in-ReadStamp c =
    let x = c.args in
    answers x.replica x.message.now x.fields x.out.now _ _ _ (λ verdicts signers e. step_read_stamp x.replica x.message.now verdicts x.fields e c.in-ReadStamp.is) c.read_stamp.ensures

pub returns-in_default : goal.returns-in_default
returns-in_default c =
    let x = c.args in
    let d = c.in_default in
    answers x.replica x.message.now x.fields x.out.now _ _ _
    (λ verdicts signers e. step_read x.replica x.message.now verdicts x.fields e (last_kind x.replica x.message.now verdicts x.fields e d.not-ReadStamp d.not-Prepare d.not-Write))
    c.read.ensures
