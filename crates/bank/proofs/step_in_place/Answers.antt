-- `bank::step_in_place` meets its contract.
use Rattle.protocol.specs.Bank.{no_register}
use Rattle.register_replica.specs.Stepping.{register_replica}
use Rattle.bank.proofs.Calls.{bank_steps}
use Rattle.bank.proofs.step_in_place.Goals as goal

pub returns : goal.returns
unfolding no_register
returns c =
    let x = c.args in
    let bank = x.bank.now in
    let left = register_replica bank.f bank.id bank.withdrawn c.register_in_place.new.register in
    bank_steps bank x.message.now x.verdicts.now x.out.now c.place_of-at.result _ left _ c.place_of-at.ensures.0 c.register_in_place.ensures
