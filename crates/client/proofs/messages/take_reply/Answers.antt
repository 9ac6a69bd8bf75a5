-- `client::messages::take_reply` meets its contract.
use Rattle.client.proofs.Parting.{last_kind}
use Rattle.client.proofs.messages.take_reply.Goals as goal

pub on_card-requires : goal.on_card-requires
on_card-requires c = let r = c.args.reply in (c.requires, last_kind r.passed c.in_default.not-Stamp c.in_default.not-Prepared c.in_default.not-Written)

pub returns-in-Written : goal.returns-in-Written
returns-in-Written c = c.on_written.ensures c.args.out.now
