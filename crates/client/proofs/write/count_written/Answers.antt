-- `client::write::count_written` meets its contract.
use Rattle.client.proofs.Parting.{written_sender, own_length}
use Rattle.client.proofs.write.count_written.Goals as goal

pub keep_signature-requires : goal.keep_signature-requires
keep_signature-requires c =
    let r = c.args.reply in
    let range = written_sender r.passed c.requires in
    rw (c.sender-sender.ensures, c.signature.ensures) (range.0, range.1, own_length r.passed)

pub returns : goal.returns
returns c = rw (c.keep_signature.ensures, c.with.ensures, c.sender-sender.ensures, c.signature.ensures) at c.after_written.ensures
