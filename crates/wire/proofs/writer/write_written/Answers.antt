-- `wire::writer::write_written` meets its contract.
use Rattle.std.proofs.Common.{arith}
use Rattle.base.specs.Timestamp.{number}
use Rattle.wire.specs.Message.{WRITTEN}
use Rattle.wire.proofs.Stores.{then, wrote}
use Rattle.wire.proofs.WrittenParts.{body_unsigned}
use Rattle.wire.proofs.writer.write_written.Goals as goal

pub returns : goal.returns
returns c =
    let a = c.args in
    wrote (body_unsigned a.register (WRITTEN a.replica (number a.timestamp))) (omega arith) (then c.put_written_body-behind.ensures c.put_signature.ensures)
