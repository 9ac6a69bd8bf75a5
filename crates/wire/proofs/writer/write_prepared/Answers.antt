-- `wire::writer::write_prepared` meets its contract.
use Rattle.std.proofs.Common.{arith}
use Rattle.base.specs.Timestamp.{number}
use Rattle.wire.specs.Message.{PREPARED}
use Rattle.wire.proofs.Stores.{then, wrote}
use Rattle.wire.proofs.WrittenParts.{body_unsigned}
use Rattle.wire.proofs.writer.write_prepared.Goals as goal

pub returns : goal.returns
returns c =
    let a = c.args in
    wrote (body_unsigned a.register (PREPARED a.replica (number a.timestamp) a.digest.now)) (omega arith) (then c.put_prepared_body-behind.ensures c.put_signature.ensures)
