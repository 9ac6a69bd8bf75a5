-- `wire::writer::put_written_body` meets its contract.
use Rattle.std.proofs.Common.{arith}
use Rattle.base.specs.Timestamp.{number}
use Rattle.wire.proofs.Stores.{then, restated}
use Rattle.wire.proofs.WrittenParts.{written_body}
use Rattle.wire.proofs.writer.put_written_body.Goals as goal

pub returns : goal.returns
returns c =
    let a = c.args in
    restated 10 (written_body a.register a.replica (number a.timestamp)) (omega arith) (then (then c.put_head-a.ensures c.put_timestamp-b.ensures) c.put_register.ensures)
