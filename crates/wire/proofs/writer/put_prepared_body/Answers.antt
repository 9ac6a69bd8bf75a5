-- `wire::writer::put_prepared_body` meets its contract.
use Rattle.std.proofs.Common.{arith}
use Rattle.base.specs.Timestamp.{number}
use Rattle.wire.proofs.Stores.{then, restated}
use Rattle.wire.proofs.WrittenParts.{prepared_body}
use Rattle.wire.proofs.writer.put_prepared_body.Goals as goal

pub returns : goal.returns
returns c =
    let a = c.args in
    restated 42 (prepared_body a.register a.replica (number a.timestamp) a.digest.now) (omega arith) (then (then c.put_head-a.ensures c.put_timestamp_and_digest-b.ensures) c.put_register.ensures)
