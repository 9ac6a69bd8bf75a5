-- `wire::writer::proof::put_entries` meets its contract.
use Rattle.std.proofs.Common.{◌*◌, arith, length-take-le}
use Rattle.wire.proofs.RecordBytes.{entries_kept_lem}
use Rattle.wire.proofs.Stores.{then, restated}
use Rattle.wire.proofs.writer.proof.put_entries.Goals as goal

pub returns : goal.returns
returns c =
    let a = c.args in
    let n = c.min-count.result in
    restated 716 (entries_kept_lem n a.entry_count a.entries.now (omega arith) c.min-count.ensures) (omega (arith, length-take-le (65 * n) a.entries.now (omega arith)))
    (then c.put_byte-behind.ensures (rw c.from.ensures at c.put_bytes.ensures))
