-- `wire::writer::fields::put_card` meets its contract.
use Rattle.std.proofs.Common.{arith, length-take-le}
use Rattle.wire.proofs.RecordBytes.{card_kept_lem}
use Rattle.wire.proofs.Stores.{then, restated}
use Rattle.wire.proofs.writer.fields.put_card.Goals as goal

pub returns : goal.returns
returns c =
    let a = c.args in
    let n = c.min-count.result in
    restated 18 (card_kept_lem n a.card_length a.card.now (omega arith) c.min-count.ensures) (omega (arith, length-take-le n a.card.now (omega arith)))
    (then c.put_byte-behind.ensures (rw c.from.ensures at c.put_bytes.ensures))
