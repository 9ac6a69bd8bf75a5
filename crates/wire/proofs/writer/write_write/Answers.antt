-- `wire::writer::write_write` meets its contract.
use Rattle.std.proofs.Common.{arith}
use Rattle.wire.specs.Writing.{kept_card, kept_proof}
use Rattle.wire.proofs.Stores.{then, wrote}
use Rattle.wire.proofs.WrittenParts.{write_parts}
use Rattle.wire.proofs.writer.write_write.Goals as goal

pub returns : goal.returns
returns c =
    let a = c.args in
    wrote (write_parts a.register a.client (kept_card a.card.length a.card.card.now) (kept_proof a.proof)) (omega arith)
    (then (then (then c.put_head-a.ensures c.put_card-b.ensures) c.put_proof-c.ensures) c.put_end.ensures)
