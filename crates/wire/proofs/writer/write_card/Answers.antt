-- `wire::writer::write_card` meets its contract.
use Rattle.std.proofs.Common.{◌+◌, arith}
use Rattle.wire.specs.Writing.{kept_card, missing, kept_proof}
use Rattle.wire.proofs.Stores.{then, wrote}
use Rattle.wire.proofs.WrittenParts.{card_parts}
use Rattle.wire.proofs.writer.write_card.Goals as goal

pub returns : goal.returns
returns c =
    let a = c.args in
    let map = 807 + c.bit_unless_missing-map.result in
    wrote
    (card_parts a.register a.replica map a.nonce (kept_card a.card.length a.card.card.now) (missing a.proof.timestamp) (kept_proof a.proof) a.client (rw c.bit_unless_missing-map.ensures.0))
    (omega arith)
    (then (then (then (then c.put_head-a.ensures c.put_nonce-b.ensures) c.put_card-c.ensures) c.put_proof_unless_missing-d.ensures) c.put_addressed.ensures)
