-- `wire::writer::write_stamp` meets its contract.
use Rattle.std.proofs.Common.{◌+◌, arith}
use Rattle.wire.specs.Writing.{missing, kept_proof}
use Rattle.wire.proofs.Stores.{then, wrote}
use Rattle.wire.proofs.WrittenParts.{stamp_parts}
use Rattle.wire.proofs.writer.write_stamp.Goals as goal

pub returns : goal.returns
returns c =
    let a = c.args in
    let map = 775 + c.bit_unless_missing-map.result in
    wrote (stamp_parts a.register a.replica map a.nonce (missing a.proof.timestamp) (kept_proof a.proof) a.client (rw c.bit_unless_missing-map.ensures.0)) (omega arith)
    (then (then (then c.put_head-a.ensures c.put_nonce-b.ensures) c.put_proof_unless_missing-c.ensures) c.put_addressed.ensures)
