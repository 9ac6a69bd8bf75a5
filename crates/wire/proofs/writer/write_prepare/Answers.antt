-- `wire::writer::write_prepare` meets its contract.
use Rattle.std.proofs.Common.{◌+◌, arith}
use Rattle.base.specs.Timestamp.{number}
use Rattle.wire.specs.Writing.{missing, kept_proof}
use Rattle.wire.proofs.Stores.{then, wrote}
use Rattle.wire.proofs.WrittenParts.{prepare_parts}
use Rattle.wire.proofs.writer.write_prepare.Goals as goal

pub returns : goal.returns
returns c =
    let a = c.args in
    let map = 539 + c.bit_unless_missing.result + c.bit_unless_missing-2.result in
    wrote
    (prepare_parts a.register a.client map (number a.timestamp) a.digest.now (missing a.proof.timestamp) (missing a.last.timestamp) (kept_proof a.proof) (kept_proof a.last)
    (rw (c.bit_unless_missing.ensures.0, c.bit_unless_missing-2.ensures.0)))
    (omega arith)
    (then (then (then (then c.put_head-a.ensures c.put_timestamp_and_digest-b.ensures) c.put_proof_unless_missing-c.ensures) c.put_proof_unless_missing-d.ensures) c.put_end.ensures)
