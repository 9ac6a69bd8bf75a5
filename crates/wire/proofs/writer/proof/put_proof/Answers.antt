-- `wire::writer::proof::put_proof` meets its contract.
use Rattle.std.proofs.Common.{append_assoc, arith}
use Rattle.base.specs.BigEndian.{to_bytes}
use Rattle.base.specs.Timestamp.{number}
use Rattle.wire.specs.Layout.{proof_room}
use Rattle.wire.specs.Proof.{counted_entries, proof_bytes}
use Rattle.wire.specs.Writing.{kept_entries}
use Rattle.wire.proofs.Stores.{then, restated}
use Rattle.wire.proofs.writer.proof.put_proof.Goals as goal

pub returns : goal.returns
unfolding proof_bytes
returns g c =
    let a = c.args.proof in
    restated (proof_room g.row.D) (append_assoc (to_bytes 5 (number a.timestamp)) a.digest.now (counted_entries (kept_entries a.entry_count a.entries.now))) (omega arith)
    (then c.put_timestamp_and_digest-behind.ensures c.put_entries.ensures)
