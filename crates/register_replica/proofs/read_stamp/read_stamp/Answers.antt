-- `register_replica::read_stamp::read_stamp` meets its contract.
use mathlib.Core.Path.{refl}
use native.Mathlib.Omega.{arith}
use Rattle.register_replica.proofs.Replies.{sends_keeping}
use Rattle.register_replica.proofs.read_stamp.read_stamp.Goals as goal

pub returns : goal.returns
returns c =
    let a = c.args in
    let k = c.kept_proof-proof.ensures in
    let wrote = rw (k.timestamp, k.digest, k.entry_count, k.entries) at c.write_stamp-answer.ensures in
    sends_keeping a.register a.replica a.out.now _ _ _ a.replica _ _ refl (omega (arith, c.requires)) wrote refl c.keep.ensures
