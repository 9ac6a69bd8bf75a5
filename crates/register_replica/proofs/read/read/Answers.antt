-- `register_replica::read::read` meets its contract.
use mathlib.Core.Path.{refl}
use native.Mathlib.Omega.{arith}
use Rattle.register_replica.proofs.Replies.{sends_keeping}
use Rattle.register_replica.proofs.read.read.Goals as goal

pub returns : goal.returns
returns c =
    let a = c.args in
    let k = c.kept_proof.ensures in
    let wrote = rw (k.timestamp, k.digest, k.entry_count, k.entries) at c.write_card-answer.ensures in
    sends_keeping a.register a.replica a.out.now _ _ _ a.replica _ _ refl (omega (arith, c.requires)) wrote refl c.keep.ensures
