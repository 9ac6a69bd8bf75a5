-- The code's `1 << n` is 2 to the n.
use Rattle.std.proofs.Common.{◌≤◌, arith}
use Rattle.std.proofs.lemmas.Nat.{one_shl}
use Rattle.base.specs.Party.{replica_count}
use Rattle.base.proofs.ReplicaSet.{count_ones}
use Rattle.base.proofs.replica_set.ReplicaSet.is_quorum.Goals as goal

pub returns : goal.returns
returns c =
    let small : replica_count c.args.f ≤ 16 = omega arith in
    rw (one_shl c.replica_count.result 32 (omega arith), c.replica_count.ensures, c.from-2.ensures, c.quorum_size.ensures, c.from.ensures, count_ones _ c.args.self small)
