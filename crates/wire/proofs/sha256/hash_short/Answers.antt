-- `hash_short`: the hash value of the one block.
use Rattle.std.proofs.Common.{◌≡◌, ◌/◌, length, arith}
use Rattle.wire.specs.Sha256.{H⁰, padded, hash_value}
use Rattle.wire.proofs.sha256.padding.Padded.{length_padded}
use Rattle.wire.proofs.sha256.hash_short.Goals as goal

pub returns : goal.returns
unfolding hash_value H⁰
returns c =
    let m = c.args.message.now in
    let one : length (padded m) / 64 ≡ 1 = omega (arith, length_padded m) in
    rw one c.hash_block.ensures
