-- `hash_message`: after i turns the hash value is that of i blocks.
use Rattle.std.proofs.Common.{◌≡◌, ◌/◌, length, refl, add-one, arith}
use Rattle.wire.specs.Sha256.{H⁰, padded, hash_value}
use Rattle.wire.proofs.sha256.padding.Padded.{length_padded}
use Rattle.wire.proofs.sha256.hash_message.Goals as goal

pub loop-i-init : goal.loop-i-init
unfolding hash_value H⁰
loop-i-init c = refl

pub loop-i-preserved : goal.loop-i-preserved
unfolding hash_value
loop-i-preserved c = let l = c.loop-i in rw (add-one l.i, ← l.invariant) c.hash_block-hash.ensures

pub returns : goal.returns
returns c =
    let l = c.loop-i in
    let m = c.args.message.now in
    let e : l.i ≡ length (padded m) / 64 = omega (arith, length_padded m) in
    rw (← e) l.invariant
