-- `lms::strings::Place::hash` meets its contract.
use mathlib.Core.Path.{refl, ap, ◌∙◌}
use Prim.Native.Nat.{◌+◌}
use native.Mathlib.Omega.{arith}
use lib.ListN.{length}
use Rattle.wire.specs.Sha256.{sha256}
use Rattle.lms.proofs.Laying.{laid_three}
use Rattle.lms.proofs.strings.Place.hash.Goals as goal

pub returns : goal.returns
returns g c =
    let one = c.put.ensures in
    let two = c.put-2.ensures in
    let three = c.put-3.ensures in
    let j = 22 + length c.args.first.now in
    let k = j + length c.args.second.now in
    let all = laid_three _ _ _ 22 j one two (omega arith) refl (omega arith) (omega arith) _ k three refl (omega arith) in
    c.hash.ensures ∙ ap sha256 (c.front.ensures ∙ all ∙ rw c.head.ensures)
