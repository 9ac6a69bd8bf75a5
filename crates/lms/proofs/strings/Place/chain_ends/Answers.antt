-- `lms::strings::Place::chain_ends` meets its contract: after i turns the ends of the first i chains are stored.
use mathlib.Core.Path.{◌≡◌}
use native.Mathlib.Omega.{arith}
use Rattle.lms.proofs.Chains.{zs_next}
use Rattle.lms.proofs.Laying.{full}
use Rattle.lms.proofs.strings.Place.chain_ends.Goals as goal

pub loop-i-preserved : goal.loop-i-preserved
loop-i-preserved c =
    let a = c.args in
    let l = c.loop-i in
    let z = c.chain_end-end in (
      omega arith,
      zs_next a.self.identifier a.self.number a.values.now a.signature.now l.i (c.fits-values l.i) l.ends c.put.new.out z.result l.invariant.1
          (omega arith) (rw c.part-start.ensures at z.ensures) (omega arith) c.put.ensures,
    )

pub returns : goal.returns
returns c =
    let l = c.loop-i in
    let e : l.i ≡ 34 = omega arith in
    full 1088 l.ends _ (omega arith) (rw e at l.invariant.1)
