-- `lms::one_time::with_checksum` meets its contract.
use mathlib.Core.Path.{ap, ◌∙◌}
use mathlib.Core.List.{List, ◌++◌}
use Prim.Native.Nat.{ℕ}
use native.Mathlib.Omega.{arith}
use Rattle.lms.specs.LmOts.{u16str, Cksm, checked}
use Rattle.lms.proofs.Laying.{laid_two, full}
use Rattle.lms.proofs.one_time.with_checksum.Goals as goal

pub returns : goal.returns
unfolding checked Cksm
returns c =
    let both = laid_two _ _ _ 32 34 c.put.ensures c.put-2.ensures (omega arith) (omega arith) (omega arith) (omega arith) in
    let behind = c.to_two.ensures ∙ ap u16str c.checksum-sum.ensures in
    full 34 c.put-2.new.out _ (omega arith) both ∙ ap (λ (x : List ℕ). c.args.values.now ++ x) behind
