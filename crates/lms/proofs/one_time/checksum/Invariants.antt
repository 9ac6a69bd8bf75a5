-- `lms::one_time::checksum` meets its contract: after i turns it has the sum over the first i values.
use mathlib.Core.Path.{◌≡◌}
use Prim.Native.Nat.{◌*◌, ◌≤◌}
use Rattle.lms.specs.LmOts.{sum}
use Rattle.lms.proofs.one_time.checksum.Given as goal

abbrev pub invariant-loop-value : goal.invariant-loop-value
invariant-loop-value l = (l.sum ≤ 255 * l.value-index) × (l.sum ≡ sum l.values l.value-index)
