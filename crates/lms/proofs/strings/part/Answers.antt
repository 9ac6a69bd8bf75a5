-- `lms::strings::part` meets its contract.
use mathlib.Core.Path.{◌∙◌}
use native.Mathlib.Omega.{arith}
use Rattle.lms.proofs.Laying.{part_filled}
use Rattle.lms.proofs.strings.part.Goals as goal

pub returns : goal.returns
returns c =
    let a = c.args in
    c.array.ensures ∙ rw c.behind.ensures (part_filled 32 a.at a.bytes.now (omega arith))
