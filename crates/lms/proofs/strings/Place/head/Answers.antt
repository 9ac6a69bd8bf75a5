-- `lms::strings::Place::head` meets its contract.
use mathlib.Core.Path.{◌∙◌}
use native.Mathlib.Omega.{arith}
use Rattle.lms.specs.LmOts.{head}
use Rattle.lms.proofs.Laying.{laid_three, full}
use Rattle.lms.proofs.strings.Place.head.Goals as goal

pub returns : goal.returns
unfolding head
returns c =
    let one = c.put.ensures in
    let two = c.put-2.ensures in
    let three = c.put-3.ensures in
    let all = laid_three _ _ _ 16 20 one two (omega arith) (omega arith) (omega arith) (omega arith) _ 22 three (omega arith) (omega arith) in
    full 22 c.put-3.new.out _ (omega arith) all ∙ rw (c.to_four.ensures, c.to_two.ensures)
