-- `wire::card_part::later_card` meets its contract.
use Rattle.std.proofs.Common.{refl, arith, le-ltb, lt-ltb}
use Rattle.wire.specs.CardPart.{card_start, later_card, second_later, later_start}
use Rattle.wire.proofs.card_part.later_card.Goals as goal

pub returns-in_default : goal.returns-in_default
unfolding card_start later_card second_later later_start
returns-in_default c = rw c.in_default.ensures (record { result_value = refl; part_at = record { block = refl; offset = omega arith } })

pub returns-in_default-find : goal.returns-in_default-find
unfolding card_start later_card second_later later_start
returns-in_default-find c = let one = c.in-Some.ensures in rw (one.carries, c.in_default-find.ensures) (record { result_value = refl; part_at = record { block = refl; offset = omega arith } })

pub returns-then-number : goal.returns-then-number
unfolding card_start later_card second_later later_start
returns-then-number c =
    let one = c.in-Some.ensures in
    let two = c.in-Some-find.ensures in
    rw (one.carries, two.carries, lt-ltb _ _ (rw (c.number.ensures, c.number-2.ensures) at c.if-number.true), ← two.starts)
    (record { result_value = refl; part_at = record { block = refl; offset = omega arith } })

pub returns : goal.returns
unfolding card_start later_card second_later later_start
returns c =
    let one = c.in-Some.ensures in
    let two = c.in-Some-find.ensures in
    rw (one.carries, two.carries, le-ltb _ _ (rw (c.number.ensures, c.number-2.ensures) at c.if-number.false), ← one.starts)
    (record { result_value = refl; part_at = record { block = refl; offset = omega arith } })
