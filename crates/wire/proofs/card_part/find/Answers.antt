-- `wire::card_part::find` meets its contract.
use Rattle.std.proofs.Common.{arith}
use Rattle.wire.proofs.CarriedCard.{no_frame, framed_as, card_near, no_card, with_card_lem}
use Rattle.wire.proofs.card_part.find.Goals as goal

pub returns-in_err-places : goal.returns-in_err-places
returns-in_err-places c = rw c.from_residual.ensures (no_frame _ _ c.frame.ensures c.in_err-places.ensures.value)

pub returns-then-places : goal.returns-then-places
returns-then-places c = let k = framed_as _ _ _ c.frame.ensures c.in_ok-places.ensures.value in no_card _ _ k.0 k.1 c.if-places.true

pub overflow_add-result : goal.overflow_add-result
overflow_add-result c = let k = framed_as _ _ _ c.frame.ensures c.in_ok-places.ensures.value in omega (arith, card_near _ _ k.0 k.1)

pub returns : goal.returns
returns c =
    let k = framed_as _ _ _ c.frame.ensures c.in_ok-places.ensures.value in
    with_card_lem _ _ k.0 k.1 _ c.if-places.false (rw c.between.ensures at c.timestamp-timestamp.ensures)
