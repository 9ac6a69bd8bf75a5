-- `wire::card_part::card_part` meets its contract.
use Rattle.std.proofs.Common.{refl, arith}
use Rattle.wire.specs.CardPart.{card_part, card_start}
use Rattle.wire.proofs.card_part.card_part.Goals as goal

pub returns-in_default : goal.returns-in_default
unfolding card_part card_start
returns-in_default c = rw c.in_default.ensures (record { result_value = refl; part_at = record { block = refl; offset = omega arith } })

pub returns : goal.returns
unfolding card_part card_start
returns c = let h = c.in-Some.ensures in rw (h.carries, ← h.starts) (record { result_value = refl; part_at = record { block = refl; offset = omega arith } })
