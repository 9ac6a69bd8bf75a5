-- `wire::card::read_fields` meets its contract.
use Rattle.wire.proofs.card.BitByBit.{Reading}
use Rattle.wire.proofs.card.read_fields.Given as goal

abbrev pub invariant-loop-bit : goal.invariant-loop-bit
invariant-loop-bit l = Reading l.card l.map l.fields l.at l.rest l.bit
