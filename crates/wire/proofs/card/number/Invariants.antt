-- `wire::card::number` meets its contract.
use Rattle.std.proofs.Common.{◌≡◌, ◌^◌, ◌<◌, take}
use Rattle.base.specs.BigEndian.{from_bytes}
use Rattle.wire.proofs.card.number.Given as goal

abbrev pub invariant-loop-byte : goal.invariant-loop-byte
invariant-loop-byte l = (l.n ≡ from_bytes (take l.byte-index l.bytes)) × (l.n < 256 ^ l.byte-index)
