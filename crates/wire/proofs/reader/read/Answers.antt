-- `wire::reader::read` meets its contract.
use Rattle.std.proofs.Common.{sym, arith}
use Rattle.wire.proofs.FieldParts.{room_for_both}
use Rattle.wire.proofs.FrameTests.{known}
use Rattle.wire.proofs.reader.read.Goals as goal

pub bounds-bytes-2 : goal.bounds-bytes-2
bounds-bytes-2 c = omega (arith, room_for_both _ (known _ _ (sym c.in_ok-places.ensures)).0)
