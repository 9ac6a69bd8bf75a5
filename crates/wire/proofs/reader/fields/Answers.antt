-- `wire::reader::fields` meets its contract.
use Rattle.std.proofs.Common.{arith}
use Rattle.wire.proofs.FieldParts.{made, room_for_both}
use Rattle.wire.proofs.FrameTests.{known}
use Rattle.wire.proofs.reader.fields.Goals as goal

pub bounds-bytes-3 : goal.bounds-bytes-3
bounds-bytes-3 c = omega (arith, room_for_both _ (known _ _ c.requires.0).0)

pub returns : goal.returns
returns c =
    let k = known _ _ c.requires.0 in
    made c.args.bytes.now c.args.places c.args.kind _ _ _ _ k.0 k.1 c.requires.1
    (rw c.between.ensures at c.eight_bytes-nonce.ensures)
    (rw c.between-2.ensures at c.timestamp-timestamp.ensures)
    (rw c.between-3.ensures at c.first_byte-addressed.ensures)
    (rw c.between-4.ensures at c.first_byte-register.ensures)
