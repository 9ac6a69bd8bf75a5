-- `wire::writer::fields::put_addressed` meets its contract.
use Rattle.std.proofs.Common.{◌≡◌, ◌%◌, [], ◌∷◌, arith}
use Rattle.base.specs.BigEndian.{to_bytes}
use Rattle.wire.proofs.Stores.{then, restated}
use Rattle.wire.proofs.writer.fields.put_addressed.Goals as goal

pub returns : goal.returns
unfolding to_bytes
returns c =
    let client = c.args.client in
    let small : client ≡ client % 256 = omega arith in
    then {s = client % 256 ∷ []} (restated 1 (cc) (omega arith) c.put_byte-behind.ensures) c.put_end.ensures
