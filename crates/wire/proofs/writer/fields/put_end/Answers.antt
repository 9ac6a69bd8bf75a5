-- `wire::writer::fields::put_end` meets its contract.
use Rattle.wire.proofs.Stores.{then}
use Rattle.wire.proofs.writer.fields.put_end.Goals as goal

pub returns : goal.returns
returns c =
    then c.put_register-behind.ensures c.put_signature.ensures
