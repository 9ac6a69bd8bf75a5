-- `wire::writer::fields::put_timestamp_and_digest` meets its contract.
use Rattle.wire.proofs.Stores.{then}
use Rattle.wire.proofs.writer.fields.put_timestamp_and_digest.Goals as goal

pub returns : goal.returns
returns g c = then c.put_timestamp-behind.ensures c.put_digest.ensures
