-- `wire::frame::lay` meets its contract.
use Rattle.std.proofs.Common.{sym, arith}
use Rattle.wire.proofs.FieldEnds.{place_first}
use Rattle.wire.proofs.frame.lay.Goals as goal

pub take_field-requires : goal.take_field-requires
take_field-requires c = (c.requires.0, omega arith, sym (place_first _), omega arith)
