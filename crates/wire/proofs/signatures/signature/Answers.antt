-- `wire::signatures::signature` meets its contract.
use Rattle.std.proofs.Common.{sym, arith}
use Rattle.wire.proofs.MessageSignatures.{unread_at, refused_on, no_room, with_room}
use Rattle.wire.proofs.signatures.signature.Goals as goal

pub returns-then-out-lt-LONGEST_MESSAGE : goal.returns-then-out-lt-LONGEST_MESSAGE
returns-then-out-lt-LONGEST_MESSAGE c = no_room _ (omega arith)

pub returns-in_err-fields : goal.returns-in_err-fields
returns-in_err-fields c = with_room (omega arith) (refused_on c.from_residual.result _ c.from_residual.ensures.1 (unread_at _ _ _ _ (sym c.in_err-fields.ensures)))

pub returns : goal.returns
returns c = with_room (omega arith) c.of_fields.ensures
