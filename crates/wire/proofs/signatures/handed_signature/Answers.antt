-- `wire::signatures::handed_signature` meets its contract.
use Rattle.std.proofs.Common.{sym, arith}
use Rattle.wire.proofs.MessageSignatures.{found_so, refuses, no_room, with_room}
use Rattle.wire.proofs.ProofSignatures.{none_found, found_at, entries_stand}
use Rattle.wire.proofs.signatures.handed_signature.Goals as goal

pub returns-then-out-lt-LONGEST_MESSAGE : goal.returns-then-out-lt-LONGEST_MESSAGE
returns-then-out-lt-LONGEST_MESSAGE c = no_room _ (omega arith)

pub returns-then-not-is_whole : goal.returns-then-not-is_whole
returns-then-not-is_whole c = let a = c.args in with_room (omega arith) (refuses (none_found a.register a.proof.now (sym c.if-not-is_whole.ensures) a.i))

pub of_written-requires : goal.of_written-requires
of_written-requires c = (entries_stand c.args.register _ (sym c.if-not-is_whole.ensures), omega arith)

pub returns : goal.returns
returns c = let a = c.args in with_room (omega arith) (found_so (sym (found_at a.register a.proof.now (sym c.if-not-is_whole.ensures) a.i)) c.of_written.ensures)
