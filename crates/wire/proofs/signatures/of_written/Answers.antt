-- `wire::signatures::of_written` meets its contract.
use Rattle.std.proofs.Common.{refl, ap}
use Rattle.base.specs.Outcome.{accepted}
use Rattle.wire.proofs.MessageSignatures.{none_of, written_at, answers, no_answer}
use Rattle.wire.proofs.signatures.of_written.Goals as goal

pub returns-in_err-replica : goal.returns-in_err-replica
returns-in_err-replica c = rw c.from_residual.ensures (no_answer (ap accepted (none_of 0 _ c.requires.0 _ _ _ c.in_err-replica.ensures)))

pub returns : goal.returns
returns c =
    answers (ap accepted (written_at _ _ _ _ c.requires.0 c.in_ok-replica.ensures)) refl
    (rw c.timestamp.ensures at c.put_written_body-covered.ensures)
