-- `wire::signatures::of_prepared` meets its contract.
use Rattle.std.proofs.Common.{refl, ap}
use Rattle.base.specs.Outcome.{accepted}
use Rattle.wire.proofs.MessageSignatures.{none_of, prepared_at, answers, no_answer}
use Rattle.wire.proofs.signatures.of_prepared.Goals as goal

pub returns-in_err-replica : goal.returns-in_err-replica
returns-in_err-replica c = rw c.from_residual.ensures (no_answer (ap accepted (none_of 32 _ c.requires.0 _ _ _ c.in_err-replica.ensures)))

pub returns : goal.returns
returns c =
    answers (ap accepted (prepared_at _ _ _ _ c.requires.0 c.in_ok-replica.ensures)) refl
    (rw (c.timestamp.ensures, c.array-digest.ensures, c.digest.ensures) at c.put_prepared_body-covered.ensures)
