-- `wire::checks::smaller` meets its contract.
use Rattle.std.proofs.Common.{ap}
use Rattle.base.specs.Outcome.{refused}
use Rattle.wire.proofs.RefusalOrder.{smaller_number}
use Rattle.wire.proofs.checks.smaller.Goals as goal

pub returns-in-Err-Err : goal.returns-in-Err-Err
returns-in-Err-Err c = let w = c.in-Err-Err in rw (w.is-0, w.is-1) (ap refused (smaller_number w.m w.n c.min.result c.min.ensures))
