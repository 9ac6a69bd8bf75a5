-- `deliveries::take_out`, which calls itself, meets its contract.
use Rattle.std.proofs.Common.{arith}
use Rattle.deliveries.proofs.Digits.{takes_last, takes_earlier}
use Rattle.deliveries.proofs.+take_out.Goals as goal

pub returns-then-place-eq0 : goal.returns-then-place-eq0
returns-then-place-eq0 t c = takes_last _ _ (omega arith)

pub returns : goal.returns
returns t c = takes_earlier (omega arith) c.take_out-taken.ensures
