-- `wire::checks::all_up_to` meets its contract.
use Rattle.std.proofs.Common.{◌≡◌, ◌&&◌, leb, drop}
use Rattle.wire.specs.Checks.{all}
use Rattle.wire.proofs.checks.all_up_to.Given as goal

abbrev pub invariant-loop-number : goal.invariant-loop-number
invariant-loop-number l = all (λ n. leb n l.high) l.numbers ≡ (leb l.most l.high && all (λ n. leb n l.high) (drop l.number-index l.numbers))
