-- `wire::checks::all_up_to` meets its contract.
use Rattle.std.proofs.Common.{◌≡◌, ℕ, ◌+◌, Bool, ◌&&◌, leb, length, get_or, drop, sym, ap, ◌∙◌, arith}
use mathlib.Core.Bool.{and-true}
use lib.Dec.{leb-zero}
use lib.Seq.{drop-length}
use Rattle.wire.specs.Checks.{all}
use Rattle.wire.proofs.Verdicts.{all_step, up_to_larger}
use Rattle.wire.proofs.checks.all_up_to.Goals as goal

pub loop-number-init : goal.loop-number-init
loop-number-init c = rw (leb-zero c.args.high)

pub loop-number-preserved : goal.loop-number-preserved
loop-number-preserved c =
    let l = c.loop-number in
    let a = c.args in
    let s = a.numbers.now in
    let i = l.number-index in
    let rest = all (λ n. leb n a.high) (drop (i + 1) s) in
    l.invariant
    ∙ ap (λ (r : Bool). leb l.most a.high && r) (all_step (λ n. leb n a.high) s i (omega arith))
    ∙ up_to_larger l.most (get_or s i 0) a.high rest
    ∙ ap (λ (m : ℕ). leb m a.high && rest) (sym c.max-most.ensures)

pub returns : goal.returns
unfolding all
returns c =
    let l = c.loop-number in
    let a = c.args in
    let past : l.number-index ≡ length a.numbers.now = omega arith in
    sym (l.invariant ∙ rw (past, drop-length a.numbers.now) (and-true (leb l.most a.high)))
