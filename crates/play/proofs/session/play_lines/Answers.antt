-- `play::session::play_lines` meets its contract. Whoever prints what is left has printed all.
use mathlib.Core.Path.{refl}
use Prim.Native.Nat.{◌+◌, ◌-◌}
use native.Mathlib.Omega.{arith}
use Rattle.play.proofs.Printing.{with_line, none_left, at_end}
use Rattle.play.proofs.session.play_lines.Goals as goal

pub loop-number-preserved : goal.loop-number-preserved
loop-number-preserved c =
    let e = c.line_end-end in
    let l = c.loop-number in
    let a = c.args in (
      omega arith,
      omega arith,
      λ f new later. l.invariant.2 f new (with_line l.played.world l.store a.script.now _ l.from e.result l.number c.play_line-played.ensures (omega arith) (omega arith) e.ensures.is refl later),
    )

pub returns-after-loop-number : goal.returns-after-loop-number
returns-after-loop-number c =
    let l = c.loop-number in
    let a = c.args in
    l.invariant.2 l.played.end l.out (none_left l.played.world l.store l.out a.script.now l.played.end l.number l.from (omega arith))

pub returns-then-script-from : goal.returns-then-script-from
returns-then-script-from c =
    let l = c.loop-number in
    let a = c.args in
    l.invariant.2 l.played.end l.out (at_end l.played.world l.store l.out a.script.now l.played.end (l.number + 1) l.from (100 - l.number) (omega arith))
