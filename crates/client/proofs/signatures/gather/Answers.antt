-- `client::signatures::gather` meets its contract.
use mathlib.Core.Path.{◌≡◌, sym, ap, ◌∙◌}
use Prim.Native.Nat.{suc, ◌+◌, ◌-◌, ◌*◌, ◌≤◌}
use native.Mathlib.Numerals.{add-one}
use native.Mathlib.Omega.{arith}
use lib.ListN.{length}
use Rattle.base.specs.Counting.{replica}
use Rattle.client.proofs.Gathering.{nothing_gathered, gathered_more, gathered_past, gathered_full}
use Rattle.client.proofs.signatures.gather.Goals as goal
use Rattle.client.proofs.signatures.gather.Goals.{then-has+then-built-lt-MOST_ENTRIES, else-has, else-has-via-then-has+else-built-lt-MOST_ENTRIES, else-has-via-else-has}

pub loop-i-init : goal.loop-i-init
loop-i-init c = let a = c.args in rw c.empty.ensures (nothing_gathered a.counted a.signatures.now)

pub loop-i-preserved : goal.loop-i-preserved
loop-i-preserved c =
    let l = c.loop-i in
    let a = c.args in
    let long : length a.signatures.now ≡ 1_024 = omega arith in
    let next : l.i + 1 ≡ suc l.i = add-one l.i in
    let more : suc l.i ≤ 16 = omega arith in
    elim c.if-has.branch [
      | then-has+then-built-lt-MOST_ENTRIES w ↦
          let at = 64 * w.from-from.result in
          let wide : at + 64 - at ≡ 64 = omega arith in
          let back : suc l.i - 1 ≡ w.from-from.result = rw w.from-from.ensures (omega arith) in
          rw (next, w.built-is) (gathered_more a.counted a.signatures.now long l.i l.built more l.invariant _ (replica (l.i + 1)) _ (ap replica next) (rw (wide, back)) (sym c.has.ensures ∙ w.if-has.true) w.if-built-lt-MOST_ENTRIES.true w.add.ensures)
      | else-has w ↦ rw (next, w.built-is) (elim w.else-has.branch [
        | else-has-via-then-has+else-built-lt-MOST_ENTRIES w' ↦ gathered_full a.counted a.signatures.now long l.i l.built more l.invariant w'.if-built-lt-MOST_ENTRIES.false
        | else-has-via-else-has w' ↦ gathered_past a.counted a.signatures.now long l.i l.built more l.invariant (rw next at (sym c.has.ensures ∙ w'.if-has.false))
      ])
    ]
