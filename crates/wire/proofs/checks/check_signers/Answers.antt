-- `wire::checks::check_signers` meets its contract.
use Rattle.std.proofs.Common.{◌*◌, ◌/◌, ◌%◌, length, get_or, sym, ap, arith}
use lib.Bits.{bit_or}
use Rattle.base.specs.ReplicaSet.{empty}
use Rattle.base.proofs.Digits.{shifted_one}
use Rattle.wire.proofs.Signers.{from_start, gather_falls, gather_next, gather_all}
use Rattle.wire.proofs.checks.check_signers.Goals as goal

pub loop-i-init : goal.loop-i-init
loop-i-init c =
    let e = c.args.entries.now in
    record { set = empty; low = λ l. (rw (from_start (length e / 65) e), omega arith, omega arith); high = λ m. absurd (omega (arith, m)) }

pub returns-then-signer-last : goal.returns-then-signer-last
returns-then-signer-last c =
    let l = c.loop-i in
    let e = c.args.entries.now in
    sym (gather_falls (length e / 65) e l.i l.invariant (omega arith) (omega arith))

pub loop-i-preserved : goal.loop-i-preserved
loop-i-preserved c =
    let l = c.loop-i in
    let e = c.args.entries.now in
    let x = get_or e (65 * l.i) 0 in
    gather_next (length e / 65) e l.i l.invariant c.requires (omega arith) (omega arith) (ap (bit_or l.bits) (shifted_one (x % 32) 32 (omega arith)))

pub returns-then-n-last : goal.returns-then-n-last
returns-then-n-last c = sym (c.loop-i.invariant.high c.if-n-last.true)

pub overflow_cast-result : goal.overflow_cast-result
overflow_cast-result c =
    let l = c.loop-i in
    let e = c.args.entries.now in
    let small = (gather_all (length e / 65) e l.i l.invariant c.if-n-last.false (omega arith)).1 in
    omega (arith, small)

pub returns : goal.returns
returns c =
    let l = c.loop-i in
    let e = c.args.entries.now in
    sym (gather_all (length e / 65) e l.i l.invariant c.if-n-last.false (omega arith)).0
