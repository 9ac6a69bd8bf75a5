-- `wire::card::number` meets its contract.
use Rattle.std.proofs.Common.{ℕ, ◌^◌, ◌<◌, ◌≤◌, length, ap, ◌∙◌, pow-suc, add-one, arith, take_all, take-suc}
use native.Mathlib.Nat.{pow-le-pow_right}
use Rattle.base.specs.BigEndian.{from_bytes}
use Rattle.base.proofs.BigEndian.{from_bytes_snoc}
use Rattle.wire.proofs.card.number.Goals as goal

-- What is in hand before the last byte.
few_bytes : (i : ℕ) → i ≤ 3 → 256 ^ i ≤ 256 ^ 3
few_bytes i h = pow-le-pow_right {n = 256} (omega arith) h

pub loop-byte-init : goal.loop-byte-init
unfolding from_bytes
loop-byte-init c = omega arith

pub overflow_mul-n : goal.overflow_mul-n
overflow_mul-n c = omega (arith, few_bytes c.loop-byte.byte-index (omega arith))

pub overflow_add-n : goal.overflow_add-n
overflow_add-n c = let i = c.loop-byte.byte-index in omega (arith, c.from.ensures, few_bytes i (omega arith), c.type_inv.bytes i)

pub loop-byte-preserved : goal.loop-byte-preserved
loop-byte-preserved c =
    let i = c.loop-byte.byte-index in
    let bytes = c.args.bytes.now in
    let inside : i < length bytes = omega arith in
    let more = pow-suc 256 i in
    (rw (add-one, take-suc bytes i 0, from_bytes_snoc) (cc), rw add-one (omega (arith, c.type_inv.bytes i)))

pub returns : goal.returns
returns c = c.loop-byte.invariant.0 ∙ ap from_bytes (take_all c.loop-byte.byte-index c.args.bytes.now (omega arith))
