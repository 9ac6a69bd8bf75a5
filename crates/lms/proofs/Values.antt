-- The values of a string, and their sum. Assumes nothing.
use mathlib.Core.Path.{◌≡◌, ◌∙◌}
use mathlib.Core.List.{List, [], ◌∷◌}
use Prim.Native.Nat.{ℕ, ◌+◌, ◌-◌, ◌*◌, ◌/◌, ◌%◌, ◌<◌}
use native.Mathlib.Numerals.{add-one}
use native.Mathlib.Omega.{arith}
use lib.Bits.{and_mask, and_comm}
use Rattle.base.specs.BigEndian.{to_bytes}
use Rattle.lms.specs.LmOts.{u8str, byte, coef, sum}

pub one_byte : (j : ℕ) → j < 256 → u8str j ≡ j ∷ []
unfolding to_bytes
one_byte j h = let e : j % 256 ≡ j = omega arith in rw e

-- 3.1.3 for w = 8: the i-th value is the i-th byte.
pub coef_8 : (S : List ℕ) (i : ℕ) → byte S i < 256 → coef S i 8 ≡ byte S i
unfolding coef
coef_8 S i h =
    let e₁ : i * 8 / 8 ≡ i = omega arith in
    let e₂ : 8 - (8 * (i % 1) + 8) ≡ 0 = omega arith in
    rw (e₁, e₂) (and_comm 255 (byte S i / 1) ∙ and_mask (byte S i / 1) 8 ∙ omega arith)

pub sum_next : (S : List ℕ) (i total more : ℕ) → total ≡ sum S i → byte S i < 256 → more ≡ 255 - byte S i → total + more ≡ sum S (i + 1)
unfolding sum
sum_next S i total more e small f = rw (add-one i, coef_8 S i small, ← e, ← f)
