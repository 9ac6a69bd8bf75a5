-- Binary digits of masks. Assumes nothing.
use mathlib.Core.Path.{◌≡◌, refl, sym, ap, ◌∙◌}
use mathlib.Core.Bool.{Bool, true, false, ◌||◌}
use mathlib.Core.Logic.{◌⊎◌, inl, inr}
use Prim.Native.Nat.{ℕ, zero, suc, max, ◌*◌, ◌/◌, ◌%◌, ◌^◌, ◌<◌}
use native.Mathlib.Nat.{pow-suc}
use native.Mathlib.Omega.{arith}
use borrow.Author.Tests.{eqb-true, eq-eqb, ne_eqb}
use Rattle.std.proofs.lemmas.Bool.{cases_eq}
use Rattle.std.proofs.lemmas.Nat.{one_shl}
use Rattle.std.proofs.lemmas.Nat.Bits.{bit_at_or, bit_at-zero, bit_at-pow_same, bit_at-pow_other}
use lib.Bits.{bit_or, or_step, or_zero_r}
use lib.Dec.{eqb}
use lib.Pow.{shr-shr}

-- Whether digit k of a number is 1.
abbrev pub digit : ℕ → ℕ → Bool
digit k n = eqb (n / 2 ^ k % 2) 1

pub digit_or : (k a b : ℕ) → digit k (bit_or a b) ≡ (digit k a || digit k b)
digit_or k a b = rw (bit_at_or a b k) (either (a / 2 ^ k % 2) (b / 2 ^ k % 2) (omega arith) (omega arith))
  where
    either : (x y : ℕ) → x < 2 → y < 2 → eqb (max x y) 1 ≡ (eqb x 1 || eqb y 1)
    either zero zero h k = refl
    either zero (suc zero) h k = refl
    either (suc zero) zero h k = refl
    either (suc zero) (suc zero) h k = refl
    either (suc (suc x)) y h k = absurd (omega arith)
    either zero (suc (suc y)) h k = absurd (omega arith)
    either (suc zero) (suc (suc y)) h k = absurd (omega arith)

pub digit_zero : (k : ℕ) → digit k 0 ≡ false
digit_zero k = rw (bit_at-zero k)

-- A power of two has one digit 1.
pub digit_power : (k j : ℕ) → digit k (2 ^ j) ≡ eqb k j
digit_power k j = go (cases_eq k j)
  where
    go : (k ≡ j) ⊎ (k ≡ j → ⊥) → digit k (2 ^ j) ≡ eqb k j
    go (inl same) = rw (same, bit_at-pow_same j) (sym (eq-eqb j j refl))
    go (inr other) = rw (bit_at-pow_other j k other, ne_eqb k j other)

-- A digit that is 1 already stays.
pub or_set : (k a : ℕ) → digit k a ≡ true → bit_or a (2 ^ k) ≡ a
or_set zero a h = let odd = eqb-true (a / 1 % 2) 1 h in let one : a % 2 ≡ 1 = omega arith in or_step a 1 ∙ rw (or_zero_r (a / 2), one) (omega arith)
or_set (suc k) a h =
    let half : 2 ^ suc k / 2 ≡ 2 ^ k = rw pow-suc (omega arith) in
    let even : 2 ^ suc k % 2 ≡ 0 = rw pow-suc (omega arith) in
    let rest : digit k (a / 2) ≡ true = ap (λ (n : ℕ). eqb (n % 2) 1) (shr-shr a 1 k ∙ ap (λ (j : ℕ). a / 2 ^ j) (omega arith)) ∙ h in
    or_step a (2 ^ suc k) ∙ rw (half, even, or_set k (a / 2) rest) (omega arith)

-- The code's `1 << k` at a width of w digits.
pub shifted_one : (k w : ℕ) → k < w → 1 * 2 ^ k % 2 ^ w ≡ 2 ^ k
shifted_one k w h = one_shl k w h
