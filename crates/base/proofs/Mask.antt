-- What masks hold. Assumes nothing.
use mathlib.Core.Path.{◌≡◌, refl, ap, ◌∙◌}
use mathlib.Core.Bool.{Bool, true, false, ◌||◌, cond, or_comm, and-false}
use Prim.Native.Nat.{ℕ, ◌+◌, ◌-◌, ◌^◌, ◌≤◌, ◌<◌}
use native.Mathlib.Omega.{arith}
use borrow.Author.Tests.{eq-eqb, ne_eqb, eqb-true, eqb-false}
use lib.Bits.{bit_or, or_lt}
use lib.Dec.{eqb}
use lib.Pow.{pow-lt}
use Rattle.base.specs.Mask.{in_mask, put_in}
use Rattle.base.specs.Range.{within}
use Rattle.base.proofs.Apart.{apart}
use Rattle.std.proofs.lemmas.Bool.{and_parts}
use Rattle.base.proofs.Digits.{digit, digit_zero, digit_or, digit_power, or_set}
use Rattle.base.proofs.Range.{bounds}

eqb_less : (low i x : ℕ) → low ≤ i → low ≤ x → eqb (i - low) (x - low) ≡ eqb i x
eqb_less low i x hi hx = go (eqb i x) refl
  where
    go : (b : Bool) → eqb i x ≡ b → eqb (i - low) (x - low) ≡ b
    go true e = let same = eqb-true i x e in eq-eqb (i - low) (x - low) (omega arith)
    go false e = ne_eqb (i - low) (x - low) (λ same. eqb-false i x e (omega arith))

pub in_zero : (low high i : ℕ) → in_mask low high 0 i ≡ false
in_zero low high i = rw (digit_zero (i - low)) (and-false (within low high i))

module _ (low high mask : ℕ) where
  -- A mask with one number more has that one and what it had.
  pub in_put : (x i : ℕ) → within low high i ≡ true → in_mask low high (put_in low high mask x) i ≡ (eqb i x || in_mask low high mask i)
  in_put x i e = rw e (go (within low high x) refl)
    where
      go : (b : Bool) → within low high x ≡ b → digit (i - low) (cond b (bit_or mask (2 ^ (x - low))) mask) ≡ (eqb i x || digit (i - low) mask)
      go true k =
          digit_or (i - low) mask (2 ^ (x - low))
          ∙ rw (digit_power (i - low) (x - low), eqb_less low i x (bounds low high i e).0 (bounds low high x k).0) (or_comm (digit (i - low) mask) (eqb i x))
      go false k = rw (ne_eqb i x (λ same. let there = ap (λ (n : ℕ). within low high n) same in apart (cc)))

  -- What is in already, or can never be, leaves it as it is.
  pub put_again : (x : ℕ) → in_mask low high mask x ≡ true → put_in low high mask x ≡ mask
  put_again x e = let both = and_parts (within low high x) (digit (x - low) mask) e in rw both.0 (or_set (x - low) mask both.1)

  pub put_outside : (x : ℕ) → within low high x ≡ false → put_in low high mask x ≡ mask
  put_outside x e = rw e

  -- A mask of so many digits stays one.
  pub put_below : (width x : ℕ) → high < low + width → mask < 2 ^ width → put_in low high mask x < 2 ^ width
  put_below width x fits small = go (within low high x) refl
    where
      go : (b : Bool) → within low high x ≡ b → cond b (bit_or mask (2 ^ (x - low))) mask < 2 ^ width
      go true k = let there = bounds low high x k in or_lt width mask (2 ^ (x - low)) small (pow-lt (omega arith))
      go false k = small

pub put_in_16 : (mask x : ℕ) → mask < 2 ^ 16 → put_in 1 16 mask x < 2 ^ 16
put_in_16 mask x h = put_below 1 16 mask 16 x (omega arith) h

pub put_in_32 : (mask x : ℕ) → mask < 2 ^ 32 → put_in 65 96 mask x < 2 ^ 32
put_in_32 mask x h = put_below 65 96 mask 32 x (omega arith) h
