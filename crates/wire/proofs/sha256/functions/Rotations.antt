-- The code's forms of Σ₁, σ₀ and σ₁, with one rotation in another, are the standard's. Assumes nothing.
use Rattle.std.proofs.Common.{◌≡◌, ℕ, ◌+◌, ◌-◌, ◌*◌, ◌/◌, ◌%◌, ◌^◌, ◌<◌, sym, refl, ap, ◌∙◌, mod-lt, div-lt_iff_lt-mul, div-le_self, arith, pow_pos, pow-add}
use native.Mathlib.Nat.{div-add-mod, div-div-eq-div-mul, mul-add-div, mul-add-mod_self_left, mul-div-mul_right}
use lib.Bits.{bit_or, bit_xor, or_lt, or_shifted_r, xor_block, xor_shr, xor_mod, xor_lt}
use Rattle.wire.specs.Sha256.{ROTR, SHR, Σ₀, Σ₁, σ₀, σ₁}
use Rattle.wire.proofs.sha256.functions.Bits.{xor_assoc}

-- ---- Remainders of products

scaled : (x m k : ℕ) → 0 < k → x * k % (m * k) ≡ x % m * k
scaled x m k pos =
    let here = ap (λ (z : ℕ). z * k) (div-add-mod x m) in
    let there = ap (λ (q : ℕ). m * k * q + x * k % (m * k)) (sym (mul-div-mul_right x m pos)) ∙ div-add-mod (x * k) (m * k) in
    omega arith

of_product : (x b a : ℕ) → x % (b * a) ≡ x / b % a * b + x % b
of_product x b a =
    let whole = div-add-mod x b in
    let front = ap (λ (z : ℕ). b * z) (div-add-mod (x / b) a) in
    let there = ap (λ (q : ℕ). b * a * q + x % (b * a)) (div-div-eq-div-mul x b a) ∙ div-add-mod x (b * a) in
    omega arith

-- ---- A word by n bits: what leaves at the back comes in at the front

module _ (n k : ℕ) (all : n + k ≡ 32) where
  front_small : (x : ℕ) → x < 2 ^ 32 → x / 2 ^ n < 2 ^ k
  front_small x h =
      let sum : 32 ≡ k + n = omega arith in
      let whole : 2 ^ 32 ≡ 2 ^ k * 2 ^ n = ap (λ (e : ℕ). 2 ^ e) sum ∙ pow-add 2 k n in
      (div-lt_iff_lt-mul (pow_pos n)).1 (omega arith)

  rotated : (x : ℕ) → x < 2 ^ 32 → ROTR n x ≡ x % 2 ^ n * 2 ^ k + x / 2 ^ n
  rotated x h =
      let left : 32 - n ≡ k = omega arith in
      let whole : 2 ^ 32 ≡ 2 ^ n * 2 ^ k = ap (λ (e : ℕ). 2 ^ e) (sym all) ∙ pow-add 2 n k in
      ap (bit_or (x / 2 ^ n)) (ap (λ (e : ℕ). x * 2 ^ e % 2 ^ 32) left ∙ (ap (λ (m : ℕ). x * 2 ^ k % m) whole ∙ scaled x (2 ^ n) (2 ^ k) (pow_pos k)))
      ∙ or_shifted_r (x % 2 ^ n) k (x / 2 ^ n) (front_small x h)

  -- It is one of two words, bit by bit.
  of_xor : (x y : ℕ) → x < 2 ^ 32 → y < 2 ^ 32 → ROTR n (bit_xor x y) ≡ bit_xor (ROTR n x) (ROTR n y)
  of_xor x y hx hy =
      rotated (bit_xor x y) (xor_lt 32 x y hx hy)
      ∙ ap (λ (r : ℕ). r * 2 ^ k + bit_xor x y / 2 ^ n) (xor_mod x y n)
      ∙ ap (λ (r : ℕ). bit_xor (x % 2 ^ n) (y % 2 ^ n) * 2 ^ k + r) (xor_shr x y n)
      ∙ sym (xor_block k (x % 2 ^ n) (y % 2 ^ n) (x / 2 ^ n) (y / 2 ^ n) (front_small x hx) (front_small y hy))
      ∙ ap (λ (r : ℕ). bit_xor r (y % 2 ^ n * 2 ^ k + y / 2 ^ n)) (sym (rotated x hx))
      ∙ ap (bit_xor (ROTR n x)) (sym (rotated y hy))

rotated_small : (n x : ℕ) → x < 2 ^ 32 → ROTR n x < 2 ^ 32
rotated_small n x h = or_lt 32 (x / 2 ^ n) (x * 2 ^ (32 - n) % 2 ^ 32) (omega (arith, div-le_self x (2 ^ n))) (mod-lt (x * 2 ^ (32 - n)) (pow_pos 32))

-- A rotation of a rotation is one by both numbers of bits.
twice : (m n k : ℕ) → m + n + k ≡ 32 → (x : ℕ) → x < 2 ^ 32 → ROTR m (ROTR n x) ≡ ROTR (m + n) x
twice m n k all x h =
    let swap : n + m ≡ m + n = omega arith in
    rotated m (n + k) (omega arith) (ROTR n x) (rotated_small n x h)
    ∙ (ap (λ (p : ℕ). ROTR n x % 2 ^ m * p + ROTR n x / 2 ^ m) (pow-add 2 n k)
    ∙ (mixed (2 ^ m) (2 ^ n) (2 ^ k) x (ROTR n x) (pow_pos m) (rotated n (m + k) (omega arith) x h ∙ ap (λ (p : ℕ). x % 2 ^ n * p + x / 2 ^ n) (pow-add 2 m k))
    ∙ (ap (λ (p : ℕ). x % p * 2 ^ k + x / p) (sym (pow-add 2 n m) ∙ ap (λ (e : ℕ). 2 ^ e) swap) ∙ sym (rotated (m + n) k all x h))))
  where
    mixed : (a b c x y : ℕ) → 0 < a → y ≡ x % b * (a * c) + x / b → y % a * (b * c) + y / a ≡ x % (b * a) * c + x / (b * a)
    mixed a b c x y pos is =
        let split : y ≡ a * (x % b * c) + x / b = is ∙ omega arith in
        let back : y % a ≡ x / b % a = ap (λ (z : ℕ). z % a) split ∙ mul-add-mod_self_left a (x % b * c) (x / b) in
        let rest : y / a ≡ x % b * c + x / b / a = ap (λ (z : ℕ). z / a) split ∙ mul-add-div pos (x % b * c) (x / b) in
        rw (back, rest, of_product x b a, ← div-div-eq-div-mul x b a) (omega arith)

-- ---- The code's forms, of nested rotations

pub big_sigma1_form : (x : ℕ) → x < 2 ^ 32 → ROTR 6 (bit_xor x (ROTR 5 (bit_xor x (ROTR 14 x)))) ≡ Σ₁ x
unfolding Σ₁
big_sigma1_form x h =
    let h₁₄ = rotated_small 14 x h in
    let y = bit_xor x (ROTR 14 x) in
    let hy : y < 2 ^ 32 = xor_lt 32 x (ROTR 14 x) h h₁₄ in
    of_xor 6 26 refl x (ROTR 5 y) h (rotated_small 5 y hy)
    ∙ ap (bit_xor (ROTR 6 x)) (twice 6 5 21 refl y hy ∙ of_xor 11 21 refl x (ROTR 14 x) h h₁₄ ∙ ap (bit_xor (ROTR 11 x)) (twice 11 14 7 refl x h))
    ∙ xor_assoc (ROTR 6 x) (ROTR 11 x) (ROTR 25 x) (rotated_small 6 x h) (rotated_small 11 x h) (rotated_small 25 x h)

pub small_sigma0_form : (x : ℕ) → x < 2 ^ 32 → bit_xor (ROTR 7 (bit_xor x (ROTR 11 x))) (SHR 3 x) ≡ σ₀ x
unfolding σ₀
small_sigma0_form x h = ap (λ (r : ℕ). bit_xor r (SHR 3 x)) (of_xor 7 25 refl x (ROTR 11 x) h (rotated_small 11 x h) ∙ ap (bit_xor (ROTR 7 x)) (twice 7 11 14 refl x h))

pub small_sigma1_form : (x : ℕ) → x < 2 ^ 32 → bit_xor (ROTR 17 (bit_xor x (ROTR 2 x))) (SHR 10 x) ≡ σ₁ x
unfolding σ₁
small_sigma1_form x h = ap (λ (r : ℕ). bit_xor r (SHR 10 x)) (of_xor 17 15 refl x (ROTR 2 x) h (rotated_small 2 x h) ∙ ap (bit_xor (ROTR 17 x)) (twice 17 2 13 refl x h))

pub big_sigma0_form : (x : ℕ) → bit_xor (bit_xor (ROTR 2 x) (ROTR 13 x)) (ROTR 22 x) ≡ Σ₀ x
unfolding Σ₀
big_sigma0_form x = refl
