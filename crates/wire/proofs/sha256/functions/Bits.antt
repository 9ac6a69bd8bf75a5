-- The code's forms of Ch and Maj are the standard's, bit by bit; and ⊕ is associative. Assumes nothing.
use Rattle.std.proofs.Common.{◌≡◌, ℕ, zero, suc, ◌+◌, ◌-◌, ◌/◌, ◌%◌, ◌^◌, ◌<◌, refl, pow-suc, arith}
use lib.Bits.{bit_and, bit_xor, and_shr, xor_shr, and_mod, xor_mod}
use Rattle.wire.specs.Sha256.{Ch, Maj}

xor_half : (a b : ℕ) → bit_xor a b / 2 ≡ bit_xor (a / 2) (b / 2)
xor_half a b = xor_shr a b 1

and_half : (a b : ℕ) → bit_and a b / 2 ≡ bit_and (a / 2) (b / 2)
and_half a b = and_shr a b 1

xor_bit : (a b : ℕ) → bit_xor a b % 2 ≡ bit_xor (a % 2) (b % 2)
xor_bit a b = xor_mod a b 1

and_bit : (a b : ℕ) → bit_and a b % 2 ≡ bit_and (a % 2) (b % 2)
and_bit a b = and_mod a b 1

-- A bit is 0 or 1.
either : (P : ℕ → Type 0) → P 0 → P 1 → (a : ℕ) → a < 2 → P a
either P p₀ p₁ zero h = p₀
either P p₀ p₁ (suc zero) h = p₁
either P p₀ p₁ (suc (suc a)) h = absurd (omega arith)

-- What holds of all eight triples of bits holds of the last bits of any three numbers.
module _ (P : ℕ → ℕ → ℕ → Type 0) (p₀ : P 0 0 0) (p₁ : P 0 0 1) (p₂ : P 0 1 0) (p₃ : P 0 1 1) (p₄ : P 1 0 0) (p₅ : P 1 0 1) (p₆ : P 1 1 0) (p₇ : P 1 1 1) where
  bits : (a b c : ℕ) → P (a % 2) (b % 2) (c % 2)
  bits a b c =
      let z = c % 2 in
      let h : z < 2 = omega arith in
      let low = either (λ y. P 0 y z) (either (P 0 0) p₀ p₁ z h) (either (P 0 1) p₂ p₃ z h) (b % 2) (omega arith) in
      let high = either (λ y. P 1 y z) (either (P 1 0) p₄ p₅ z h) (either (P 1 1) p₆ p₇ z h) (b % 2) (omega arith) in
      either (λ x. P x (b % 2) z) low high (a % 2) (omega arith)

-- Two functions of x, its complement n, y and z agree if they go by halves and by last bits, and agree on bits.
module _ (F G : ℕ → ℕ → ℕ → ℕ → ℕ)
    (halves : (n x y z : ℕ) → (F n x y z / 2 ≡ F (n / 2) (x / 2) (y / 2) (z / 2)) × (G n x y z / 2 ≡ G (n / 2) (x / 2) (y / 2) (z / 2)))
    (lasts : (n x y z : ℕ) → (F n x y z % 2 ≡ F (n % 2) (x % 2) (y % 2) (z % 2)) × (G n x y z % 2 ≡ G (n % 2) (x % 2) (y % 2) (z % 2)))
    (none : F 0 0 0 0 ≡ G 0 0 0 0)
    (on_bits : (x y z : ℕ) → F (1 - x % 2) (x % 2) (y % 2) (z % 2) ≡ G (1 - x % 2) (x % 2) (y % 2) (z % 2)) where
  agree : (k n x y z : ℕ) → n + x + 1 ≡ 2 ^ k → y < 2 ^ k → z < 2 ^ k → F n x y z ≡ G n x y z
  agree zero n x y z hn hy hz =
      let en : n ≡ 0 = omega arith in
      let ex : x ≡ 0 = omega arith in
      let ey : y ≡ 0 = omega arith in
      let ez : z ≡ 0 = omega arith in
      rw (en, ex, ey, ez) none
  agree (suc k) n x y z hn hy hz =
      let p = pow-suc 2 k in
      let bit : n % 2 ≡ 1 - x % 2 = omega arith in
      let half : F n x y z / 2 ≡ G n x y z / 2 =
      rw ((halves n x y z).0, (halves n x y z).1) (agree k (n / 2) (x / 2) (y / 2) (z / 2) (omega arith) (omega arith) (omega arith)) in
      let last : F n x y z % 2 ≡ G n x y z % 2 = rw ((lasts n x y z).0, (lasts n x y z).1, bit) (on_bits x y z) in
      omega arith

pub ch_form : (x y z : ℕ) → x < 2 ^ 32 → y < 2 ^ 32 → z < 2 ^ 32 → bit_xor z (bit_and x (bit_xor y z)) ≡ Ch x y z
unfolding Ch
ch_form x y z hx hy hz =
    agree (λ n x y z. bit_xor z (bit_and x (bit_xor y z))) (λ n x y z. bit_xor (bit_and x y) (bit_and n z))
    (λ n x y z. (simp (xor_half, and_half), simp (xor_half, and_half))) (λ n x y z. (simp (xor_bit, and_bit), simp (xor_bit, and_bit))) refl
    (bits (λ x y z. bit_xor z (bit_and x (bit_xor y z)) ≡ bit_xor (bit_and x y) (bit_and (1 - x) z)) refl refl refl refl refl refl refl refl)
    32 (2 ^ 32 - 1 - x) x y z (omega arith) hy hz

pub maj_form : (x y z : ℕ) → x < 2 ^ 32 → y < 2 ^ 32 → z < 2 ^ 32 → bit_xor y (bit_and (bit_xor x y) (bit_xor y z)) ≡ Maj x y z
unfolding Maj
maj_form x y z hx hy hz =
    agree (λ n x y z. bit_xor y (bit_and (bit_xor x y) (bit_xor y z))) (λ n x y z. bit_xor (bit_xor (bit_and x y) (bit_and x z)) (bit_and y z))
    (λ n x y z. (simp (xor_half, and_half), simp (xor_half, and_half))) (λ n x y z. (simp (xor_bit, and_bit), simp (xor_bit, and_bit))) refl
    (bits (λ x y z. bit_xor y (bit_and (bit_xor x y) (bit_xor y z)) ≡ bit_xor (bit_xor (bit_and x y) (bit_and x z)) (bit_and y z)) refl refl refl refl refl refl refl refl)
    32 (2 ^ 32 - 1 - x) x y z (omega arith) hy hz

pub xor_assoc : (x y z : ℕ) → x < 2 ^ 32 → y < 2 ^ 32 → z < 2 ^ 32 → bit_xor x (bit_xor y z) ≡ bit_xor (bit_xor x y) z
xor_assoc x y z hx hy hz =
    agree (λ n x y z. bit_xor x (bit_xor y z)) (λ n x y z. bit_xor (bit_xor x y) z)
    (λ n x y z. (simp xor_half, simp xor_half)) (λ n x y z. (simp xor_bit, simp xor_bit)) refl
    (bits (λ x y z. bit_xor x (bit_xor y z) ≡ bit_xor (bit_xor x y) z) refl refl refl refl refl refl refl refl)
    32 (2 ^ 32 - 1 - x) x y z (omega arith) hy hz
