-- SHA-256 as FIPS 180-4 defines it; the section numbers are that document's. A message is a list of bytes, a word a number below 2 ^ 32.
use Rattle.std.specs.Prelude.{ℕ, zero, suc, ◌+◌, ◌-◌, ◌*◌, ◌/◌, ◌%◌, ◌^◌, Bool, true, false, List, [], ◌∷◌, ◌++◌, length, take, drop, replicate, bit_and, bit_or, bit_xor, nat_le, slice_index, slice_index_or}
use Rattle.std.specs.declared.option.Option.{Option}
use Rattle.std.specs.declared.option.Option.TheVariants.{Some, None}
use Rattle.base.specs.BigEndian.{from_bytes, to_bytes}
use Rattle.wire.specs.declared.sha256.rounds.WorkingVariables.{WorkingVariables}

-- 2.2.2 and 3.2: the operations on words. `⊞` is addition modulo 2 ^ 32.
infixl 65 ◌⊞◌
abbrev pub ◌⊞◌ : ℕ → ℕ → ℕ
x ⊞ y = (x + y) % 2 ^ 32

-- The complement, ¬x.
abbrev pub NOT : ℕ → ℕ
NOT x = 2 ^ 32 - 1 - x

abbrev pub SHR : ℕ → ℕ → ℕ
SHR n x = x / 2 ^ n

-- (x >> n) ∨ (x << 32 - n)
abbrev pub ROTR : ℕ → ℕ → ℕ
ROTR n x = bit_or (x / 2 ^ n) (x * 2 ^ (32 - n) % 2 ^ 32)

-- 4.1.2: the six functions.
unfoldable pub Ch : ℕ → ℕ → ℕ → ℕ
Ch x y z = bit_xor (bit_and x y) (bit_and (NOT x) z)

unfoldable pub Maj : ℕ → ℕ → ℕ → ℕ
Maj x y z = bit_xor (bit_xor (bit_and x y) (bit_and x z)) (bit_and y z)

unfoldable pub Σ₀ : ℕ → ℕ
Σ₀ x = bit_xor (bit_xor (ROTR 2 x) (ROTR 13 x)) (ROTR 22 x)

unfoldable pub Σ₁ : ℕ → ℕ
Σ₁ x = bit_xor (bit_xor (ROTR 6 x) (ROTR 11 x)) (ROTR 25 x)

unfoldable pub σ₀ : ℕ → ℕ
σ₀ x = bit_xor (bit_xor (ROTR 7 x) (ROTR 18 x)) (SHR 3 x)

unfoldable pub σ₁ : ℕ → ℕ
σ₁ x = bit_xor (bit_xor (ROTR 17 x) (ROTR 19 x)) (SHR 10 x)

-- 4.2.2: the constants.
unfoldable pub K : List ℕ
K =
    0x428a_2f98 ∷ 0x7137_4491 ∷ 0xb5c0_fbcf ∷ 0xe9b5_dba5 ∷
    0x3956_c25b ∷ 0x59f1_11f1 ∷ 0x923f_82a4 ∷ 0xab1c_5ed5 ∷
    0xd807_aa98 ∷ 0x1283_5b01 ∷ 0x2431_85be ∷ 0x550c_7dc3 ∷
    0x72be_5d74 ∷ 0x80de_b1fe ∷ 0x9bdc_06a7 ∷ 0xc19b_f174 ∷
    0xe49b_69c1 ∷ 0xefbe_4786 ∷ 0x0fc1_9dc6 ∷ 0x240c_a1cc ∷
    0x2de9_2c6f ∷ 0x4a74_84aa ∷ 0x5cb0_a9dc ∷ 0x76f9_88da ∷
    0x983e_5152 ∷ 0xa831_c66d ∷ 0xb003_27c8 ∷ 0xbf59_7fc7 ∷
    0xc6e0_0bf3 ∷ 0xd5a7_9147 ∷ 0x06ca_6351 ∷ 0x1429_2967 ∷
    0x27b7_0a85 ∷ 0x2e1b_2138 ∷ 0x4d2c_6dfc ∷ 0x5338_0d13 ∷
    0x650a_7354 ∷ 0x766a_0abb ∷ 0x81c2_c92e ∷ 0x9272_2c85 ∷
    0xa2bf_e8a1 ∷ 0xa81a_664b ∷ 0xc24b_8b70 ∷ 0xc76c_51a3 ∷
    0xd192_e819 ∷ 0xd699_0624 ∷ 0xf40e_3585 ∷ 0x106a_a070 ∷
    0x19a4_c116 ∷ 0x1e37_6c08 ∷ 0x2748_774c ∷ 0x34b0_bcb5 ∷
    0x391c_0cb3 ∷ 0x4ed8_aa4a ∷ 0x5b9c_ca4f ∷ 0x682e_6ff3 ∷
    0x748f_82ee ∷ 0x78a5_636f ∷ 0x84c8_7814 ∷ 0x8cc7_0208 ∷
    0x90be_fffa ∷ 0xa450_6ceb ∷ 0xbef9_a3f7 ∷ 0xc671_78f2 ∷
    []

-- 5.1.1: a message of n bytes is followed by 0x80, by the fewest zero bytes that bring it to 56 modulo 64,
-- and by the number of its bits, 8 * n, in eight bytes.
unfoldable pub padding_zeros : ℕ → ℕ
padding_zeros n = (64 + 55 - n % 64) % 64

unfoldable pub padded : List ℕ → List ℕ
padded m = m ++ (0x80 ∷ replicate (padding_zeros (length m)) 0 ++ to_bytes 8 (8 * length m))

-- 5.2.1: block i of a padded message, word j of a block, and a block's first n words.
abbrev pub block : List ℕ → ℕ → List ℕ
block p i = take 64 (drop (64 * i) p)

-- How many blocks a message of n bytes has once it is padded: `length_padded` of the proofs says so.
abbrev pub block_count : ℕ → ℕ
block_count n = (n + 8) / 64 + 1

unfoldable pub word_of : List ℕ → ℕ → ℕ
word_of b j = from_bytes (take 4 (drop (4 * j) b))

unfoldable pub words : List ℕ → ℕ → List ℕ
words b zero = []
words b (suc n) = words b n ++ word_of b n ∷ []

-- 5.3.3: the initial hash value.
unfoldable pub H⁰ : List ℕ
H⁰ =
    0x6a09_e667 ∷ 0xbb67_ae85 ∷ 0x3c6e_f372 ∷ 0xa54f_f53a ∷
    0x510e_527f ∷ 0x9b05_688c ∷ 0x1f83_d9ab ∷ 0x5be0_cd19 ∷
    []

-- 6.2.2, step 1: the message schedule, from a block's 16 words m; its first 16 + n words.
-- The word at t = n + 16 is σ₁(W[t-2]) + W[t-7] + σ₀(W[t-15]) + W[t-16].
unfoldable pub next_word : List ℕ → ℕ → ℕ
next_word w n = σ₁ (slice_index w (n + 14)) ⊞ slice_index_or w (n + 9) 0 ⊞ σ₀ (slice_index w (n + 1)) ⊞ slice_index_or w n 0

unfoldable pub schedule : List ℕ → ℕ → List ℕ
schedule m zero = m
schedule m (suc n) = let w = schedule m n in w ++ next_word w n ∷ []

-- Step 2: the working variables start as the words of the last hash value.
abbrev pub working_variables : List ℕ → WorkingVariables
working_variables H =
    record {
      a = slice_index H 0;
      b = slice_index H 1;
      c = slice_index H 2;
      d = slice_index H 3;
      e = slice_index H 4;
      f = slice_index H 5;
      g = slice_index H 6;
      h = slice_index H 7;
    }

-- Step 3: one round, with k = K[t] and w = W[t]; and the first t rounds.
unfoldable pub T₁ : ℕ → ℕ → ℕ → ℕ → ℕ → ℕ → ℕ
T₁ e f g h k w = h ⊞ Σ₁ e ⊞ Ch e f g ⊞ k ⊞ w

unfoldable pub T₂ : ℕ → ℕ → ℕ → ℕ
T₂ a b c = Σ₀ a ⊞ Maj a b c

abbrev pub round : ℕ → ℕ → WorkingVariables → WorkingVariables
round k w v =
    let t₁ = T₁ v.e v.f v.g v.h k w in
    record {
      a = t₁ ⊞ T₂ v.a v.b v.c;
      b = v.a;
      c = v.b;
      d = v.c;
      e = v.d ⊞ t₁;
      f = v.e;
      g = v.f;
      h = v.g;
    }

unfoldable pub rounds : List ℕ → WorkingVariables → ℕ → WorkingVariables
rounds w v zero = v
rounds w v (suc t) = round (slice_index K t) (slice_index w t) (rounds w v t)

-- Step 4: the next hash value, from the last one and the working variables.
unfoldable pub next_hash : List ℕ → WorkingVariables → List ℕ
next_hash H v =
    (v.a ⊞ slice_index_or H 0 0) ∷ (v.b ⊞ slice_index_or H 1 0) ∷ (v.c ⊞ slice_index_or H 2 0) ∷ (v.d ⊞ slice_index_or H 3 0) ∷
    (v.e ⊞ slice_index_or H 4 0) ∷ (v.f ⊞ slice_index_or H 5 0) ∷ (v.g ⊞ slice_index_or H 6 0) ∷ (v.h ⊞ slice_index_or H 7 0) ∷ []

-- Steps 1 to 4 on the 16 words of a block.
unfoldable pub compress : List ℕ → List ℕ → List ℕ
compress H m = next_hash H (rounds (schedule m 48) (working_variables H) 64)

-- The hash value after the first n blocks of a padded message.
unfoldable pub hash_value : List ℕ → ℕ → List ℕ
hash_value p zero = H⁰
hash_value p (suc n) = compress (hash_value p n) (words (block p n) 16)

-- The bytes of the first n words of a hash value.
unfoldable pub hash_bytes : List ℕ → ℕ → List ℕ
hash_bytes H zero = []
hash_bytes H (suc n) = hash_bytes H n ++ to_bytes 4 (slice_index H n)

-- 6.2: the digest of a message.
unfoldable pub sha256 : List ℕ → List ℕ
sha256 m = hash_bytes (hash_value (padded m) (length (padded m) / 64)) 8

-- Document 01: the digest of up to this many bytes; a longer message is too long.
abbrev pub longest_input : ℕ
longest_input = 4096

abbrev pub answer : Bool → List ℕ → Option (List ℕ)
answer true m = Some (sha256 m)
answer false m = None

unfoldable pub digest_of : List ℕ → Option (List ℕ)
digest_of m = answer (nat_le (length m) longest_input) m

-- For Rust and C: whether there is a digest, and its bytes; 32 zero bytes in its place where the message is too long.
abbrev pub fits : Option (List ℕ) → Bool
fits (Some digest) = true
fits None = false

abbrev pub bytes_of : Option (List ℕ) → List ℕ
bytes_of (Some digest) = digest
bytes_of None = replicate 32 0
