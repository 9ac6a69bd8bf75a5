-- The bytes of one word more behind those of the words before it. Assumes nothing.
use Rattle.std.proofs.Common.{◌≡◌, ℕ, ◌+◌, ◌*◌, ◌/◌, ◌%◌, ◌^◌, ◌<◌, List, [], ◌∷◌, ◌++◌, length, get_or, take, set, ◌∙◌, append_assoc, add-one, arith, length-append, length-set, take_at}
use Rattle.base.specs.BigEndian.{to_bytes}
use Rattle.base.proofs.BigEndian.{length_to_bytes}
use Rattle.wire.specs.Sha256.{hash_bytes}
use Rattle.wire.proofs.DigestBytes.{hash_length}
use Rattle.wire.proofs.sha256.Stores.{store_next}

pub word_bytes : (hash l post : List ℕ) (i : ℕ) {word : List ℕ} → take (4 * i) l ≡ hash_bytes hash i → word ≡ to_bytes 4 (get_or hash i 0)
    → take (4 * (i + 1)) (take (4 * i) l ++ (word ++ post)) ≡ hash_bytes hash (i + 1)
unfolding hash_bytes
word_bytes hash l post i e w =
    let before = hash_bytes hash i in
    let next = to_bytes 4 (get_or hash i 0) in
    let long : length (before ++ next) ≡ 4 * (i + 1) = length-append before next ∙ omega (arith, hash_length hash i, length_to_bytes 4 (get_or hash i 0)) in
    rw (e, w, ← append_assoc before next post, add-one i) (rw add-one at (take_at (before ++ next) post (4 * (i + 1)) long))

-- The same by four stores of a byte each. What the shifts take out of a word are its four bytes.
four_bytes : (x a b c d : ℕ) → a ≡ x / 2 ^ 24 % 256 → b ≡ x / 2 ^ 16 % 256 → c ≡ x / 2 ^ 8 % 256 → d ≡ x / 2 ^ 0 % 256 → a ∷ b ∷ c ∷ d ∷ [] ≡ to_bytes 4 x
unfolding to_bytes
four_bytes x a b c d ha hb hc hd =
    let a' : a ≡ x / 256 / 256 / 256 % 256 = omega arith in
    let b' : b ≡ x / 256 / 256 % 256 = omega arith in
    let c' : c ≡ x / 256 % 256 = omega arith in
    let d' : d ≡ x % 256 = omega arith in
    rw (a', b', c', d')

store_four : (l : List ℕ) (at a b c d : ℕ) (written : List ℕ) → at + 3 < length l → take at l ≡ written
    → take (at + 4) (set (set (set (set l at a) (at + 1) b) (at + 2) c) (at + 3) d) ≡ written ++ a ∷ b ∷ c ∷ d ∷ []
store_four l at a b c d written h e =
    let l₁ = set l at a in
    let l₂ = set l₁ (at + 1) b in
    let l₃ = set l₂ (at + 2) c in
    let n₂ : at + 2 ≡ at + 1 + 1 = omega arith in
    let n₃ : at + 3 ≡ at + 2 + 1 = omega arith in
    let n₄ : at + 4 ≡ at + 3 + 1 = omega arith in
    let e₁ = store_next l at a written (omega arith) e in
    let e₂ : take (at + 2) l₂ ≡ (written ++ a ∷ []) ++ b ∷ [] = rw n₂ (store_next l₁ (at + 1) b _ (simp length-set (omega arith)) e₁) in
    let e₃ : take (at + 3) l₃ ≡ ((written ++ a ∷ []) ++ b ∷ []) ++ c ∷ [] = rw n₃ (store_next l₂ (at + 2) c _ (simp length-set (omega arith)) e₂) in
    rw n₄ (store_next l₃ (at + 3) d _ (simp length-set (omega arith)) e₃ ∙ simp append_assoc)

pub word_bytes_each : (hash l : List ℕ) (i a b c d : ℕ) → 4 * i + 3 < length l → take (4 * i) l ≡ hash_bytes hash i
    → a ≡ get_or hash i 0 / 2 ^ 24 % 256 → b ≡ get_or hash i 0 / 2 ^ 16 % 256 → c ≡ get_or hash i 0 / 2 ^ 8 % 256 → d ≡ get_or hash i 0 / 2 ^ 0 % 256
    → take (4 * (i + 1)) (set (set (set (set l (4 * i) a) (4 * i + 1) b) (4 * i + 2) c) (4 * i + 3) d) ≡ hash_bytes hash (i + 1)
unfolding hash_bytes
word_bytes_each hash l i a b c d h e ha hb hc hd =
    let n : 4 * (i + 1) ≡ 4 * i + 4 = omega arith in
    rw (n, store_four l (4 * i) a b c d (hash_bytes hash i) h e, four_bytes (get_or hash i 0) a b c d ha hb hc hd, add-one i)
