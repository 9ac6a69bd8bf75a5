-- A hash compared with bytes word by word. Assumes nothing.
use Rattle.std.proofs.Common.{◌≡◌, ℕ, zero, suc, ◌+◌, ◌*◌, ◌^◌, ◌<◌, ◌≤◌, Bool, true, false, eqb, leb, List, [], ◌∷◌, ◌++◌, length, get_or, take, drop, sym, refl, ap, ◌∙◌, ap₂, arith, length-append, take_all, take-add, drop_at, eqb-true, leb-false, leb-true}
use borrow.Author.Tests.{eqb-false}
use lib.Seq.{take-append-le}
use Rattle.base.specs.BigEndian.{Bytes, from_bytes, to_bytes}
use Rattle.base.specs.Same.{same}
use Rattle.base.proofs.Apart.{apart}
use Rattle.base.proofs.BigEndian.{length_to_bytes, from_bytes_to_bytes, to_bytes_from_bytes}
use Rattle.base.proofs.Same.{same_equal, same_itself, same_differ}
use Rattle.wire.specs.Sha256.{hash_bytes}
use Rattle.wire.proofs.DigestBytes.{hash_length}
use Rattle.wire.proofs.Windows.{front}

abbrev pub four : ℕ → ℕ → ℕ → ℕ → List ℕ
four a b c d = a ∷ b ∷ c ∷ d ∷ []

bytes_four : (a b c d : ℕ) → (a < 256) × (b < 256) × (c < 256) × (d < 256) → Bytes (four a b c d)
bytes_four a b c d small zero = small.0
bytes_four a b c d small (suc zero) = small.1
bytes_four a b c d small (suc (suc zero)) = small.2
bytes_four a b c d small (suc (suc (suc zero))) = small.3
bytes_four a b c d small (suc (suc (suc (suc i)))) = omega arith

-- A word is that of four bytes just if its bytes are these.
pub word_same : (word a b c d : ℕ) → word < 256 ^ 4 → (a < 256) × (b < 256) × (c < 256) × (d < 256) → eqb word (from_bytes (four a b c d)) ≡ same (to_bytes 4 word) (four a b c d)
word_same word a b c d fits small = go (eqb word (from_bytes (four a b c d))) refl
  where
    go : (t : Bool) → eqb word (from_bytes (four a b c d)) ≡ t → t ≡ same (to_bytes 4 word) (four a b c d)
    go true t =
        let equal : to_bytes 4 word ≡ four a b c d = ap (to_bytes 4) (eqb-true word (from_bytes (four a b c d)) t) ∙ to_bytes_from_bytes (four a b c d) (bytes_four a b c d small) in
        sym (ap (λ (bytes : List ℕ). same bytes (four a b c d)) equal ∙ same_itself (four a b c d))
    go false t = sym (same_differ (to_bytes 4 word) (four a b c d) (λ equal. eqb-false word (from_bytes (four a b c d)) t (sym (from_bytes_to_bytes 4 word fits) ∙ ap from_bytes equal)))

-- The first words' bytes are the first bytes.
first_words : (hash : List ℕ) (n i : ℕ) → i ≤ n → take (4 * i) (hash_bytes hash n) ≡ hash_bytes hash i
unfolding hash_bytes
first_words hash zero i h = let none : i ≡ 0 = omega arith in rw none
first_words hash (suc n) i h = go (leb i n) refl (first_words hash n i)
  where
    go : (b : Bool) → leb i n ≡ b → (i ≤ n → take (4 * i) (hash_bytes hash n) ≡ hash_bytes hash i) → take (4 * i) (hash_bytes hash n ++ to_bytes 4 (get_or hash n 0)) ≡ hash_bytes hash i
    go true e before =
        let long = hash_length hash n in
        let below = leb-true i n e in
        take-append-le (4 * i) (hash_bytes hash n) (to_bytes 4 (get_or hash n 0)) (omega arith) ∙ before below
    go false e before =
        let above = leb-false i n e in
        let all : i ≡ suc n = omega arith in
        let long = hash_length hash n in
        let last = length_to_bytes 4 (get_or hash n 0) in
        rw all (take_all (4 * suc n) (hash_bytes hash n ++ to_bytes 4 (get_or hash n 0)) (rw length-append (omega arith)))

module _ (hash bytes : List ℕ) (i : ℕ) (room : 4 * i + 4 ≤ length bytes) where
  -- Word i of the hash, and the bytes in its place.
  abbrev word : List ℕ
  word = to_bytes 4 (get_or hash i 0)

  abbrev pub there : List ℕ
  there = four (get_or bytes (4 * i) 0) (get_or bytes (4 * i + 1) 0) (get_or bytes (4 * i + 2) 0) (get_or bytes (4 * i + 3) 0)

  split : take (4 * (i + 1)) bytes ≡ take (4 * i) bytes ++ there
  split =
      let next : 4 * (i + 1) ≡ 4 * i + 4 = omega arith in
      ap (λ (n : ℕ). take n bytes) next ∙ take-add (4 * i) 4 bytes ∙ ap (λ (part : List ℕ). take (4 * i) bytes ++ part) (front bytes (4 * i) 3 room)

  one_more : hash_bytes hash (i + 1) ≡ hash_bytes hash i ++ word
  unfolding hash_bytes
  one_more = let next : i + 1 ≡ suc i = omega arith in rw next

  -- Where the words before agree, and this one too, one more agrees.
  pub word_more : take (4 * i) bytes ≡ hash_bytes hash i → same word there ≡ true → take (4 * (i + 1)) bytes ≡ hash_bytes hash (i + 1)
  word_more first equal = split ∙ ap₂ (λ (a b : List ℕ). a ++ b) first (sym (same_equal word there equal)) ∙ sym one_more

  -- Where this one differs, the bytes are not the hash's.
  pub word_differs : i < 8 → take (4 * i) bytes ≡ hash_bytes hash i → same word there ≡ false → same (hash_bytes hash 8) bytes ≡ false
  word_differs inside first differ = same_differ (hash_bytes hash 8) bytes (λ equal. no (agree equal))
    where
      agree : hash_bytes hash 8 ≡ bytes → word ≡ there
      agree equal =
          let both : hash_bytes hash i ++ word ≡ hash_bytes hash i ++ there =
          sym one_more ∙ sym (first_words hash 8 (i + 1) (omega arith)) ∙ ap (take (4 * (i + 1))) equal ∙ split ∙ ap (λ (front : List ℕ). front ++ there) first in
          sym (drop_at (hash_bytes hash i) word (4 * i) (hash_length hash i)) ∙ ap (drop (4 * i)) both ∙ drop_at (hash_bytes hash i) there (4 * i) (hash_length hash i)

      no : word ≡ there → ⊥
      no equal = apart (cc (ap (same word) equal, same_itself word))
