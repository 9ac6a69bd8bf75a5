-- The padded message, byte by byte and word by word. Assumes nothing.
use Rattle.std.proofs.Common.{◌≡◌, ℕ, zero, suc, ◌+◌, ◌-◌, ◌*◌, ◌%◌, ◌<◌, ◌≤◌, List, [], ◌∷◌, ◌++◌, length, get_or, take, drop, set, replicate, ap, ◌∙◌, append_assoc, add-one, arith, length-append, length-set, get_or-drop, take_all, drop-cons, get_or-set_other, take-suc, take-take, drop-drop, get_or-append-add, drop_at}
use lib.ListN.{length-replicate, get_or-replicate, replicate-append-replicate, get_or-append}
use lib.Seq.{get_or-append_seam, take-nil}
use Rattle.base.specs.BigEndian.{from_bytes, to_bytes}
use Rattle.base.proofs.BigEndian.{length_to_bytes, to_bytes_zeros, from_bytes_to_bytes}
use Rattle.wire.specs.Sha256.{longest_input, padding_zeros, padded, block, block_count, word_of, words}
use Rattle.wire.proofs.sha256.Stores.{store_next}

-- The number of zero bytes is the least that the standard asks for.
zeros_least : (n : ℕ) → ((n + 1 + padding_zeros n) % 64 ≡ 56) × (padding_zeros n < 64)
unfolding padding_zeros
zeros_least n = (omega arith, omega arith)

pub length_padded : (m : List ℕ) → length (padded m) ≡ 64 * block_count (length m)
unfolding padded padding_zeros
length_padded m = simp (length-append, length-replicate, length_to_bytes) (omega arith)

at_message : (m : List ℕ) (p : ℕ) → p < length m → get_or (padded m) p 0 ≡ get_or m p 0
unfolding padded
at_message m p h = get_or-append m _ 0 p h

at_mark : (m : List ℕ) (p : ℕ) → length m ≡ p → get_or (padded m) p 0 ≡ 0x80
unfolding padded
at_mark m p e = rw (← e) (get_or-append_seam m 0x80 _ 0)

-- All but the last word: where the length fits four bytes, the other four bytes of its field are zeros like those before.
abbrev unsized : List ℕ → List ℕ
unsized m = m ++ 0x80 ∷ replicate (padding_zeros (length m) + 4) 0

module _ (m : List ℕ) (small : length m ≤ longest_input) where
  last_apart : padded m ≡ unsized m ++ to_bytes 4 (8 * length m)
  unfolding padded
  last_apart = rw (to_bytes_zeros 4 4 (8 * length m) (omega arith), ← replicate-append-replicate {A = ℕ} (padding_zeros (length m)) 4 0) (simp append_assoc)

  length_unsized : length (unsized m) + 4 ≡ 64 * block_count (length m)
  unfolding padding_zeros
  length_unsized = simp (length-append, length-replicate) (omega arith)

  at_zero : (p : ℕ) → length m < p → p + 4 < 64 * block_count (length m) → get_or (padded m) p 0 ≡ 0
  at_zero p l h =
      let n = length_unsized in
      let z = padding_zeros (length m) + 4 in
      let j = p - length m - 1 in
      let e : p ≡ length m + suc j = omega arith in
      let q : length (unsized m) ≡ length m + suc z = simp (length-append, length-replicate) in
      rw (last_apart, get_or-append (unsized m) (to_bytes 4 (8 * length m)) 0 p (omega arith), e, get_or-append-add m (0x80 ∷ replicate z 0) (suc j) 0)
      (get_or-replicate z j 0 0 (omega arith))

part_cons : (l : List ℕ) (p n : ℕ) → p < length l → take (suc n) (drop p l) ≡ get_or l p 0 ∷ take n (drop (p + 1) l)
part_cons l p n h = ap (take (suc n)) (drop-cons l p 0 h) ∙ rw (add-one p)

-- Four bytes from a place on.
four : (l : List ℕ) (p : ℕ) → p + 4 ≤ length l → take 4 (drop p l) ≡ get_or l p 0 ∷ get_or l (p + 1) 0 ∷ get_or l (p + 2) 0 ∷ get_or l (p + 3) 0 ∷ []
four l p h =
    let e₂ : p + 1 + 1 ≡ p + 2 = omega arith in
    let e₃ : p + 2 + 1 ≡ p + 3 = omega arith in
    rw (part_cons l p 3 (omega arith), part_cons l (p + 1) 2 (omega arith), e₂, part_cons l (p + 2) 1 (omega arith), e₃, part_cons l (p + 3) 0 (omega arith))

-- The word of the padded message that starts at a place.
abbrev pub word_at : List ℕ → ℕ → ℕ
word_at m p = from_bytes (take 4 (drop p (padded m)))

-- A word by its four bytes.
by_bytes : (m : List ℕ) (p a b c d : ℕ) → p + 4 ≤ 64 * block_count (length m) → get_or (padded m) p 0 ≡ a → get_or (padded m) (p + 1) 0 ≡ b → get_or (padded m) (p + 2) 0 ≡ c
    → get_or (padded m) (p + 3) 0 ≡ d → from_bytes (a ∷ b ∷ c ∷ d ∷ []) ≡ word_at m p
by_bytes m p a b c d h ea eb ec ed = rw (four (padded m) p (rw length_padded h), ea, eb, ec, ed)

pub word_message : (m : List ℕ) (p : ℕ) → p + 4 ≤ length m → from_bytes (get_or m p 0 ∷ get_or m (p + 1) 0 ∷ get_or m (p + 2) 0 ∷ get_or m (p + 3) 0 ∷ []) ≡ word_at m p
word_message m p h =
    by_bytes m p _ _ _ _ (omega arith) (at_message m p (omega arith)) (at_message m (p + 1) (omega arith)) (at_message m (p + 2) (omega arith))
    (at_message m (p + 3) (omega arith))

-- The words that the message does not fill, by where the message ends.
module _ (m : List ℕ) (small : length m ≤ longest_input) (p : ℕ) (aligned : p % 4 ≡ 0) (inside : p + 4 ≤ 64 * block_count (length m)) where
  pub word_zero : length m < p → p + 4 < 64 * block_count (length m) → 0 ≡ word_at m p
  unfolding from_bytes
  word_zero l h =
      let z : (q : ℕ) → p ≤ q → q < p + 4 → get_or (padded m) q 0 ≡ 0 = λ q b e. at_zero m small q (omega arith) (omega arith) in
      by_bytes m p 0 0 0 0 inside (z p (omega arith) (omega arith)) (z (p + 1) (omega arith) (omega arith)) (z (p + 2) (omega arith) (omega arith))
      (z (p + 3) (omega arith) (omega arith))

  pub word_length_lem : p + 4 ≡ 64 * block_count (length m) → 8 * length m ≡ word_at m p
  word_length_lem e =
      let n = length_unsized m small in
      let bytes = to_bytes 4 (8 * length m) in
      rw (
        last_apart m small,
        drop_at (unsized m) bytes p (omega arith),
        take_all 4 bytes (omega (arith, length_to_bytes 4 (8 * length m))),
        from_bytes_to_bytes 4 (8 * length m) (omega arith),
      )

  -- Behind a 0x80 in the word its bytes are zero.
  behind : (q : ℕ) → length m < q → q < p + 4 → p ≤ length m → get_or (padded m) q 0 ≡ 0
  behind q l h b = at_zero m small q l (omega arith)

  pub word_mark_0 : length m ≡ p → from_bytes (0x80 ∷ 0 ∷ 0 ∷ 0 ∷ []) ≡ word_at m p
  word_mark_0 e =
      by_bytes m p _ _ _ _ inside (at_mark m p e) (behind (p + 1) (omega arith) (omega arith) (omega arith)) (behind (p + 2) (omega arith) (omega arith) (omega arith))
      (behind (p + 3) (omega arith) (omega arith) (omega arith))

  pub word_mark_1 : length m ≡ p + 1 → from_bytes (get_or m p 0 ∷ 0x80 ∷ 0 ∷ 0 ∷ []) ≡ word_at m p
  word_mark_1 e =
      by_bytes m p _ _ _ _ inside (at_message m p (omega arith)) (at_mark m (p + 1) e) (behind (p + 2) (omega arith) (omega arith) (omega arith))
      (behind (p + 3) (omega arith) (omega arith) (omega arith))

  pub word_mark_2 : length m ≡ p + 2 → from_bytes (get_or m p 0 ∷ get_or m (p + 1) 0 ∷ 0x80 ∷ 0 ∷ []) ≡ word_at m p
  word_mark_2 e =
      by_bytes m p _ _ _ _ inside (at_message m p (omega arith)) (at_message m (p + 1) (omega arith)) (at_mark m (p + 2) e)
      (behind (p + 3) (omega arith) (omega arith) (omega arith))

  pub word_mark_3 : length m ≡ p + 3 → from_bytes (get_or m p 0 ∷ get_or m (p + 1) 0 ∷ get_or m (p + 2) 0 ∷ 0x80 ∷ []) ≡ word_at m p
  word_mark_3 e =
      by_bytes m p _ _ _ _ inside (at_message m p (omega arith)) (at_message m (p + 1) (omega arith)) (at_message m (p + 2) (omega arith)) (at_mark m (p + 3) e)

drop_take : (a n : ℕ) (l : List ℕ) → drop a (take (a + n) l) ≡ take n (drop a l)
drop_take zero n l = let e : 0 + n ≡ n = omega arith in rw e
drop_take (suc a) n [] = let e : suc a + n ≡ suc (a + n) = omega arith in rw (e, take-nil n)
drop_take (suc a) n (x ∷ l) = let e : suc a + n ≡ suc (a + n) = omega arith in rw e (drop_take a n l)

-- A word of a block is a word of the padded message.
block_word : (p : List ℕ) (i j : ℕ) → j < 16 → word_of (block p i) j ≡ from_bytes (take 4 (drop (64 * i + 4 * j) p))
unfolding word_of
block_word p i j h =
    let n = 64 - 4 * j in
    let e : 64 ≡ 4 * j + n = omega arith in
    let cut : drop (4 * j) (block p i) ≡ take n (drop (64 * i + 4 * j) p) =
    ap (λ (k : ℕ). drop (4 * j) (take k (drop (64 * i) p))) e ∙ drop_take (4 * j) n (drop (64 * i) p) ∙ ap (take n) (drop-drop (4 * j) (64 * i) p) in
    rw (cut, take-take 4 n (drop (64 * i + 4 * j) p) (omega arith))

-- One more word of the block is loaded.
pub load_next : (m w : List ℕ) (i j v : ℕ) → j < 16 → j < length w → take j w ≡ words (block (padded m) i) j → v ≡ word_at m (64 * i + 4 * j)
    → take (j + 1) (set w j v) ≡ words (block (padded m) i) (j + 1)
unfolding words
load_next m w i j v h l e x =
    store_next w j v (words (block (padded m) i) j) l e ∙ rw (add-one j, x, block_word (padded m) i j h)

-- One more word of the block stands there already.
word_there : (m w : List ℕ) (i j : ℕ) → j < 16 → j < length w → take j w ≡ words (block (padded m) i) j → get_or w j 0 ≡ word_at m (64 * i + 4 * j)
    → take (suc j) w ≡ words (block (padded m) i) (suc j)
unfolding words
word_there m w i j h l e x = rw (take-suc w j 0 l, e, x, block_word (padded m) i j h)

-- Words behind the end of the message and before the last that are zero need no store.
module _ (m : List ℕ) (small : length m ≤ longest_input) (i : ℕ) (inside : i < block_count (length m)) (w : List ℕ) (wide : length w ≡ 64) (j : ℕ)
    (ended : length m < 64 * i + 4 * j) (zeros : (p : ℕ) → j ≤ p → p < 64 → get_or w p 0 ≡ 0) where
  zeros_there : (k : ℕ) → j + k ≤ 15 → take j w ≡ words (block (padded m) i) j → take (j + k) w ≡ words (block (padded m) i) (j + k)
  zeros_there zero h e = let z : j + 0 ≡ j = omega arith in rw z e
  zeros_there (suc k) h e =
      let s : j + suc k ≡ suc (j + k) = omega arith in
      let p = 64 * i + 4 * (j + k) in
      let zero_word : 0 ≡ word_at m p = word_zero m small p (omega arith) (omega arith) (omega arith) (omega arith) in
      rw s
      (word_there m w i (j + k) (omega arith) (omega arith) (zeros_there k (omega arith) e) (zeros (j + k) (omega arith) (omega arith) ∙ zero_word))

-- The words of the padding: the first is stored, the zeros behind it stand there, and the last is stored.
pub padding_there : (m : List ℕ) → length m ≤ longest_input → (i : ℕ) → i < block_count (length m) → (w : List ℕ) → length w ≡ 64 → (full v x : ℕ) → full < 15
    → length m < 64 * i + 4 * full + 4 → drop full w ≡ drop full (replicate 64 0) → take full w ≡ words (block (padded m) i) full → v ≡ word_at m (64 * i + 4 * full)
    → x ≡ word_at m (64 * i + 60) → take 16 (set (set w full v) 15 x) ≡ words (block (padded m) i) 16
padding_there m small i inside w wide full v x h ended made front ev ex =
    let w₁ = set w full v in
    let wide₁ : length w₁ ≡ 64 = simp length-set wide in
    let first : take (full + 1) w₁ ≡ words (block (padded m) i) (full + 1) = load_next m w i full v (omega arith) (omega arith) front ev in
    let zeros : (p : ℕ) → full + 1 ≤ p → p < 64 → get_or w₁ p 0 ≡ 0 =
    λ p l u.
    let q : p ≡ full + (p - full) = omega arith in
    get_or-set_other w full p v 0 (λ e. omega arith)
    ∙ rw (q, ← get_or-drop {A = ℕ} full w (p - full) 0, made, get_or-drop {A = ℕ} full (replicate 64 0) (p - full) 0)
    (get_or-replicate 64 (full + (p - full)) 0 0 (omega arith)) in
    let k = 14 - full in
    let s : full + 1 + k ≡ 15 = omega arith in
    let most : take 15 w₁ ≡ words (block (padded m) i) 15 = rw s at (zeros_there m small i inside w₁ wide₁ (full + 1) (omega arith) zeros k (omega arith) first) in
    load_next m w₁ i 15 x (omega arith) (omega arith) most ex
