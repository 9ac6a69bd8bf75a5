-- The first bytes of a part of a list, one by one. Assumes nothing.
use Rattle.std.proofs.Common.{◌≡◌, ℕ, zero, suc, ◌+◌, ◌-◌, ◌*◌, ◌≤◌, List, [], ◌∷◌, length, get_or, take, drop, sym, refl, ap, add-suc, add-one, arith, inl, inr, ◌⊎◌, le-ltb, lt-ltb, drop-cons, take_all, drop-drop}
use Rattle.std.specs.Int.{w64, from_be_bytes}
use lib.Seq.{take-nil}
use Rattle.base.specs.BigEndian.{from_bytes}
use Rattle.base.specs.Bytes.{between}
use Rattle.wire.specs.Parts.{number_part}

-- So many bytes from the i-th after a place on.
abbrev pub listed : List ℕ → ℕ → ℕ → ℕ → List ℕ
listed s at i zero = []
listed s at i (suc n) = get_or s (at + i) 0 ∷ listed s at (suc i) n

window : (s : List ℕ) (at i n : ℕ) → at + i + n ≤ length s → take n (drop (at + i) s) ≡ listed s at i n
window s at i zero h = refl
window s at i (suc n) h =
    rw (drop-cons s (at + i) 0 (omega arith), ← add-suc at i)
    (ap (λ (l : List ℕ). get_or s (at + i) 0 ∷ l) (window s at (suc i) n (omega arith)))

pub front : (s : List ℕ) (at n : ℕ) → at + suc n ≤ length s → take (suc n) (drop at s) ≡ get_or s at 0 ∷ listed s at 1 n
front s at n h = rw (drop-cons s at 0 (omega arith), ← add-one at) (ap (λ (l : List ℕ). get_or s at 0 ∷ l) (window s at 1 n (omega arith)))

-- The number of eight bytes, by those of four and four.
pub eight_bytes : (s : List ℕ) (at : ℕ) → at + 8 ≤ length s
    → from_bytes (take 8 (drop at s)) ≡ from_bytes (take 4 (drop at s)) * 0x1_0000_0000 + from_bytes (take 4 (drop (at + 4) s))
unfolding from_bytes
eight_bytes s at h =
    let five : at + 4 + 1 ≡ at + 5 = omega arith in
    let six : at + 4 + 2 ≡ at + 6 = omega arith in
    let seven : at + 4 + 3 ≡ at + 7 = omega arith in
    rw (front s at 7 h, front s at 3 (omega arith), front s (at + 4) 3 (omega arith), five, six, seven) (omega arith)

pub eight_in_front : (s : List ℕ) (n : ℕ) → 8 ≤ length s
    → n ≡ from_be_bytes w64 (get_or s 0 0 ∷ get_or s 1 0 ∷ get_or s 2 0 ∷ get_or s 3 0 ∷ get_or s 4 0 ∷ get_or s 5 0 ∷ get_or s 6 0 ∷ get_or s 7 0 ∷ [])
    → n ≡ number_part 8 s
unfolding from_bytes
eight_in_front s n long e = rw (le-ltb (length s) 8 long, front s 0 7 long) (omega (arith, e))

-- A field of a fixed width is the bytes in front of it, or none.
pub number_whole : (width : ℕ) (field : List ℕ) → (length field ≡ width) ⊎ (field ≡ []) → number_part width field ≡ from_bytes field
unfolding from_bytes
number_whole width field (inl e) = rw (le-ltb (length field) width (omega arith), take_all width field (omega arith))
number_whole zero field (inr e) = rw e
number_whole (suc width) field (inr e) = rw (e, lt-ltb 0 (suc width) (omega arith))

-- A part without its first byte.
pub behind_first : (s : List ℕ) (at end : ℕ) → drop 1 (between s at end) ≡ between s (at + 1) end
behind_first s at end = go (end - at) refl
  where
    go : (n : ℕ) → end - at ≡ n → drop 1 (take n (drop at s)) ≡ between s (at + 1) end
    go zero e = let none : end - (at + 1) ≡ 0 = omega arith in rw none
    go (suc n) e =
        let less : end - (at + 1) ≡ n = omega arith in
        rw (less, ← drop-drop 1 at s) (rest (drop at s))
      where
        rest : (l : List ℕ) → drop 1 (take (suc n) l) ≡ take n (drop 1 l)
        rest [] = sym (take-nil n)
        rest (x ∷ l) = refl
