-- Pairs of hex digits, one after another. Assumes nothing.
use Rattle.std.proofs.Common.{◌≡◌, ℕ, suc, ◌+◌, ◌-◌, ◌*◌, ◌≤◌, ◌<◌, List, [], ◌∷◌, ◌++◌, length, get_or, set, take, drop, Option, Some, None, refl, sym, ap, ◌∙◌, append_assoc, append-nil, add-one, arith, length-set}
use lib.ListN.{get_or-eq_default, take-append-drop}
use lib.Seq.{get_or-drop, drop-drop, take-suc-set, drop-set-lt, length-take-le}
use Rattle.base.specs.Range.{within}
use Rattle.text.specs.Hex.{hex_value, joined, pair_value, pairs_from, hex_pairs, HexRead}

without_low : (high : Option ℕ) → joined high None ≡ None
without_low None = refl
without_low (Some high) = refl

-- What stands past the end is no digit.
pub cut_short : (line : List ℕ) (at : ℕ) → length line ≤ at + 1 → pair_value (get_or line at 0) (get_or line (at + 1) 0) ≡ None
unfolding pair_value hex_value within
cut_short line at h = rw (get_or-eq_default line 0 h) (without_low (hex_value (get_or line at 0)))

-- The pairs from the nth on.
pairs_at : (room n : ℕ) (line : List ℕ) → n < room
    → hex_pairs (room - n) (drop (2 * n) line) ≡ pairs_from (pair_value (get_or line (2 * n) 0) (get_or line (2 * n + 1) 0)) (hex_pairs (room - (n + 1)) (drop (2 * (n + 1)) line))
unfolding hex_pairs
pairs_at room n line h =
    let left : room - n ≡ suc (room - (n + 1)) = omega arith in
    let first : 2 * n + 0 ≡ 2 * n = omega arith in
    let next : 2 * n + 2 ≡ 2 * (n + 1) = omega arith in
    rw (left, get_or-drop (2 * n) line 0 0, get_or-drop (2 * n) line 1 0, first, drop-drop 2 (2 * n) line, next)

-- n pairs are read: their bytes stand in front, and the old ones behind.
pub record Reading (line old out : List ℕ) (n : ℕ) : Type 0 where
  pub within : n ≤ length out
  pub long : length out ≡ length old
  pub front : hex_pairs (length old) line ≡ take n out ++ hex_pairs (length old - n) (drop (2 * n) line)
  pub behind : drop n out ≡ drop n old

-- No pair is left.
ended : (line old out : List ℕ) (n : ℕ) → Reading line old out n → hex_pairs (length old - n) (drop (2 * n) line) ≡ [] → HexRead line old out n
ended line old out n r none =
    let front = r.front ∙ rw none (append-nil (take n out)) in
    let count = sym (length-take-le n out r.within) in
    record { is = rw (front, ← r.behind) (sym (take-append-drop n out)); counted = rw front count; inside = r.within; front = count }

pub line_ended : (line old out : List ℕ) (n : ℕ) → Reading line old out n → n < length old → pair_value (get_or line (2 * n) 0) (get_or line (2 * n + 1) 0) ≡ None → HexRead line old out n
line_ended line old out n r h e = ended line old out n r (pairs_at (length old) n line h ∙ rw e)

pub room_ended : (line old out : List ℕ) (n : ℕ) → Reading line old out n → length old ≤ n → HexRead line old out n
unfolding hex_pairs
room_ended line old out n r h = let none_left : length old - n ≡ 0 = omega arith in ended line old out n r (rw none_left)

pub one_read : (line old out : List ℕ) (n byte : ℕ) → Reading line old out n → n < length old → pair_value (get_or line (2 * n) 0) (get_or line (2 * n + 1) 0) ≡ Some byte → Reading line old (set out n byte) (n + 1)
one_read line old out n byte r h e =
    let rest : hex_pairs (length old - n) (drop (2 * n) line) ≡ byte ∷ hex_pairs (length old - (n + 1)) (drop (2 * (n + 1)) line) = pairs_at (length old) n line h ∙ rw e in
    let long = r.long in
    let inside : n < length out = omega arith in
    record {
      within = rw length-set (omega arith);
      long = length-set out n byte ∙ long;
      front = r.front ∙ rw (rest, add-one, take-suc-set out n byte, append_assoc);
      behind = rw (add-one, drop-set-lt (suc n) out n byte (omega arith)) (simp (drop-drop, add-one) at (ap (drop 1) r.behind));
    }
