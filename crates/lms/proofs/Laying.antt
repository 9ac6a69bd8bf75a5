-- Strings stored one behind the other, and parts of them in arrays. Assumes nothing.
use mathlib.Core.Path.{◌≡◌, refl, sym, ap, ◌∙◌}
use mathlib.Core.List.{List, [], ◌++◌, append_assoc}
use Prim.Native.Nat.{ℕ, ◌+◌, ◌≤◌}
use native.Mathlib.Omega.{arith}
use Rattle.std.proofs.Common.{zero-add}
use lib.ListN.{length, take, drop, replicate, length-append, length-take, length-drop}
use lib.Seq.{take_at, take_all, take-append-le, length-take-le}
use Rattle.base.specs.Bytes.{between, stored, filled}
use Rattle.base.proofs.Stored.{stored_fits}
use Rattle.lms.specs.Lms.{identifier}

-- Bytes stored behind what stands in front.
pub laid : (at end : ℕ) (l l' before bytes : List ℕ) → take at l ≡ before → at + length bytes ≡ end → end ≤ length l → l' ≡ stored at bytes l
    → take end l' ≡ before ++ bytes
laid at end l l' before bytes front ends room e =
    let rest = drop (at + length bytes) l in
    let size : length (before ++ bytes) ≡ end = length-append before bytes ∙ rw (← front, length-take-le at l (omega arith)) ends in
    ap (λ (x : List ℕ). take end x) (e ∙ stored_fits at bytes l (omega arith) ∙ sym (append_assoc (take at l) bytes rest) ∙ rw front)
    ∙ take_at (before ++ bytes) rest end size

-- Two strings stored from the front on, and three.
module _ {l₁ l₂ : List ℕ} (l a b : List ℕ) (i j : ℕ) (one : l₁ ≡ stored 0 a l) (two : l₂ ≡ stored i b l₁) (first : length a ≡ i) (second : i + length b ≡ j)
    (room : i ≤ length l) (room₁ : j ≤ length l₁) where
  pub laid_two : take j l₂ ≡ a ++ b
  laid_two = laid i j l₁ l₂ a b (laid 0 i l l₁ [] a refl (zero-add (length a) ∙ first) room one) second room₁ two

  pub laid_three : {l₃ : List ℕ} (c : List ℕ) (k : ℕ) → l₃ ≡ stored j c l₂ → j + length c ≡ k → k ≤ length l₂ → take k l₃ ≡ a ++ (b ++ c)
  laid_three {l₃} c k three third room₂ = laid j k l₂ l₃ (a ++ b) c laid_two third room₂ three ∙ append_assoc a b c

-- The whole of a buffer that is full.
pub full : (k : ℕ) (l x : List ℕ) → length l ≡ k → take k l ≡ x → l ≡ x
full k l x size e = sym (take_all k l (omega arith)) ∙ e

-- A part that is there, in an array.
pub part_filled : (width at : ℕ) (s : List ℕ) → at + width ≤ length s → filled width (drop at s) ≡ take width (drop at s)
part_filled width at s h = take-append-le width (drop at s) (replicate width 0) (rw length-drop (omega arith))

-- A key's identifier, in an array.
pub identifier_filled : (key : List ℕ) → length key ≡ 56 → filled 16 (between key 8 24) ≡ identifier key
identifier_filled key h = take_at (identifier key) (replicate 16 0) 16 (rw (length-take, length-drop) (omega arith))
