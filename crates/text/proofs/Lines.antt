-- The lines of a text, one after another. Assumes nothing.
use mathlib.Core.Path.{◌≡◌, refl, ap}
use mathlib.Core.Bool.{Bool, true, false, cond}
use mathlib.Core.List.{List, [], ◌∷◌}
use Prim.Native.Nat.{ℕ, suc, ◌+◌, ◌≤◌, ◌<◌}
use native.Mathlib.Omega.{arith}
use borrow.Author.Tests.{ltb-false}
use lib.Dec.{eqb, ltb}
use lib.ListN.{length, take, drop}
use Rattle.std.proofs.Common.{Option, Some, None, unwrap_or}
use Rattle.std.specs.List.{position_or_len}
use Rattle.std.proofs.lemmas.List.Recursion.{is_position_or_len}
use Rattle.text.specs.Line.{length_to, line_length, to_first_line, lines}

abbrev Split : List ℕ → Type 0
Split text = lines text ≡ take (line_length text) text ∷ lines (drop (suc (line_length text)) text)

longer : (byte : ℕ) (text : List ℕ) → (0 < length text → Split text) → to_first_line byte (lines text) ≡ (byte ∷ take (line_length text) text) ∷ lines (drop (suc (line_length text)) text)
unfolding lines length_to
longer byte [] split = refl
longer byte (next ∷ text) split = ap (to_first_line byte) (split (omega arith))

-- The first line, and those behind its newline.
pub first_line : (text : List ℕ) → 0 < length text → Split text
unfolding lines length_to
first_line [] h = absurd (omega arith)
first_line (byte ∷ text) h = go (first_line text) (eqb byte 10) refl
  where
    go : (0 < length text → Split text) → (b : Bool) → eqb byte 10 ≡ b → Split (byte ∷ text)
    go split true e = rw e
    go split false e = rw e (longer byte text split)

pub length_to_inside : (mark : ℕ) (text : List ℕ) → length_to mark text ≤ length text
unfolding length_to
length_to_inside mark [] = omega arith
length_to_inside mark (byte ∷ text) = go (eqb byte mark) (length_to_inside mark text)
  where
    go : (b : Bool) → length_to mark text ≤ length text → cond b 0 (suc (length_to mark text)) ≤ suc (length text)
    go true h = omega arith
    go false h = omega arith

-- What `position` finds, or else the length.
pub length_to_found : (mark : ℕ) (text : List ℕ) (found : Option ℕ)
    → found ≡ cond (ltb (position_or_len (λ byte. eqb byte mark) text) (length text)) (Some (position_or_len (λ byte. eqb byte mark) text)) None
    → unwrap_or found (length text) ≡ length_to mark text
unfolding length_to
length_to_found mark text found e = go (ltb (length_to mark text) (length text)) refl (rw (← is_position_or_len (length_to mark) (λ byte. eqb byte mark) refl (λ x xs. let s : 1 + length_to mark xs ≡ suc (length_to mark xs) = omega arith in rw s) text) at e)
  where
    go : (b : Bool) → ltb (length_to mark text) (length text) ≡ b → found ≡ cond (ltb (length_to mark text) (length text)) (Some (length_to mark text)) None → unwrap_or found (length text) ≡ length_to mark text
    go true h e = rw (e, h)
    go false h e = let past = ltb-false (length_to mark text) (length text) h in let inside = length_to_inside mark text in rw (e, h) (omega arith)
