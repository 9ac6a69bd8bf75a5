-- Of any input the player keeps enough: what is kept prints the same. Assumes nothing.
use mathlib.Core.Path.{◌≡◌, refl, sym, ap, ◌∙◌}
use mathlib.Core.Bool.{Bool, true, false}
use mathlib.Core.List.{List, [], ◌∷◌, ◌++◌, map, append_assoc, append-nil}
use Prim.Native.Nat.{ℕ, zero, suc, ◌+◌, ◌-◌, ◌≤◌, ◌<◌}
use native.Mathlib.Omega.{arith}
use borrow.Author.Tests.{lt-leb, le-leb, eqb-false, leb-true, leb-false, ne_eqb}
use lib.Dec.{eqb, leb}
use lib.ListN.{length, take, drop, length-append}
use lib.Seq.{take_all, take_at, take-append-add, drop-append-add}
use Rattle.text.specs.Line.{length_to, line_length, lines}
use Rattle.text.proofs.Lines.{first_line}
use Rattle.play.specs.Output.{header}
use Rattle.play.specs.Input.{start_place, step, kept_byte, kept_of}
use Rattle.play.specs.Session.{printed_lines, printed}
use Rattle.play.specs.Worlds.{fresh_world, empty_store}
use Rattle.play.specs.declared.input.Place.{Place}
use Rattle.play.proofs.LongLines.{cut_lines}

-- A text without a newline.
abbrev Plain : List ℕ → Type 0
Plain text = line_length text ≡ length text

plain_front : (text rest : List ℕ) → Plain text → line_length (text ++ rest) ≡ length text + line_length rest
unfolding length_to
plain_front [] rest p = omega arith
plain_front (byte ∷ text) rest p = go (eqb byte 10) refl (plain_front text rest)
  where
    go : (b : Bool) → eqb byte 10 ≡ b → (Plain text → line_length (text ++ rest) ≡ length text + line_length rest) → line_length ((byte ∷ text) ++ rest) ≡ length (byte ∷ text) + line_length rest
    go true e more = let z : 0 ≡ suc (length text) = rw e at p in absurd (omega arith)
    go false e more = let q : suc (line_length text) ≡ suc (length text) = rw e at p in let m = more (omega arith) in rw e (omega arith)

plain_more : (text : List ℕ) (byte : ℕ) → Plain text → (byte ≡ 10 → ⊥) → Plain (text ++ (byte ∷ []))
unfolding length_to
plain_more text byte p other = rw (plain_front text (byte ∷ []) p, length-append text (byte ∷ []), ne_eqb byte 10 other)

-- The first line of a text that starts without a newline, and those behind.
split : (text rest : List ℕ) → Plain text → 0 < length (text ++ rest) → lines (text ++ rest) ≡ (text ++ take (line_length rest) rest) ∷ lines (drop (suc (line_length rest)) rest)
split text rest p some =
    let n = line_length rest in
    let past : suc (length text + n) ≡ length text + suc n = omega arith in
    first_line (text ++ rest) some ∙ rw (plain_front text rest p, take-append-add text rest n, past, drop-append-add text rest (suc n))

-- Where its first newline stands behind it; and where it is as long as a line is kept.
module _ (text : List ℕ) (p : Plain text) where
  at_newline : (byte : ℕ) (rest : List ℕ) → eqb byte 10 ≡ true → lines (text ++ byte ∷ rest) ≡ text ∷ lines rest
  unfolding length_to
  at_newline byte rest e = split text (byte ∷ rest) p (simp length-append (omega arith)) ∙ rw e (ap (λ (first : List ℕ). first ∷ lines rest) (append-nil text))

  module _ (full : length text ≡ 39) where
    cut_first : (rest : List ℕ) → map (take 39) (lines (text ++ rest)) ≡ text ∷ map (take 39) (lines (drop (suc (line_length rest)) rest))
    cut_first rest = rw (split text rest p (simp length-append (omega arith)), take_at text (take (line_length rest) rest) 39 full)

    cut_byte : (byte : ℕ) (bytes : List ℕ) → eqb byte 10 ≡ false → map (take 39) (lines (text ++ bytes)) ≡ map (take 39) (lines (text ++ byte ∷ bytes))
    unfolding length_to
    cut_byte byte bytes e = cut_first bytes ∙ sym (cut_first (byte ∷ bytes) ∙ rw e)

abbrev At : List ℕ → ℕ → Place
At text n = record { column = length text; lines = n }

-- What is kept has the lines of the whole, cut: with part of a line before it, which was kept.
abbrev Alike : List ℕ → ℕ → List ℕ → Type 0
Alike text n bytes = take (100 - n) (lines (text ++ kept_of (At text n) bytes)) ≡ take (100 - n) (map (take 39) (lines (text ++ bytes)))

no_lines : lines [] ≡ []
unfolding lines
no_lines = refl

at_end : (text : List ℕ) (n : ℕ) → Plain text → length text ≤ 39 → Alike text n []
unfolding kept_of length_to
at_end [] n p short = rw no_lines
at_end (byte ∷ text) n p short = rw (split (byte ∷ text) [] p (omega arith), no_lines, append-nil text, take_all 38 text (omega arith))

module _ (text : List ℕ) (n : ℕ) (p : Plain text) (short : length text ≤ 39) (byte : ℕ) (bytes : List ℕ) where
  past_100 : 100 ≤ n → Alike text n (byte ∷ bytes)
  past_100 h = let none : 100 - n ≡ 0 = omega arith in rw none

  newline : n < 100 → eqb byte 10 ≡ true → Alike [] (n + 1) bytes → Alike text n (byte ∷ bytes)
  unfolding kept_of kept_byte step
  newline h e later =
      let left : 100 - n ≡ suc (100 - (n + 1)) = omega arith in
      rw (lt-leb 100 n h, e, at_newline text p byte (kept_of (At [] (n + 1)) bytes) e, at_newline text p byte bytes e, left, take_all 39 text short)
      (ap (λ (l : List (List ℕ)). text ∷ l) later)

  taken : n < 100 → eqb byte 10 ≡ false → length text < 39 → Alike (text ++ (byte ∷ [])) n bytes → Alike text n (byte ∷ bytes)
  unfolding kept_of kept_byte step
  taken h e room later = rw (lt-leb 100 n h, e, lt-leb 39 (length text) room) (simp (append_assoc, length-append) at later)

  left_out : n < 100 → eqb byte 10 ≡ false → 39 ≤ length text → Alike text n bytes → Alike text n (byte ∷ bytes)
  unfolding kept_of kept_byte step
  left_out h e full later =
      let whole : length text ≡ 39 = omega arith in
      rw (lt-leb 100 n h, e, le-leb 39 (length text) full) (later ∙ ap (take (100 - n)) (cut_byte text p whole byte bytes e))

  one_byte : ((next : List ℕ) (m : ℕ) → Plain next → length next ≤ 39 → Alike next m bytes) → (full newline? long : Bool) → leb 100 n ≡ full → eqb byte 10 ≡ newline? → leb 39 (length text) ≡ long
      → Alike text n (byte ∷ bytes)
  unfolding length_to
  one_byte later true b c f e l = past_100 (leb-true 100 n f)
  one_byte later false true c f e l = newline (leb-false 100 n f) e (later [] (n + 1) refl (omega arith))
  one_byte later false false true f e l = left_out (leb-false 100 n f) e (leb-true 39 (length text) l) (later text n p short)
  one_byte later false false false f e l =
      let room = leb-false 39 (length text) l in
      taken (leb-false 100 n f) e room (later (text ++ (byte ∷ [])) n (plain_more text byte p (eqb-false byte 10 e)) (simp length-append (omega arith)))

kept_lines : (bytes text : List ℕ) (n : ℕ) → Plain text → length text ≤ 39 → Alike text n bytes
kept_lines [] text n p short = at_end text n p short
kept_lines (byte ∷ bytes) text n p short =
    one_byte text n p short byte bytes (kept_lines bytes) (leb 100 n) (eqb byte 10) (leb 39 (length text)) refl refl refl

take_map : (n : ℕ) (texts : List (List ℕ)) → take n (map (take 39) texts) ≡ map (take 39) (take n texts)
take_map zero texts = refl
take_map (suc n) [] = refl
take_map (suc n) (text ∷ texts) = ap (λ (l : List (List ℕ)). take 39 text ∷ l) (take_map n texts)

-- What is kept of an input prints what the input prints.
pub kept_prints : (input : List ℕ) → printed (kept_of start_place input) ≡ printed input
unfolding printed start_place length_to
kept_prints input =
    let same = kept_lines input [] 0 refl (omega arith) ∙ take_map 100 (lines input) in
    ap (λ (l : List ℕ). header ++ l) (ap (printed_lines fresh_world empty_store 1) same ∙ cut_lines fresh_world empty_store 1 (take 100 (lines input)))
