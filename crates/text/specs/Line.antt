-- Lines of a text, and words of a line.
use Rattle.std.specs.Prelude.{◌≡◌, cond, List, [], ◌∷◌, ℕ, suc, ◌+◌, max, ◌≤◌, eqb, length, drop}

-- How many bytes come before the first such byte, or in all.
unfoldable pub length_to : ℕ → List ℕ → ℕ
length_to mark [] = 0
length_to mark (byte ∷ text) = cond (eqb byte mark) 0 (suc (length_to mark text))

-- The first line ends at a newline.
abbrev pub line_length : List ℕ → ℕ
line_length text = length_to 10 text

-- A byte in front of the first line.
abbrev pub to_first_line : ℕ → List (List ℕ) → List (List ℕ)
to_first_line byte [] = (byte ∷ []) ∷ []
to_first_line byte (line ∷ later) = (byte ∷ line) ∷ later

-- The lines, without their newlines. A last line may lack its newline, and behind a final newline there is none.
unfoldable pub lines : List ℕ → List (List ℕ)
lines [] = []
lines (byte ∷ text) = cond (eqb byte 10) ([] ∷ lines text) (to_first_line byte (lines text))

-- The first place from `from` on that has such a byte, or the end. The second and the third follow from the first, for callers that index.
pub record EndsAt (mark : ℕ) (text : List ℕ) (from end : ℕ) : Type 0 where
  pub is : end ≡ from + length_to mark (drop from text)
  pub behind : from ≤ end
  pub inside : end ≤ max from (length text)
