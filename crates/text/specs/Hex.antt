-- Hex digits, capital or small, and the bytes that pairs of them write.
use Rattle.std.specs.Prelude.{◌≡◌, cond, Option, Some, None, List, [], ◌∷◌, ◌++◌, ℕ, zero, suc, ◌+◌, ◌-◌, ◌*◌, ◌/◌, ◌%◌, ◌≤◌, eqb, ltb, length, get_or, take, drop}
use Rattle.base.specs.Range.{within}

-- 0 to 9, A to F, a to f
unfoldable pub hex_value : ℕ → Option ℕ
hex_value byte =
    cond (within 48 57 byte) (Some (byte - 48))
    (cond (within 65 70 byte) (Some (byte - 55)) (cond (within 97 102 byte) (Some (byte - 87)) None))

abbrev pub joined : Option ℕ → Option ℕ → Option ℕ
joined None low = None
joined (Some high) None = None
joined (Some high) (Some low) = Some (high * 16 + low)

-- The byte that two digits write.
unfoldable pub pair_value : ℕ → ℕ → Option ℕ
pair_value high low = joined (hex_value high) (hex_value low)

abbrev pub pairs_from : Option ℕ → List ℕ → List ℕ
pairs_from None later = []
pairs_from (Some byte) later = byte ∷ later

-- The bytes of the pairs in front, up to what is no pair, at most `room` of them.
unfoldable pub hex_pairs : ℕ → List ℕ → List ℕ
hex_pairs zero line = []
hex_pairs (suc room) line = pairs_from (pair_value (get_or line 0 0) (get_or line 1 0)) (hex_pairs room (drop 2 line))

-- The capital digit of a number below 16.
unfoldable pub hex_digit : ℕ → ℕ
hex_digit n = cond (ltb n 10) (48 + n) (55 + n)

abbrev pub hex_pair : ℕ → List ℕ
hex_pair byte = hex_digit (byte / 16) ∷ hex_digit (byte % 16) ∷ []

-- Bytes as pairs of capital digits.
unfoldable pub hex : List ℕ → List ℕ
hex [] = []
hex (byte ∷ bytes) = hex_pair byte ++ hex bytes

-- What reading a line into a buffer does: the pairs' bytes in front, the old ones behind. The last two parts follow, for callers that lend the front.
pub record HexRead (line old new : List ℕ) (count : ℕ) : Type 0 where
  pub is : new ≡ hex_pairs (length old) line ++ drop count old
  pub counted : count ≡ length (hex_pairs (length old) line)
  pub inside : count ≤ length new
  pub front : count ≡ length (take count new)

-- How many bytes a word writes that is pairs and nothing else, if there is room for them.
unfoldable pub word_length : ℕ → List ℕ → Option ℕ
word_length room word = let count = length (hex_pairs room word) in cond (eqb (length word) (2 * count)) (Some count) None

-- What reading a whole word does: its pairs are read in any case, and the answer tells whether they are all of it.
pub record WordRead (word old new : List ℕ) (answer : Option ℕ) : Type 0 where
  pub read : HexRead word old new (length (hex_pairs (length old) word))
  pub is : answer ≡ word_length (length old) word
