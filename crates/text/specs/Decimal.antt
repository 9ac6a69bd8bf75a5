-- Numbers in decimal, and words that write them.
use Rattle.std.specs.Prelude.{cond, ◌&&◌, Option, Some, None, List, [], ◌∷◌, ◌++◌, ℕ, zero, suc, ◌+◌, ◌-◌, ◌*◌, ◌/◌, ◌%◌, ◌^◌, ltb}
use Rattle.base.specs.Range.{within}

-- A number below 10 is its digit; any other is the number without its last digit, then that digit. At most so many digits come
-- before the last one.
unfoldable pub digits_within : ℕ → ℕ → List ℕ
digits_within zero n = (48 + n % 10) ∷ []
digits_within (suc more) n = cond (ltb n 10) ((48 + n) ∷ []) (digits_within more (n / 10) ++ ((48 + n % 10) ∷ []))

-- A number below 2^64, which has at most 20 digits.
abbrev pub decimal : ℕ → List ℕ
decimal n = digits_within 19 n

-- The number with further digits behind it: none if a byte is no digit, or if the number has more than 64 bits.
unfoldable pub with_digits : ℕ → List ℕ → Option ℕ
with_digits n [] = Some n
with_digits n (byte ∷ bytes) =
    let more = n * 10 + (byte - 48) in
    cond (within 48 57 byte && ltb more (2 ^ 64)) (with_digits more bytes) None

-- The number that a word writes, which has at least one digit.
abbrev pub numeral : List ℕ → Option ℕ
numeral [] = None
numeral (byte ∷ bytes) = with_digits 0 (byte ∷ bytes)

abbrev pub below : ℕ → Option ℕ → Option ℕ
below n None = None
below n (Some m) = cond (ltb m n) (Some m) None
