-- Numbers as bytes, the most significant byte first, at any width. Document 01: "fields are big-endian and unsigned".
use Rattle.std.specs.Prelude.{List, [], ◌∷◌, ◌++◌, ℕ, zero, suc, ◌+◌, ◌*◌, ◌/◌, ◌%◌, ◌<◌, get_or}

-- The number n with the bytes behind it as further digits.
abbrev pub appended : ℕ → List ℕ → ℕ
appended n [] = n
appended n (b ∷ bs) = appended (n * 256 + b) bs

-- The number that a list of bytes writes.
unfoldable pub from_bytes : List ℕ → ℕ
from_bytes bs = appended 0 bs

-- The last `width` bytes of a number.
unfoldable pub to_bytes : ℕ → ℕ → List ℕ
to_bytes zero n = []
to_bytes (suc width) n = to_bytes width (n / 256) ++ n % 256 ∷ []

-- Each number of the list is a byte.
abbrev pub Bytes : List ℕ → Type 0
Bytes bs = (i : ℕ) → get_or bs i 0 < 256
