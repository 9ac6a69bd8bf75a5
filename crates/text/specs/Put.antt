-- Bytes that are put into a buffer.
use Rattle.std.specs.Prelude.{◌≡◌, List, ◌++◌, ℕ, ◌+◌, ◌-◌, min, length, take, drop}

-- How many of the bytes a buffer has room for from a place on.
abbrev pub fitting : List ℕ → ℕ → List ℕ → ℕ
fitting old at bytes = min (length bytes) (length old - at)

-- The buffer with the bytes from that place on, as many as it has room for, and its old ones before and behind them.
unfoldable pub written : List ℕ → ℕ → List ℕ → List ℕ
written old at bytes = take at old ++ take (fitting old at bytes) bytes ++ drop (at + fitting old at bytes) old

-- What putting bytes does, and the place behind them that it answers.
pub record Puts (old : List ℕ) (at : ℕ) (bytes : List ℕ) (end : ℕ) (new : List ℕ) : Type 0 where
  pub is : new ≡ written old at bytes
  pub ends : end ≡ at + fitting old at bytes
