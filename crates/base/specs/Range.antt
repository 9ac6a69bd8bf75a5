-- Ranges of numbers.
use Rattle.std.specs.Prelude.{Bool, ◌&&◌, ℕ, leb}

-- Whether x is one of low to high.
unfoldable pub within : ℕ → ℕ → ℕ → Bool
within low high x = leb low x && leb x high
