-- Parts of bytes, bytes stored in others, and arrays that they fill.
use Rattle.std.specs.Prelude.{cond, List, ◌++◌, ℕ, ◌+◌, ◌-◌, leb, length, take, drop, replicate}

-- The bytes from one place to another.
abbrev pub between : List ℕ → ℕ → ℕ → List ℕ
between bytes at end = take (end - at) (drop at bytes)

-- Some bytes in place of as many from a place on; nothing changes where there is no room for all.
unfoldable pub stored : ℕ → List ℕ → List ℕ → List ℕ
stored at bytes old = cond (leb (at + length bytes) (length old)) (take at old ++ (bytes ++ drop (at + length bytes) old)) old

-- The bytes in an array of so many, zeros behind them; what does not fit is cut.
abbrev pub filled : ℕ → List ℕ → List ℕ
filled width bytes = take width (bytes ++ replicate width 0)
