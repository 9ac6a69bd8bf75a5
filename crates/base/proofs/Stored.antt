-- Bytes stored in others where there is room for them. Assumes nothing.
use mathlib.Core.Path.{◌≡◌}
use mathlib.Core.List.{List, ◌++◌}
use Prim.Native.Nat.{ℕ, ◌+◌, ◌≤◌}
use borrow.Author.Tests.{le-leb}
use lib.ListN.{length, take, drop}
use Rattle.base.specs.Bytes.{stored}

module _ (at : ℕ) (bytes old : List ℕ) where
  pub stored_fits : at + length bytes ≤ length old → stored at bytes old ≡ take at old ++ (bytes ++ drop (at + length bytes) old)
  unfolding stored
  stored_fits h = rw (le-leb (at + length bytes) (length old) h)
