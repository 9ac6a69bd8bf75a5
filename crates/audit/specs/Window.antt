-- What a window of a log holds after its front was dropped.
use Rattle.std.specs.Prelude.{◌≡◌, List, ℕ, length}
use Rattle.base.specs.Bytes.{between}
use Rattle.wire.specs.Writing.{in_front}

-- The bytes between two places stand in front, with the old ones behind them; r says how many they are.
pub record MovesFront (old : List ℕ) (from to r : ℕ) (new : List ℕ) : Type 0 where
  pub many : r ≡ length (between old from to)
  pub moved : new ≡ in_front (between old from to) old
