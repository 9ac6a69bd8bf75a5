-- Document 01, "The run player": all that it prints.
use Rattle.std.specs.Prelude.{◌≡◌, List, [], ◌∷◌, ◌++◌, ℕ, ◌+◌, take}
use Rattle.text.specs.Line.{lines}
use Rattle.text.specs.Put.{Puts}
use Rattle.play.specs.Output.{header, line}
use Rattle.play.specs.Player.{Turn, turn}
use Rattle.play.specs.Worlds.{fresh_world, empty_store}
use Rattle.play.specs.declared.session.Played.{Played}
use Rattle.play.specs.declared.world.World.{World}

-- "each line prints its number and" what is said of it, from this number on.
unfoldable pub printed_lines : World → List ℕ → ℕ → List (List ℕ) → List ℕ
printed_lines world store number [] = []
printed_lines world store number (text ∷ later) =
    let t = turn world store text in
    line number t.said t.card ++ printed_lines t.world t.store (number + 1) later

-- "It reads the first 100 lines of standard input [..] After a header each line prints its number and" what is said of it.
unfoldable pub printed : List ℕ → List ℕ
printed script = header ++ printed_lines fresh_world empty_store 1 (take 100 (lines script))

-- What playing a line does.
pub record PlaysLine (turn : Turn) (number : ℕ) (out : List ℕ) (at : ℕ) (played : Played) (store new : List ℕ) : Type 0 where
  pub world_is : played.world ≡ turn.world
  pub store_is : store ≡ turn.store
  pub puts : Puts out at (line number turn.said turn.card) played.end new
