-- What the player keeps of its input: the first 100 lines, each cut to its first 39 bytes. A line of the grammar has at most 38,
-- so that the cut changes nothing that is printed (`proofs/Cutting`).
use Rattle.std.specs.Prelude.{◌≡◌, cond, List, [], ◌∷◌, ◌++◌, ℕ, ◌+◌, eqb, leb}
use Rattle.text.specs.Put.{Puts}
use Rattle.play.specs.declared.input.Kept.{Kept}
use Rattle.play.specs.declared.input.Place.{Place}

unfoldable pub start_place : Place
start_place = record { column = 0; lines = 0 }

-- The place behind a byte.
unfoldable pub step : Place → ℕ → Place
step place byte =
    cond (leb 100 place.lines) place
    (cond (eqb byte 10) (record { column = 0; lines = place.lines + 1 })
    (cond (leb 39 place.column) place (record { column = place.column + 1; lines = place.lines })))

-- The byte, if it is kept.
unfoldable pub kept_byte : Place → ℕ → List ℕ
kept_byte place byte =
    cond (leb 100 place.lines) []
    (cond (eqb byte 10) (byte ∷ [])
    (cond (leb 39 place.column) [] (byte ∷ [])))

unfoldable pub after : Place → List ℕ → Place
after place [] = place
after place (byte ∷ bytes) = after (step place byte) bytes

unfoldable pub kept_of : Place → List ℕ → List ℕ
kept_of place [] = []
kept_of place (byte ∷ bytes) = kept_byte place byte ++ kept_of (step place byte) bytes

-- What keeping a piece of the input does.
pub record Keeps (kept : Kept) (piece old : List ℕ) (next : Kept) (new : List ℕ) : Type 0 where
  pub place_is : next.place ≡ after kept.place piece
  pub puts : Puts old kept.length (kept_of kept.place piece) next.length new
