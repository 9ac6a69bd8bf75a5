-- What is kept of a piece, byte by byte. Assumes nothing.
use mathlib.Core.Path.{◌≡◌}
use mathlib.Core.List.{List, [], ◌∷◌, ◌++◌, append-nil}
use Prim.Native.Nat.{ℕ, ◌+◌, ◌<◌}
use native.Mathlib.Numerals.{add-one}
use lib.ListN.{length, get_or, drop}
use lib.Seq.{drop-cons}
use Rattle.play.specs.Input.{kept_byte, after, kept_of}
use Rattle.play.specs.declared.input.Place.{Place}

module _ (place next : Place) (piece : List ℕ) (i : ℕ) (h : i < length piece) (e : next ≡ after place (get_or piece i 0 ∷ [])) where
  pub after_more : after next (drop (i + 1) piece) ≡ after place (drop i piece)
  unfolding after
  after_more = rw (e, add-one, drop-cons piece i 0 h)

  pub kept_more : kept_of place (get_or piece i 0 ∷ []) ++ kept_of next (drop (i + 1) piece) ≡ kept_of place (drop i piece)
  unfolding after kept_of
  kept_more = rw (e, add-one, drop-cons piece i 0 h, append-nil (kept_byte place (get_or piece i 0)))
