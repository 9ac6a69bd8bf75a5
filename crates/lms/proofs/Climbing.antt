-- The leaf, and a level further up the tree. Assumes nothing.
use mathlib.Core.Path.{◌≡◌, refl}
use mathlib.Core.List.{List}
use Prim.Native.Nat.{ℕ, ◌+◌, ◌/◌}
use native.Mathlib.Numerals.{add-one}
use Rattle.lms.specs.Lms.{path, parent, above, climb}

pub above_start : (node : ℕ) → above node 0 ≡ node
unfolding above
above_start node = refl

pub above_next : (node i : ℕ) → above node (i + 1) ≡ above node i / 2
unfolding above
above_next node i = rw (add-one i)

module _ (I signature leaf : List ℕ) (node : ℕ) where
  pub climb_start : climb I signature node leaf 0 ≡ leaf
  unfolding climb
  climb_start = refl

  pub climb_next : (i : ℕ) → climb I signature node leaf (i + 1) ≡ parent I (above node i) (path signature i) (climb I signature node leaf i)
  unfolding climb
  climb_next i = rw (add-one i)

pub ruleset climbing = (above_start, above_next, climb_start, climb_next)
