-- What two slices have in common in front, as an iterator counts it. Assumes nothing.
use mathlib.Core.Path.{◌≡◌, refl}
use mathlib.Core.Bool.{Bool, true, false, cond}
use mathlib.Core.List.{List, [], ◌∷◌}
use Prim.Native.Nat.{ℕ, suc, ◌+◌}
use native.Mathlib.Omega.{arith}
use lib.Dec.{eqb}
use Rattle.std.specs.List.{prefix_len, zip}
use Rattle.audit.specs.Comparing.{common}

-- Whether the bytes of a pair are one.
abbrev pub one_byte : ℕ × ℕ → Bool
one_byte p = eqb p.0 p.1

pub in_pairs : (xs ys : List ℕ) → prefix_len one_byte (zip xs ys) ≡ common xs ys
unfolding common
in_pairs [] ys = refl
in_pairs (x ∷ xs) [] = refl
in_pairs (x ∷ xs) (y ∷ ys) = go (eqb x y) (in_pairs xs ys)
  where
    go : (b : Bool) → prefix_len one_byte (zip xs ys) ≡ common xs ys → cond b (1 + prefix_len one_byte (zip xs ys)) 0 ≡ cond b (suc (common xs ys)) 0
    go true later = omega (arith, later)
    go false later = refl
