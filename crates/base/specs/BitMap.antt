-- Bit maps: which of the fields 0, 1, 2, … are there.
use Rattle.std.specs.Prelude.{Bool, List, [], ◌∷◌, ℕ, ◌+◌, ◌*◌, ◌/◌, ◌%◌, ◌^◌, eqb}
use Rattle.std.proofs.Math.Option.{Option, none, some}

-- Whether a bit is set.
abbrev pub bit : ℕ → ℕ → Bool
bit map i = eqb (map / 2 ^ i % 2) 1

-- The map of the fields that are there.
abbrev pub map_of : {A : Type 0} → List (Option A) → ℕ
map_of [] = 0
map_of (none ∷ fields) = 2 * map_of fields
map_of (some field ∷ fields) = 2 * map_of fields + 1
