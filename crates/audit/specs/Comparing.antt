-- A replica's answer as it is compared, and where two replies differ, for whoever is told that they do.
use Rattle.std.specs.Prelude.{cond, List, [], ◌∷◌, ℕ, suc, eqb, Result}
use Rattle.std.specs.declared.result.Result.TheVariants.{Ok, Err}
use Rattle.base.specs.Outcome.{Outcome, accepted, refused}

-- An answer whose refusal stands by its number, of any value.
abbrev pub numbered : Result ℕ ℕ → Outcome ℕ
numbered (Ok length) = accepted length
numbered (Err number) = refused number

-- How many bytes they have in common in front.
unfoldable pub common : List ℕ → List ℕ → ℕ
common [] ys = 0
common (x ∷ xs) [] = 0
common (x ∷ xs) (y ∷ ys) = cond (eqb x y) (suc (common xs ys)) 0
