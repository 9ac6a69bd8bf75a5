-- Numbers in falling order, equal ones each time.
use Rattle.std.specs.Prelude.{cond, List, [], ◌∷◌, ℕ, leb}

-- A number put into a falling list.
unfoldable pub insert : ℕ → List ℕ → List ℕ
insert n [] = n ∷ []
insert n (m ∷ ms) = cond (leb m n) (n ∷ m ∷ ms) (m ∷ insert n ms)

unfoldable pub falling : List ℕ → List ℕ
falling [] = []
falling (n ∷ ns) = insert n (falling ns)
