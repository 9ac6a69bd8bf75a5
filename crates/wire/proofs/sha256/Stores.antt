-- A store behind what is written adds an element to it. Assumes nothing.
use Rattle.std.proofs.Common.{◌≡◌, ℕ, ◌+◌, ◌<◌, List, [], ◌∷◌, ◌++◌, length, take, set, add-one, take-suc-set}

pub store_next : (l : List ℕ) (i v : ℕ) (written : List ℕ) → i < length l → take i l ≡ written → take (i + 1) (set l i v) ≡ written ++ v ∷ []
store_next l i v written h e = rw (add-one i, take-suc-set l i v h, e)
