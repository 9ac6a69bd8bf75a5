-- Lists of replicas that rise strictly, so that all are different.
use Rattle.std.specs.Prelude.{Bool, true, false, ◌&&◌, ◌||◌, List, [], ◌∷◌, ℕ, leb, ltb, eqb}
use Rattle.base.specs.declared.party.ReplicaId.{ReplicaId}

unfoldable pub listed : List ReplicaId → ReplicaId → Bool
listed [] id = false
listed (x ∷ xs) id = eqb id.0 x.0 || listed xs id

-- Each is above the one before it, the first above `last`, and none is above n.
unfoldable pub rising : ℕ → ℕ → List ReplicaId → Bool
rising last n [] = true
rising last n (x ∷ xs) = ltb last x.0 && leb x.0 n && rising x.0 n xs
