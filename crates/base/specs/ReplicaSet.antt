-- Sets of replicas as masks of 16 bits: replica i is bit i - 1.
use Rattle.std.specs.Prelude.{◌≡◌, Bool, true, List, [], ◌∷◌, ℕ, leb}
use Rattle.base.specs.Counting.{count}
use Rattle.base.specs.Mask.{in_mask, put_in}
use Rattle.base.specs.Party.{replica_count, quorum_size, is_replica}
use Rattle.base.specs.declared.party.ReplicaId.{ReplicaId}
use Rattle.base.specs.declared.replica_set.ReplicaSet.{ReplicaSet}

abbrev pub empty : ReplicaSet
empty = record { 0 = 0 }

-- No number outside 1 to 16 is a member.
unfoldable pub has : ReplicaSet → ReplicaId → Bool
has set id = in_mask 1 16 set.0 id.0

-- A number outside 1 to 16 leaves the set as it is.
unfoldable pub with : ReplicaSet → ReplicaId → ReplicaSet
with set id = record { 0 = put_in 1 16 set.0 id.0 }

-- The listed replicas besides, one after the other.
unfoldable pub with_all : ReplicaSet → List ReplicaId → ReplicaSet
with_all set [] = set
with_all set (id ∷ ids) = with_all (with set id) ids

-- Document 02, #102: the set of the listed replicas, "as 16 bits with holder 1 lowest".
abbrev pub set_of : List ReplicaId → ReplicaSet
set_of ids = with_all empty ids

abbrev pub size : ReplicaSet → ℕ
size set = count 16 (has set)

-- Document 02, #102: a set of holders, "exactly q of them", and so none that is no holder.
pub record Quorate (f : ℕ) (set : ReplicaSet) : Type 0 where
  pub exactly : size set ≡ quorum_size f
  pub replicas : (id : ReplicaId) → has set id ≡ true → is_replica f id ≡ true

-- Document 01: "A quorum is q = 2f + 1 different holders", of the holders 1 to n.
abbrev pub is_quorum : ℕ → ReplicaSet → Bool
is_quorum f set = leb (quorum_size f) (count (replica_count f) (has set))
