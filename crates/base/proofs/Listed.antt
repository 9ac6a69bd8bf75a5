-- The set of listed replicas: who is in it, and how many they are. Assumes nothing.
use mathlib.Core.Path.{◌≡◌, refl, sym, ap, ◌∙◌}
use mathlib.Core.Bool.{Bool, true, false, ◌&&◌, ◌||◌, or-false, or_comm, or_assoc}
use mathlib.Core.List.{List, [], ◌∷◌, ◌++◌}
use mathlib.Core.Logic.{◌⊎◌, inl, inr}
use Prim.Native.Nat.{ℕ, ◌≤◌, ◌<◌}
use native.Mathlib.Omega.{arith}
use borrow.Author.Tests.{eqb-true, lt-ltb, le-leb}
use lib.Dec.{eqb}
use lib.ListN.{length}
use Rattle.base.specs.declared.party.ReplicaId.{ReplicaId}
use Rattle.base.specs.declared.replica_set.ReplicaSet.{ReplicaSet}
use Rattle.base.specs.Counting.{replica, count}
use Rattle.base.specs.Range.{within}
use Rattle.base.specs.ReplicaSet.{empty, has, with, with_all, set_of, size}
use Rattle.base.specs.Rising.{listed, rising}
use Rattle.base.proofs.Apart.{apart}
use Rattle.std.proofs.lemmas.Bool.{and_parts, or_cases}
use Rattle.base.proofs.Counting.{count_agree}
use Rattle.base.proofs.Quorum.{rising_first, rising_count}
use Rattle.base.proofs.Range.{inside, bounds}
use Rattle.base.proofs.ReplicaSet.{has_with, has_empty}

-- Those that are listed join those that were there.
has_all : (set : ReplicaSet) (ids : List ReplicaId) (i : ℕ) → 1 ≤ i → i ≤ 16 → has (with_all set ids) (replica i) ≡ (listed ids (replica i) || has set (replica i))
unfolding with_all listed
has_all set [] i low high = refl
has_all set (x ∷ ids) i low high = has_all (with set x) ids i low high ∙ rw (has_with set x i low high) (swap (listed ids (replica i)) (eqb i x.0) (has set (replica i)))
  where
    swap : (a b c : Bool) → (a || (b || c)) ≡ ((b || a) || c)
    swap a b c = sym (or_assoc a b c) ∙ ap (λ (both : Bool). both || c) (or_comm a b)

-- The members of the set of a list are the listed ones among 1 to 16.
pub members : (ids : List ReplicaId) (id : ReplicaId) → has (set_of ids) id ≡ (within 1 16 id.0 && listed ids id)
members ids id = go (within 1 16 id.0) refl
  where
    go : (b : Bool) → within 1 16 id.0 ≡ b → has (set_of ids) id ≡ (b && listed ids id)
    go true e = let range = bounds 1 16 id.0 e in has_all empty ids id.0 range.0 range.1 ∙ rw (has_empty id) (or-false (listed ids id))
    go false e = unfold has in rw e

pub member_listed : (ids : List ReplicaId) (id : ReplicaId) → has (set_of ids) id ≡ true → listed ids id ≡ true
member_listed ids id there = (and_parts (within 1 16 id.0) (listed ids id) (sym (members ids id) ∙ there)).1

pub count_members : (n : ℕ) (ids : List ReplicaId) → n ≤ 16 → count n (has (set_of ids)) ≡ count n (listed ids)
count_members n ids small = count_agree n (has (set_of ids)) (listed ids) (λ i low high. members ids (replica i) ∙ rw (inside 1 16 i low (omega arith)))

-- One listed behind another joins after it.
pub with_all_append : (set : ReplicaSet) (ids more : List ReplicaId) → with_all set (ids ++ more) ≡ with_all (with_all set ids) more
unfolding with_all
with_all_append set [] more = refl
with_all_append set (x ∷ ids) more = with_all_append (with set x) ids more

rising_wider : (last n m : ℕ) (ids : List ReplicaId) → n ≤ m → rising last n ids ≡ true → rising last m ids ≡ true
unfolding rising
rising_wider last n m [] l up = refl
rising_wider last n m (x ∷ ids) l up =
    let r = rising_first last n x ids up in
    rw (lt-ltb last x.0 r.0, le-leb x.0 m (omega arith), rising_wider x.0 n m ids l r.2)

-- The set of a rising list within 1 to n has as many members as the list has entries.
pub rising_size : (n : ℕ) (ids : List ReplicaId) → n ≤ 16 → rising 0 n ids ≡ true → size (set_of ids) ≡ length ids
rising_size n ids small up = count_members 16 ids (omega arith) ∙ rising_count 0 16 ids (rising_wider 0 n 16 ids small up)

-- All of them are within 1 to n.
pub rising_within : (last n : ℕ) (ids : List ReplicaId) (id : ReplicaId) → rising last n ids ≡ true → listed ids id ≡ true → (last < id.0) × (id.0 ≤ n)
unfolding listed
rising_within last n [] id up there = apart (cc)
rising_within last n (x ∷ ids) id up there = go (λ e. rising_within x.0 n ids id (rising_first last n x ids up).2 e) (or_cases (eqb id.0 x.0) (listed ids id) there)
  where
    go : (listed ids id ≡ true → (x.0 < id.0) × (id.0 ≤ n)) → (eqb id.0 x.0 ≡ true) ⊎ (listed ids id ≡ true) → (last < id.0) × (id.0 ≤ n)
    go behind (inl e) = let r = rising_first last n x ids up in let same = eqb-true id.0 x.0 e in (omega arith, omega arith)
    go behind (inr e) = let r = rising_first last n x ids up in let rest = behind e in (omega arith, omega arith)
