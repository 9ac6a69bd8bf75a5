-- Quorums: any two share a correct replica; what a list of different replicas counts. Assumes nothing.
use mathlib.Core.Path.{◌≡◌, refl, ap, ◌∙◌}
use mathlib.Core.Bool.{Bool, true, false, ◌&&◌, not}
use mathlib.Core.List.{List, [], ◌∷◌}
use Prim.Native.Nat.{ℕ, zero, suc, ◌+◌, ◌≤◌, ◌<◌}
use native.Mathlib.Omega.{arith}
use lib.Dec.{leb, ltb}
use lib.ListN.{length}
use borrow.Author.Tests.{ltb-true, leb-true, ne_eqb}
use Rattle.base.specs.declared.party.ReplicaId.{ReplicaId}
use Rattle.base.specs.Counting.{replica, one, count}
use Rattle.base.specs.Party.{replica_count, quorum_size}
use Rattle.base.specs.Rising.{listed, rising}
use Rattle.std.proofs.lemmas.Bool.{and_parts}
use Rattle.base.proofs.Counting.{count_none, count_not, count_one_more}

-- A replica among 1 to n that passes three tests.
pub record Common (n : ℕ) (p q r : ReplicaId → Bool) : Type 0 where
  pub at : ReplicaId
  pub low : 1 ≤ at.0
  pub high : at.0 ≤ n
  pub in_p : p at ≡ true
  pub in_q : q at ≡ true
  pub in_r : r at ≡ true

wider : {n : ℕ} {p q r : ReplicaId → Bool} → Common n p q r → Common (suc n) p q r
wider c = record { at = c.at; low = c.low; high = omega arith; in_p = c.in_p; in_q = c.in_q; in_r = c.in_r }

one_le : (b : Bool) → one b ≤ 1
one_le true = omega arith
one_le false = omega arith

-- Three tests that pass more than 2n times in all share a replica.
pub three_meet : (n : ℕ) (p q r : ReplicaId → Bool) → n + n < count n p + count n q + count n r → Common n p q r
unfolding count
three_meet zero p q r h = absurd (omega arith)
three_meet (suc n) p q r h = go (three_meet n p q r) (p (replica (suc n))) (q (replica (suc n))) (r (replica (suc n))) refl refl refl h
  where
    go : (n + n < count n p + count n q + count n r → Common n p q r) → (a b c : Bool) → p (replica (suc n)) ≡ a → q (replica (suc n)) ≡ b → r (replica (suc n)) ≡ c
        → suc n + suc n < (one a + count n p) + (one b + count n q) + (one c + count n r) → Common (suc n) p q r
    go ih true true true ep eq er k = record { at = replica (suc n); low = omega arith; high = omega arith; in_p = ep; in_q = eq; in_r = er }
    go ih false b c ep eq er k = wider (ih (omega (arith, one_le b, one_le c)))
    go ih true false c ep eq er k = wider (ih (omega (arith, one_le c)))
    go ih true true false ep eq er k = wider (ih (omega arith))

-- What passes two tests is at least what they count beyond n.
both_count : (n : ℕ) (p q : ReplicaId → Bool) → count n p + count n q ≤ n + count n (λ i. p i && q i)
unfolding count
both_count zero p q = omega arith
both_count (suc n) p q = go (p (replica (suc n))) (q (replica (suc n))) (both_count n p q)
  where
    go : (a b : Bool) → count n p + count n q ≤ n + count n (λ i. p i && q i) → (one a + count n p) + (one b + count n q) ≤ suc n + (one (a && b) + count n (λ i. p i && q i))
    go true true h = omega arith
    go true false h = omega arith
    go false true h = omega arith
    go false false h = omega arith

-- Two quorums have f + 1 replicas in common, whoever they are.
quorums_overlap : (f : ℕ) → f ≤ 5 → replica_count f + f + 1 ≤ quorum_size f + quorum_size f
quorums_overlap f bound = omega arith

module _ (f : ℕ) (correct : ReplicaId → Bool) (few : count (replica_count f) (λ i. not (correct i)) ≤ f) (bound : f ≤ 5) where
  -- At most f faulty replicas: the correct ones are a quorum.
  pub correct_quorum : quorum_size f ≤ count (replica_count f) correct
  correct_quorum = omega (arith, count_not (replica_count f) correct)

  -- Two quorums share a correct replica.
  pub quorums_meet : (p q : ReplicaId → Bool) → quorum_size f ≤ count (replica_count f) p → quorum_size f ≤ count (replica_count f) q → Common (replica_count f) p q correct
  quorums_meet p q hp hq = three_meet (replica_count f) p q correct (omega (arith, quorums_overlap f bound, correct_quorum))

  -- A quorum contains f + 1 correct replicas.
  pub quorum_correct : (p : ReplicaId → Bool) → quorum_size f ≤ count (replica_count f) p → f + 1 ≤ count (replica_count f) (λ i. p i && correct i)
  quorum_correct p hp = omega (arith, both_count (replica_count f) p correct, quorums_overlap f bound, correct_quorum)

pub rising_first : (last n : ℕ) (x : ReplicaId) (xs : List ReplicaId) → rising last n (x ∷ xs) ≡ true → (last < x.0) × (x.0 ≤ n) × (rising x.0 n xs ≡ true)
unfolding rising
rising_first last n x xs h =
    let rest = and_parts (ltb last x.0 && leb x.0 n) (rising x.0 n xs) h in
    let ends = and_parts (ltb last x.0) (leb x.0 n) rest.0 in
    (ltb-true last x.0 ends.0, leb-true x.0 n ends.1, rest.1)

-- What a rising list holds lies above its bound.
rising_above : (last n : ℕ) (xs : List ReplicaId) (id : ReplicaId) → rising last n xs ≡ true → id.0 ≤ last → listed xs id ≡ false
unfolding listed
rising_above last n [] id h l = refl
rising_above last n (x ∷ xs) id h l =
    let r = rising_first last n x xs h in
    rw (ne_eqb id.0 x.0 (omega arith)) (rising_above x.0 n xs id r.2 (omega arith))

-- A rising list of replicas within 1 to n has as many members as entries.
pub rising_count : (last n : ℕ) (xs : List ReplicaId) → rising last n xs ≡ true → count n (listed xs) ≡ length xs
unfolding listed
rising_count last n [] h = count_none n
rising_count last n (x ∷ xs) h =
    let r = rising_first last n x xs h in
    count_one_more n x (listed xs) (omega arith) r.1 (rising_above x.0 n xs x r.2 (omega arith)) ∙ ap suc (rising_count x.0 n xs r.2)
