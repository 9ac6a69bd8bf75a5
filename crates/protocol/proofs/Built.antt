-- The entries that a client builds from counted replies: whose they are, and that they pass 9. Assumes nothing.
use mathlib.Core.Path.{◌≡◌, refl, sym, ap, subst, ◌∙◌}
use mathlib.Core.Logic.{⊎_elim}
use mathlib.Core.Bool.{Bool, true, false, ◌||◌, cond, or_assoc}
use mathlib.Core.List.{List, [], ◌∷◌, ◌++◌, map-append}
use Prim.Native.Nat.{ℕ, zero, suc, ◌+◌, ◌≤◌}
use native.Mathlib.Omega.{arith}
use borrow.Author.Tests.{eqb-true, eq-eqb, leb-true, leb-false, le-leb, lt-ltb}
use lib.Dec.{eqb}
use lib.ListN.{length, take, length-append}
use lib.Seq.{take_all}
use Rattle.base.specs.Counting.{replica, one, count}
use Rattle.base.specs.Party.{is_replica, replica_count, quorum_size}
use Rattle.base.specs.ReplicaSet.{has, with, is_quorum}
use Rattle.base.specs.Rising.{listed, rising}
use Rattle.base.specs.declared.party.ReplicaId.{ReplicaId}
use Rattle.base.specs.declared.replica_set.ReplicaSet.{ReplicaSet}
use Rattle.base.proofs.Apart.{apart}
use Rattle.base.proofs.Booleans.{or_true}
use Rattle.base.proofs.Listed.{member_listed}
use Rattle.base.proofs.Quorum.{rising_first}
use Rattle.base.proofs.Range.{bounds}
use Rattle.base.proofs.ReplicaSet.{with_new}
use Rattle.wire.specs.Checks.{shaped}
use Rattle.wire.specs.Proof.{Entry, signers, signer_set}
use Rattle.protocol.specs.Client.{gathered, signature_at}

-- Entries of counted replicas alone, that 9 takes.
pub record Built (f : ℕ) (counted : ReplicaSet) (entries : List Entry) : Type 0 where
  pub of_counted : (id : ReplicaId) → has (signer_set entries) id ≡ true → has counted id ≡ true
  pub is_shaped : shaped f entries ≡ true

-- ---- Lists with one more at the end, if a test says so

abbrev last_if : Bool → ReplicaId → List ReplicaId
last_if b id = cond b (id ∷ []) []

listed_append : (ids more : List ReplicaId) (id : ReplicaId) → listed (ids ++ more) id ≡ (listed ids id || listed more id)
unfolding listed
listed_append [] more id = refl
listed_append (x ∷ ids) more id = rw (listed_append ids more id, or_assoc (eqb id.0 x.0) (listed ids id) (listed more id)) refl

rising_append : (last n : ℕ) (ids : List ReplicaId) (b : Bool) → last ≤ n → rising last n ids ≡ true → rising last (suc n) (ids ++ last_if b (replica (suc n))) ≡ true
unfolding rising
rising_append last n [] true l up = rw (lt-ltb last (suc n) (omega arith), le-leb (suc n) (suc n) (omega arith)) refl
rising_append last n [] false l up = refl
rising_append last n (x ∷ ids) b l up =
    let r = rising_first last n x ids up in
    rw (lt-ltb last x.0 r.0, le-leb x.0 (suc n) (omega arith), rising_append x.0 n ids b r.1 r.2) refl

-- ---- What is gathered

module _ (counted : ReplicaSet) (signatures : List ℕ) where
  abbrev entry_of : ℕ → Entry
  entry_of n = record { signer = replica (suc n); signature = signature_at signatures (replica (suc n)) }

  gathered_length : (n : ℕ) → length (gathered n counted signatures) ≡ count n (has counted)
  unfolding gathered count
  gathered_length zero = refl
  gathered_length (suc n) = rw (length-append, gathered_length n) (go (has counted (replica (suc n))))
    where
      go : (b : Bool) → count n (has counted) + length (cond b (entry_of n ∷ []) []) ≡ one b + count n (has counted)
      go true = omega arith
      go false = omega arith

  gathered_signers : (n : ℕ) → signers (gathered (suc n) counted signatures) ≡ signers (gathered n counted signatures) ++ last_if (has counted (replica (suc n))) (replica (suc n))
  unfolding gathered
  gathered_signers n = map-append (λ (entry : Entry). entry.signer) (gathered n counted signatures) _ ∙ ap (λ (more : List ReplicaId). signers (gathered n counted signatures) ++ more) (go (has counted (replica (suc n))))
    where
      go : (b : Bool) → signers (cond b (entry_of n ∷ []) []) ≡ last_if b (replica (suc n))
      go true = refl
      go false = refl

  gathered_rise : (n : ℕ) → rising 0 n (signers (gathered n counted signatures)) ≡ true
  gathered_rise zero = unfold gathered rising in refl
  gathered_rise (suc n) = rw (gathered_signers n) (rising_append 0 n (signers (gathered n counted signatures)) (has counted (replica (suc n))) (omega arith) (gathered_rise n))

  gathered_counted : (n : ℕ) (id : ReplicaId) → listed (signers (gathered n counted signatures)) id ≡ true → has counted id ≡ true
  unfolding gathered listed
  gathered_counted zero id e = apart (cc)
  gathered_counted (suc n) id e =
      let joined = listed_append (signers (gathered n counted signatures)) (last_if (has counted (replica (suc n))) (replica (suc n))) id in
      ⊎_elim (gathered_counted n id) (go (has counted (replica (suc n))) refl) (or_true _ _ (rw (gathered_signers n, joined) at e))
    where
      go : (b : Bool) → has counted (replica (suc n)) ≡ b → listed (last_if b (replica (suc n))) id ≡ true → has counted id ≡ true
      go true there k = ⊎_elim (λ same. subst (λ (i : ℕ). has counted (replica i) ≡ true) (sym (eqb-true id.0 (suc n) same)) there) (λ no. apart (cc)) (or_true (eqb id.0 (suc n)) false k)
      go false there k = apart (cc)

-- The reply that made the quorum: there are exactly q to list.
pub built : (f : ℕ) (counted : ReplicaSet) (sender : ReplicaId) (signatures : List ℕ) → is_replica f sender ≡ true → has counted sender ≡ false
    → is_quorum f counted ≡ false → is_quorum f (with counted sender) ≡ true → Built f (with counted sender) (take 11 (gathered (replica_count f) (with counted sender) signatures))
unfolding shaped
built f counted sender signatures in_range_lem new few full =
    let replicas = with counted sender in
    let entries = gathered (replica_count f) replicas signatures in
    let range = bounds 1 (replica_count f) sender.0 in_range_lem in
    let one_more = with_new (replica_count f) counted sender (omega arith) range.0 range.1 new in
    let less = leb-false (quorum_size f) (count (replica_count f) (has counted)) few in
    let least = leb-true (quorum_size f) (count (replica_count f) (has replicas)) full in
    let long : length entries ≡ quorum_size f = gathered_length replicas signatures (replica_count f) ∙ omega arith in
    rw (take_all 11 entries (omega arith))
    (record {
      of_counted = λ id there. gathered_counted replicas signatures (replica_count f) id (member_listed (signers entries) id there);
      is_shaped = rw (eq-eqb (length entries) (quorum_size f) long, gathered_rise replicas signatures (replica_count f)) refl;
    })
