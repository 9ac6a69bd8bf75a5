-- The CARDs that a read has taken, as a list of timestamps beside its sets of replicas. Assumes nothing.
use mathlib.Core.Path.{◌≡◌, refl, sym, ap, ◌∙◌}
use mathlib.Core.Logic.{inl, inr, ⊎_elim}
use mathlib.Core.Bool.{Bool, true, false, cond}
use mathlib.Core.List.{List, [], ◌∷◌, ◌++◌}
use mathlib.Core.Option.{Option}
use Prim.Native.Nat.{ℕ, ◌≤◌, max}
use native.Mathlib.Omega.{arith}
use borrow.Author.Tests.{eqb-true, eqb-false, eq-eqb, ne_eqb, ltb-true, ltb-false, leb-true, leb-false}
use lib.Dec.{eqb, ltb}
use lib.ListN.{length, length-append}
use Rattle.base.specs.Counting.{one, count}
use Rattle.base.specs.Party.{replica_count, quorum_size, is_replica}
use Rattle.base.specs.ReplicaSet.{empty, has, with, is_quorum}
use Rattle.base.specs.Timestamp.{number, of_number}
use Rattle.base.specs.declared.party.ReplicaId.{ReplicaId}
use Rattle.base.specs.declared.replica_set.ReplicaSet.{ReplicaSet}
use Rattle.base.specs.declared.timestamp.Timestamp.{Timestamp}
use Rattle.base.proofs.Apart.{apart}
use Rattle.base.proofs.Range.{bounds}
use Rattle.base.proofs.ReplicaSet.{has_empty, with_new}
use Rattle.protocol.specs.Client.{best_of, showed_by}
use Rattle.run.proofs.Operations.{none_in}
use Rattle.wire.specs.Parts.{prepared_timestamp}
use Rattle.wire.specs.Proof.{PreparedProof}
use Rattle.progress.specs.Counts.{are_all_same}
use Rattle.progress.proofs.Largest.{equals, equals_more, none_above, same_if, differ_if, Best, best_more, best_there}
use Rattle.progress.proofs.Members.{member_of, is_member, empty_count}

-- The CARDs taken: as many as replicas are counted, and as many show the best timestamp as replicas that showed it.
pub record CardsIn (n : ℕ) (cards : List ℕ) (best : ℕ) (counted showed : ReplicaSet) : Type 0 where
  pub long : length cards ≡ count n (has counted)
  pub is_best : Best best cards
  pub top : equals best cards ≡ count n (has showed)
  pub part : (i : ReplicaId) → 1 ≤ i.0 → i.0 ≤ 16 → has showed i ≡ true → has counted i ≡ true

number_best : (best : Timestamp) (proof : Option PreparedProof) → number (best_of best proof) ≡ max (number best) (prepared_timestamp proof)
number_best best proof = go (ltb (number best) (prepared_timestamp proof)) refl
  where
    go : (b : Bool) → ltb (number best) (prepared_timestamp proof) ≡ b → number (cond b (of_number (prepared_timestamp proof)) best) ≡ max (number best) (prepared_timestamp proof)
    go true e = let l = ltb-true (number best) (prepared_timestamp proof) e in omega arith
    go false e = let l = ltb-false (number best) (prepared_timestamp proof) e in omega arith

pub best_shown_lem : (best : Timestamp) (proof : Option PreparedProof) (shown : List ℕ) → Best (number best) shown → Best (number (best_of best proof)) (shown ++ prepared_timestamp proof ∷ [])
best_shown_lem best proof shown it = rw (number_best best proof) (best_more (number best) (prepared_timestamp proof) shown it)

-- One CARD more.
module _ (n : ℕ) (small : n ≤ 16) (cards : List ℕ) (sender : ReplicaId) (proof : Option PreparedProof) (best : Timestamp) (counted showed : ReplicaSet) (low : 1 ≤ sender.0) (high : sender.0 ≤ n)
    (new : has counted sender ≡ false) (it : CardsIn n cards (number best) counted showed) where
  abbrev s : ℕ
  s = prepared_timestamp proof

  -- Those that showed the best timestamp, with the sender: by whether its own is later, or the same.
  abbrev showing : Bool → Bool → ReplicaSet
  showing later same = cond later (with empty sender) (cond same (with showed sender) showed)

  not_showed : has showed sender ≡ false
  not_showed = go (has showed sender) refl
    where
      go : (b : Bool) → has showed sender ≡ b → has showed sender ≡ false
      go true e = let was = it.part sender low (omega arith) e in apart (cc)
      go false e = e

  showing_top : (later same : Bool) → ltb (number best) s ≡ later → eqb (number best) s ≡ same → equals (number (cond later (of_number s) best)) (cards ++ s ∷ []) ≡ count n (has (showing later same))
  showing_top true same e k =
      let l = ltb-true (number best) s e in
      let whole : number (of_number s) ≡ s = omega arith in
      let itself : one (eqb s s) ≡ 1 = rw (eq-eqb s s refl) refl in
      ap (λ (b : ℕ). equals b (cards ++ s ∷ [])) whole
      ∙ omega (arith, equals_more s cards s, none_above (number best) s cards l it.is_best.below, with_new n empty sender small low high (has_empty sender), empty_count n)
  showing_top false true e k =
      let itself : one (eqb s (number best)) ≡ 1 = rw (eq-eqb s (number best) (sym (eqb-true (number best) s k))) refl in
      omega (arith, equals_more (number best) cards s, with_new n showed sender small low high not_showed, it.top)
  showing_top false false e k =
      let other : one (eqb s (number best)) ≡ 0 = rw (ne_eqb s (number best) (λ z. eqb-false (number best) s k (sym z))) refl in
      omega (arith, equals_more (number best) cards s, it.top)

  showing_part : (later same : Bool) (i : ReplicaId) → 1 ≤ i.0 → i.0 ≤ 16 → has (showing later same) i ≡ true → has (with counted sender) i ≡ true
  showing_part true same i li hi k = is_member counted sender i li hi (⊎_elim (λ e. inl e) (λ m. none_in i m) (member_of empty sender i li hi k))
  showing_part false true i li hi k = is_member counted sender i li hi (⊎_elim (λ e. inl e) (λ m. inr (it.part i li hi m)) (member_of showed sender i li hi k))
  showing_part false false i li hi k = is_member counted sender i li hi (inr (it.part i li hi k))

  pub card_taken : CardsIn n (cards ++ s ∷ []) (number (best_of best proof)) (with counted sender) (showed_by best proof sender showed)
  card_taken = record {
    long = omega (arith, length-append cards (s ∷ []), with_new n counted sender small low high new, it.long);
    is_best = best_shown_lem best proof cards it.is_best;
    top = showing_top (ltb (number best) s) (eqb (number best) s) refl refl;
    part = showing_part (ltb (number best) s) (eqb (number best) s);
  }

-- The reply that makes a quorum makes it just: there are q CARDs, all of one timestamp exactly if q replicas showed the best.
module _ (f : ℕ) (cards : List ℕ) (best : ℕ) (counted showed : ReplicaSet) (sender : ReplicaId) (in_range_lem : is_replica f sender ≡ true) (new : has counted sender ≡ false) (few : is_quorum f counted ≡ false)
    (full : is_quorum f (with counted sender) ≡ true) (it : CardsIn (replica_count f) cards best (with counted sender) showed) where
  pub just : length cards ≡ quorum_size f
  just =
      let range = bounds 1 (replica_count f) sender.0 in_range_lem in
      omega (
        arith,
        it.long,
        with_new (replica_count f) counted sender (omega arith) range.0 range.1 new,
        leb-false (quorum_size f) (count (replica_count f) (has counted)) few,
        leb-true (quorum_size f) (count (replica_count f) (has (with counted sender))) full,
      )

  pub agree : is_quorum f showed ≡ true → are_all_same cards ≡ true
  agree k = same_if best cards (omega (arith, just, it.top, leb-true (quorum_size f) (count (replica_count f) (has showed)) k))

  pub differ : is_quorum f showed ≡ false → are_all_same cards ≡ false
  differ k = differ_if best cards (best_there best cards it.is_best (omega (arith, just))) (omega (arith, just, it.top, leb-false (quorum_size f) (count (replica_count f) (has showed)) k))
