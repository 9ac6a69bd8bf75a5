-- Counted signatures and the proofs built of them, as a client keeps them. Assumes nothing.
use mathlib.Core.Path.{◌≡◌, refl, ◌∙◌}
use mathlib.Core.Bool.{Bool, true, false, cond}
use mathlib.Core.List.{List, [], ◌∷◌, ◌++◌}
use mathlib.Core.Option.{Option, none, some}
use Prim.Native.Nat.{ℕ, zero, suc, ◌+◌, ◌-◌, ◌*◌, ◌^◌, ◌≤◌, ◌<◌}
use native.Mathlib.Omega.{arith}
use borrow.Author.Tests.{eqb-false, ltb-true, ltb-false}
use lib.Dec.{eqb}
use lib.ListN.{length, take, drop, length-take, length-drop}
use Rattle.std.specs.declared.option.Option.TheVariants.{Some, None}
use Rattle.base.specs.Counting.{replica}
use Rattle.base.specs.ReplicaSet.{has}
use Rattle.base.specs.Timestamp.{number, successor}
use Rattle.base.specs.declared.party.ClientId.{ClientId}
use Rattle.base.specs.declared.party.ReplicaId.{ReplicaId}
use Rattle.base.specs.declared.replica_set.ReplicaSet.{ReplicaSet}
use Rattle.base.specs.declared.timestamp.Timestamp.{Timestamp}
use Rattle.base.proofs.Apart.{apart}
use Rattle.base.proofs.BigEndian.{bytes_take, bytes_drop}
use Rattle.wire.specs.Message.{IsSignature, EachFits, ProofFits, IfThere}
use Rattle.wire.specs.Proof.{Entry, PreparedProof}
use Rattle.wire.specs.Parts.{prepared_timestamp}
use Rattle.protocol.specs.Client.{gathered, signature_at, with_signature, is_better, best_of}
use Rattle.protocol.proofs.ArrayLaws.{replaced_length, replaced_bytes}
use Rattle.protocol.proofs.Fit.{Array, TimestampFits}

-- ---- Signatures

-- One signature put in its place.
pub signature_put : (signatures signature : List ℕ) (id : ReplicaId) → 1 ≤ id.0 → id.0 ≤ 16 → Array 1_024 signatures → IsSignature signature → Array 1_024 (with_signature signatures id signature)
signature_put signatures signature id low high fit signature_fits =
    let fills : 64 * (id.0 - 1) + length signature ≡ 64 * id.0 = omega arith in
    let inside : 64 * id.0 ≤ length signatures = omega arith in (
      replaced_length (64 * (id.0 - 1)) (64 * id.0) signature signatures fills inside ∙ fit.0,
      replaced_bytes (64 * (id.0 - 1)) (64 * id.0) signature signatures fills inside signature_fits.1 fit.1,
    )

signature_at_lem : (signatures : List ℕ) (n : ℕ) → n < 16 → Array 1_024 signatures → IsSignature (signature_at signatures (replica (suc n)))
signature_at_lem signatures n small (long, bytes) =
    (simp (length-take, length-drop) (omega arith), bytes_take 64 (drop (64 * (suc n - 1)) signatures) (bytes_drop (64 * (suc n - 1)) signatures bytes))

-- ---- Built proofs

each_append : (a b : List Entry) → EachFits a → EachFits b → EachFits (a ++ b)
each_append [] b ha hb = hb
each_append (entry ∷ a) b ha hb = (ha.0, each_append a b ha.1 hb)

each_take : (n : ℕ) (entries : List Entry) → EachFits entries → EachFits (take n entries)
each_take zero entries h = tt
each_take (suc n) [] h = tt
each_take (suc n) (entry ∷ entries) h = (h.0, each_take n entries h.1)

gathered_fit : (n : ℕ) (counted : ReplicaSet) (signatures : List ℕ) → n ≤ 16 → Array 1_024 signatures → EachFits (gathered n counted signatures)
unfolding gathered
gathered_fit zero counted signatures small fit = tt
gathered_fit (suc n) counted signatures small fit = each_append (gathered n counted signatures) _ (gathered_fit n counted signatures (omega arith) fit) (go (has counted (replica (suc n))))
  where
    go : (b : Bool) → EachFits (cond b (record { signer = replica (suc n); signature = signature_at signatures (replica (suc n)) } ∷ []) [])
    go true = ((omega arith, signature_at_lem signatures n small fit), tt)
    go false = tt

-- The entries of a built proof.
pub built_fit : (n : ℕ) (counted : ReplicaSet) (signatures : List ℕ) → n ≤ 16 → Array 1_024 signatures → EachFits (take 11 (gathered n counted signatures))
built_fit n counted signatures small fit = each_take 11 (gathered n counted signatures) (gathered_fit n counted signatures small fit)

pub built_few : (n : ℕ) (counted : ReplicaSet) (signatures : List ℕ) → length (take 11 (gathered n counted signatures)) ≤ 11
built_few n counted signatures = rw length-take (omega arith)

-- ---- Timestamps

pub number_fits : (t : Timestamp) → TimestampFits t → number t < 2 ^ 40
number_fits t h = omega arith

pub best_fits : (best : Timestamp) (proof : Option PreparedProof) → TimestampFits best → IfThere ProofFits proof → TimestampFits (best_of best proof)
best_fits best none h p = go (is_better best none) refl
  where
    go : (b : Bool) → is_better best none ≡ b → TimestampFits (best_of best none)
    go true e = rw e (omega arith, omega arith)
    go false e = rw e h
best_fits best (some proof) h p = go (is_better best (some proof)) refl
  where
    go : (b : Bool) → is_better best (some proof) ≡ b → TimestampFits (best_of best (some proof))
    go true e = rw e (omega arith, omega arith)
    go false e = rw e h

-- The best of the replies is not before any of them.
pub best_least : (best : Timestamp) (proof : Option PreparedProof) → (number best ≤ number (best_of best proof)) × (prepared_timestamp proof ≤ number (best_of best proof))
best_least best proof = go (is_better best proof) refl
  where
    go : (b : Bool) → is_better best proof ≡ b → (number best ≤ number (best_of best proof)) × (prepared_timestamp proof ≤ number (best_of best proof))
    go true e = let l = ltb-true (number best) (prepared_timestamp proof) e in rw e (omega arith, omega arith)
    go false e = let l = ltb-false (number best) (prepared_timestamp proof) e in rw e (omega arith, omega arith)

pub successor_fits : (t next : Timestamp) (client : ClientId) → TimestampFits t → client.0 < 256 → successor t client ≡ Some next → TimestampFits next
successor_fits t next client h small e = go (eqb t.count 4_294_967_295) refl e
  where
    go : (b : Bool) → eqb t.count 4_294_967_295 ≡ b → cond b None (Some (record { count = t.count + 1; client = client })) ≡ Some next → TimestampFits next
    go true same k = apart (cc)
    go false other k =
        let made : ◌≡◌ {A = Timestamp} (record { count = t.count + 1; client = client }) next = cc in
        let apart = eqb-false t.count 4_294_967_295 other in
        rw (← made) (omega arith, omega arith)
