-- Proofs that a client builds: each entry has the signature that came, which was found genuine. Assumes nothing.
use mathlib.Core.Path.{◌≡◌, refl, sym, ◌∙◌}
use mathlib.Core.Logic.{⊎_elim}
use mathlib.Core.Bool.{Bool, true, false, cond}
use mathlib.Core.List.{List, [], ◌∷◌, ◌++◌}
use Prim.Native.Nat.{ℕ, zero, suc, ◌-◌, ◌*◌, ◌≤◌}
use native.Mathlib.Omega.{arith}
use borrow.Author.Tests.{eqb-true, eqb-false, ltb-true, ltb-false}
use lib.Dec.{eqb, ltb}
use lib.ListN.{length, take}
use Rattle.base.specs.Counting.{replica as numbered}
use Rattle.base.specs.ReplicaSet.{empty, has, with}
use Rattle.base.specs.declared.party.RegisterId.{RegisterId}
use Rattle.base.specs.declared.party.ReplicaId.{ReplicaId}
use Rattle.base.specs.declared.replica_set.ReplicaSet.{ReplicaSet}
use Rattle.base.proofs.Apart.{apart}
use Rattle.base.proofs.Booleans.{or_true}
use Rattle.base.proofs.Counting.{or_is}
use Rattle.base.proofs.ReplicaSet.{has_with}
use Rattle.protocol.specs.Client.{gathered, signature_at, with_signature}
use Rattle.protocol.proofs.ArrayLaws.{replaced_here, replaced_before, replaced_behind}
use Rattle.protocol.proofs.Fit.{Array}
use Rattle.run.specs.Run.{Run}
use Rattle.run.proofs.Operations.{none_in}
use Rattle.run.proofs.Turns.{same_replica}
use Rattle.wire.specs.Acceptance.{replica}
use Rattle.wire.specs.Message.{Message, body}
use Rattle.wire.specs.Proof.{Entry}
use Rattle.wire.specs.Signatures.{Signature, signed_by}
use Rattle.progress.proofs.Found.{Found, EachFound, found_later}

-- ---- Signatures in their places

module _ (signatures own : List ℕ) (id : ReplicaId) (low : 1 ≤ id.0) (high : id.0 ≤ 16) (fit : Array 1_024 signatures) (long : length own ≡ 64) where
  put_here : signature_at (with_signature signatures id own) id ≡ own
  put_here = let size = fit.0 in replaced_here (64 * (id.0 - 1)) (64 * id.0) own signatures (omega arith) (omega arith) 64 long

  put_elsewhere : (i : ReplicaId) → 1 ≤ i.0 → (i.0 ≡ id.0 → ⊥) → signature_at (with_signature signatures id own) i ≡ signature_at signatures i
  put_elsewhere i i_low other = go (ltb i.0 id.0) refl
    where
      go : (b : Bool) → ltb i.0 id.0 ≡ b → signature_at (with_signature signatures id own) i ≡ signature_at signatures i
      go true e =
          let l = ltb-true i.0 id.0 e in
          let size = fit.0 in
          replaced_before (64 * (id.0 - 1)) (64 * id.0) own signatures (omega arith) (omega arith) 64 (64 * (i.0 - 1)) (omega arith)
      go false e =
          let l = ltb-false i.0 id.0 e in
          let size = fit.0 in
          replaced_behind (64 * (id.0 - 1)) (64 * id.0) own signatures (omega arith) (omega arith) 64 (64 * (i.0 - 1)) (omega arith)

module _ (R : Run) (x : RegisterId) (message : ReplicaId → Message) where
  -- A replica's signature of its message for the register.
  abbrev pub signed_bytes : ReplicaId → List ℕ → Signature
  signed_bytes id bytes = record { signer = replica id; covers = body x (message id); bytes = bytes }

  -- The kept signature of each counted replica was found genuine.
  abbrev pub Collected : ℕ → ReplicaSet → List ℕ → Type 0
  Collected t counted signatures = (id : ReplicaId) → 1 ≤ id.0 → id.0 ≤ 16 → has counted id ≡ true → Found R t (signed_bytes id (signature_at signatures id))

  pub none_collected : (t : ℕ) (signatures : List ℕ) → Collected t empty signatures
  none_collected t signatures id low high h = none_in id h

  pub collected_later : (t : ℕ) (counted : ReplicaSet) (signatures : List ℕ) → Collected t counted signatures → Collected (suc t) counted signatures
  collected_later t counted signatures h id low high k = found_later R t (suc t) _ (omega arith) (h id low high k)

  pub one_collected : (t : ℕ) (counted : ReplicaSet) (signatures own : List ℕ) (r : ReplicaId) → 1 ≤ r.0 → r.0 ≤ 16 → Array 1_024 signatures → length own ≡ 64
      → Found R (suc t) (signed_bytes r own) → Collected t counted signatures → Collected (suc t) (with counted r) (with_signature signatures r own)
  one_collected t counted signatures own r low high fit long new old id id_low id_high member = go (eqb id.0 r.0) refl
    where
      go : (b : Bool) → eqb id.0 r.0 ≡ b → Found R (suc t) (signed_bytes id (signature_at (with_signature signatures r own) id))
      go true e = rw (same_replica id r (eqb-true id.0 r.0 e), put_here signatures own r low high fit long) new
      go false e =
          let one_of : or_is r (has counted) id ≡ true = sym (has_with counted r id.0 id_low id_high) ∙ member in
          let was : has counted id ≡ true = ⊎_elim (λ k. apart (cc)) (λ k. k) (or_true (eqb id.0 r.0) (has counted id) one_of) in
          rw (put_elsewhere signatures own r low high fit long id id_low (eqb-false id.0 r.0 e)) (collected_later t counted signatures old id id_low id_high was)

  -- ---- Entries

  signed_both : (t : ℕ) (a b : List Entry) → EachFound R t (signed_by x message a) → EachFound R t (signed_by x message b) → EachFound R t (signed_by x message (a ++ b))
  signed_both t [] b ha hb = hb
  signed_both t (entry ∷ a) b ha hb = (ha.0, signed_both t a b ha.1 hb)

  signed_first : (t n : ℕ) (entries : List Entry) → EachFound R t (signed_by x message entries) → EachFound R t (signed_by x message (take n entries))
  signed_first t zero entries h = tt
  signed_first t (suc n) [] h = tt
  signed_first t (suc n) (entry ∷ entries) h = (h.0, signed_first t n entries h.1)

  gathered_found : (t : ℕ) (counted : ReplicaSet) (signatures : List ℕ) (n : ℕ) → n ≤ 16 → Collected t counted signatures → EachFound R t (signed_by x message (gathered n counted signatures))
  unfolding gathered
  gathered_found t counted signatures zero small h = tt
  gathered_found t counted signatures (suc n) small h =
      signed_both t (gathered n counted signatures) _ (gathered_found t counted signatures n (omega arith) h) (go (has counted (numbered (suc n))) refl)
    where
      go : (b : Bool) → has counted (numbered (suc n)) ≡ b
          → EachFound R t (signed_by x message (cond b (record { signer = numbered (suc n); signature = signature_at signatures (numbered (suc n)) } ∷ []) []))
      go true e = (h (numbered (suc n)) (omega arith) (omega arith) e, tt)
      go false e = tt

  pub built_found : (t : ℕ) (counted : ReplicaSet) (signatures : List ℕ) (n : ℕ) → n ≤ 16 → Collected t counted signatures → EachFound R t (signed_by x message (take 11 (gathered n counted signatures)))
  built_found t counted signatures n small h = signed_first t 11 (gathered n counted signatures) (gathered_found t counted signatures n small h)
