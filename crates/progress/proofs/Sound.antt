-- Messages whose proofs were found genuine: what a party takes is so, and what is so passes 7 to 11 at every later event. Assumes nothing.
use mathlib.Core.Path.{◌≡◌, refl, ap, subst}
use mathlib.Core.Bool.{true}
use mathlib.Core.List.{List, [], ◌∷◌, ◌++◌}
use mathlib.Core.Option.{Option, none, some}
use Prim.Native.Nat.{ℕ, suc, ◌+◌, ◌-◌, ◌≤◌}
use native.Mathlib.Omega.{arith}
use borrow.Author.Tests.{eqb-true, eq-eqb}
use lib.Dec.{eqb, leb}
use lib.ListN.{length, take, drop, get_elem?}
use Rattle.base.specs.Outcome.{accepted}
use Rattle.base.specs.Timestamp.{of_number, successor}
use Rattle.base.specs.declared.party.ClientId.{ClientId}
use Rattle.base.specs.declared.party.RegisterId.{RegisterId}
use Rattle.base.specs.declared.party.ReplicaId.{ReplicaId}
use Rattle.base.proofs.Apart.{apart}
use Rattle.base.proofs.Booleans.{and_true_both}
use Rattle.base.proofs.Each.{each_front, each_back, each_both, each_then}
use Rattle.protocol.specs.Parts.{card_stands}
use Rattle.protocol.specs.RegisterReplica.{is_timestamp}
use Rattle.run.specs.Run.{to_replica, to_client, Run, event, Correct, Sent}
use Rattle.wire.specs.Acceptance.{sender_of}
use Rattle.wire.specs.Checks.{prepared_of, written_of, timestamp_of, entries_of, all, verdicts_fit, one_verdict_each, own_genuine, if_there, shaped_if_there, issued, issued_if_there}
use Rattle.wire.specs.Decode.{for_register, decode}
use Rattle.wire.specs.Layout.{signature}
use Rattle.wire.specs.Message.{Message, READ-STAMP, PREPARE, WRITE, READ, STAMP, PREPARED, WRITTEN, CARD}
use Rattle.wire.specs.Parts.{prepared_timestamp}
use Rattle.wire.specs.Proof.{Proof}
use Rattle.wire.specs.Signatures.{Signature, prepared_signatures, written_signatures, signatures_if_there, signatures_of, signatures_to}
use Rattle.wire.specs.declared.message.Party.TheVariants.{Replica as AtReplica, Client as AtClient}
use Rattle.wire.proofs.MessageSignatures.{length_signatures}
use Rattle.wire.proofs.Tests7To11.{Passed}
use Rattle.progress.specs.Verdicts.{signatures_at, verdicts_at, Judged}
use Rattle.progress.proofs.Found.{Found, EachFound, found_later, Among, all_found, all_ones}

-- 13 and 14, of the message alone.
abbrev pub Stands : Message → Type 0
Stands (READ-STAMP client nonce) = Unit {0}
Stands (PREPARE client timestamp digest proof last) = is_timestamp timestamp (successor (of_number (prepared_timestamp proof)) client) ≡ true
Stands (WRITE client card proof) = card_stands card (some proof) ≡ true
Stands (READ client nonce) = Unit {0}
Stands (STAMP replica nonce proof client) = Unit {0}
Stands (PREPARED replica timestamp digest) = Unit {0}
Stands (WRITTEN replica timestamp) = Unit {0}
Stands (CARD replica nonce card proof client) = card_stands card proof ≡ true

-- A message's own signature, as its bytes have it, and those of its proofs' entries.
abbrev pub own_signature : List ℕ → Message → Signature
own_signature bytes m = record { signer = sender_of m; covers = take (length bytes - 64) bytes; bytes = signature bytes }

abbrev prepared_entries : RegisterId → Message → List Signature
prepared_entries x m = signatures_if_there (prepared_signatures x) (prepared_of m)

abbrev written_entries : RegisterId → Message → List Signature
written_entries x m = signatures_if_there (written_signatures x) (written_of m)

abbrev entry_signatures : RegisterId → Message → List Signature
entry_signatures x m = prepared_entries x m ++ written_entries x m

-- Verdicts behind the first one.
dropped : (vs : List ℕ) (n : ℕ) → length vs ≡ 1 + n → length (drop 1 vs) ≡ n
dropped [] n l = absurd (omega arith)
dropped (v ∷ vs) n l = omega arith

module _ (R : Run) where
  -- A proof, if there is one, passes 9 and 11, and its entries were found genuine before event t.
  pub record ProofSound {d : ℕ} (signatures : Proof d → List Signature) (t : ℕ) (proof : Option (Proof d)) : Type 0 where
    pub shape : shaped_if_there R.f proof ≡ true
    pub is : issued_if_there proof ≡ true
    pub found : EachFound R t (signatures_if_there signatures proof)

  pub none_sound : {d : ℕ} {signatures : Proof d → List Signature} {t : ℕ} → ProofSound signatures t none
  none_sound = record { shape = refl; is = refl; found = tt }

  pub proof_later : {d : ℕ} {signatures : Proof d → List Signature} (t t' : ℕ) (proof : Option (Proof d)) → t ≤ t' → ProofSound signatures t proof → ProofSound signatures t' proof
  proof_later {signatures = signatures} t t' proof l s = record { shape = s.shape; is = s.is; found = each_then (Found R t) (Found R t') (λ signature. found_later R t t' signature l) (signatures_if_there signatures proof) s.found }

  -- A message for a register passes 9 to 14 where all verdicts are 1, and its entries were found genuine, for this register, before event t.
  pub record Sound (x : RegisterId) (t : ℕ) (m : Message) : Type 0 where
    pub prepared : ProofSound (prepared_signatures x) t (prepared_of m)
    pub written : ProofSound (written_signatures x) t (written_of m)
    pub field_issued : if_there issued (timestamp_of m) ≡ true
    pub stands : Stands m

  pub sound_later : (x : RegisterId) (t t' : ℕ) (m : Message) → t ≤ t' → Sound x t m → Sound x t' m
  sound_later x t t' m l s =
      record { prepared = proof_later t t' (prepared_of m) l s.prepared; written = proof_later t t' (written_of m) l s.written; field_issued = s.field_issued; stands = s.stands }

  -- Event t hands a party bytes that are this message for this register, with verdicts.
  pub record Came (t : ℕ) (bytes verdicts : List ℕ) (x : RegisterId) (m : Message) : Type 0 where
    pub signatures_are : signatures_at (event R t) ≡ signatures_of bytes (for_register x m)
    pub verdicts_are : verdicts_at (event R t) ≡ verdicts

  pub to_a_replica : (t : ℕ) (id : ReplicaId) (bytes verdicts : List ℕ) (x : RegisterId) (m : Message) → event R t ≡ some (to_replica id bytes verdicts)
      → decode AtReplica bytes ≡ accepted (for_register x m) → Came t bytes verdicts x m
  unfolding signatures_to
  to_a_replica t id bytes verdicts x m e d = record { signatures_are = rw (e, d); verdicts_are = rw e }

  pub to_a_client : (t : ℕ) (id : ClientId) (bytes verdicts : List ℕ) (x : RegisterId) (m : Message) → event R t ≡ some (to_client id bytes verdicts)
      → decode AtClient bytes ≡ accepted (for_register x m) → Came t bytes verdicts x m
  unfolding signatures_to
  to_a_client t id bytes verdicts x m e d = record { signatures_are = rw (e, d); verdicts_are = rw e }

  module _ (t : ℕ) (bytes verdicts : List ℕ) (x : RegisterId) (m : Message) (came : Came t bytes verdicts x m) where
    among : Among R t (own_signature bytes m ∷ entry_signatures x m) verdicts
    among s v b = rw (came.signatures_are, came.verdicts_are) b

    entries_among : Among R t (entry_signatures x m) (drop 1 verdicts)
    entries_among s v (i, a, b) = among s v (suc i, a, behind_first verdicts i v b)
      where
        behind_first : (vs : List ℕ) (i v : ℕ) → get_elem? (drop 1 vs) i ≡ some v → get_elem? vs (suc i) ≡ some v
        behind_first [] i v e = e
        behind_first (y ∷ vs) i v e = e

    long : one_verdict_each m verdicts ≡ true → length verdicts ≡ 1 + length (entry_signatures x m)
    unfolding one_verdict_each
    long e =
        let is = eqb-true (length verdicts) (1 + length (entries_of m)) (and_true_both (eqb (length verdicts) (1 + length (entries_of m))) (all (λ v. leb v 1) verdicts) e).0 in
        omega (arith, length_signatures bytes x m)

    -- What is taken is sound,
    pub taken_sound : Passed R.f m verdicts → Stands m → Sound x (suc t) m
    taken_sound p stands =
        let size = dropped verdicts (length (entry_signatures x m)) (long p.one_each) in
        let found = all_found R t (entry_signatures x m) (drop 1 verdicts) entries_among (omega arith) p.entries_genuine in
        record {
          prepared = record { shape = p.prepared_shaped; is = p.prepared_issued; found = each_front (Found R (suc t)) (prepared_entries x m) (written_entries x m) found };
          written = record { shape = p.written_shaped; is = p.written_issued; found = each_back (Found R (suc t)) (prepared_entries x m) (written_entries x m) found };
          field_issued = p.field_issued;
          stands = stands;
        }

    -- and its own signature was found genuine.
    pub own_found : own_genuine verdicts ≡ true → Found R (suc t) (own_signature bytes m)
    own_found g = (t, omega arith, among (own_signature bytes m) 1 (0, refl, first verdicts g))
      where
        first : (vs : List ℕ) → own_genuine vs ≡ true → get_elem? vs 0 ≡ some 1
        first [] e = apart (cc)
        first (v ∷ vs) e = ap some (eqb-true v 1 e)

    -- What is sound, and was sent by a correct party, with a signature that its box made, passes.
    module _ {Made : Signature → Type 0} (judged : Judged R Made) where
      each : one_verdict_each m verdicts ≡ true
      unfolding one_verdict_each
      each =
          let size = length_signatures bytes x m in
          let here = judged.one_each t (rw came.signatures_are (omega arith)) in
          subst (λ (n : ℕ). verdicts_fit n verdicts ≡ true) size (rw (came.signatures_are, came.verdicts_are) at here)

      own_genuine_lem : Correct R (sender_of m) → Sent R (sender_of m) (take (length bytes - 64) bytes) t → Made (own_signature bytes m) → own_genuine verdicts ≡ true
      own_genuine_lem c sent made = go verdicts among (long each)
        where
          go : (vs : List ℕ) → Among R t (own_signature bytes m ∷ entry_signatures x m) vs → length vs ≡ 1 + length (entry_signatures x m) → own_genuine vs ≡ true
          go [] here l = absurd (omega arith)
          go (v ∷ vs) here l = eq-eqb v 1 (judged.made_genuine t (own_signature bytes m) v (here (own_signature bytes m) v (0, refl, refl)) c sent made)

      pub passes : Sound x t m → Correct R (sender_of m) → Sent R (sender_of m) (take (length bytes - 64) bytes) t → Made (own_signature bytes m) → Passed R.f m verdicts
      passes sound c sent made =
          let found = each_both (Found R t) (prepared_entries x m) (written_entries x m) sound.prepared.found sound.written.found in
          record {
            one_each = each;
            own = own_genuine_lem c sent made;
            entries_genuine = all_ones R t judged (entry_signatures x m) (drop 1 verdicts) entries_among (dropped verdicts (length (entry_signatures x m)) (long each)) found;
            prepared_shaped = sound.prepared.shape;
            written_shaped = sound.written.shape;
            field_issued = sound.field_issued;
            prepared_issued = sound.prepared.is;
            written_issued = sound.written.is;
          }
