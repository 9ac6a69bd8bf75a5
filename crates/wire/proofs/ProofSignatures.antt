-- The signatures of a written proof by itself, by the parts that the code takes out of its bytes. Assumes nothing.
use Rattle.std.proofs.Common.{◌≡◌, ℕ, true, false, eqb, List, length, sym, ◌∙◌, arith, length-drop, eqb-true}
use lib.ListN.{get_elem?}
use Rattle.base.specs.Outcome.{accepted, refused}
use Rattle.base.specs.declared.party.RegisterId.{RegisterId}
use Rattle.base.proofs.Outcome.{guard_refuses}
use Rattle.wire.specs.Layout.{extent, written_rule}
use Rattle.wire.specs.Parts.{count_part, entries_part}
use Rattle.wire.specs.Proof.{proof_from, read_proof}
use Rattle.wire.specs.Signatures.{written_signatures, handed_signatures, handed_signature, EntriesStand}
use Rattle.wire.proofs.AdmittedProof.{is_proof, its_count}
use Rattle.wire.proofs.MessageSignatures.{length_signed}

module _ (x : RegisterId) (bytes : List ℕ) where
  module _ (broken : eqb (extent written_rule bytes) (length bytes) ≡ false) where
    no_proof : read_proof 0 bytes ≡ refused 4
    unfolding read_proof
    no_proof = guard_refuses 4 (eqb (extent written_rule bytes) (length bytes)) (accepted (proof_from 0 bytes)) broken

    pub none_counted : length (handed_signatures x bytes) ≡ 0
    unfolding handed_signatures
    none_counted = rw no_proof

    pub none_found : (i : ℕ) → handed_signature x bytes i ≡ refused 4
    unfolding handed_signature
    none_found i = rw no_proof

  module _ (whole : eqb (extent written_rule bytes) (length bytes) ≡ true) where
    size : length (written_signatures x (proof_from 0 bytes)) ≡ count_part 0 bytes
    size = length_signed x _ (proof_from 0 bytes).entries ∙ sym (its_count bytes whole)

    pub all_counted : length (handed_signatures x bytes) ≡ count_part 0 bytes
    unfolding handed_signatures
    all_counted = rw (is_proof bytes whole) size

    pub found_at : (i : ℕ) → handed_signature x bytes i ≡ accepted (get_elem? (written_signatures x (proof_from 0 bytes)) i)
    unfolding handed_signature
    found_at i = rw (is_proof bytes whole)

    pub entries_stand : EntriesStand 0 bytes
    unfolding count_part entries_part
    entries_stand = let ends = eqb-true (extent written_rule bytes) (length bytes) whole in let long = length-drop 6 bytes in omega arith
