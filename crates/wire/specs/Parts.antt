-- The parts of a message that was read, and of its proofs, for the parties: bytes of the message, none where there is no such part.
use Rattle.std.specs.Prelude.{◌≡◌, ℕ, ◌+◌, ◌-◌, ◌≤◌, cond, List, [], ◌∷◌, length, take, drop, nat_lt, slice_index}
use Rattle.std.proofs.Math.Option.{Option, none, some}
use Rattle.base.specs.BigEndian.{from_bytes}
use Rattle.base.specs.Bytes.{between}
use Rattle.base.specs.ReplicaSet.{empty}
use Rattle.base.specs.Timestamp.{of_number, start}
use Rattle.base.specs.declared.party.RegisterId.{RegisterId}
use Rattle.base.specs.declared.replica_set.ReplicaSet.{ReplicaSet}
use Rattle.base.specs.declared.timestamp.Timestamp.{Timestamp}
use Rattle.wire.specs.Layout.{extent, proof_rule}
use Rattle.wire.specs.Proof.{Proof, PreparedProof, signer_set, proof_from}
use Rattle.wire.specs.declared.message.Span.{Span}

-- The bytes at a place.
abbrev pub part_at : List ℕ → Span → List ℕ
part_at bytes at = between bytes at.start at.end

-- Document 02, #103: the set stands "after bit 8", so last before the signature: the register that a message is for, found without a walk
-- over its fields; 0 where there are too few bytes.
unfoldable pub last_register : List ℕ → RegisterId
last_register bytes = record { 0 = cond (nat_lt (length bytes) 65) 0 (slice_index bytes (length bytes - 65)) }

-- A card stands behind its length byte.
abbrev pub card_at : List ℕ → Span → List ℕ
card_at bytes at = drop 1 (part_at bytes at)

-- The proof that some bytes of a message are; no bytes are no proof.
abbrev pub proof_part : (d : ℕ) → List ℕ → Option (Proof d)
proof_part d [] = none
proof_part d (byte ∷ bytes) = some (proof_from d (byte ∷ bytes))

abbrev pub prepared_part : List ℕ → Option PreparedProof
prepared_part = proof_part 32

-- "A missing prepared proof means stamp 0.0."
abbrev pub timestamp_if_there : {d : ℕ} → Option (Proof d) → ℕ
timestamp_if_there none = 0
timestamp_if_there (some proof) = proof.timestamp

abbrev pub prepared_timestamp : Option PreparedProof → ℕ
prepared_timestamp = timestamp_if_there

-- Document 02, #102: who vouched for the proof's card; "for 0.0, no holders".
abbrev pub signers_if_there : {d : ℕ} → Option (Proof d) → ReplicaSet
signers_if_there none = empty
signers_if_there (some proof) = signer_set proof.entries

abbrev pub prepared_signers : Option PreparedProof → ReplicaSet
prepared_signers = signers_if_there

-- The number that so many bytes in front of others write; 0 where there are not so many.
abbrev pub number_part : ℕ → List ℕ → ℕ
number_part width bytes = cond (nat_lt (length bytes) width) 0 (from_bytes (take width bytes))

-- The timestamp at the front of a proof, prepared or written; 0.0 where there is none.
unfoldable pub timestamp_part : List ℕ → Timestamp
timestamp_part proof = cond (nat_lt (length proof) 5) start (of_number (from_bytes (take 5 proof)))

-- The digest of a proof, of d bytes; how many entries it has, and their bytes.
unfoldable pub digest_part : ℕ → List ℕ → List ℕ
digest_part d proof = cond (nat_lt (length proof) (5 + d)) [] (take d (drop 5 proof))

unfoldable pub count_part : ℕ → List ℕ → ℕ
count_part d proof = slice_index proof (5 + d)

unfoldable pub entries_part : ℕ → List ℕ → List ℕ
entries_part d proof = drop (6 + d) proof

-- The bytes of a proof with a digest of d bytes are as many as its number of entries says, which the largest quorum bounds.
pub record Whole (d : ℕ) (proof : List ℕ) : Type 0 where
  pub ends : extent (proof_rule d) proof ≡ length proof
  pub few : count_part d proof ≤ 11

-- The same of a prepared proof that may be missing.
abbrev pub WholeIfThere : List ℕ → Type 0
WholeIfThere [] = Unit {0}
WholeIfThere (byte ∷ bytes) = Whole 32 (byte ∷ bytes)
