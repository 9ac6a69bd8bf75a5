-- Document 01, "Messages": prepared and written proofs, as data and as bytes.
use Rattle.std.specs.Prelude.{ℕ, zero, suc, ◌+◌, List, [], ◌∷◌, ◌++◌, map, length, take, drop, ◌==◌, slice_index}
use Rattle.base.specs.BigEndian.{from_bytes, to_bytes}
use Rattle.base.specs.Outcome.{Outcome, accepted, guard}
use Rattle.base.specs.ReplicaSet.{set_of}
use Rattle.base.specs.declared.party.ReplicaId.{ReplicaId}
use Rattle.base.specs.declared.replica_set.ReplicaSet.{ReplicaSet}
use Rattle.wire.specs.Layout.{extent, proof_rule}

-- "entries of holder (1) and seal (64)"
pub record Entry : Type 0 where
  pub signer : ReplicaId
  pub signature : List ℕ

-- A proof with a digest of d bytes, to which `ProofFits` holds it: a prepared proof with 32, a written one with none.
pub record Proof (d : ℕ) : Type 0 where
  pub timestamp : ℕ
  pub digest : List ℕ
  pub entries : List Entry

-- "A prepared proof is a stamp, a digest, a number of entries (1 byte) and entries"
abbrev pub PreparedProof : Type 0
PreparedProof = Proof 32

-- "A written proof is the same without the digest."
abbrev pub WrittenProof : Type 0
WrittenProof = Proof 0

abbrev pub signers : List Entry → List ReplicaId
signers entries = map (λ (entry : Entry). entry.signer) entries

-- Document 02, #102: "the set of holders whose entries it found genuine"
abbrev pub signer_set : List Entry → ReplicaSet
signer_set entries = set_of (signers entries)

-- The bytes of entries, without and with their number in front.
unfoldable pub entries_bytes : List Entry → List ℕ
entries_bytes [] = []
entries_bytes (entry ∷ entries) = entry.signer.0 ∷ (entry.signature ++ entries_bytes entries)

abbrev pub counted_entries : List Entry → List ℕ
counted_entries entries = length entries ∷ entries_bytes entries

unfoldable pub proof_bytes : {d : ℕ} → Proof d → List ℕ
proof_bytes proof = to_bytes 5 proof.timestamp ++ (proof.digest ++ counted_entries proof.entries)

-- So many entries from the front of some bytes.
unfoldable pub read_entries : ℕ → List ℕ → List Entry
read_entries zero bytes = []
read_entries (suc n) bytes = record { signer = record { 0 = slice_index bytes 0 }; signature = take 64 (drop 1 bytes) } ∷ read_entries n (drop 65 bytes)

-- The proof that some bytes are, if their length is right.
abbrev pub proof_from : (d : ℕ) → List ℕ → Proof d
proof_from d bytes = record { timestamp = from_bytes (take 5 bytes); digest = take d (drop 5 bytes); entries = read_entries (slice_index bytes (5 + d)) (drop (6 + d) bytes) }

abbrev pub prepared_from : List ℕ → PreparedProof
prepared_from = proof_from 32

-- A proof alone, refused with 4 unless it ends exactly at the end.
unfoldable pub read_proof : (d : ℕ) → List ℕ → Outcome (Proof d)
read_proof d bytes = guard 4 (extent (proof_rule d) bytes == length bytes) (accepted (proof_from d bytes))
