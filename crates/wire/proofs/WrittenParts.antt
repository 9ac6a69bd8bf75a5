-- The bytes of each message in the parts in which they are written. Assumes nothing.
use Rattle.std.proofs.Common.{◌≡◌, ℕ, ◌+◌, Bool, true, false, cond, List, ◌++◌, refl, append_assoc, append-nil}
use Rattle.base.specs.BigEndian.{to_bytes}
use Rattle.base.specs.declared.party.ClientId.{ClientId}
use Rattle.base.specs.declared.party.RegisterId.{RegisterId}
use Rattle.base.specs.declared.party.ReplicaId.{ReplicaId}
use Rattle.wire.specs.Message.{Message, READ-STAMP, PREPARE, WRITE, READ, STAMP, PREPARED, WRITTEN, CARD, fields, joined, body, encode}
use Rattle.wire.specs.Proof.{PreparedProof, WrittenProof, proof_bytes}
use Rattle.wire.specs.Putting.{question, bytes_unless, sized_card}
use Rattle.wire.specs.Writing.{unsigned, unless, blank_signature}

abbrev head : ℕ → ℕ → ℕ → List ℕ
head map kind sender = to_bytes 2 map ++ (to_bytes 1 kind ++ to_bytes 1 sender)

abbrev end : RegisterId → List ℕ
end x = to_bytes 1 x.0 ++ blank_signature

abbrev addressed : ClientId → RegisterId → List ℕ
addressed client x = to_bytes 1 client.0 ++ end x

-- A body with its signature as zeros.
pub body_unsigned : (x : RegisterId) (message : Message) → body x message ++ blank_signature ≡ unsigned x message
unfolding encode
body_unsigned x message = refl

module _ (x : RegisterId) (client : ClientId) where
  pub question_parts : (kind nonce : ℕ) → (head 519 kind client.0 ++ to_bytes 8 nonce) ++ end x ≡ question x kind client nonce
  unfolding question
  question_parts kind nonce = simp append_assoc

  pub read_stamp_bytes : (nonce : ℕ) → question x 1 client nonce ≡ unsigned x (READ-STAMP client nonce)
  unfolding question encode body fields joined
  read_stamp_bytes nonce = simp append_assoc

  pub read_bytes : (nonce : ℕ) → question x 4 client nonce ≡ unsigned x (READ client nonce)
  unfolding question encode body fields joined
  read_bytes nonce = simp append_assoc

  pub prepare_parts : (map timestamp : ℕ) (digest : List ℕ) (first second : Bool) (proof : PreparedProof) (last : WrittenProof) → map ≡ 539 + cond first 0 64 + cond second 0 128
      → (((head map 2 client.0 ++ (to_bytes 5 timestamp ++ digest)) ++ bytes_unless first (proof_bytes proof)) ++ bytes_unless second (proof_bytes last)) ++ end x
      ≡ unsigned x (PREPARE client timestamp digest (unless first proof) (unless second last))
  unfolding encode body fields joined
  prepare_parts map timestamp digest true true proof last e = rw e (simp append_assoc)
  prepare_parts map timestamp digest true false proof last e = rw e (simp append_assoc)
  prepare_parts map timestamp digest false true proof last e = rw e (simp append_assoc)
  prepare_parts map timestamp digest false false proof last e = rw e (simp append_assoc)

  pub write_parts : (card : List ℕ) (proof : PreparedProof)
      → ((head 611 3 client.0 ++ sized_card card) ++ proof_bytes proof) ++ end x ≡ unsigned x (WRITE client card proof)
  unfolding encode body fields joined
  write_parts card proof = simp append_assoc

module _ (x : RegisterId) (replica : ReplicaId) where
  pub stamp_parts : (map nonce : ℕ) (absent : Bool) (proof : PreparedProof) (client : ClientId) → map ≡ 775 + cond absent 0 64
      → ((head map 5 replica.0 ++ to_bytes 8 nonce) ++ bytes_unless absent (proof_bytes proof)) ++ addressed client x
      ≡ unsigned x (STAMP replica nonce (unless absent proof) client)
  unfolding encode body fields joined
  stamp_parts map nonce true proof client e = rw e (simp append_assoc)
  stamp_parts map nonce false proof client e = rw e (simp append_assoc)

  pub prepared_body : (timestamp : ℕ) (digest : List ℕ) → (head 539 6 replica.0 ++ (to_bytes 5 timestamp ++ digest)) ++ to_bytes 1 x.0 ≡ body x (PREPARED replica timestamp digest)
  unfolding body fields joined
  prepared_body timestamp digest = simp (append_assoc, append-nil)

  pub written_body : (timestamp : ℕ) → (head 523 7 replica.0 ++ to_bytes 5 timestamp) ++ to_bytes 1 x.0 ≡ body x (WRITTEN replica timestamp)
  unfolding body fields joined
  written_body timestamp = simp (append_assoc, append-nil)

  pub card_parts : (map nonce : ℕ) (card : List ℕ) (absent : Bool) (proof : PreparedProof) (client : ClientId) → map ≡ 807 + cond absent 0 64
      → (((head map 8 replica.0 ++ to_bytes 8 nonce) ++ sized_card card) ++ bytes_unless absent (proof_bytes proof)) ++ addressed client x
      ≡ unsigned x (CARD replica nonce card (unless absent proof) client)
  unfolding encode body fields joined
  card_parts map nonce card true proof client e = rw e (simp append_assoc)
  card_parts map nonce card false proof client e = rw e (simp append_assoc)
