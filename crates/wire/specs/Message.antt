-- Document 01, "Messages": the eight kinds as data, their bytes, and which are legal.
use Rattle.std.specs.Prelude.{◌≡◌, ℕ, ◌+◌, ◌*◌, ◌^◌, ◌<◌, ◌≤◌, List, [], ◌∷◌, ◌++◌, length}
use Rattle.std.proofs.Math.Option.{Option, none, some}
use Rattle.base.specs.BigEndian.{to_bytes, Bytes}
use Rattle.base.specs.BitMap.{map_of}
use Rattle.base.specs.declared.party.ClientId.{ClientId}
use Rattle.base.specs.declared.party.RegisterId.{RegisterId}
use Rattle.base.specs.declared.party.ReplicaId.{ReplicaId}
use Rattle.wire.specs.Proof.{Entry, Proof, PreparedProof, WrittenProof, proof_bytes}

-- A message but for its register (document 02, #103: set) and its signature. Fields stand in the order of their bits; a timestamp is its number.
pub data Message : Type 0 where
  READ-STAMP : ClientId → ℕ → Message  -- sender, nonce
  PREPARE : ClientId → ℕ → List ℕ → Option PreparedProof → Option WrittenProof → Message  -- sender, timestamp, digest, proofs
  WRITE : ClientId → List ℕ → PreparedProof → Message  -- sender, card, proof
  READ : ClientId → ℕ → Message  -- sender, nonce
  STAMP : ReplicaId → ℕ → Option PreparedProof → ClientId → Message  -- sender, nonce, proof, client addressed
  PREPARED : ReplicaId → ℕ → List ℕ → Message  -- sender, timestamp, digest
  WRITTEN : ReplicaId → ℕ → Message  -- sender, timestamp
  CARD : ReplicaId → ℕ → List ℕ → Option PreparedProof → ClientId → Message  -- sender, nonce, card, proof, client addressed

-- The number of the kind, which stands in field 0.
abbrev pub kind_of : Message → ℕ
kind_of (READ-STAMP client nonce) = 1
kind_of (PREPARE client timestamp digest proof last) = 2
kind_of (WRITE client card proof) = 3
kind_of (READ client nonce) = 4
kind_of (STAMP replica nonce proof client) = 5
kind_of (PREPARED replica timestamp digest) = 6
kind_of (WRITTEN replica timestamp) = 7
kind_of (CARD replica nonce card proof client) = 8

-- A field that is there: a number of so many bytes, a card behind its length, an optional proof.
abbrev pub number_field : ℕ → ℕ → Option (List ℕ)
number_field width n = some (to_bytes width n)

abbrev pub sized : List ℕ → Option (List ℕ)
sized bytes = some (length bytes ∷ bytes)

abbrev pub proof_field : {d : ℕ} → Option (Proof d) → Option (List ℕ)
proof_field none = none
proof_field (some proof) = some (proof_bytes proof)

-- The fields by bit: 0 kind, 1 sender, 2 nonce, 3 timestamp, 4 digest, 5 card, 6 prepared proof, 7 written proof, 8 client addressed, 9 register.
unfoldable pub fields : RegisterId → Message → List (Option (List ℕ))
fields register (READ-STAMP client nonce) = number_field 1 1 ∷ number_field 1 client.0 ∷ number_field 8 nonce ∷ none ∷ none ∷ none ∷ none ∷ none ∷ none ∷ number_field 1 register.0 ∷ []
fields register (PREPARE client timestamp digest proof last) =
    number_field 1 2 ∷ number_field 1 client.0 ∷ none ∷ number_field 5 timestamp ∷ some digest ∷ none ∷ proof_field proof ∷ proof_field last ∷ none ∷ number_field 1 register.0 ∷ []
fields register (WRITE client card proof) = number_field 1 3 ∷ number_field 1 client.0 ∷ none ∷ none ∷ none ∷ sized card ∷ some (proof_bytes proof) ∷ none ∷ none ∷ number_field 1 register.0 ∷ []
fields register (READ client nonce) = number_field 1 4 ∷ number_field 1 client.0 ∷ number_field 8 nonce ∷ none ∷ none ∷ none ∷ none ∷ none ∷ none ∷ number_field 1 register.0 ∷ []
fields register (STAMP replica nonce proof client) =
    number_field 1 5 ∷ number_field 1 replica.0 ∷ number_field 8 nonce ∷ none ∷ none ∷ none ∷ proof_field proof ∷ none ∷ number_field 1 client.0 ∷ number_field 1 register.0 ∷ []
fields register (PREPARED replica timestamp digest) =
    number_field 1 6 ∷ number_field 1 replica.0 ∷ none ∷ number_field 5 timestamp ∷ some digest ∷ none ∷ none ∷ none ∷ none ∷ number_field 1 register.0 ∷ []
fields register (WRITTEN replica timestamp) = number_field 1 7 ∷ number_field 1 replica.0 ∷ none ∷ number_field 5 timestamp ∷ none ∷ none ∷ none ∷ none ∷ none ∷ number_field 1 register.0 ∷ []
fields register (CARD replica nonce card proof client) =
    number_field 1 8 ∷ number_field 1 replica.0 ∷ number_field 8 nonce ∷ none ∷ none ∷ sized card ∷ proof_field proof ∷ none ∷ number_field 1 client.0 ∷ number_field 1 register.0 ∷ []

-- The fields that are there, one after the other.
unfoldable pub joined : List (Option (List ℕ)) → List ℕ
joined [] = []
joined (none ∷ fields) = joined fields
joined (some bytes ∷ fields) = bytes ++ joined fields

-- The bytes that the signature covers: bit map and fields.
unfoldable pub body : RegisterId → Message → List ℕ
body register message = to_bytes 2 (map_of (fields register message)) ++ joined (fields register message)

-- "then a 64-byte seal over all bytes before it"
unfoldable pub encode : RegisterId → Message → List ℕ → List ℕ
encode register message signature = body register message ++ signature

-- What fits its field's width. Said of the data alone, not of its bytes.
abbrev pub IsDigest : List ℕ → Type 0
IsDigest digest = (length digest ≡ 32) × Bytes digest

abbrev pub IsSignature : List ℕ → Type 0
IsSignature signature = (length signature ≡ 64) × Bytes signature

abbrev pub EachFits : List Entry → Type 0
EachFits [] = Unit {0}
EachFits (entry ∷ entries) = ((entry.signer.0 < 256) × IsSignature entry.signature) × EachFits entries

abbrev pub EntriesFit : List Entry → Type 0
EntriesFit entries = (length entries < 256) × EachFits entries

abbrev pub ProofFits : {d : ℕ} → Proof d → Type 0
ProofFits {d} proof = (proof.timestamp < 2 ^ 40) × ((length proof.digest ≡ d) × Bytes proof.digest) × EntriesFit proof.entries

abbrev pub IfThere : {A : Type 0} → (A → Type 0) → Option A → Type 0
IfThere P none = Unit {0}
IfThere P (some a) = P a

abbrev pub CardFits : List ℕ → Type 0
CardFits card = (length card < 256) × Bytes card

unfoldable pub Fits : Message → Type 0
Fits (READ-STAMP client nonce) = (client.0 < 256) × (nonce < 2 ^ 64)
Fits (PREPARE client timestamp digest proof last) = (client.0 < 256) × (timestamp < 2 ^ 40) × IsDigest digest × IfThere ProofFits proof × IfThere ProofFits last
Fits (WRITE client card proof) = (client.0 < 256) × CardFits card × ProofFits proof
Fits (READ client nonce) = (client.0 < 256) × (nonce < 2 ^ 64)
Fits (STAMP replica nonce proof client) = (replica.0 < 256) × (nonce < 2 ^ 64) × IfThere ProofFits proof × (client.0 < 256)
Fits (PREPARED replica timestamp digest) = (replica.0 < 256) × (timestamp < 2 ^ 40) × IsDigest digest
Fits (WRITTEN replica timestamp) = (replica.0 < 256) × (timestamp < 2 ^ 40)
Fits (CARD replica nonce card proof client) = (replica.0 < 256) × (nonce < 2 ^ 64) × CardFits card × IfThere ProofFits proof × (client.0 < 256)

-- How many bytes a message has, its signature included.
abbrev pub proof_size : {d : ℕ} → Option (Proof d) → ℕ
proof_size none = 0
proof_size {d} (some proof) = 6 + d + 65 * length proof.entries

-- Bit map, kind and sender in front, register and signature behind.
abbrev pub size_with : ℕ → ℕ
size_with others = 2 + 1 + 1 + others + 1 + 64

unfoldable pub size : Message → ℕ
size (READ-STAMP client nonce) = size_with 8
size (PREPARE client timestamp digest proof last) = size_with (5 + 32 + proof_size proof + proof_size last)
size (WRITE client card proof) = size_with (1 + length card + proof_size (some proof))
size (READ client nonce) = size_with 8
size (STAMP replica nonce proof client) = size_with (8 + proof_size proof + 1)
size (PREPARED replica timestamp digest) = size_with (5 + 32)
size (WRITTEN replica timestamp) = size_with 5
size (CARD replica nonce card proof client) = size_with (8 + 1 + length card + proof_size proof + 1)

-- Document 02, #103: "The longest message is 1,580 bytes"
abbrev pub longest : ℕ
longest = 1_580

-- "every legal message": the kind's fields, each within its width, and no longer than the longest. What 6, 20 and 9 to 14 ask besides
-- is a party's to ask: a message that they refuse has its one byte form too.
pub record Legal (register : RegisterId) (message : Message) : Type 0 where
  pub register_fits : register.0 < 256
  pub fits : Fits message
  pub short : size message ≤ longest
