-- Document 01, "Messages": the signatures (seals) of a message, or of a proof by itself, whose each is and which bytes it covers. A signing box
-- asks for them one by one.
use Rattle.std.specs.Prelude.{◌≡◌, ℕ, ◌-◌, ◌*◌, ◌≤◌, cond, List, [], ◌∷◌, ◌++◌, length, take, nat_lt, slice_index, Option as Found, Some, None, Result}
use Rattle.std.proofs.Math.Option.{Option, none, some}
use Rattle.std.proofs.Math.ListN.{get_elem?}
use Rattle.base.specs.Outcome.{Outcome, accepted, refused, ◌>>=◌}
use Rattle.base.specs.Refusal.{outcome}
use Rattle.base.specs.declared.party.RegisterId.{RegisterId}
use Rattle.base.specs.declared.party.ReplicaId.{ReplicaId}
use Rattle.base.specs.declared.refusal.Refusal.{Refusal}
use Rattle.wire.specs.Acceptance.{Sender, replica, client, sender_of}
use Rattle.wire.specs.Checks.{prepared_of, written_of}
use Rattle.wire.specs.Decode.{decode}
use Rattle.wire.specs.Layout.{signature}
use Rattle.wire.specs.Message.{Message, PREPARED, WRITTEN, body}
use Rattle.wire.specs.Parts.{count_part, entries_part}
use Rattle.wire.specs.Proof.{Entry, PreparedProof, WrittenProof, read_proof}
use Rattle.wire.specs.Writing.{in_front}
use Rattle.wire.specs.declared.message.Party.{Party}
use Rattle.wire.specs.declared.signatures.Signed.{Signed}
use Rattle.wire.specs.declared.signatures.Signer.{Signer}
use Rattle.wire.specs.declared.signatures.Signer.TheVariants.{Replica, Client}

-- A signature (seal): whose it is, the bytes that it covers, and its own 64 bytes.
pub record Signature : Type 0 where
  pub signer : Sender
  pub covers : List ℕ
  pub bytes : List ℕ

-- "An entry's seal is that of the holder's PREPARED (or WRITTEN) message with this stamp (and digest)." Document 02, #103: "an entry's
-- seal is that of a message for the set that its proof is shown for".
abbrev pub signed_by : RegisterId → (ReplicaId → Message) → List Entry → List Signature
signed_by register message [] = []
signed_by register message (entry ∷ entries) =
    record { signer = replica entry.signer; covers = body register (message entry.signer); bytes = entry.signature } ∷ signed_by register message entries

abbrev pub prepared_signatures : RegisterId → PreparedProof → List Signature
prepared_signatures register proof = signed_by register (λ id. PREPARED id proof.timestamp proof.digest) proof.entries

abbrev pub written_signatures : RegisterId → WrittenProof → List Signature
written_signatures register proof = signed_by register (λ id. WRITTEN id proof.timestamp) proof.entries

abbrev pub signatures_if_there : {A : Type 0} → (A → List Signature) → Option A → List Signature
signatures_if_there signatures none = []
signatures_if_there signatures (some proof) = signatures proof

-- The signatures of a message: "the message's own first, then entries in order". Its own covers "all bytes before it".
abbrev pub signatures_of : List ℕ → RegisterId × Message → List Signature
signatures_of bytes (register, message) =
    record { signer = sender_of message; covers = take (length bytes - 64) bytes; bytes = signature bytes }
    ∷ (signatures_if_there (prepared_signatures register) (prepared_of message) ++ signatures_if_there (written_signatures register) (written_of message))

-- The signatures of bytes that a party is handed; none if it cannot read them (2 to 5).
abbrev pub signatures_if_read : List ℕ → Outcome (RegisterId × Message) → List Signature
signatures_if_read bytes (accepted sent) = signatures_of bytes sent
signatures_if_read bytes (refused number) = []

unfoldable pub signatures_to : Party → List ℕ → List Signature
signatures_to party bytes = signatures_if_read bytes (decode party bytes)

-- The i-th of them, counted from 0, if there are so many; or the refusal of the bytes.
unfoldable pub signature_to : Party → List ℕ → ℕ → Outcome (Option Signature)
signature_to party bytes i = decode party bytes >>= λ sent. accepted (get_elem? (signatures_of bytes sent) i)

-- The signatures of a written proof by itself, for a register (document 02, #106): those of its entries; none if the bytes are no such proof.
abbrev pub signatures_if_proof : RegisterId → Outcome WrittenProof → List Signature
signatures_if_proof register (accepted proof) = written_signatures register proof
signatures_if_proof register (refused number) = []

unfoldable pub handed_signatures : RegisterId → List ℕ → List Signature
handed_signatures register bytes = signatures_if_proof register (read_proof 0 bytes)

-- The i-th of them, counted from 0, if there are so many; or 4.
unfoldable pub handed_signature : RegisterId → List ℕ → ℕ → Outcome (Option Signature)
handed_signature register bytes i = read_proof 0 bytes >>= λ proof. accepted (get_elem? (written_signatures register proof) i)

-- What an answer of the code stands for: the signer, and how many bytes the signature covers.
abbrev pub signer_of : Signer → Sender
signer_of (Replica id) = replica id
signer_of (Client id) = client id

abbrev pub signed : Found Signed → Option (Sender × ℕ)
signed (Some found) = some (signer_of found.signer, found.covered)
signed None = none

abbrev pub signed_outcome : Result (Found Signed) Refusal → Outcome (Option (Sender × ℕ))
signed_outcome answer = outcome answer >>= λ found. accepted (signed found)

abbrev pub in_short : Option Signature → Option (Sender × ℕ)
in_short none = none
in_short (some signature) = some (signature.signer, length signature.covers)

-- "any other lent buffer that is filled is treated alike": the bytes covered in front, and the old ones behind; all old ones where there is no signature.
abbrev pub covered_in : Outcome (Option Signature) → List ℕ → List ℕ
covered_in (accepted (some signature)) old = in_front signature.covers old
covered_in (accepted none) old = old
covered_in (refused number) old = old

-- This signature was found, or none, or the refusal; the output was `old` and is now `new`.
pub record ShowsSignature (found : Outcome (Option Signature)) (old : List ℕ) (answer : Result (Found Signed) Refusal) (new : List ℕ) : Type 0 where
  pub answered : signed_outcome answer ≡ found >>= λ signature. accepted (in_short signature)
  pub holds : new ≡ covered_in found old

-- The signer of a proof's i-th entry, if it has so many.
abbrev pub signer_at : ℕ → List ℕ → ℕ → Found ReplicaId
signer_at d proof i = cond (nat_lt i (count_part d proof)) (Some (record { 0 = slice_index (entries_part d proof) (65 * i) })) None

-- As many entries as the number of entries says stand behind it, in a proof with a digest of d bytes.
abbrev pub EntriesStand : ℕ → List ℕ → Type 0
EntriesStand d proof = 65 * count_part d proof ≤ length (entries_part d proof)
