-- Document 01's proved examples, A to K, and one of document 02's #106.
use Rattle.std.specs.Prelude.{◌≡◌, true, false, List, [], ◌∷◌, ℕ, ◌/◌, ◌≤◌, ◌<◌}
use Rattle.std.proofs.Math.Option.{Option, none, some}
use Rattle.std.specs.declared.option.Option.TheVariants.{Some, None}
use Rattle.base.specs.ClientSet.{has}
use Rattle.base.specs.Outcome.{Outcome, accepted, refused, ◌>>=◌}
use Rattle.base.specs.Party.{replica_count, quorum_size, is_register}
use Rattle.base.specs.Timestamp.{number, successor}
use Rattle.base.specs.declared.party.ClientId.{ClientId}
use Rattle.base.specs.declared.party.RegisterId.{RegisterId}
use Rattle.base.specs.declared.timestamp.Timestamp.{Timestamp}
use Rattle.wire.specs.Acceptance.{admits}
use Rattle.wire.specs.Card.{read_card, is_card}
use Rattle.wire.specs.Decode.{for_register}
use Rattle.wire.specs.Message.{Message, PREPARE, WRITE, PREPARED, WRITTEN}
use Rattle.wire.specs.Parts.{timestamp_if_there}
use Rattle.wire.specs.Proof.{PreparedProof, WrittenProof}
use Rattle.protocol.specs.Parts.{card_stands}
use Rattle.protocol.specs.RegisterReplica.{Reply, held_timestamp, slot_digest, slot_timestamp, with_written, with_slot, raised, with_slots, answering, on_request}
use Rattle.protocol.specs.declared.replica.RegisterReplica.{RegisterReplica}
use Rattle.protocol.specs.declared.replica.Slots.{Slots}

-- The timestamp written count.client.
abbrev pub stamp : ℕ → ℕ → Timestamp
stamp count client = record { count = count; client = record { 0 = client } }

-- Client 2, and its first two timestamps as messages carry them.
abbrev pub two : ClientId
two = record { 0 = 2 }

abbrev pub 1·2 : ℕ
1·2 = number (stamp 1 2)

abbrev pub 2·2 : ℕ
2·2 = number (stamp 2 2)

-- Client 2's slot has timestamp 1.2 and that digest; it is open above the written timestamp, else closed.
pub record SlotHolds (slots : Slots) (digest : List ℕ) : Type 0 where
  pub timestamp : slot_timestamp slots two ≡ 1·2
  pub digest_is : slot_digest slots two ≡ digest

abbrev pub Open : Slots → Type 0
Open slots = number slots.written < slot_timestamp slots two

abbrev pub Closed : Slots → Type 0
Closed slots = slot_timestamp slots two ≤ number slots.written

-- The PREPARE of 1.2 with a digest, which follows 0.0 and shows no proof, and its one verdict.
abbrev pub first : List ℕ → Message
first digest = PREPARE two 1·2 digest none none

abbrev pub one_genuine : List ℕ
one_genuine = 1 ∷ []

-- A replica is handed a message for a register: 6 to 11, and what follows.
abbrev pub handed : RegisterReplica → RegisterId → List ℕ → Message → Outcome Reply
handed replica register verdicts message = admits replica.f replica.withdrawn verdicts (for_register register message) >>= λ sent. on_request replica sent.1

-- A message that passes 6 to 11.
abbrev pub Passes : RegisterReplica → RegisterId → List ℕ → Message → Type 0
Passes replica register verdicts message = admits replica.f replica.withdrawn verdicts (for_register register message) ≡ accepted (for_register register message)

-- The written timestamp's client is a byte, as it is in the record of the code.
abbrev pub WrittenClientFits : RegisterReplica → Type 0
WrittenClientFits replica = replica.register.slots.written.client.0 < 256

pub record Examples : Type 0 where
  -- "f = 1 gives n 4, q 3; f = 5 gives 16, 11."
  pub A : (replica_count 1 ≡ 4) × (quorum_size 1 ≡ 3) × (replica_count 5 ≡ 16) × (quorum_size 5 ≡ 11)
  -- "7.9 for desk 2 gives 8.2."
  pub B : successor (stamp 7 9) two ≡ Some (stamp 8 2)
  -- "7.9 < 8.2 < 8.3."
  pub C : (number (stamp 7 9) < number (stamp 8 2)) × (number (stamp 8 2) < number (stamp 8 3))
  -- "4,294,967,295.1 has no successor."
  pub D : (client : ClientId) → successor (stamp 4_294_967_295 1) client ≡ None
  -- "card `00 00` good."
  pub E : is_card (0x00 ∷ 0x00 ∷ []) ≡ true
  -- "`00 03 1C 20 1C 1F` is 7,200 and 7,199."
  pub F : read_card (0x00 ∷ 0x03 ∷ 0x1C ∷ 0x20 ∷ 0x1C ∷ 0x1F ∷ []) ≡ some (some 7_200 ∷ some 7_199 ∷ none ∷ none ∷ none ∷ none ∷ none ∷ [])
  -- "`00 01 1C 20` bad."
  pub G : is_card (0x00 ∷ 0x01 ∷ 0x1C ∷ 0x20 ∷ []) ≡ false
  -- "`00 20 04` good, `00 20 05` bad."
  pub H : (is_card (0x00 ∷ 0x20 ∷ 0x04 ∷ []) ≡ true) × (is_card (0x00 ∷ 0x20 ∷ 0x05 ∷ []) ≡ false)
  -- I to K hold of each of the sixteen registers (document 02, #103), where client 2 is not withdrawn (#105).
  -- "line 1.2 open with digest a: 1.2 a PREPARED, 1.2 b refused 15."
  pub I : (replica : RegisterReplica) (register : RegisterId) (a b : List ℕ) → is_register register ≡ true → has replica.withdrawn two ≡ false → (a ≡ b → ⊥) → WrittenClientFits replica
      → SlotHolds replica.register.slots a → Open replica.register.slots
      → (handed replica register one_genuine (first a) ≡ answering (PREPARED replica.id 1·2 a) replica) × (handed replica register one_genuine (first b) ≡ refused 15)
  -- "the same line closed: 2.2 taken, 1.2 b still 15." 2.2 comes with a prepared proof of a timestamp of count 1, which passed 6 to 11.
  pub J : (replica : RegisterReplica) (register : RegisterId) (a b : List ℕ) → is_register register ≡ true → has replica.withdrawn two ≡ false → (a ≡ b → ⊥) → SlotHolds replica.register.slots a → Closed replica.register.slots
      → ((digest : List ℕ) (proof : PreparedProof) (last : Option WrittenProof) (verdicts : List ℕ) → proof.timestamp / 256 ≡ 1
      → Passes replica register verdicts (PREPARE two 2·2 digest (some proof) last)
      → handed replica register verdicts (PREPARE two 2·2 digest (some proof) last)
      ≡ answering (PREPARED replica.id 2·2 digest) (with_slots replica (with_written (raised (timestamp_if_there last) replica.register.slots) (with_slot two 2·2 digest replica.register.slots))))
      × (handed replica register one_genuine (first b) ≡ refused 15)
  -- "WRITE of the held stamp: WRITTEN, record kept." From any client, with a proof and a card that passed 6 to 11 and 14.
  pub K : (replica : RegisterReplica) (register : RegisterId) (client : ClientId) (card : List ℕ) (proof : PreparedProof) (verdicts : List ℕ)
      → Passes replica register verdicts (WRITE client card proof) → card_stands card (some proof) ≡ true → proof.timestamp ≡ held_timestamp replica.register.held
      → handed replica register verdicts (WRITE client card proof) ≡ answering (WRITTEN replica.id proof.timestamp) replica
  -- Document 02, #106: "a PREPARE may show a written proof of any desk, for the same set". Line 1.2 open or closed, 2.2 with a written proof of 1.2 or
  -- later, whose client is any: taken.
  pub of_any_client : (replica : RegisterReplica) (register : RegisterId) (a : List ℕ) → is_register register ≡ true → SlotHolds replica.register.slots a
      → (digest : List ℕ) (proof : PreparedProof) (last : WrittenProof) (verdicts : List ℕ) → proof.timestamp / 256 ≡ 1 → 1·2 ≤ last.timestamp
      → Passes replica register verdicts (PREPARE two 2·2 digest (some proof) (some last))
      → handed replica register verdicts (PREPARE two 2·2 digest (some proof) (some last))
      ≡ answering (PREPARED replica.id 2·2 digest) (with_slots replica (with_written (raised last.timestamp replica.register.slots) (with_slot two 2·2 digest replica.register.slots)))
