-- What one step of a client does, as types: its beginnings, and one case for each way in which a message is taken. Assumes nothing.
use mathlib.Core.Path.{◌≡◌}
use mathlib.Core.Bool.{Bool, true, false, cond}
use mathlib.Core.List.{List}
use mathlib.Core.Option.{Option, none, some}
use Prim.Native.Nat.{ℕ, ◌+◌, ◌^◌, ◌<◌}
use lib.Dec.{ltb}
use lib.ListN.{set}
use Rattle.std.specs.declared.option.Option.TheVariants.{Some, None}
use Rattle.base.specs.Party.{is_writer, is_replica, is_register, register_place}
use Rattle.base.specs.ReplicaSet.{empty, has, with, is_quorum}
use Rattle.base.specs.Timestamp.{number, successor}
use Rattle.base.specs.declared.party.RegisterId.{RegisterId}
use Rattle.base.specs.declared.party.ReplicaId.{ReplicaId}
use Rattle.base.specs.declared.replica_set.ReplicaSet.{ReplicaSet}
use Rattle.base.specs.declared.timestamp.Timestamp.{Timestamp}
use Rattle.wire.specs.Card.{is_card}
use Rattle.wire.specs.Message.{Message, PREPARE, WRITE, STAMP, PREPARED, WRITTEN, CARD}
use Rattle.wire.specs.Proof.{Entry, PreparedProof, WrittenProof, signer_set}
use Rattle.wire.specs.Sha256.{sha256}
use Rattle.protocol.specs.Client.{Answer, send, waits, done, ended, Turn, current_card, best_proof, best_shown, written_in_place, last_written, built, with_signature, keeping, best_of, showed_by, AfterCards, after_card}
use Rattle.protocol.specs.Viewer.{after_view}
use Rattle.protocol.specs.Parts.{card_stands}
use Rattle.protocol.specs.declared.client.Client.{Client}
use Rattle.protocol.specs.declared.client.Phase.{Phase}
use Rattle.protocol.specs.declared.client.Phase.TheVariants.{Idle, Stamps, Prepareds, Writtens, Cards, WriteBack}
use Rattle.protocol.proofs.Built.{Built}
use Rattle.protocol.proofs.Fit.{ClientFits, TimestampFits, LegalMessage}
use Rattle.wire.proofs.Tests7To11.{Passed}
use Rattle.wire.specs.Parts.{prepared_timestamp, prepared_signers}

-- The written proofs of other registers than the operation's are as they were.
abbrev pub OthersWritten : Client → Client → Type 0
OthersWritten before after = (at : ℕ) → (at ≡ register_place before.register → ⊥) → written_in_place at after ≡ written_in_place at before

-- It gathers the WRITTENs that end a write.
abbrev pub is_writing : Phase → Bool
is_writing Idle = false
is_writing (Stamps nonce best counted) = false
is_writing (Prepareds timestamp counted) = false
is_writing (Writtens timestamp counted) = true
is_writing (Cards nonce best counted showed) = false
is_writing (WriteBack timestamp counted) = false

-- What an operation's beginning does: it sends the question, with the next nonce, for the register that is named.
pub record Begun (before : Client) (register : RegisterId) (question : Message) (phase : Phase) (card : List ℕ) (turn : Turn) : Type 0 where
  pub registered : is_register register ≡ true
  pub was_idle : before.phase ≡ Idle
  pub nonce_fits : before.last_nonce + 1 < 2 ^ 64
  pub sends : turn.answer ≡ send question
  pub same_f : turn.next.f ≡ before.f
  pub same_id : turn.next.id ≡ before.id
  pub register_is : turn.next.register ≡ register
  pub written_kept_lem : turn.next.written ≡ before.written
  pub nonce : turn.next.last_nonce ≡ before.last_nonce + 1
  pub phase_is : turn.next.phase ≡ phase
  pub is_card_lem : is_card card ≡ true
  pub card_is : current_card turn.next ≡ card
  pub no_signers : turn.next.signers ≡ empty
  pub fits : ClientFits turn.next
  pub legal : LegalMessage question

-- The answer and the phase that a step leaves.
pub record Leaves (turn : Turn) (answer : Answer) (phase : Phase) : Type 0 where
  pub answer_is : turn.answer ≡ answer
  pub phase_is : turn.next.phase ≡ phase

-- The card, its digest and the proof's signers as they were.
pub record SameCard (before after : Client) : Type 0 where
  pub card_kept_lem : current_card after ≡ current_card before
  pub digest_kept : after.digest ≡ before.digest
  pub signers_kept : after.signers ≡ before.signers

abbrev pub NewFrom : Client → ReplicaId → ReplicaSet → Type 0
NewFrom before sender counted = (is_replica before.f sender ≡ true) × (has counted sender ≡ false)

-- One more replica is counted, and then they are a quorum, or not yet.
abbrev pub OneMore : Client → ReplicaId → ReplicaSet → Bool → Type 0
OneMore before sender counted full = (is_replica before.f sender ≡ true) × (has counted sender ≡ false) × (is_quorum before.f (with counted sender) ≡ full)

-- The better of the best reply so far and this one: its card,
abbrev pub better_card : Timestamp → Option PreparedProof → List ℕ → Client → List ℕ
better_card best proof card before = cond (ltb (number best) (prepared_timestamp proof)) card (current_card before)

-- the signers of its proof,
abbrev pub better_signers : Timestamp → Option PreparedProof → Client → ReplicaSet
better_signers best proof before = cond (ltb (number best) (prepared_timestamp proof)) (prepared_signers proof) before.signers

-- and that proof.
abbrev pub better_proof : Timestamp → Option PreparedProof → Client → Option PreparedProof
better_proof best proof before = cond (ltb (number best) (prepared_timestamp proof)) proof (best_shown before best)

pub record BetterKept (best : Timestamp) (proof : Option PreparedProof) (before after : Client) : Type 0 where
  pub signers_are : after.signers ≡ better_signers best proof before
  pub proof_is : best_shown after (best_of best proof) ≡ better_proof best proof before

-- The signatures that came, with one more, and the entries that are built of them.
abbrev pub signatures_with : Client → ReplicaId → List ℕ → List ℕ
signatures_with before sender own = with_signature before.signatures sender own

abbrev pub entries_with : Client → ReplicaId → ReplicaSet → List ℕ → List Entry
entries_with before sender counted own = built before (with counted sender) (signatures_with before sender own)

-- A client takes a message with this own signature.
pub data ClientCase (before : Client) (own : List ℕ) (message : Message) (turn : Turn) : Type 0 where
  stamp_counted : (sender : ReplicaId) (nonce : ℕ) (proof : Option PreparedProof) (best : Timestamp) (counted : ReplicaSet)
      → message ≡ STAMP sender nonce proof before.id → before.phase ≡ Stamps nonce best counted → OneMore before sender counted false
      → current_card turn.next ≡ current_card before → BetterKept best proof before turn.next
      → Leaves turn waits (Stamps nonce (best_of best proof) (with counted sender)) → ClientCase before own message turn
  stamps_enough : (sender : ReplicaId) (nonce : ℕ) (proof : Option PreparedProof) (best : Timestamp) (counted : ReplicaSet) (next : Timestamp)
      (shown : Option PreparedProof) (last : Option WrittenProof)
      → message ≡ STAMP sender nonce proof before.id → before.phase ≡ Stamps nonce best counted → OneMore before sender counted true
      → successor (best_of best proof) before.id ≡ Some next
      → current_card turn.next ≡ current_card before → turn.next.digest ≡ sha256 (current_card before) → turn.next.signers ≡ empty
      → shown ≡ better_proof best proof before → prepared_timestamp shown ≡ number (best_of best proof) → last ≡ last_written before
      → Leaves turn (send (PREPARE before.id (number next) (sha256 (current_card before)) shown last)) (Prepareds next empty) → ClientCase before own message turn
  stamps_ended : (sender : ReplicaId) (nonce : ℕ) (proof : Option PreparedProof) (best : Timestamp) (counted : ReplicaSet)
      → message ≡ STAMP sender nonce proof before.id → before.phase ≡ Stamps nonce best counted
      → successor (best_of best proof) before.id ≡ None → Leaves turn ended Idle → ClientCase before own message turn
  prepared_counted : (sender : ReplicaId) (timestamp : Timestamp) (counted : ReplicaSet)
      → message ≡ PREPARED sender (number timestamp) before.digest → before.phase ≡ Prepareds timestamp counted → OneMore before sender counted false
      → SameCard before turn.next → turn.next.signatures ≡ signatures_with before sender own
      → Leaves turn waits (Prepareds timestamp (with counted sender)) → ClientCase before own message turn
  prepareds_enough : (sender : ReplicaId) (timestamp : Timestamp) (counted : ReplicaSet) (proof : PreparedProof)
      → message ≡ PREPARED sender (number timestamp) before.digest → before.phase ≡ Prepareds timestamp counted → OneMore before sender counted true
      → current_card turn.next ≡ current_card before
      → turn.next.signers ≡ signer_set proof.entries → (is_quorum before.f counted ≡ false → Built before.f (with counted sender) proof.entries)
      → proof ≡ record { timestamp = number timestamp; digest = before.digest; entries = entries_with before sender counted own }
      → Leaves turn (send (WRITE before.id (current_card before) proof)) (Writtens timestamp empty) → ClientCase before own message turn
  written_counted : (sender : ReplicaId) (timestamp : Timestamp) (counted : ReplicaSet)
      → message ≡ WRITTEN sender (number timestamp) → before.phase ≡ Writtens timestamp counted → OneMore before sender counted false
      → SameCard before turn.next → turn.next.signatures ≡ signatures_with before sender own
      → Leaves turn waits (Writtens timestamp (with counted sender)) → ClientCase before own message turn
  writtens_enough : (sender : ReplicaId) (timestamp : Timestamp) (counted : ReplicaSet)
      → message ≡ WRITTEN sender (number timestamp) → before.phase ≡ Writtens timestamp counted → OneMore before sender counted true
      → (is_quorum before.f counted ≡ false → Built before.f (with counted sender) (entries_with before sender counted own))
      → turn.next.written ≡ set before.written (register_place before.register) (keeping true timestamp (entries_with before sender counted own))
      → Leaves turn (done timestamp (current_card before) before.signers) Idle → ClientCase before own message turn
  card_counted : (sender : ReplicaId) (nonce : ℕ) (card : List ℕ) (proof : Option PreparedProof) (best : Timestamp) (counted showed : ReplicaSet)
      → message ≡ CARD sender nonce card proof before.id → before.phase ≡ Cards nonce best counted showed → OneMore before sender counted false
      → card_stands card proof ≡ true → current_card turn.next ≡ better_card best proof card before → BetterKept best proof before turn.next
      → Leaves turn waits (Cards nonce (best_of best proof) (with counted sender) (showed_by best proof sender showed)) → ClientCase before own message turn
  cards_agree : (sender : ReplicaId) (nonce : ℕ) (card : List ℕ) (proof : Option PreparedProof) (best : Timestamp) (counted showed : ReplicaSet)
      → message ≡ CARD sender nonce card proof before.id → before.phase ≡ Cards nonce best counted showed → OneMore before sender counted true
      → card_stands card proof ≡ true → is_quorum before.f (showed_by best proof sender showed) ≡ true
      → Leaves turn (done (best_of best proof) (better_card best proof card before) (better_signers best proof before)) Idle → ClientCase before own message turn
  -- A viewing client alone.
  cards_viewed : (sender : ReplicaId) (nonce : ℕ) (card : List ℕ) (proof : Option PreparedProof) (best : Timestamp) (counted showed : ReplicaSet)
      → message ≡ CARD sender nonce card proof before.id → before.phase ≡ Cards nonce best counted showed → OneMore before sender counted true
      → card_stands card proof ≡ true → is_writer before.id ≡ false
      → Leaves turn (done (best_of best proof) (better_card best proof card before) (better_signers best proof before)) Idle → ClientCase before own message turn
  cards_differ : (sender : ReplicaId) (nonce : ℕ) (card : List ℕ) (proof : Option PreparedProof) (best : Timestamp) (counted showed : ReplicaSet)
      → message ≡ CARD sender nonce card proof before.id → before.phase ≡ Cards nonce best counted showed → OneMore before sender counted true
      → card_stands card proof ≡ true → is_quorum before.f (showed_by best proof sender showed) ≡ false
      → current_card turn.next ≡ better_card best proof card before → BetterKept best proof before turn.next
      → Leaves turn (send (WRITE before.id (better_card best proof card before) (best_proof turn.next (best_of best proof)))) (WriteBack (best_of best proof) (showed_by best proof sender showed))
      → ClientCase before own message turn
  back_counted : (sender : ReplicaId) (timestamp : Timestamp) (counted : ReplicaSet)
      → message ≡ WRITTEN sender (number timestamp) → before.phase ≡ WriteBack timestamp counted → OneMore before sender counted false
      → SameCard before turn.next → Leaves turn waits (WriteBack timestamp (with counted sender)) → ClientCase before own message turn
  back_enough : (sender : ReplicaId) (timestamp : Timestamp) (counted : ReplicaSet)
      → message ≡ WRITTEN sender (number timestamp) → before.phase ≡ WriteBack timestamp counted → OneMore before sender counted true
      → Leaves turn (done timestamp (current_card before) before.signers) Idle → ClientCase before own message turn

-- Whether an answer ends an operation.
abbrev pub is_over : Answer → Bool
is_over (send message) = false
is_over waits = false
is_over (done timestamp card signers) = true
is_over ended = true

-- A message that a client sends is legal; what else it answers has no bytes.
abbrev pub LegalAnswer : Answer → Type 0
LegalAnswer (send message) = LegalMessage message
LegalAnswer waits = Unit {0}
LegalAnswer (done timestamp card signers) = Unit {0}
LegalAnswer ended = Unit {0}

-- The timestamps that a phase carries fit their five bytes.
abbrev pub PhaseFits : Phase → Type 0
PhaseFits Idle = Unit {0}
PhaseFits (Stamps nonce best counted) = TimestampFits best
PhaseFits (Prepareds timestamp counted) = TimestampFits timestamp
PhaseFits (Writtens timestamp counted) = TimestampFits timestamp
PhaseFits (Cards nonce best counted showed) = TimestampFits best
PhaseFits (WriteBack timestamp counted) = TimestampFits timestamp

-- What follows q CARDs at this client: a viewing client alone is done with whatever they show.
pub data Follows (before : Client) : AfterCards → Type 0 where
  as_read : Follows before after_card
  as_view : is_writer before.id ≡ false → Follows before after_view

pub record ClientFacts (before : Client) (own verdicts : List ℕ) (message : Message) (turn : Turn) : Type 0 where
  pub same_f : turn.next.f ≡ before.f
  pub same_id : turn.next.id ≡ before.id
  pub same_register : turn.next.register ≡ before.register
  -- A written proof changes only with a write's done, and then it is the register's own.
  pub others_written : OthersWritten before turn.next
  pub written_kept_lem : is_writing before.phase ≡ false → turn.next.written ≡ before.written
  pub written_stays : is_over turn.answer ≡ false → turn.next.written ≡ before.written
  pub same_nonce : turn.next.last_nonce ≡ before.last_nonce
  pub fits : ClientFits turn.next
  pub phase_fits : PhaseFits turn.next.phase
  pub legal : LegalAnswer turn.answer
  pub passed : Passed before.f message verdicts
  pub case : ClientCase before own message turn
