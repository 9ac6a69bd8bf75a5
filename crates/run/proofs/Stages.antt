-- What a message does to a write of its client: it gathers STAMPs, takes its timestamp with the PREPARE, keeps it, or is done with it. Assumes nothing.
use mathlib.Core.Path.{◌≡◌, refl, ap, ◌∙◌}
use mathlib.Core.Bool.{Bool, true, false}
use mathlib.Core.List.{List}
use mathlib.Core.Option.{Option, none, some}
use Prim.Native.Nat.{ℕ}
use lib.ListN.{set}
use Rattle.base.specs.Party.{register_place}
use Rattle.base.specs.Timestamp.{number}
use Rattle.base.specs.declared.replica_set.ReplicaSet.{ReplicaSet}
use Rattle.base.specs.declared.timestamp.Timestamp.{Timestamp}
use Rattle.wire.specs.Message.{Message, READ-STAMP, PREPARE, WRITE, READ, STAMP, PREPARED, WRITTEN, CARD}
use Rattle.wire.specs.Proof.{Entry, PreparedProof, WrittenProof}
use Rattle.wire.specs.Sha256.{sha256}
use Rattle.protocol.specs.Client.{Answer, send, waits, done, ended, Turn, current_card, last_written, keeping}
use Rattle.protocol.specs.declared.client.Client.{Client}
use Rattle.protocol.specs.declared.client.Phase.{Phase}
use Rattle.protocol.specs.declared.client.Phase.TheVariants.{Idle, Stamps, Prepareds, Writtens, Cards, WriteBack}
use Rattle.protocol.proofs.ClientCases.{Leaves, is_over, entries_with, ClientCase, stamp_counted, stamps_enough, stamps_ended, prepared_counted, prepareds_enough, written_counted, writtens_enough, card_counted, cards_agree, cards_viewed, cards_differ, back_counted, back_enough}

abbrev pub is_stamping : Phase → Bool
is_stamping Idle = false
is_stamping (Stamps nonce best counted) = true
is_stamping (Prepareds timestamp counted) = false
is_stamping (Writtens timestamp counted) = false
is_stamping (Cards nonce best counted showed) = false
is_stamping (WriteBack timestamp counted) = false

-- The timestamp of a write that has one.
abbrev pub prepared_for : Phase → Option ℕ
prepared_for Idle = none
prepared_for (Stamps nonce best counted) = none
prepared_for (Prepareds timestamp counted) = some (number timestamp)
prepared_for (Writtens timestamp counted) = some (number timestamp)
prepared_for (Cards nonce best counted showed) = none
prepared_for (WriteBack timestamp counted) = none

abbrev pub is_prepare : Answer → Bool
is_prepare (send (READ-STAMP id nonce)) = false
is_prepare (send (PREPARE id timestamp digest proof last)) = true
is_prepare (send (WRITE id card proof)) = false
is_prepare (send (READ id nonce)) = false
is_prepare (send (STAMP id nonce proof addressed)) = false
is_prepare (send (PREPARED id timestamp digest)) = false
is_prepare (send (WRITTEN id timestamp)) = false
is_prepare (send (CARD id nonce card proof addressed)) = false
is_prepare waits = false
is_prepare (done timestamp card signers) = false
is_prepare ended = false

pub data Stage (before : Client) (turn : Turn) : Type 0 where
  stamping : is_stamping before.phase ≡ true → prepared_for before.phase ≡ none → prepared_for turn.next.phase ≡ none → current_card turn.next ≡ current_card before → turn.answer ≡ waits → Stage before turn
  prepares : (timestamp : ℕ) (shown : Option PreparedProof) (last : Option WrittenProof) → is_stamping before.phase ≡ true → prepared_for before.phase ≡ none
      → is_stamping turn.next.phase ≡ false → prepared_for turn.next.phase ≡ some timestamp → current_card turn.next ≡ current_card before → turn.answer ≡ send (PREPARE before.id timestamp (sha256 (current_card before)) shown last) → last ≡ last_written before → Stage before turn
  keeps : (timestamp : ℕ) → prepared_for before.phase ≡ some timestamp → prepared_for turn.next.phase ≡ some timestamp → is_stamping turn.next.phase ≡ false
      → current_card turn.next ≡ current_card before → is_prepare turn.answer ≡ false → is_over turn.answer ≡ false → Stage before turn
  -- Its proof is the register's own written one.
  finishes : (timestamp : Timestamp) (card : List ℕ) (signers : ReplicaSet) (entries : List Entry) → prepared_for before.phase ≡ some (number timestamp) → prepared_for turn.next.phase ≡ none
      → is_stamping turn.next.phase ≡ false → turn.next.written ≡ set before.written (register_place before.register) (keeping true timestamp entries)
      → turn.answer ≡ done timestamp card signers → Stage before turn
  others : prepared_for before.phase ≡ none → prepared_for turn.next.phase ≡ none → is_stamping turn.next.phase ≡ false → is_prepare turn.answer ≡ false → Stage before turn

module _ (before : Client) (turn : Turn) where
  -- A write that has its timestamp keeps it; what is of no such write does not matter here.
  kept : (was next : Phase) (answer : Answer) (timestamp : ℕ) → before.phase ≡ was → prepared_for was ≡ some timestamp → prepared_for next ≡ some timestamp → is_stamping next ≡ false
      → current_card turn.next ≡ current_card before → is_prepare answer ≡ false → is_over answer ≡ false → Leaves turn answer next → Stage before turn
  kept was next answer timestamp at e₁ e₂ e₃ c e₄ e₅ l =
      keeps timestamp (ap prepared_for at ∙ e₁) (ap prepared_for l.phase_is ∙ e₂) (ap is_stamping l.phase_is ∙ e₃) c (ap is_prepare l.answer_is ∙ e₄) (ap is_over l.answer_is ∙ e₅)

  other : (was next : Phase) (answer : Answer) → before.phase ≡ was → prepared_for was ≡ none → prepared_for next ≡ none → is_stamping next ≡ false → is_prepare answer ≡ false → Leaves turn answer next → Stage before turn
  other was next answer at e₁ e₂ e₃ e₄ l = others (ap prepared_for at ∙ e₁) (ap prepared_for l.phase_is ∙ e₂) (ap is_stamping l.phase_is ∙ e₃) (ap is_prepare l.answer_is ∙ e₄)

  pub stage : (own : List ℕ) (message : Message) → ClientCase before own message turn → Stage before turn
  stage own message (stamp_counted sender nonce proof best counted m at new card b l) = stamping (ap is_stamping at) (ap prepared_for at) (ap prepared_for l.phase_is) card l.answer_is
  stage own message (stamps_enough sender nonce proof best counted next shown last m at new s c d b p t w l) =
      prepares (number next) shown last (ap is_stamping at) (ap prepared_for at) (ap is_stamping l.phase_is) (ap prepared_for l.phase_is) c l.answer_is w
  stage own message (stamps_ended sender nonce proof best counted m at s l) = other _ _ _ at refl refl refl refl l
  stage own message (prepared_counted sender timestamp counted m at new c s l) = kept _ _ _ (number timestamp) at refl refl refl c.card_kept_lem refl refl l
  stage own message (prepareds_enough sender timestamp counted proof m at new c b s p l) = kept _ _ _ (number timestamp) at refl refl refl c refl refl l
  stage own message (written_counted sender timestamp counted m at new c s l) = kept _ _ _ (number timestamp) at refl refl refl c.card_kept_lem refl refl l
  stage own message (writtens_enough sender timestamp counted m at new b w l) =
      finishes timestamp (current_card before) before.signers (entries_with before sender counted own) (ap prepared_for at) (ap prepared_for l.phase_is) (ap is_stamping l.phase_is) w l.answer_is
  stage own message (card_counted sender nonce card proof best counted showed m at new s c b l) = other _ _ _ at refl refl refl refl l
  stage own message (cards_agree sender nonce card proof best counted showed m at new s a l) = other _ _ _ at refl refl refl refl l
  stage own message (cards_viewed sender nonce card proof best counted showed m at new s v l) = other _ _ _ at refl refl refl refl l
  stage own message (cards_differ sender nonce card proof best counted showed m at new s d c b l) = other _ _ _ at refl refl refl refl l
  stage own message (back_counted sender timestamp counted m at new c l) = other _ _ _ at refl refl refl refl l
  stage own message (back_enough sender timestamp counted m at new l) = other _ _ _ at refl refl refl refl l
