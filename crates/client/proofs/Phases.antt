-- Replies by the phase that they meet: in the phase that awaits their kind, and in the others. Assumes nothing.
use mathlib.Core.Path.{◌≡◌, refl, ap, ◌∙◌}
use mathlib.Core.Bool.{true, false, ◌&&◌}
use mathlib.Core.List.{List}
use mathlib.Core.Option.{Option}
use Prim.Native.Nat.{ℕ}
use lib.Dec.{eqb}
use Rattle.base.specs.Outcome.{refused}
use Rattle.base.specs.ReplicaSet.{with}
use Rattle.base.specs.Same.{same}
use Rattle.base.specs.Timestamp.{number}
use Rattle.base.specs.declared.party.ClientId.{ClientId}
use Rattle.base.specs.declared.party.ReplicaId.{ReplicaId}
use Rattle.base.specs.declared.replica_set.ReplicaSet.{ReplicaSet}
use Rattle.base.specs.declared.timestamp.Timestamp.{Timestamp}
use Rattle.base.proofs.Outcome.{guard_passes, guard_refuses}
use Rattle.wire.specs.Proof.{PreparedProof}
use Rattle.protocol.specs.Client.{is_new, best_of, keep_better, with_signature, with_signatures, showed_by, keep_better_card, on_stamp, after_stamp, on_prepared, after_prepared, on_written, after_written, after_write_back, AfterCards, count_card, on_card}
use Rattle.protocol.specs.declared.client.Client.{Client}
use Rattle.protocol.specs.declared.client.Phase.{Phase}
use Rattle.protocol.specs.declared.client.Phase.TheVariants.{Idle, Stamps, Prepareds, Writtens, Cards, WriteBack}

module _ (client : Client) (sender : ReplicaId) (nonce : ℕ) (proof : Option PreparedProof) (addressed : ClientId) where
  pub no_stamps : (phase : Phase) → ((asked : ℕ) (best : Timestamp) (counted : ReplicaSet) → phase ≡ Stamps asked best counted → ⊥) → on_stamp client sender nonce proof addressed phase ≡ refused 18
  unfolding on_stamp
  no_stamps Idle k = refl
  no_stamps (Stamps asked best counted) k = absurd (k asked best counted refl)
  no_stamps (Prepareds timestamp counted) k = refl
  no_stamps (Writtens timestamp counted) k = refl
  no_stamps (Cards asked best counted showed) k = refl
  no_stamps (WriteBack timestamp counted) k = refl

  module _ {phase : Phase} {asked : ℕ} {best : Timestamp} {counted : ReplicaSet} (e : phase ≡ Stamps asked best counted) where
    pub stamp_refused : (eqb nonce asked && (eqb addressed.0 client.id.0 && is_new counted sender)) ≡ false → on_stamp client sender nonce proof addressed phase ≡ refused 18
    unfolding on_stamp
    stamp_refused h = ap (on_stamp client sender nonce proof addressed) e ∙ guard_refuses 18 _ _ h

    pub stamp_taken : (eqb nonce asked && (eqb addressed.0 client.id.0 && is_new counted sender)) ≡ true
        → on_stamp client sender nonce proof addressed phase ≡ after_stamp asked (best_of best proof) (with counted sender) (keep_better best proof client)
    unfolding on_stamp
    stamp_taken h = ap (on_stamp client sender nonce proof addressed) e ∙ guard_passes 18 _ _ h

module _ (next : AfterCards) (client : Client) (sender : ReplicaId) (nonce : ℕ) (card : List ℕ) (proof : Option PreparedProof) (addressed : ClientId) where
  pub no_cards : (phase : Phase) → ((asked : ℕ) (best : Timestamp) (counted showed : ReplicaSet) → phase ≡ Cards asked best counted showed → ⊥) → on_card next client sender nonce card proof addressed phase ≡ refused 18
  unfolding on_card
  no_cards Idle k = refl
  no_cards (Stamps asked best counted) k = refl
  no_cards (Prepareds timestamp counted) k = refl
  no_cards (Writtens timestamp counted) k = refl
  no_cards (Cards asked best counted showed) k = absurd (k asked best counted showed refl)
  no_cards (WriteBack timestamp counted) k = refl

  module _ {phase : Phase} {asked : ℕ} {best : Timestamp} {counted showed : ReplicaSet} (e : phase ≡ Cards asked best counted showed) where
    pub card_refused : (eqb nonce asked && (eqb addressed.0 client.id.0 && is_new counted sender)) ≡ false → on_card next client sender nonce card proof addressed phase ≡ refused 18
    unfolding on_card
    card_refused h = ap (on_card next client sender nonce card proof addressed) e ∙ guard_refuses 18 _ _ h

    pub card_taken : (eqb nonce asked && (eqb addressed.0 client.id.0 && is_new counted sender)) ≡ true
        → on_card next client sender nonce card proof addressed phase
        ≡ count_card next asked (best_of best proof) (with counted sender) (showed_by best proof sender showed) (keep_better_card best card proof client)
    unfolding on_card
    card_taken h = ap (on_card next client sender nonce card proof addressed) e ∙ guard_passes 18 _ _ h

module _ (client : Client) (sender : ReplicaId) (timestamp : ℕ) (digest signature : List ℕ) where
  pub no_prepareds : (phase : Phase) → ((asked : Timestamp) (counted : ReplicaSet) → phase ≡ Prepareds asked counted → ⊥) → on_prepared client sender timestamp digest signature phase ≡ refused 18
  unfolding on_prepared
  no_prepareds Idle k = refl
  no_prepareds (Stamps asked best counted) k = refl
  no_prepareds (Prepareds asked counted) k = absurd (k asked counted refl)
  no_prepareds (Writtens asked counted) k = refl
  no_prepareds (Cards asked best counted showed) k = refl
  no_prepareds (WriteBack asked counted) k = refl

  module _ {phase : Phase} {asked : Timestamp} {counted : ReplicaSet} (e : phase ≡ Prepareds asked counted) where
    pub prepared_refused : (eqb timestamp (number asked) && (same digest client.digest && is_new counted sender)) ≡ false → on_prepared client sender timestamp digest signature phase ≡ refused 18
    unfolding on_prepared
    prepared_refused h = ap (on_prepared client sender timestamp digest signature) e ∙ guard_refuses 18 _ _ h

    pub prepared_taken : (eqb timestamp (number asked) && (same digest client.digest && is_new counted sender)) ≡ true
        → on_prepared client sender timestamp digest signature phase ≡ after_prepared asked (with counted sender) (with_signatures (with_signature client.signatures sender signature) client)
    unfolding on_prepared
    prepared_taken h = ap (on_prepared client sender timestamp digest signature) e ∙ guard_passes 18 _ _ h

module _ (client : Client) (sender : ReplicaId) (timestamp : ℕ) (signature : List ℕ) where
  pub no_writtens : (phase : Phase) → ((asked : Timestamp) (counted : ReplicaSet) → phase ≡ Writtens asked counted → ⊥) → ((asked : Timestamp) (counted : ReplicaSet) → phase ≡ WriteBack asked counted → ⊥) → on_written client sender timestamp signature phase ≡ refused 18
  unfolding on_written
  no_writtens Idle k h = refl
  no_writtens (Stamps asked best counted) k h = refl
  no_writtens (Prepareds asked counted) k h = refl
  no_writtens (Writtens asked counted) k h = absurd (k asked counted refl)
  no_writtens (Cards asked best counted showed) k h = refl
  no_writtens (WriteBack asked counted) k h = absurd (h asked counted refl)

  module _ {phase : Phase} {asked : Timestamp} {counted : ReplicaSet} where
    pub written_refused : phase ≡ Writtens asked counted → (eqb timestamp (number asked) && is_new counted sender) ≡ false → on_written client sender timestamp signature phase ≡ refused 18
    unfolding on_written
    written_refused e h = ap (on_written client sender timestamp signature) e ∙ guard_refuses 18 _ _ h

    pub written_taken : phase ≡ Writtens asked counted → (eqb timestamp (number asked) && is_new counted sender) ≡ true
        → on_written client sender timestamp signature phase ≡ after_written asked (with counted sender) (with_signatures (with_signature client.signatures sender signature) client)
    unfolding on_written
    written_taken e h = ap (on_written client sender timestamp signature) e ∙ guard_passes 18 _ _ h

    pub back_refused : phase ≡ WriteBack asked counted → (eqb timestamp (number asked) && is_new counted sender) ≡ false → on_written client sender timestamp signature phase ≡ refused 18
    unfolding on_written
    back_refused e h = ap (on_written client sender timestamp signature) e ∙ guard_refuses 18 _ _ h

    pub back_taken : phase ≡ WriteBack asked counted → (eqb timestamp (number asked) && is_new counted sender) ≡ true
        → on_written client sender timestamp signature phase ≡ after_write_back asked (with counted sender) client
    unfolding on_written
    back_taken e h = ap (on_written client sender timestamp signature) e ∙ guard_passes 18 _ _ h
