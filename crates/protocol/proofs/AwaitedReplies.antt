-- A client takes each reply that it awaits, of a replica that it has not counted: whatever a STAMP or a CARD shows, and until there are q of them. Assumes
-- nothing.
use mathlib.Core.Path.{◌≡◌, refl, sym, subst, ◌∙◌}
use mathlib.Core.Bool.{Bool, true, false, cond}
use mathlib.Core.List.{List}
use mathlib.Core.Option.{Option, none, some}
use Prim.Native.Nat.{ℕ}
use borrow.Author.Tests.{eq-eqb}
use Rattle.std.specs.declared.option.Option.{Option as CodeOption}
use Rattle.std.specs.declared.option.Option.TheVariants.{Some, None}
use Rattle.base.specs.Outcome.{Outcome, accepted, guard}
use Rattle.base.specs.ReplicaSet.{has}
use Rattle.base.specs.Timestamp.{number, successor}
use Rattle.base.specs.declared.party.ReplicaId.{ReplicaId}
use Rattle.base.specs.declared.replica_set.ReplicaSet.{ReplicaSet}
use Rattle.base.specs.declared.timestamp.Timestamp.{Timestamp}
use Rattle.base.proofs.Outcome.{guard_passes}
use Rattle.base.proofs.Same.{same_itself}
use Rattle.wire.specs.Message.{Message, STAMP, PREPARED, WRITTEN, CARD}
use Rattle.wire.specs.Proof.{PreparedProof}
use Rattle.protocol.specs.Client.{Turn, enough, AfterCards, to_prepare, after_stamp, on_stamp, after_prepared, on_prepared, after_written, after_write_back, on_written, after_card, count_card, on_card, on_reply}
use Rattle.protocol.specs.Parts.{card_stands}
use Rattle.protocol.specs.Viewer.{after_view, on_viewer_reply}
use Rattle.protocol.specs.declared.client.Client.{Client}
use Rattle.protocol.specs.declared.client.Phase.{Phase}
use Rattle.protocol.specs.declared.client.Phase.TheVariants.{Stamps, Prepareds, Writtens, Cards, WriteBack}

abbrev pub Takes : Outcome Turn → Type 0
Takes out = (turn : Turn) × (out ≡ accepted turn)

pub either : (b : Bool) (yes_then no_then : Outcome Turn) → Takes yes_then → Takes no_then → Takes (cond b yes_then no_then)
either true yes_then no_then y n = y
either false yes_then no_then y n = n

-- Behind a test that is passed.
passing : (number : ℕ) (test : Bool) (next : Outcome Turn) → test ≡ true → Takes next → Takes (guard number test next)
passing number test next passed (turn, e) = (turn, guard_passes number test next passed ∙ e)

module _ (now : Client) where
  stamp_taken : (nonce : ℕ) (best : Timestamp) (counted : ReplicaSet) → Takes (after_stamp nonce best counted now)
  unfolding after_stamp
  stamp_taken nonce best counted = either (enough now counted) _ _ (to_prepare_lem (successor best now.id)) (_, refl)
    where
      to_prepare_lem : (next : CodeOption Timestamp) → Takes (to_prepare now best next)
      to_prepare_lem None = (_, refl)
      to_prepare_lem (Some next) = (_, refl)

  prepared_taken : (timestamp : Timestamp) (counted : ReplicaSet) → Takes (after_prepared timestamp counted now)
  unfolding after_prepared
  prepared_taken timestamp counted = either (enough now counted) _ _ (_, refl) (_, refl)

  written_taken : (timestamp : Timestamp) (counted : ReplicaSet) → Takes (after_written timestamp counted now)
  unfolding after_written
  written_taken timestamp counted = either (enough now counted) _ _ (_, refl) (_, refl)

  back_taken : (timestamp : Timestamp) (counted : ReplicaSet) → Takes (after_write_back timestamp counted now)
  unfolding after_write_back
  back_taken timestamp counted = either (enough now counted) _ _ (_, refl) (_, refl)

  cards_taken_lem : (best : Timestamp) (showed : ReplicaSet) → Takes (after_card best showed now) × Takes (after_view best showed now)
  unfolding after_card after_view
  cards_taken_lem best showed = (either (enough now showed) _ _ (_, refl) (_, refl), (_, refl))

  card_taken : (next : AfterCards) → ((best : Timestamp) (showed : ReplicaSet) → Takes (next best showed now)) → (nonce : ℕ) (best : Timestamp) (counted showed : ReplicaSet) → Takes (count_card next nonce best counted showed now)
  unfolding count_card
  card_taken next taken nonce best counted showed = either (enough now counted) _ _ (taken _ _) (_, refl)

module _ (now : Client) (own : List ℕ) (from : ReplicaId) where
  -- As a writer.
  abbrev pub Taken : Message → Type 0
  Taken r = Takes (on_reply now own r)

  -- What the client makes of it in its phase.
  in_phase : (of : Phase → Outcome Turn) (phase : Phase) → now.phase ≡ phase → Takes (of phase) → Takes (of now.phase)
  in_phase of phase at it = subst (λ (p : Phase). Takes (of p)) (sym at) it

  pub takes_stamp : (nonce : ℕ) (proof : Option PreparedProof) (best : Timestamp) (counted : ReplicaSet) → now.phase ≡ Stamps nonce best counted → has counted from ≡ false → Taken (STAMP from nonce proof now.id)
  unfolding on_reply on_stamp
  takes_stamp nonce proof best counted at e = in_phase (on_stamp now from nonce proof now.id) _ at (passing 18 _ _ (simp (eq-eqb nonce nonce refl, eq-eqb now.id.0 now.id.0 refl, e) refl) (stamp_taken _ _ _ _))

  pub takes_prepared : (timestamp : Timestamp) (counted : ReplicaSet) → now.phase ≡ Prepareds timestamp counted → has counted from ≡ false → Taken (PREPARED from (number timestamp) now.digest)
  unfolding on_reply on_prepared
  takes_prepared timestamp counted at e =
      in_phase (on_prepared now from (number timestamp) now.digest own) _ at (passing 18 _ _ (simp (eq-eqb (number timestamp) (number timestamp) refl, same_itself now.digest, e) refl) (prepared_taken _ _ _))

  pub takes_written : (timestamp : Timestamp) (counted : ReplicaSet) → now.phase ≡ Writtens timestamp counted → has counted from ≡ false → Taken (WRITTEN from (number timestamp))
  unfolding on_reply on_written
  takes_written timestamp counted at e = in_phase (on_written now from (number timestamp) own) _ at (passing 18 _ _ (simp (eq-eqb (number timestamp) (number timestamp) refl, e) refl) (written_taken _ _ _))

  pub takes_back : (timestamp : Timestamp) (counted : ReplicaSet) → now.phase ≡ WriteBack timestamp counted → has counted from ≡ false → Taken (WRITTEN from (number timestamp))
  unfolding on_reply on_written
  takes_back timestamp counted at e = in_phase (on_written now from (number timestamp) own) _ at (passing 18 _ _ (simp (eq-eqb (number timestamp) (number timestamp) refl, e) refl) (back_taken _ _ _))

  -- In a read or a view.
  pub takes_card : (nonce : ℕ) (card : List ℕ) (proof : Option PreparedProof) (best : Timestamp) (counted showed : ReplicaSet) → now.phase ≡ Cards nonce best counted showed → has counted from ≡ false
      → card_stands card proof ≡ true → Taken (CARD from nonce card proof now.id) × Takes (on_viewer_reply now (CARD from nonce card proof now.id))
  unfolding on_reply on_viewer_reply on_card
  takes_card nonce card proof best counted showed at e stands =
      let shows : (next : AfterCards) → ((after : Client) (largest : Timestamp) (with_it : ReplicaSet) → Takes (next largest with_it after)) → Takes (on_card next now from nonce card proof now.id now.phase) =
      λ next taken. in_phase (on_card next now from nonce card proof now.id) _ at (passing 18 _ _ (simp (eq-eqb nonce nonce refl, eq-eqb now.id.0 now.id.0 refl, e) refl) (card_taken _ next (taken _) _ _ _ _)) in
      (passing 14 _ _ stands (shows after_card (λ after largest with_it. (cards_taken_lem after largest with_it).0)), passing 14 _ _ stands (shows after_view (λ after largest with_it. (cards_taken_lem after largest with_it).1)))
