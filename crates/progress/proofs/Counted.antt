-- The replicas that a client has counted in its phase are no quorum: the reply that makes one ends the phase. Assumes nothing.
use mathlib.Core.Path.{◌≡◌, refl, ap, subst, ◌∙◌}
use mathlib.Core.Bool.{true, false}
use mathlib.Core.List.{List}
use Prim.Native.Nat.{ℕ, zero, suc}
use Rattle.base.specs.ReplicaSet.{empty, is_quorum}
use Rattle.base.specs.declared.party.ClientId.{ClientId}
use Rattle.base.specs.declared.replica_set.ReplicaSet.{ReplicaSet}
use Rattle.protocol.specs.Client.{Turn}
use Rattle.protocol.specs.declared.client.Client.{Client}
use Rattle.protocol.specs.declared.client.Phase.{Phase}
use Rattle.protocol.specs.declared.client.Phase.TheVariants.{Idle, Stamps, Prepareds, Writtens, Cards, WriteBack}
use Rattle.protocol.proofs.ClientCases.{ClientCase, stamp_counted, stamps_enough, stamps_ended, prepared_counted, prepareds_enough, written_counted, writtens_enough, card_counted, cards_agree, cards_viewed, cards_differ, back_counted, back_enough}
use Rattle.run.specs.Run.{Run, client_at}
use Rattle.run.proofs.Operations.{empty_few}
use Rattle.run.proofs.Turns.{good_client, ClientTurn, rested, wrote, asked, heard, made_again, took, client_turn_lem}
use Rattle.wire.specs.Message.{Message}

abbrev pub counted_in : Phase → ReplicaSet
counted_in Idle = empty
counted_in (Stamps nonce best counted) = counted
counted_in (Prepareds timestamp counted) = counted
counted_in (Writtens timestamp counted) = counted
counted_in (Cards nonce best counted showed) = counted
counted_in (WriteBack timestamp counted) = counted

module _ (f : ℕ) where
  abbrev Few : Phase → Type 0
  Few phase = is_quorum f (counted_in phase) ≡ false

  few_after : (now : Client) (own : List ℕ) (message : Message) (turn : Turn) → now.f ≡ f → ClientCase now own message turn → Few turn.next.phase
  few_after now own message turn same case = go case
    where
      to : (phase : Phase) → turn.next.phase ≡ phase → Few phase → Few turn.next.phase
      to phase e few = ap (λ (p : Phase). is_quorum f (counted_in p)) e ∙ few

      here : (set : ReplicaSet) → is_quorum now.f set ≡ false → is_quorum f set ≡ false
      here set few = subst (λ (g : ℕ). is_quorum g set ≡ false) same few

      go : ClientCase now own message turn → Few turn.next.phase
      go (stamp_counted s n p b k e₁ e₂ new e₄ e₅ left) = to _ left.phase_is (here _ new.2)
      go (stamps_enough s n p b k next shown last e₁ e₂ e₃ e₄ e₅ e₆ e₇ e₈ e₉ e₁₀ left) = to _ left.phase_is (empty_few f)
      go (stamps_ended s n p b k e₁ e₂ e₃ left) = to _ left.phase_is (empty_few f)
      go (prepared_counted s t k e₁ e₂ new e₄ e₅ left) = to _ left.phase_is (here _ new.2)
      go (prepareds_enough s t k p e₁ e₂ e₃ e₄ e₅ e₆ e₇ left) = to _ left.phase_is (empty_few f)
      go (written_counted s t k e₁ e₂ new e₄ e₅ left) = to _ left.phase_is (here _ new.2)
      go (writtens_enough s t k e₁ e₂ e₃ e₄ e₅ left) = to _ left.phase_is (empty_few f)
      go (card_counted s n c p b k g e₁ e₂ new e₄ e₅ e₆ left) = to _ left.phase_is (here _ new.2)
      go (cards_agree s n c p b k g e₁ e₂ e₃ e₄ e₅ left) = to _ left.phase_is (empty_few f)
      go (cards_viewed s n c p b k g e₁ e₂ e₃ e₄ e₅ left) = to _ left.phase_is (empty_few f)
      go (cards_differ s n c p b k g e₁ e₂ e₃ e₄ differ e₆ e₇ left) = to _ left.phase_is (here _ differ)
      go (back_counted s t k e₁ e₂ new e₄ left) = to _ left.phase_is (here _ new.2)
      go (back_enough s t k e₁ e₂ e₃ left) = to _ left.phase_is (empty_few f)

pub few_counted : (R : Run) (id : ClientId) → R.correct_client id ≡ true → (t : ℕ) → is_quorum R.f (counted_in (client_at R id t).phase) ≡ false
unfolding client_at
few_counted R id c zero = empty_few R.f
few_counted R id c (suc t) = go (few_counted R id c t) (client_turn_lem R id c t)
  where
    to : (next : Client) → client_at R id (suc t) ≡ next → (phase : Phase) → next.phase ≡ phase → is_quorum R.f (counted_in phase) ≡ false → is_quorum R.f (counted_in (client_at R id (suc t)).phase) ≡ false
    to next e phase q few = ap (λ (now : Client). is_quorum R.f (counted_in now.phase)) e ∙ ap (λ (p : Phase). is_quorum R.f (counted_in p)) q ∙ few

    go : is_quorum R.f (counted_in (client_at R id t).phase) ≡ false → ClientTurn R id t → is_quorum R.f (counted_in (client_at R id (suc t)).phase) ≡ false
    go few (rested same silent) = to _ same _ refl few
    go few (wrote x card turn e b s) = to _ s.next_is _ b.phase_is (empty_few R.f)
    go few (asked x turn e b s) = to _ s.next_is _ b.phase_is (empty_few R.f)
    go few (heard h) = to _ h.step.next_is _ refl (few_after R.f (client_at R id t) _ h.message h.turn (good_client R id c t).f_is h.facts.case)
    go few (made_again nonce e positive s) = to _ s.next_is _ refl (empty_few R.f)
    go few (took x bytes verdicts next e it s) = to _ (s.next_is ∙ it.after_is) _ it.was_idle (empty_few R.f)
