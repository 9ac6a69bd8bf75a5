-- What a client awaits: the replies to the message that it sent last. Such a reply, of a replica not yet counted, is taken, and its replica is counted.
-- Assumes nothing.
use mathlib.Core.Path.{◌≡◌, refl, sym, ap, subst, ◌∙◌}
use mathlib.Core.Bool.{true, false}
use mathlib.Core.List.{List}
use mathlib.Core.Option.{Option}
use Prim.Native.Nat.{ℕ}
use Rattle.base.specs.Party.{is_replica, is_writer}
use Rattle.base.specs.ReplicaSet.{has, with}
use Rattle.base.specs.Same.{same}
use Rattle.base.specs.Timestamp.{number}
use Rattle.base.specs.declared.party.ClientId.{ClientId}
use Rattle.base.specs.declared.party.ReplicaId.{ReplicaId}
use Rattle.base.specs.declared.replica_set.ReplicaSet.{ReplicaSet}
use Rattle.protocol.specs.Client.{send, waits, Turn}
use Rattle.protocol.specs.RegisterReplica.{held_card, held_proof}
use Rattle.protocol.specs.declared.client.Client.{Client}
use Rattle.protocol.specs.declared.client.Phase.{Phase}
use Rattle.protocol.specs.declared.client.Phase.TheVariants.{Idle, Stamps, Prepareds, Writtens, Cards, WriteBack}
use Rattle.protocol.specs.declared.replica.RegisterReplica.{RegisterReplica}
use Rattle.protocol.proofs.AwaitedReplies.{Takes, either, Taken, takes_stamp, takes_prepared, takes_written, takes_back, takes_card}
use Rattle.protocol.proofs.ClientCases.{is_over, Leaves, OneMore, ClientCase, stamp_counted, stamps_enough, stamps_ended, prepared_counted, prepareds_enough, written_counted, writtens_enough, card_counted, cards_agree, cards_viewed, cards_differ, back_counted, back_enough}
use Rattle.protocol.proofs.RegisterFacts.{ReplyTo}
use Rattle.run.proofs.Turns.{client_takes}
use Rattle.wire.specs.Acceptance.{replica, sender_of, may_send}
use Rattle.wire.specs.Message.{Message, kind_of, READ-STAMP, PREPARE, WRITE, READ, CARD}
use Rattle.wire.specs.Proof.{PreparedProof, WrittenProof}
use Rattle.progress.proofs.Counted.{counted_in}
use Rattle.progress.proofs.Sound.{Stands}

-- The message whose replies are awaited, by the phase and the digest of the card.
abbrev pub Awaits : ClientId → Message → List ℕ → Phase → Type 0
Awaits id m digest Idle = ⊥
Awaits id m digest (Stamps nonce best counted) = m ≡ READ-STAMP id nonce
Awaits id m digest (Prepareds timestamp counted) = (proof : Option PreparedProof) × (last : Option WrittenProof) × (m ≡ PREPARE id (number timestamp) digest proof last)
Awaits id m digest (Writtens timestamp counted) = (c : List ℕ) × (proof : PreparedProof) × (m ≡ WRITE id c proof) × (proof.timestamp ≡ number timestamp)
Awaits id m digest (Cards nonce best counted showed) = m ≡ READ id nonce
Awaits id m digest (WriteBack timestamp counted) = (c : List ℕ) × (proof : PreparedProof) × (m ≡ WRITE id c proof) × (proof.timestamp ≡ number timestamp)

abbrev pub AwaitsNow : Client → Message → Type 0
AwaitsNow now m = Awaits now.id m now.digest now.phase

-- ---- A step goes on counting, sends the next message, or is over

pub data Onward (now : Client) (m message : Message) (turn : Turn) : Type 0 where
  counts : (sender : ReplicaId) → turn.answer ≡ waits → AwaitsNow turn.next m → sender_of message ≡ replica sender → is_replica now.f sender ≡ true → counted_in turn.next.phase ≡ with (counted_in now.phase) sender
      → Onward now m message turn
  asks_next : (next : Message) → turn.answer ≡ send next → AwaitsNow turn.next next → Onward now m message turn
  is_over_lem : is_over turn.answer ≡ true → Onward now m message turn

module _ (now : Client) (own : List ℕ) (m message : Message) (turn : Turn) (same_id : turn.next.id ≡ now.id) (a : AwaitsNow now m) where
  abbrev Was : Phase → Type 0
  Was phase = Awaits now.id m now.digest phase

  abbrev Next : Message → Phase → Type 0
  Next next phase = Awaits now.id next turn.next.digest phase

  -- The phase that is left awaits this.
  now_awaits : (next : Message) (phase : Phase) → turn.next.phase ≡ phase → Next next phase → AwaitsNow turn.next next
  now_awaits next phase e it =
      subst (λ (p : Phase). Awaits turn.next.id next turn.next.digest p) (sym e) (subst (λ (i : ClientId). Awaits i next turn.next.digest phase) (sym same_id) it)

  counting : (sender : ReplicaId) (counted : ReplicaSet) (was is : Phase) → now.phase ≡ was → counted_in was ≡ counted → Leaves turn waits is → counted_in is ≡ with counted sender
      → sender_of message ≡ replica sender → OneMore now sender counted false → (Was was → Next m is) → Onward now m message turn
  counting sender counted was is e k left k' by new on =
      counts sender left.answer_is (now_awaits m is left.phase_is (on (subst Was e a))) by new.0 (ap counted_in left.phase_is ∙ k' ∙ ap (λ (set : ReplicaSet). with set sender) (sym k ∙ ap counted_in (sym e)))

  asking : (next : Message) (is : Phase) → Leaves turn (send next) is → Next next is → Onward now m message turn
  asking next is left it = asks_next next left.answer_is (now_awaits next is left.phase_is it)

  pub onward : ClientCase now own message turn → Onward now m message turn
  onward (stamp_counted sender nonce proof best counted e at new kept better left) = counting sender counted _ _ at refl left refl (ap sender_of e) new (λ it. it)
  onward (stamps_enough sender nonce proof best counted next shown last e at new succ kept digest nobody shown_is shows last_is left) = asking _ _ left (shown, last, rw digest refl)
  onward (stamps_ended sender nonce proof best counted e at none_next left) = is_over_lem (ap is_over left.answer_is)
  onward (prepared_counted sender timestamp counted e at new same signatures left) = counting sender counted _ _ at refl left refl (ap sender_of e) new (λ it. rw same.digest_kept it)
  onward (prepareds_enough sender timestamp counted proof e at new kept from built is left) = asking _ _ left (_, proof, refl, ap (λ (p : PreparedProof). p.timestamp) is)
  onward (written_counted sender timestamp counted e at new same signatures left) = counting sender counted _ _ at refl left refl (ap sender_of e) new (λ it. it)
  onward (writtens_enough sender timestamp counted e at new built written left) = is_over_lem (ap is_over left.answer_is)
  onward (card_counted sender nonce card proof best counted showed e at new stands carried better left) = counting sender counted _ _ at refl left refl (ap sender_of e) new (λ it. it)
  onward (cards_agree sender nonce card proof best counted showed e at new stands full left) = is_over_lem (ap is_over left.answer_is)
  onward (cards_viewed sender nonce card proof best counted showed e at new stands no_writer left) = is_over_lem (ap is_over left.answer_is)
  onward (cards_differ sender nonce card proof best counted showed e at new stands differ carried better left) = asking _ _ left (_, _, refl, refl)
  onward (back_counted sender timestamp counted e at new same left) = counting sender counted _ _ at refl left refl (ap sender_of e) new (λ it. it)
  onward (back_enough sender timestamp counted e at new left) = is_over_lem (ap is_over left.answer_is)

-- ---- What is replied to the awaited message is taken

module _ (now : Client) (own : List ℕ) (from : ReplicaId) where
  -- A replica's reply; all but READ are a writer's to send.
  pub takes_reply : (part : RegisterReplica) (m r : Message) → part.id ≡ from → AwaitsNow now m → may_send (kind_of m) (sender_of m) ≡ true → ReplyTo part m r → Stands r → has (counted_in now.phase) from ≡ false
      → Takes (client_takes now.id now own r)
  takes_reply part m r is a may replies stands e = go now.phase refl a e
    where
      as_writer : (n : Message) → m ≡ n → may_send (kind_of n) (sender_of n) ≡ is_writer now.id → Taken now own from r → Takes (client_takes now.id now own r)
      as_writer n q w (turn, k) = let writer : is_writer now.id ≡ true = sym w ∙ subst (λ (p : Message). may_send (kind_of p) (sender_of p) ≡ true) q may in (turn, rw writer k)

      reply : (n : Message) → m ≡ n → ReplyTo part n r
      reply n q = subst (λ (p : Message). ReplyTo part p r) q replies

      go : (phase : Phase) → now.phase ≡ phase → Awaits now.id m now.digest phase → has (counted_in phase) from ≡ false → Takes (client_takes now.id now own r)
      go Idle at q e = absurd q
      go (Stamps nonce best counted) at q e =
          let is_reply = reply (READ-STAMP now.id nonce) q in
          as_writer _ q refl (rw (is_reply, is) (takes_stamp now own from nonce _ best counted at e))
      go (Prepareds timestamp counted) at (proof, last, q) e = as_writer _ q refl (rw (reply _ q, is) (takes_prepared now own from timestamp counted at e))
      go (Writtens timestamp counted) at (c, proof, q, t) e = as_writer _ q refl (rw (reply _ q, is, t) (takes_written now own from timestamp counted at e))
      go (WriteBack timestamp counted) at (c, proof, q, t) e = as_writer _ q refl (rw (reply _ q, is, t) (takes_back now own from timestamp counted at e))
      go (Cards nonce best counted showed) at q e =
          let card = held_card part.register.held in
          let proof = held_proof part.register.held in
          let is_card_lem : r ≡ CARD from nonce card proof now.id = reply _ q ∙ ap (λ (i : ReplicaId). CARD i nonce card proof now.id) is in
          let both = takes_card now own from nonce card proof best counted showed at e (subst Stands is_card_lem stands) in
          subst (λ (p : Message). Takes (client_takes now.id now own p)) (sym is_card_lem) (either (is_writer now.id) _ _ both.0 both.1)
