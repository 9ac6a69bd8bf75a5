-- What a correct replica holds in a register is sound, and so are its replies. Assumes nothing.
use mathlib.Core.Path.{◌≡◌, refl, sym, subst}
use mathlib.Core.Bool.{true}
use mathlib.Core.List.{List}
use Prim.Native.Nat.{ℕ, zero, suc}
use native.Mathlib.Omega.{arith}
use Rattle.base.specs.Outcome.{accepted}
use Rattle.base.specs.Party.{is_register, register_place}
use Rattle.base.specs.declared.party.RegisterId.{RegisterId}
use Rattle.base.specs.declared.party.ReplicaId.{ReplicaId}
use Rattle.base.proofs.Registers.{place_below}
use Rattle.base.proofs.Same.{same_itself}
use Rattle.protocol.specs.Client.{send}
use Rattle.protocol.specs.Parts.{start_card, card_stands}
use Rattle.protocol.specs.RegisterReplica.{held_proof, held_card, fresh_register}
use Rattle.protocol.specs.declared.replica.Held.{Held}
use Rattle.protocol.specs.declared.replica.RegisterReplica.{RegisterReplica}
use Rattle.protocol.proofs.BankFacts.{fresh_part}
use Rattle.protocol.proofs.RegisterFacts.{ReplyTo, HeldChange, stays, stores}
use Rattle.run.specs.Run.{Run, bank_at, register_replica_at, register_at, register_of, answer_at, At}
use Rattle.run.proofs.Turns.{RegisterTurn, rests, steps, register_turn, RegisterStep, register_step_lem, step_register, step_for, step_passed}
use Rattle.wire.specs.Acceptance.{replica}
use Rattle.wire.specs.Decode.{register_in}
use Rattle.wire.specs.Message.{Message, READ-STAMP, PREPARE, WRITE, READ, STAMP, PREPARED, WRITTEN, CARD}
use Rattle.wire.specs.Signatures.{prepared_signatures}
use Rattle.wire.proofs.Tests7To11.{Passed}
use Rattle.progress.proofs.Sound.{Stands, ProofSound, none_sound, proof_later, Sound, Came, to_a_replica, taken_sound}

module _ (R : Run) (x : RegisterId) where
  record HeldSound (t : ℕ) (held : Held) : Type 0 where
    proof : ProofSound R (prepared_signatures x) t (held_proof held)
    stands : card_stands (held_card held) (held_proof held) ≡ true

  held_later : (t : ℕ) (held : Held) → HeldSound t held → HeldSound (suc t) held
  held_later t held h = record { proof = proof_later R t (suc t) (held_proof held) (omega arith) h.proof; stands = h.stands }

  -- What is replied to a request is as sound as what is held.
  reply_sound : (id : ReplicaId) (t : ℕ) → HeldSound t (register_at R x id t).held → (verdicts : List ℕ) (m r : Message) → ReplyTo (register_replica_at R x id t) m r → Passed R.f m verdicts → Sound R x t r
  reply_sound id t h verdicts (READ-STAMP client nonce) r e p = rw e (record { prepared = h.proof; written = none_sound R; field_issued = refl; stands = tt })
  reply_sound id t h verdicts (PREPARE client timestamp digest proof last) r e p = rw e (record { prepared = none_sound R; written = none_sound R; field_issued = p.field_issued; stands = tt })
  reply_sound id t h verdicts (WRITE client card proof) r e p = rw e (record { prepared = none_sound R; written = none_sound R; field_issued = p.prepared_issued; stands = tt })
  reply_sound id t h verdicts (READ client nonce) r e p = rw e (record { prepared = h.proof; written = none_sound R; field_issued = refl; stands = h.stands })
  reply_sound id t h verdicts (STAMP sender nonce proof client) r e p = absurd e
  reply_sound id t h verdicts (PREPARED sender timestamp digest) r e p = absurd e
  reply_sound id t h verdicts (WRITTEN sender timestamp) r e p = absurd e
  reply_sound id t h verdicts (CARD sender nonce card proof client) r e p = absurd e

  module _ (registered : is_register x ≡ true) (id : ReplicaId) (c : R.correct_replica id ≡ true) where
    step_came : (t : ℕ) (s : RegisterStep R x id t) → Came R t s.bytes s.verdicts x s.message
    step_came t s = subst (λ (y : RegisterId). Came R t s.bytes s.verdicts y s.message) (step_for R x registered id t s) (to_a_replica R t id s.bytes s.verdicts (register_in s.bytes) s.message s.event_is s.admitted.decodes)

    changed : (t : ℕ) (s : RegisterStep R x id t) (before after : Held) → HeldSound t before → HeldChange before after s.message → HeldSound (suc t) after
    changed t s before after h (stays same) = subst (HeldSound (suc t)) (sym same) (held_later t before h)
    changed t s before after h (stores client card proof e stands shown carried) =
        let sound = taken_sound R t s.bytes s.verdicts x s.message (step_came t s) (step_passed R x id c t s) (subst Stands (sym e) stands) in
        let there : Sound R x (suc t) (WRITE client card proof) = subst (Sound R x (suc t)) e sound in
        record { proof = subst (ProofSound R (prepared_signatures x) (suc t)) (sym shown) there.prepared; stands = rw (shown, carried) stands }

    fresh : HeldSound 0 fresh_register.held
    unfolding fresh_register
    fresh = record { proof = none_sound R; stands = same_itself start_card }

    held_sound : (t : ℕ) → HeldSound t (register_at R x id t).held
    unfolding bank_at
    held_sound zero = subst (λ (part : RegisterReplica). HeldSound 0 part.register.held) (sym (fresh_part R.f id (R.office_key id) (register_place x) (place_below x))) fresh
    held_sound (suc t) = go (held_sound t) (register_turn R x id c t)
      where
        go : HeldSound t (register_at R x id t).held → RegisterTurn R x id t → HeldSound (suc t) (register_at R x id (suc t)).held
        go h (rests same silent) = rw same (held_later t (register_at R x id t).held h)
        go h (steps s) = rw s.next_is (changed t s (register_at R x id t).held s.reply.next.register.held h s.facts.held_change)

    replied : (t : ℕ) (s : RegisterStep R x id t) → Sound R x t s.reply.message
    replied t s = reply_sound id t (held_sound t) s.verdicts s.message s.reply.message s.facts.reply_is (step_passed R x id c t s)

-- What a correct replica sends is sound, for the register of its event.
pub replied_sound : (R : Run) (id : ReplicaId) → R.correct_replica id ≡ true → (t : ℕ) (m : Message) (at : At R t (replica id)) → answer_at R t ≡ accepted (send m) → Sound R (register_of at.0) t m
replied_sound R id c t m at a =
    let x = register_of at.0 in
    let s = register_step_lem R x id c t m (at, refl, a) in
    let registered : is_register x ≡ true = subst (λ (y : RegisterId). is_register y ≡ true) (step_register R x id t s m (at, refl, a)) s.admitted.registered in
    let same : s.reply.message ≡ m = cc s.answer_is in
    subst (Sound R x t) same (replied R x registered id c t s)
