-- What a replica holds never falls, with its proof's signers, and its replies show it. Assumes nothing.
use mathlib.Core.Path.{◌≡◌, refl, sym, ap, subst, ◌∙◌}
use mathlib.Core.Bool.{true}
use mathlib.Core.List.{List}
use mathlib.Core.Option.{Option}
use Prim.Native.Nat.{ℕ, zero, suc, ◌≤◌, ◌<◌}
use native.Mathlib.Omega.{arith}
use Rattle.base.specs.Party.{register_place}
use Rattle.base.specs.declared.party.ClientId.{ClientId}
use Rattle.base.specs.declared.party.RegisterId.{RegisterId}
use Rattle.base.specs.declared.party.ReplicaId.{ReplicaId}
use Rattle.base.proofs.Registers.{place_below}
use Rattle.wire.specs.Message.{Message, READ-STAMP, READ, STAMP, WRITTEN, CARD}
use Rattle.wire.specs.Proof.{PreparedProof}
use Rattle.protocol.specs.RegisterReplica.{held_proof, fresh_register}
use Rattle.protocol.specs.declared.replica.RegisterReplica.{RegisterReplica}
use Rattle.run.specs.Premises.{Premises}
use Rattle.run.specs.Vouching.{SignersOfHeld}
use Rattle.wire.specs.Acceptance.{replica, client}
use Rattle.run.specs.Run.{Run, bank_at, register_at, held, Said}
use Rattle.protocol.proofs.BankFacts.{fresh_part}
use Rattle.protocol.proofs.RegisterFacts.{SignersHeld, held_shown}
use Rattle.run.proofs.Turns.{onwards, RegisterTurn, rests, steps, register_turn, register_step_lem}
use Rattle.run.proofs.SentMessages.{said_answers, step_said}
use Rattle.wire.specs.Parts.{prepared_timestamp}

module _ (R : Run) (x : RegisterId) where
  module _ (id : ReplicaId) (c : R.correct_replica id ≡ true) where
    held_step : (t : ℕ) → held R x id t ≤ held R x id (suc t)
    held_step t = go (register_turn R x id c t)
      where
        go : RegisterTurn R x id t → held R x id t ≤ held R x id (suc t)
        go (rests same silent) = rw same (omega arith)
        go (steps s) = rw s.next_is s.facts.held_rises

    pub held_rises : (t t' : ℕ) → t ≤ t' → held R x id t ≤ held R x id t'
    held_rises t t' l = onwards {P = λ u. held R x id t ≤ held R x id u} (λ u h. omega (arith, held_step u)) t t' l (omega arith)

    -- A replica that sent WRITTEN holds that timestamp or a later one.
    pub written_held : (t s : ℕ) → Said R x (replica id) (WRITTEN id s) t → s ≤ held R x id t
    written_held t s e =
        let step = register_step_lem R x id c e.time (WRITTEN id s) (said_answers R x id (WRITTEN id s) t e) in
        let same : step.reply.message ≡ WRITTEN id s = cc (step.answer_is, e.answered) in
        let then : s ≤ held R x id (suc e.time) = rw step.next_is (step.facts.written_sent id s same).1 in
        let since = held_rises (suc e.time) t e.earlier in
        omega arith

  -- In every run, whatever verdicts were handed over.
  pub signers_of_held : SignersOfHeld R x
  unfolding bank_at fresh_register
  signers_of_held id c zero = subst (λ (part : RegisterReplica). SignersHeld part.register.held) (sym (fresh_part R.f id (R.office_key id) (register_place x) (place_below x))) refl
  signers_of_held id c (suc t) = go (register_turn R x id c t) (signers_of_held id c t)
    where
      go : RegisterTurn R x id t → SignersHeld (register_at R x id t).held → SignersHeld (register_at R x id (suc t)).held
      go (rests same silent) was = rw same was
      go (steps s) was = rw s.next_is (s.facts.signers_held was)

  -- A reply that shows what a replica held at a time before t, after the client asked.
  pub record Showed (id : ReplicaId) (t : ℕ) (question : Message) (by : ClientId) (shown : ℕ) : Type 0 where
    pub time : ℕ
    pub earlier : time < t
    pub shows : shown ≡ held R x id time
    pub asked : Said R x (client by) question time

  module _ (P : Premises R) (id : ReplicaId) (c : R.correct_replica id ≡ true) (by : ClientId) (c' : R.correct_client by ≡ true) (nonce : ℕ) (proof : Option PreparedProof) (t : ℕ) where
    shown_held : (u : ℕ) → proof ≡ held_proof (register_at R x id u).held → prepared_timestamp proof ≡ held R x id u
    shown_held u e = ap prepared_timestamp e ∙ held_shown (register_at R x id u).held

    pub stamp_showed : Said R x (replica id) (STAMP id nonce proof by) t → Showed id t (READ-STAMP by nonce) by (prepared_timestamp proof)
    stamp_showed e =
        let a = said_answers R x id (STAMP id nonce proof by) t e in
        let step = register_step_lem R x id c e.time (STAMP id nonce proof by) a in
        let same : step.reply.message ≡ STAMP id nonce proof by = cc (step.answer_is, e.answered) in
        let q = step.facts.stamp_sent id nonce proof by same in
        record { time = e.time; earlier = e.earlier; shows = shown_held e.time q.1; asked = step_said R P x id e.time step (STAMP id nonce proof by) a (READ-STAMP by nonce) q.2 c' }

    pub card_showed : (card : List ℕ) → Said R x (replica id) (CARD id nonce card proof by) t → Showed id t (READ by nonce) by (prepared_timestamp proof)
    card_showed card e =
        let a = said_answers R x id (CARD id nonce card proof by) t e in
        let step = register_step_lem R x id c e.time (CARD id nonce card proof by) a in
        let same : step.reply.message ≡ CARD id nonce card proof by = cc (step.answer_is, e.answered) in
        let q = step.facts.card_sent id nonce card proof by same in
        record { time = e.time; earlier = e.earlier; shows = shown_held e.time q.1; asked = step_said R P x id e.time step (CARD id nonce card proof by) a (READ by nonce) q.2 c' }
