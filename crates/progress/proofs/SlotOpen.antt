-- A correct replica's slot takes the PREPARE of a correct client's operation while that lasts: it is unused, has this timestamp and digest, or has one
-- that the shown written proof closes. Assumes nothing.
use mathlib.Core.Path.{◌≡◌, refl, sym, ap, subst, ◌∙◌}
use mathlib.Core.Logic.{◌⊎◌, inl, inr, ⊎_elim}
use mathlib.Core.Bool.{Bool, true, false, ◌&&◌, ◌||◌, cond}
use mathlib.Core.List.{List}
use mathlib.Core.Option.{Option, none, some}
use Prim.Native.Nat.{ℕ, zero, suc, ◌-◌, ◌≤◌, ◌<◌}
use native.Mathlib.Omega.{arith}
use borrow.Author.Tests.{eqb-true, eq-eqb, le-leb, lt-ltb}
use lib.Dec.{eqb}
use lib.ListN.{get_or, replicate}
use Rattle.base.specs.Outcome.{accepted, guard}
use Rattle.base.specs.Party.{is_writer, is_register, register_place}
use Rattle.base.specs.Timestamp.{number, client_of}
use Rattle.base.specs.declared.party.ClientId.{ClientId}
use Rattle.base.specs.declared.party.RegisterId.{RegisterId}
use Rattle.base.specs.declared.party.ReplicaId.{ReplicaId}
use Rattle.base.proofs.Apart.{apart}
use Rattle.base.proofs.Outcome.{guard_passes}
use Rattle.base.proofs.Range.{bounds}
use Rattle.base.proofs.Registers.{place_below}
use Rattle.base.proofs.Same.{same_itself}
use Rattle.protocol.specs.Client.{written_record, written_kept}
use Rattle.protocol.specs.RegisterReplica.{slot_count, slot_digest, slot_timestamp, slot_is, slot_takes, raised, with_slot, with_written, after_prepare, fresh_register}
use Rattle.protocol.specs.declared.client.Written.{Written}
use Rattle.protocol.specs.declared.replica.Register.{Register}
use Rattle.protocol.specs.declared.replica.RegisterReplica.{RegisterReplica}
use Rattle.protocol.specs.declared.replica.Slots.{Slots}
use Rattle.protocol.proofs.BankFacts.{fresh_part}
use Rattle.protocol.proofs.RegisterFacts.{ReplyTo}
use Rattle.run.specs.Premises.{Premises}
use Rattle.run.specs.Run.{to_replica, Run, bank_at, register_replica_at, register_at, register_of, Said}
use Rattle.run.proofs.SentMessages.{said_later, step_said}
use Rattle.run.proofs.Turns.{same_client, Heard, RegisterTurn, rests, steps, register_turn, RegisterStep, step_for}
use Rattle.wire.specs.Acceptance.{client}
use Rattle.wire.specs.Message.{Message, PREPARE, PREPARED}
use Rattle.wire.specs.Parts.{timestamp_if_there}
use Rattle.wire.specs.Proof.{PreparedProof, WrittenProof}
use Rattle.progress.specs.Operations.{OneLaptop, Invocation, Lasts, Sends}
use Rattle.progress.proofs.Asked.{Current, AskedNow, sent_now, asked_now}
use Rattle.progress.proofs.Course.{begun_correct, lasted, begun_registered, heard_later, sends_for}
use Rattle.progress.proofs.OwnWritten.{last_at, last_timestamp, last_kept, own_below}

-- ---- Slots

abbrev pub Opens : ClientId → ℕ → List ℕ → ℕ → Slots → Type 0
Opens id timestamp digest last slots = (after : Slots) × (after_prepare id timestamp digest last slots ≡ accepted after)

open_slot : (id : ClientId) (timestamp : ℕ) (digest : List ℕ) (last : ℕ) (slots : Slots) → (slot_is id timestamp digest slots ≡ true) ⊎ (slot_takes id timestamp (raised last slots) slots ≡ true)
    → Opens id timestamp digest last slots
unfolding after_prepare
open_slot id timestamp digest last slots h = go (slot_is id timestamp digest slots) refl
  where
    new : Slots
    new = with_written (raised last slots) (with_slot id timestamp digest slots)

    go : (b : Bool) → slot_is id timestamp digest slots ≡ b
        → (after : Slots) × (cond b (accepted (with_written (raised last slots) slots)) (guard 15 (slot_takes id timestamp (raised last slots) slots) (accepted new)) ≡ accepted after)
    go true e = (_, refl)
    go false e = (new, ⊎_elim (λ k. apart (cc)) (λ k. guard_passes 15 (slot_takes id timestamp (raised last slots) slots) (accepted new) k) h)

-- One that is unused, and one that a shown timestamp closes, take a later timestamp.
unused_takes : (id : ClientId) (timestamp last : ℕ) (slots : Slots) → slot_count slots id ≡ 0 → slot_takes id timestamp (raised last slots) slots ≡ true
unused_takes id timestamp last slots z = rw (eq-eqb (slot_count slots id) 0 z) refl

closed_takes : (id : ClientId) (timestamp last : ℕ) (slots : Slots) → slot_timestamp slots id ≤ raised last slots → slot_timestamp slots id < timestamp → slot_takes id timestamp (raised last slots) slots ≡ true
closed_takes id timestamp last slots closed later =
    rw (le-leb (slot_timestamp slots id) (raised last slots) closed, lt-ltb (slot_timestamp slots id) timestamp later) (or_last (eqb (slot_count slots id) 0))
  where
    or_last : (a : Bool) → (a || (true && true)) ≡ true
    or_last true = refl
    or_last false = refl

-- The written proof that is shown raises the written timestamp at least to its own.
raised_least : (kept : Written) (slots : Slots) → number kept.timestamp ≤ raised (timestamp_if_there (written_kept kept)) slots
raised_least kept slots = go (eqb (number kept.timestamp) 0) refl
  where
    go : (b : Bool) → eqb (number kept.timestamp) 0 ≡ b → number kept.timestamp ≤ raised (timestamp_if_there (cond b none (some (written_record kept)))) slots
    go true e = let z = eqb-true (number kept.timestamp) 0 e in omega arith
    go false e = omega arith

zeros : (n i : ℕ) → ◌≡◌ {A = ℕ} (get_or (replicate n 0) i 0) 0
zeros zero i = refl
zeros (suc n) zero = refl
zeros (suc n) (suc i) = zeros n i

fresh_unused : (by : ClientId) → slot_count fresh_register.slots by ≡ 0
unfolding fresh_register
fresh_unused by = zeros 64 (by.0 - 1)

module _ (R : Run) (P : Premises R) (x : RegisterId) where
  abbrev slots_at : ReplicaId → ℕ → Slots
  slots_at id t = (register_at R x id t).slots

  -- ---- A slot has what its client asked

  abbrev SlotAsked : ReplicaId → ClientId → ℕ → Type 0
  SlotAsked id by t =
      (slot_count (slots_at id t) by ≡ 0)
      ⊎ ((proof : Option PreparedProof) × (last : Option WrittenProof) × Said R x (client by) (PREPARE by (slot_timestamp (slots_at id t) by) (slot_digest (slots_at id t) by) proof last) t)

  module _ (registered : is_register x ≡ true) (id : ReplicaId) (c : R.correct_replica id ≡ true) (by : ClientId) (c' : R.correct_client by ≡ true) (writer : is_writer by ≡ true) where
    kept_slot : (t : ℕ) → slot_count (slots_at id (suc t)) by ≡ slot_count (slots_at id t) by → slot_digest (slots_at id (suc t)) by ≡ slot_digest (slots_at id t) by → SlotAsked id by t → SlotAsked id by (suc t)
    kept_slot t same_count same_digest (inl z) = inl (same_count ∙ z)
    kept_slot t same_count same_digest (inr k) = inr (k.0, k.1, rw (same_count, same_digest) (said_later R x (client by) _ t (suc t) (omega arith) k.2))

    -- What a PREPARE left.
    put_slot : (t : ℕ) (s : RegisterStep R x id t) (digest : List ℕ) (proof : Option PreparedProof) (last : Option WrittenProof)
        → s.message ≡ PREPARE by (slot_timestamp s.reply.next.register.slots by) digest proof last → SlotAsked id by (suc t)
    put_slot t s digest proof last e =
        let slots = s.reply.next.register.slots in
        let timestamp = slot_timestamp slots by in
        let range = bounds 1 64 by.0 writer in
        let mine : client_of timestamp ≡ by = same_client (client_of timestamp) by (omega arith) in
        let replied : s.reply.message ≡ PREPARED (register_replica_at R x id t).id timestamp digest = subst (λ (m : Message). ReplyTo (register_replica_at R x id t) m s.reply.message) e s.facts.reply_is in
        let put : slot_digest slots by ≡ digest = subst (λ (i : ClientId). slot_digest slots i ≡ digest) mine (s.facts.prepared_sent (register_replica_at R x id t).id timestamp digest replied).3 in
        let said = step_said R P x id t s s.reply.message ((to_replica id s.bytes s.verdicts, s.event_is, refl), step_for R x registered id t s, s.answer_is) (PREPARE by timestamp digest proof last) e c' in
        let there : Said R x (client by) (PREPARE by timestamp (slot_digest slots by) proof last) (suc t) =
        subst (λ (d : List ℕ). Said R x (client by) (PREPARE by timestamp d proof last) (suc t)) (sym put) (said_later R x (client by) _ t (suc t) (omega arith) said) in
        inr (proof, last, subst (λ (y : Register). Said R x (client by) (PREPARE by (slot_timestamp y.slots by) (slot_digest y.slots by) proof last) (suc t)) (sym s.next_is) there)

    next_slot : (t : ℕ) → SlotAsked id by t → RegisterTurn R x id t → SlotAsked id by (suc t)
    next_slot t h (rests kept silent) = kept_slot t (ap (λ (y : Register). slot_count y.slots by) kept) (ap (λ (y : Register). slot_digest y.slots by) kept) h
    next_slot t h (steps s) =
        let range = bounds 1 64 by.0 writer in
        let to = s.next_is in
        ⊎_elim
        (λ (count : slot_count s.reply.next.register.slots by ≡ slot_count (slots_at id t) by).
        ⊎_elim
        (λ both. kept_slot t (ap (λ (y : Register). slot_count y.slots by) to ∙ both.0) (ap (λ (y : Register). slot_digest y.slots by) to ∙ both.1) h)
        (λ rises. absurd (omega arith))
        (s.facts.slots_rise by range.0 range.1))
        (λ changed. put_slot t s changed.1.0 changed.1.1 changed.1.2 changed.1.3)
        (s.facts.slot_change by range.0 range.1)

    slot_asked : (t : ℕ) → SlotAsked id by t
    unfolding bank_at
    slot_asked zero = inl (ap (λ (part : RegisterReplica). slot_count part.register.slots by) (fresh_part R.f id (R.office_key id) (register_place x) (place_below x)) ∙ fresh_unused by)
    slot_asked (suc t) = next_slot t (slot_asked t) (register_turn R x id c t)

  -- ---- An operation's PREPARE

  pub slot_open : (o : Invocation R x) (u t timestamp : ℕ) (digest : List ℕ) (proof : Option PreparedProof) (last : Option WrittenProof) (id : ReplicaId) → R.correct_replica id ≡ true → is_writer o.id ≡ true
      → Sends R x o u (PREPARE o.id timestamp digest proof last) → u < t → Lasts R x o t → OneLaptop R o.id 0 t → Opens o.id timestamp digest (timestamp_if_there last) (slots_at id t)
  slot_open o u t timestamp digest proof last id c writer s l lasts one =
      open_slot o.id timestamp digest (timestamp_if_there last) slots (go (slot_asked registered id c o.id own writer t))
    where
      own : R.correct_client o.id ≡ true
      own = begun_correct R x o

      registered : is_register x ≡ true
      registered = begun_registered R x o

      slots : Slots
      slots = slots_at id t

      for : register_of s.by.0 ≡ x
      for = sends_for R x o u (PREPARE o.id timestamp digest proof last) s

      asks : Heard R o.id u × Current R P o.id own x registered (suc u) timestamp digest × (last ≡ written_kept (last_at R P o.id own x u))
      asks = sent_now R P o.id own x registered u timestamp digest proof last s.by for s.answered

      begun : o.begun < u
      begun = heard_later R x o u asks.0 s.lasts.has_begun

      -- The written proof is as it was since the beginning.
      kept : (v : ℕ) → o.begun < v → v ≤ t → last_at R P o.id own x t ≡ last_at R P o.id own x v
      kept v low high =
          last_kept R P o.id own x registered o refl t (omega arith) lasts
          ∙ sym (last_kept R P o.id own x registered o refl v low (lasted R x o (omega arith) (omega arith) lasts))

      raises : last_timestamp R P o.id own x t ≤ raised (timestamp_if_there last) slots
      raises = rw (asks.2, kept u begun (omega arith)) (raised_least (last_at R P o.id own x u) slots)

      asked_for : (s : ℕ) (d : List ℕ) (proof : Option PreparedProof) (last : Option WrittenProof) → Said R x (client o.id) (PREPARE o.id s d proof last) t → AskedNow R P o.id own x registered t s d
      asked_for s d proof last said = asked_now R P o.id own x registered t s d proof last one said

      -- The client's own written timestamp is below this one,
      below : (last_at R P o.id own x t).own ≡ true → last_timestamp R P o.id own x t < timestamp
      below is_own =
          let same = kept (suc u) (omega (arith, begun)) l in
          subst (λ (w : Written). number w.timestamp < timestamp) (sym same)
          (own_below R P o.id own x registered (suc u) timestamp asks.1.1 asks.1.0 (subst (λ (w : Written). w.own ≡ true) same is_own))

      -- so this one is what it asks for now.
      current : Current R P o.id own x registered t timestamp digest
      current = ⊎_elim (λ (is_own, low). let b = below is_own in absurd (omega arith)) (λ k. k) (asked_for timestamp digest proof last (record { time = u; earlier = l; by = s.by; register_is = for; answered = s.answered }))

      Open : Type 0
      Open = (slot_is o.id timestamp digest slots ≡ true) ⊎ (slot_takes o.id timestamp (raised (timestamp_if_there last) slots) slots ≡ true)

      by_asked : AskedNow R P o.id own x registered t (slot_timestamp slots o.id) (slot_digest slots o.id) → Open
      by_asked (inl (is_own, low)) = inr (closed_takes o.id timestamp (timestamp_if_there last) slots (omega (arith, raises)) (omega (arith, below is_own)))
      by_asked (inr k) =
          let same_timestamp : slot_timestamp slots o.id ≡ timestamp = cc (k.1, current.1) in
          let same_digest : slot_digest slots o.id ≡ digest = sym k.2 ∙ current.2 in
          inl (rw (eq-eqb (slot_timestamp slots o.id) timestamp same_timestamp, same_digest) (same_itself digest))

      go : SlotAsked id o.id t → Open
      go (inl z) = inr (unused_takes o.id timestamp (timestamp_if_there last) slots z)
      go (inr k) = by_asked (asked_for (slot_timestamp slots o.id) (slot_digest slots o.id) k.0 k.1 k.2)
