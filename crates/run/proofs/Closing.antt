-- A slot keeps what it was prepared for until a written timestamp closes it, and a quorum sent WRITTEN for that one. Assumes nothing.
use mathlib.Core.Path.{◌≡◌, sym, ap, subst, ◌∙◌}
use mathlib.Core.Logic.{◌⊎◌, inl, inr, ⊎_elim}
use mathlib.Core.Bool.{true}
use mathlib.Core.List.{List}
use mathlib.Core.Option.{Option, none, some}
use Prim.Native.Nat.{ℕ, zero, suc, ◌/◌, ◌≤◌, ◌<◌, ◌^◌}
use native.Mathlib.Omega.{arith}
use Rattle.base.specs.Party.{is_writer, is_register, register_place}
use Rattle.base.specs.Timestamp.{number, client_of}
use Rattle.base.specs.declared.party.ClientId.{ClientId}
use Rattle.base.specs.declared.party.RegisterId.{RegisterId}
use Rattle.base.specs.declared.party.ReplicaId.{ReplicaId}
use Rattle.base.specs.declared.replica_set.ReplicaSet.{ReplicaSet}
use Rattle.base.proofs.Apart.{apart}
use Rattle.base.proofs.Each.{each_back}
use Rattle.base.proofs.Range.{bounds}
use Rattle.base.proofs.Registers.{place_below}
use Rattle.protocol.specs.RegisterReplica.{slot_count, fresh_register}
use Rattle.protocol.specs.declared.replica.Register.{Register}
use Rattle.protocol.specs.declared.replica.RegisterReplica.{RegisterReplica}
use Rattle.protocol.specs.declared.replica.Slots.{Slots}
use Rattle.protocol.proofs.BankFacts.{fresh_part}
use Rattle.protocol.proofs.RegisterFacts.{written_legal}
use Rattle.wire.specs.Acceptance.{replica}
use Rattle.wire.specs.Checks.{written_of, prepared_of, shaped_if_there}
use Rattle.wire.specs.Message.{Message, READ-STAMP, PREPARE, WRITE, READ, STAMP, PREPARED, WRITTEN, CARD, Fits}
use Rattle.wire.specs.Proof.{WrittenProof, signer_set}
use Rattle.wire.specs.Decode.{for_register, register_in}
use Rattle.wire.specs.Signatures.{prepared_signatures, written_signatures, signatures_if_there, signatures_of}
use Rattle.wire.specs.declared.message.Party.TheVariants.{Replica as AtReplica}
use Rattle.wire.proofs.OneForm.{decoded_fits}
use Rattle.run.specs.Premises.{TrueVerdicts}
use Rattle.run.specs.Run.{to_replica, Run, bank_at, register_at, Said}
use Rattle.run.proofs.SentMessages.{AllTrue, WasSent, EachSent, inside_sent, step_true}
use Rattle.run.proofs.Slots.{prepared_left, SaidByQuorum, quorum_later, entries_quorum}
use Rattle.run.proofs.Turns.{onwards, correct_replica_range, RegisterTurn, rests, steps, register_turn, RegisterStep, step_for, step_passed}

-- The written proof of a message that fits.
written_small : (m : Message) (last : WrittenProof) → Fits m → written_of m ≡ some last → last.timestamp < 2 ^ 40
unfolding Fits
written_small (PREPARE id timestamp digest proof (some shown)) last fits e = let same : shown ≡ last = cc in let small = fits.4.0 in rw (← same) small
written_small (PREPARE id timestamp digest proof none) last fits e = apart (cc)
written_small (READ-STAMP id nonce) last fits e = apart (cc)
written_small (WRITE id card proof) last fits e = apart (cc)
written_small (READ id nonce) last fits e = apart (cc)
written_small (STAMP id nonce proof addressed) last fits e = apart (cc)
written_small (PREPARED id timestamp digest) last fits e = apart (cc)
written_small (WRITTEN id timestamp) last fits e = apart (cc)
written_small (CARD id nonce card proof addressed) last fits e = apart (cc)

-- The slot of the timestamp's client has it, or the written timestamp closes it.
abbrev KeptOrClosed : Slots → ℕ → Type 0
KeptOrClosed slots s = (slot_count slots (client_of s) ≡ s / 256) ⊎ (s ≤ number slots.written)

module _ (R : Run) (x : RegisterId) where
  abbrev slots_at : ReplicaId → ℕ → Slots
  slots_at id t = (register_at R x id t).slots

  -- The written timestamp of a replica's register before event t.
  abbrev pub written : ReplicaId → ℕ → ℕ
  written id t = number (slots_at id t).written

  module _ (id : ReplicaId) (c : R.correct_replica id ≡ true) where
    kept_step : (s : ℕ) → 1 ≤ s / 256 → is_writer (client_of s) ≡ true → (t : ℕ) → KeptOrClosed (slots_at id t) s → KeptOrClosed (slots_at id (suc t)) s
    kept_step s counted own t = go (register_turn R x id c t)
      where
        after : (y : Register) → register_at R x id (suc t) ≡ y → KeptOrClosed y.slots s → KeptOrClosed (slots_at id (suc t)) s
        after y is = subst (λ (z : Register). KeptOrClosed z.slots s) (sym is)

        go : RegisterTurn R x id t → KeptOrClosed (slots_at id t) s → KeptOrClosed (slots_at id (suc t)) s
        go (rests same silent) h = after (register_at R x id t) same h
        go (steps step) (inr closed) = after step.reply.next.register step.next_is (inr (omega (arith, step.facts.written_rises)))
        go (steps step) (inl has) =
            let range = bounds 1 64 (client_of s).0 own in
            after step.reply.next.register step.next_is
            (⊎_elim
            (λ same. inl (same ∙ has))
            (λ changed. ⊎_elim (λ unused. absurd (omega arith)) (λ closed. inr (omega arith)) changed.0)
            (step.facts.slot_change (client_of s) range.0 range.1))

    kept : (t s : ℕ) (d : List ℕ) → 1 ≤ s / 256 → Said R x (replica id) (PREPARED id s d) t → KeptOrClosed (slots_at id t) s
    kept t s d counted e =
        let left = prepared_left R x id c t s d e in
        onwards {P = λ u. KeptOrClosed (slots_at id u) s} (kept_step s counted left.0) (suc e.time) t e.earlier (inl left.1)

    -- Of two timestamps of one client that a replica sent PREPARED for, the earlier one is closed.
    pub earlier_closed : (t s s' : ℕ) (d d' : List ℕ) → 1 ≤ s / 256 → s < s' → client_of s ≡ client_of s' → Said R x (replica id) (PREPARED id s d) t → Said R x (replica id) (PREPARED id s' d') t
        → s ≤ written id t
    earlier_closed t s s' d d' counted less same e e' = go (kept t s d counted e) (kept t s' d' (omega arith) e')
      where
        go : KeptOrClosed (slots_at id t) s → KeptOrClosed (slots_at id t) s' → s ≤ written id t
        go (inr closed) h = closed
        go (inl has) (inr closed) = omega arith
        go (inl has) (inl has') =
            let one_slot : s / 256 ≡ s' / 256 = sym has ∙ ap (slot_count (slots_at id t)) same ∙ has' in
            let one_client : (client_of s).0 ≡ (client_of s').0 = ap (λ (i : ClientId). i.0) same in
            absurd (omega arith)

  -- ---- By tests 9 and 10 and true verdicts

  pub record WrittenByQuorum (t s : ℕ) : Type 0 where
    pub who : ReplicaSet
    pub said_it : SaidByQuorum R x t (λ id. WRITTEN id s) who

  module _ (truth : AllTrue R) (registered : is_register x ≡ true) (id : ReplicaId) (c : R.correct_replica id ≡ true) where
    abbrev Written : ℕ → Type 0
    Written t = (written id t ≡ 0) ⊎ WrittenByQuorum t (written id t)

    -- The written proof of a PREPARE that the replica takes.
    shown_written : (t : ℕ) (s : RegisterStep R x id t) (last : WrittenProof) → written_of s.message ≡ some last → WrittenByQuorum t last.timestamp
    shown_written t s last e =
        let range = bounds 1 16 x.0 registered in
        let passed = step_passed R x id c t s in
        let bytes = R.have_bytes t (to_replica id s.bytes s.verdicts) s.event_is in
        let small = written_small s.message last (decoded_fits AtReplica s.bytes (register_in s.bytes) s.message s.admitted.decodes bytes) e in
        let true_ones = subst (λ (y : RegisterId). TrueVerdicts R t (signatures_of s.bytes (for_register y s.message)) s.verdicts) (step_for R x registered id t s) (step_true R truth x id t s) in
        let inside = inside_sent R R.f t s.bytes s.verdicts x s.message passed true_ones in
        let entries = each_back (WasSent R t) (signatures_if_there (prepared_signatures x) (prepared_of s.message)) (signatures_if_there (written_signatures x) (written_of s.message)) inside in
        record {
          who = signer_set last.entries;
          said_it =
              entries_quorum R x t (λ i. WRITTEN i last.timestamp) last.entries
              (λ i c. let high = correct_replica_range R i c in written_legal i last.timestamp (omega arith) small x (omega arith))
              (subst (λ (w : Option WrittenProof). shaped_if_there R.f w ≡ true) e passed.written_shaped)
              (subst (λ (w : Option WrittenProof). EachSent R t (signatures_if_there (written_signatures x) w)) e entries);
        }

    by_later : (t s : ℕ) → WrittenByQuorum t s → WrittenByQuorum (suc t) s
    by_later t s b = record { who = b.who; said_it = quorum_later R x t (suc t) _ b.who (omega arith) b.said_it }

    stays : (t : ℕ) → written id (suc t) ≡ written id t → Written t → Written (suc t)
    stays t e (inl z) = inl (e ∙ z)
    stays t e (inr b) = inr (subst (WrittenByQuorum (suc t)) (sym e) (by_later t (written id t) b))

    next_written : (t : ℕ) → Written t → RegisterTurn R x id t → Written (suc t)
    next_written t h (rests same silent) = stays t (ap (λ (y : Register). number y.slots.written) same) h
    next_written t h (steps s) =
        let to : written id (suc t) ≡ number s.reply.next.register.slots.written = ap (λ (y : Register). number y.slots.written) s.next_is in
        ⊎_elim
        (λ same. stays t (to ∙ same) h)
        (λ (last, is, shown). inr (subst (WrittenByQuorum (suc t)) (sym (to ∙ shown)) (by_later t last.timestamp (shown_written t s last is))))
        s.facts.written_shown

    pub written_by : (t : ℕ) → Written t
    unfolding bank_at fresh_register
    written_by zero = inl (ap (λ (part : RegisterReplica). number part.register.slots.written) (fresh_part R.f id (R.office_key id) (register_place x) (place_below x)))
    written_by (suc t) = next_written t (written_by t) (register_turn R x id c t)
