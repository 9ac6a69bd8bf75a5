-- The written proof of its own that a correct client keeps for a register: its timestamp is settled, and below what the client asks to prepare there
-- next. Assumes nothing.
use mathlib.Core.Path.{◌≡◌, refl, sym, ap, subst, ◌∙◌}
use mathlib.Core.Logic.{◌⊎◌, inl, inr, ⊎_elim}
use mathlib.Core.Bool.{Bool, true, false, false≢true}
use mathlib.Core.List.{List}
use mathlib.Core.Option.{Option, none, some}
use Prim.Native.Nat.{ℕ, zero, suc, ◌<◌}
use native.Mathlib.Omega.{arith}
use borrow.Author.Tests.{eqb-true, eqb-false, leb-true}
use lib.Dec.{eqb}
use lib.ListN.{get_or, set, get_or-replicate}
use lib.Seq.{get_or-set_same}
use Rattle.base.specs.Counting.{count}
use Rattle.base.specs.Outcome.{accepted}
use Rattle.base.specs.Party.{replica_count, quorum_size, is_register, register_place}
use Rattle.base.specs.ReplicaSet.{has, with, is_quorum}
use Rattle.base.specs.Timestamp.{number}
use Rattle.base.specs.declared.party.ClientId.{ClientId}
use Rattle.base.specs.declared.party.RegisterId.{RegisterId}
use Rattle.base.specs.declared.timestamp.Timestamp.{Timestamp}
use Rattle.base.proofs.Apart.{apart}
use Rattle.base.proofs.Registers.{place_below, place_injective}
use Rattle.protocol.specs.Client.{Answer, send, waits, current_card, no_written, written_in_place, keeping}
use Rattle.protocol.specs.declared.client.Client.{Client}
use Rattle.protocol.specs.declared.client.Phase.{Phase}
use Rattle.protocol.specs.declared.client.Phase.TheVariants.{Idle, Stamps, Prepareds, Writtens, Cards, WriteBack}
use Rattle.protocol.specs.declared.client.Written.{Written}
use Rattle.protocol.proofs.ClientCases.{is_writing, is_over, entries_with, Leaves, ClientCase, stamp_counted, stamps_enough, stamps_ended, prepared_counted, prepareds_enough, written_counted, writtens_enough, card_counted, cards_agree, cards_viewed, cards_differ, back_counted, back_enough}
use Rattle.run.specs.Claims.{GoesOn}
use Rattle.run.specs.Premises.{Accepted, Premises}
use Rattle.run.specs.Run.{begins_write, to_client, makes, Run, register_of, event, client_at, answer_at, At}
use Rattle.run.proofs.Operations.{none_in, Settled, settled_later, Holds, holds_later, stored_more}
use Rattle.run.proofs.Slots.{split_last}
use Rattle.run.proofs.Stages.{prepared_for, Stage, stamping, prepares, keeps, finishes, others, stage}
use Rattle.run.proofs.Turns.{good_client, Heard, heard_register, ClientTurn, rested, wrote, asked, heard, made_again, took, client_turn_lem}
use Rattle.run.proofs.Writes.{write_of, chosen}
use Rattle.wire.specs.Acceptance.{client}
use Rattle.wire.specs.Layout.{signature}
use Rattle.wire.specs.Message.{PREPARE}
use Rattle.wire.specs.Proof.{Entry, PreparedProof, WrittenProof}
use Rattle.wire.specs.Sha256.{sha256}
use Rattle.progress.specs.Operations.{Invocation, Lasts}
use Rattle.progress.proofs.Course.{not_over, lasted, course, Step, waits_on, hears, step, heard_at}

module _ (R : Run) (P : Premises R) (id : ClientId) (c : R.correct_client id ≡ true) where
  abbrev now : ℕ → Client
  now t = client_at R id t

  -- The written proof that it keeps for a register, and its timestamp.
  abbrev pub last_at : RegisterId → ℕ → Written
  last_at x t = written_in_place (register_place x) (now t)

  abbrev pub last_timestamp : RegisterId → ℕ → ℕ
  last_timestamp x t = number (last_at x t).timestamp

  -- ---- What an event does to it

  -- The counted replicas of a write that gathers WRITTENs hold its timestamp.
  abbrev Stored : RegisterId → ℕ → Phase → Type 0
  Stored x t Idle = Unit {0}
  Stored x t (Stamps nonce best counted) = Unit {0}
  Stored x t (Prepareds timestamp counted) = Unit {0}
  Stored x t (Writtens timestamp counted) = Holds R x counted (number timestamp) t
  Stored x t (Cards nonce best counted showed) = Unit {0}
  Stored x t (WriteBack timestamp counted) = Unit {0}

  stored_later : (x : RegisterId) (t : ℕ) (phase : Phase) → Stored x t phase → Stored x (suc t) phase
  stored_later x t Idle h = tt
  stored_later x t (Stamps nonce best counted) h = tt
  stored_later x t (Prepareds timestamp counted) h = tt
  stored_later x t (Writtens timestamp counted) h = holds_later R x counted (number timestamp) t h
  stored_later x t (Cards nonce best counted showed) h = tt
  stored_later x t (WriteBack timestamp counted) h = tt

  -- A write is done: its proof is the client's own, and settled.
  record OwnDone (t : ℕ) (after : Client) : Type 0 where
    timestamp : Timestamp
    entries : List Entry
    was : prepared_for (now t).phase ≡ some (number timestamp)
    written_is : after.written ≡ set (now t).written (register_place (now t).register) (keeping true timestamp entries)
    settled : Settled R (now t).register (suc t) (number timestamp)

  record HeardMoves (t : ℕ) (h : Heard R id t) : Type 0 where
    stored : Stored (now t).register (suc t) h.turn.next.phase
    written : (h.turn.next.written ≡ (now t).written) ⊎ OwnDone t h.turn.next

  heard_moves : (t : ℕ) (h : Heard R id t) → Stored (now t).register t (now t).phase → ClientCase (now t) (signature h.bytes) h.message h.turn → HeardMoves t h
  heard_moves t h s case = go case
    where
      x : RegisterId
      x = (now t).register

      to : {answer : Answer} {phase : Phase} → Leaves h.turn answer phase → Stored x (suc t) phase → h.turn.next.written ≡ (now t).written → HeardMoves t h
      to left stored kept = record { stored = subst (Stored x (suc t)) (sym left.phase_is) stored; written = inl kept }

      go : ClientCase (now t) (signature h.bytes) h.message h.turn → HeardMoves t h
      go (stamp_counted a n p b k e₁ at e₃ e₄ e₅ left) = to left tt (h.facts.written_kept_lem (ap is_writing at))
      go (stamps_enough a n p b k next shown last e₁ at e₃ e₄ e₅ e₆ e₇ e₈ e₉ e₁₀ left) = to left tt (h.facts.written_kept_lem (ap is_writing at))
      go (stamps_ended a n p b k e₁ at e₃ left) = to left tt (h.facts.written_kept_lem (ap is_writing at))
      go (prepared_counted a s k e₁ at e₃ e₄ e₅ left) = to left tt (h.facts.written_kept_lem (ap is_writing at))
      go (prepareds_enough a s k p e₁ at e₃ e₄ e₅ e₆ e₇ left) = to left (λ r m i. none_in r m) (h.facts.written_kept_lem (ap is_writing at))
      go (written_counted sender timestamp counted e at new same signatures left) =
          to left (stored_more R x P id c 0 t refl h sender counted (number timestamp) e (subst (Stored x t) at s)) (h.facts.written_stays (ap is_over left.answer_is))
      go (writtens_enough sender timestamp counted e at new built written left) =
          let full = subst (λ (f : ℕ). is_quorum f (with counted sender) ≡ true) (good_client R id c t).f_is new.2 in
          record {
            stored = subst (Stored x (suc t)) (sym left.phase_is) tt;
            written = inr (record {
              timestamp = timestamp;
              entries = entries_with (now t) sender counted (signature h.bytes);
              was = ap prepared_for at;
              written_is = written;
              settled = record {
                who = has (with counted sender);
                enough = leb-true (quorum_size R.f) (count (replica_count R.f) (has (with counted sender))) full;
                hold = stored_more R x P id c 0 t refl h sender counted (number timestamp) e (subst (Stored x t) at s);
              };
            });
          }
      go (card_counted a n d p b k g e₁ at e₃ e₄ e₅ e₆ left) = to left tt (h.facts.written_kept_lem (ap is_writing at))
      go (cards_agree a n d p b k g e₁ at e₃ e₄ e₅ left) = to left tt (h.facts.written_kept_lem (ap is_writing at))
      go (cards_viewed a n d p b k g e₁ at e₃ e₄ e₅ left) = to left tt (h.facts.written_kept_lem (ap is_writing at))
      go (cards_differ a n d p b k g e₁ at e₃ e₄ e₅ e₆ e₇ left) = to left tt (h.facts.written_kept_lem (ap is_writing at))
      go (back_counted a s k e₁ at e₃ e₄ left) = to left tt (h.facts.written_kept_lem (ap is_writing at))
      go (back_enough a s k e₁ at e₃ left) = to left tt (h.facts.written_kept_lem (ap is_writing at))

  stored : (t : ℕ) → Stored (now t).register t (now t).phase
  unfolding client_at
  stored zero = tt
  stored (suc t) = go (stored t) (client_turn_lem R id c t)
    where
      to : (next : Client) (phase : Phase) → now (suc t) ≡ next → next.phase ≡ phase → Stored next.register (suc t) phase → Stored (now (suc t)).register (suc t) (now (suc t)).phase
      to next phase e p it = subst (λ (after : Client). Stored after.register (suc t) after.phase) (sym e) (subst (Stored next.register (suc t)) (sym p) it)

      go : Stored (now t).register t (now t).phase → ClientTurn R id t → Stored (now (suc t)).register (suc t) (now (suc t)).phase
      go it (rested same silent) = to _ _ same refl (stored_later (now t).register t (now t).phase it)
      go it (wrote y card turn e b s) = to _ _ s.next_is b.phase_is tt
      go it (asked y turn e b s) = to _ _ s.next_is b.phase_is tt
      go it (heard h) =
          to _ _ h.step.next_is refl
          (subst (λ (y : RegisterId). Stored y (suc t) h.turn.next.phase) (sym h.facts.same_register) (heard_moves t h it h.facts.case).stored)
      go it (made_again nonce e positive s) = to _ Idle s.next_is refl tt
      go it (took y bytes verdicts next e k s) = to _ Idle (s.next_is ∙ k.after_is) k.was_idle tt

  module _ (x : RegisterId) (registered : is_register x ≡ true) where
    pub data Moves (t : ℕ) : Type 0 where
      keeps_last : last_at x (suc t) ≡ last_at x t → Moves t
      own_last : (timestamp : Timestamp) → (now t).register ≡ x → prepared_for (now t).phase ≡ some (number timestamp) → (last_at x (suc t)).own ≡ true → (last_at x (suc t)).timestamp ≡ timestamp
          → Settled R x (suc t) (number timestamp) → Moves t
      -- A proof is handed over, or the client is made again.
      handed_last : (now t).phase ≡ Idle → (last_at x t).own ≡ false → (last_at x (suc t)).own ≡ false → Moves t
      no_last : (nonce : ℕ) → event R t ≡ some (makes id nonce) → Accepted R t → (last_at x (suc t)).own ≡ false → Moves t

    same_list : (t : ℕ) (next : Client) → now (suc t) ≡ next → next.written ≡ (now t).written → Moves t
    same_list t next e kept = keeps_last (ap (λ (list : List Written). get_or list (register_place x) no_written) (ap (λ (after : Client). after.written) e ∙ kept))

    -- This register's place, or another one's.
    by_place : {A : Type 0} (y : RegisterId) → (register_place x ≡ register_place y → A) → ((register_place x ≡ register_place y → ⊥) → A) → A
    by_place {A} y here there = go (eqb (register_place x) (register_place y)) refl
      where
        go : (b : Bool) → eqb (register_place x) (register_place y) ≡ b → A
        go true e = here (eqb-true (register_place x) (register_place y) e)
        go false e = there (eqb-false (register_place x) (register_place y) e)

    -- A write of the register is done with this proof.
    pub own_there : (t : ℕ) (h : Heard R id t) (timestamp : Timestamp) (entries : List Entry) → register_place x ≡ register_place (now t).register
        → h.turn.next.written ≡ set (now t).written (register_place (now t).register) (keeping true timestamp entries) → last_at x (suc t) ≡ keeping true timestamp entries
    own_there t h timestamp entries here written =
        let long = (good_client R id c t).fits.written_long in
        ap (λ (after : Client). written_in_place (register_place x) after) h.step.next_is
        ∙ ap (λ (list : List Written). get_or list (register_place x) no_written) written
        ∙ rw here (get_or-set_same (now t).written (register_place (now t).register) _ no_written (omega (arith, place_below (now t).register)))

    pub moves : (t : ℕ) → Moves t
    moves t = go (client_turn_lem R id c t)
      where
        own : (h : Heard R id t) → OwnDone t h.turn.next → Moves t
        own h d =
            by_place (now t).register
            (λ here.
            let is = sym (place_injective x (now t).register registered h.admitted.registered here) in
            let new = own_there t h d.timestamp d.entries here d.written_is in
            own_last d.timestamp is d.was (ap (λ (w : Written). w.own) new) (ap (λ (w : Written). w.timestamp) new) (subst (λ (y : RegisterId). Settled R y (suc t) (number d.timestamp)) is d.settled))
            (λ other. keeps_last (ap (λ (after : Client). written_in_place (register_place x) after) h.step.next_is ∙ h.facts.others_written (register_place x) other))

        go : ClientTurn R id t → Moves t
        go (rested same silent) = same_list t (now t) same refl
        go (wrote y card turn e b s) = same_list t turn.next s.next_is b.written_kept_lem
        go (asked y turn e b s) = same_list t turn.next s.next_is b.written_kept_lem
        go (heard h) = ⊎_elim (λ kept. same_list t h.turn.next h.step.next_is kept) (λ d. own h d) (heard_moves t h (stored t) h.facts.case).written
        go (made_again nonce e positive s) =
            no_last nonce e (waits, s.answer_is) (ap (λ (after : Client). (written_in_place (register_place x) after).own) s.next_is ∙ ap (λ (w : Written). w.own) (get_or-replicate 16 (register_place x) _ no_written (place_below x)))
        go (took y bytes verdicts next e it s) =
            by_place y
            (λ here.
            let long = (good_client R id c t).fits.written_long in
            handed_last it.was_idle (rw here it.not_own)
            (ap (λ (after : Client). (written_in_place (register_place x) after).own) (s.next_is ∙ it.after_is)
            ∙ rw here (ap (λ (w : Written). w.own) (get_or-set_same (now t).written (register_place y) _ no_written (omega (arith, place_below y))))))
            (λ other. keeps_last (ap (λ (after : Client). written_in_place (register_place x) after) s.next_is ∙ it.others_kept (register_place x) other))

    -- ---- It is settled

    own_settled : (t : ℕ) → (last_at x t).own ≡ true → Settled R x t (last_timestamp x t)
    unfolding client_at
    own_settled zero own = let none_own : (last_at x 0).own ≡ false = ap (λ (w : Written). w.own) (get_or-replicate 16 (register_place x) _ no_written (place_below x)) in absurd (false≢true (sym none_own ∙ own))
    own_settled (suc t) own = go (λ k. own_settled t k) (moves t)
      where
        go : ((last_at x t).own ≡ true → Settled R x t (last_timestamp x t)) → Moves t → Settled R x (suc t) (last_timestamp x (suc t))
        go ih (keeps_last same) =
            subst (λ (w : Written). Settled R x (suc t) (number w.timestamp)) (sym same) (settled_later R x t (suc t) (last_timestamp x t) (omega arith) (ih (ap (λ (w : Written). w.own) (sym same) ∙ own)))
        go ih (own_last timestamp is was is_own of settled) = subst (λ (s : Timestamp). Settled R x (suc t) (number s)) (sym of) settled
        go ih (handed_last idle was_not is_not) = apart (cc)
        go ih (no_last nonce e a is_not) = apart (cc)

    -- ---- It is below what is asked

    -- While an operation lasts, written proofs stay.
    pub last_kept : (o : Invocation R x) → o.id ≡ id → (t : ℕ) → o.begun < t → Lasts R x o t → last_at x t ≡ last_at x (suc o.begun)
    last_kept o same zero l lasts = absurd (omega arith)
    last_kept o same (suc t) l lasts =
        split_last o.begun t l (λ z. rw z refl)
        (λ z. let before : Lasts R x o t = lasted R x o (omega arith) (omega arith) lasts in
        one z (lasts.goes_on t z (omega arith)) before ∙ last_kept o same t z before)
      where
        one : o.begun < t → (At R t (client o.id) → GoesOn R t) → Lasts R x o t → last_at x (suc t) ≡ last_at x t
        one z on before = subst (λ (i : ClientId). written_in_place (register_place x) (client_at R i (suc t)) ≡ written_in_place (register_place x) (client_at R i t)) same (go (step R x o t (course R x o t z before) (λ nonce e a. (on (makes o.id nonce, e, refl)).not_made o.id nonce e (waits, a))))
          where
            go : Step R x o t → written_in_place (register_place x) (client_at R o.id (suc t)) ≡ written_in_place (register_place x) (client_at R o.id t)
            go (waits_on kept silent) = ap (λ (after : Client). written_in_place (register_place x) after) kept
            go (hears h) =
                ap (λ (after : Client). written_in_place (register_place x) after) h.step.next_is
                ∙ ap (λ (list : List Written). get_or list (register_place x) no_written) (h.facts.written_stays (not_over R t h.turn.answer h.step.answer_is (on (heard_at R x o t h))))

    -- So it is when a PREPARE is sent,
    prepare_above : (t s : ℕ) (d : List ℕ) (shown : Option PreparedProof) (last : Option WrittenProof) (at : At R t (client id)) → register_of at.0 ≡ x → answer_at R t ≡ accepted (send (PREPARE id s d shown last))
        → (last_at x t).own ≡ true → last_timestamp x t < s
    prepare_above t s d shown last at is a own =
        let (w, by, for, digest, when) = write_of R x id c t s d shown last at is a in
        let o : Invocation R x = record { id = w.id; is_write_lem = true; begun = w.begun; begins = (w.card, w.begins); not_refused = w.not_refused } in
        let after = w.after in
        let kept : last_at x t ≡ last_at x (suc w.begun) = last_kept o by t (omega arith) (record { has_begun = omega arith; goes_on = λ u low high at. w.none_between u low (omega arith) at }) in
        let begun : last_at x (suc w.begun) ≡ last_at x w.begun = begun_kept w.card w.begun (w.begins ∙ ap (λ (i : ClientId). some (begins_write i x w.card)) by) in
        let same = kept ∙ begun in
        let settled = own_settled w.begun (ap (λ (l : Written). l.own) (sym same) ∙ own) in
        let above = (chosen R x P w).above (last_timestamp x w.begun) settled in
        let timestamps = ap (λ (l : Written). number l.timestamp) same in
        omega arith
      where
        begun_kept : (card : List ℕ) (u : ℕ) → event R u ≡ some (begins_write id x card) → last_at x (suc u) ≡ last_at x u
        begun_kept card u q = go (client_turn_lem R id c u)
          where
            kept : (next : Client) → now (suc u) ≡ next → next.written ≡ (now u).written → last_at x (suc u) ≡ last_at x u
            kept next e same = ap (λ (list : List Written). get_or list (register_place x) no_written) (ap (λ (after : Client). after.written) e ∙ same)

            go : ClientTurn R id u → last_at x (suc u) ≡ last_at x u
            go (rested same silent) = kept (now u) same refl
            go (wrote y card' turn e b s) = kept turn.next s.next_is b.written_kept_lem
            go (asked y turn e b s) = apart (cc)
            go (heard h) = apart (cc h.event_is)
            go (made_again nonce e positive s) = apart (cc)
            go (took y bytes verdicts next e it s) = apart (cc)

    -- and as long as the write has its timestamp.
    pub own_below : (t s : ℕ) → prepared_for (now t).phase ≡ some s → (now t).register ≡ x → (last_at x t).own ≡ true → last_timestamp x t < s
    unfolding client_at
    own_below zero s asks is own = apart (cc)
    own_below (suc t) s asks is own = go (λ s k r q. own_below t s k r q) (client_turn_lem R id c t)
      where
        -- Nothing is asked.
        no : {A : Type 0} (next : Client) → now (suc t) ≡ next → prepared_for next.phase ≡ none → A
        no next e k = let none_there : prepared_for (now (suc t)).phase ≡ none = ap (λ (after : Client). prepared_for after.phase) e ∙ k in apart (cc)

        -- The client is as it was but for its phase.
        from : last_at x (suc t) ≡ last_at x t → last_timestamp x t < s → last_timestamp x (suc t) < s
        from same l = subst (λ (w : Written). number w.timestamp < s) (sym same) l

        go : ((s : ℕ) → prepared_for (now t).phase ≡ some s → (now t).register ≡ x → (last_at x t).own ≡ true → last_timestamp x t < s) → ClientTurn R id t → last_timestamp x (suc t) < s
        go ih (rested same silent) =
            subst (λ (after : Client). number (written_in_place (register_place x) after).timestamp < s) (sym same)
            (ih s (subst (λ (after : Client). prepared_for after.phase ≡ some s) same asks) (subst (λ (after : Client). after.register ≡ x) same is) (subst (λ (after : Client). (written_in_place (register_place x) after).own ≡ true) same own))
        go ih (wrote y card turn e b k) = no turn.next k.next_is (ap prepared_for b.phase_is)
        go ih (asked y turn e b k) = no turn.next k.next_is (ap prepared_for b.phase_is)
        go ih (made_again nonce e positive k) = no _ k.next_is refl
        go ih (took y bytes verdicts next e it k) = no _ (k.next_is ∙ it.after_is) (ap prepared_for it.was_idle)
        go ih (heard h) = by (stage (now t) h.turn _ h.message h.facts.case)
          where
            is_now : (now t).register ≡ x
            is_now = sym h.facts.same_register ∙ sym (ap (λ (after : Client). after.register) h.step.next_is) ∙ is

            kept : is_over h.turn.answer ≡ false → last_at x (suc t) ≡ last_at x t
            kept over =
                ap (λ (after : Client). written_in_place (register_place x) after) h.step.next_is
                ∙ ap (λ (list : List Written). get_or list (register_place x) no_written) (h.facts.written_stays over)

            own_now : is_over h.turn.answer ≡ false → (last_at x t).own ≡ true
            own_now over = ap (λ (w : Written). w.own) (sym (kept over)) ∙ own

            by : Stage (now t) h.turn → last_timestamp x (suc t) < s
            by (stamping was none_was none_next same answer) = no _ h.step.next_is none_next
            by (prepares timestamp shown last was none_was no_stamps for same answer shows) =
                let over : is_over h.turn.answer ≡ false = ap is_over answer in
                let same_timestamp : timestamp ≡ s = cc (ap (λ (after : Client). prepared_for after.phase) h.step.next_is) in
                let digest = sha256 (current_card (now t)) in
                let sent = h.step.answer_is ∙ ap accepted answer ∙ ap (λ (i : ClientId). accepted (send (PREPARE i timestamp digest shown last))) (good_client R id c t).id_is in
                from (kept over) (subst (λ (n : ℕ). last_timestamp x t < n) same_timestamp
                (prepare_above t timestamp digest shown last (to_client id h.bytes h.verdicts, h.event_is, refl) (heard_register R id t h (to_client id h.bytes h.verdicts, h.event_is, refl) ∙ is_now) sent (own_now over)))
            by (keeps timestamp was for no_stamps same no_prepare over) =
                let same_timestamp : timestamp ≡ s = cc (ap (λ (after : Client). prepared_for after.phase) h.step.next_is) in
                from (kept over) (ih s (was ∙ ap some same_timestamp) is_now (own_now over))
            by (finishes timestamp card signers entries was none_next no_stamps written answer) = no _ h.step.next_is none_next
            by (others was none_next no_stamps no_prepare) = no _ h.step.next_is none_next
