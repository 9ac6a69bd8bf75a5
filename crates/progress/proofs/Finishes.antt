-- An operation is over at the latest when each of its messages was answered by a quorum of correct replicas. Assumes nothing.
use mathlib.Core.Path.{◌≡◌, refl, sym, ap, subst, ◌∙◌}
use mathlib.Core.Logic.{◌⊎◌, inl, inr, ⊎_elim}
use mathlib.Core.Bool.{true, false≢true}
use Prim.Native.Nat.{ℕ, zero, suc, ◌<◌}
use native.Mathlib.Omega.{arith}
use borrow.Author.Tests.{le-leb}
use Rattle.base.specs.Counting.{count}
use Rattle.base.specs.Outcome.{accepted}
use Rattle.base.specs.Party.{replica_count, quorum_size}
use Rattle.base.specs.ReplicaSet.{has, is_quorum}
use Rattle.base.specs.declared.party.RegisterId.{RegisterId}
use Rattle.base.specs.declared.party.ReplicaId.{ReplicaId}
use Rattle.base.specs.declared.replica_set.ReplicaSet.{ReplicaSet}
use Rattle.base.proofs.Apart.{apart}
use Rattle.base.proofs.Counting.{count_most}
use Rattle.protocol.specs.Client.{Answer, send, waits, done, ended}
use Rattle.protocol.specs.declared.client.Client.{Client}
use Rattle.run.specs.Claims.{GoesOn}
use Rattle.run.specs.Premises.{Accepted}
use Rattle.run.specs.Run.{makes, Run, client_at, answer_at, At}
use Rattle.run.proofs.Order.{begins_at}
use Rattle.run.proofs.Slots.{split_last}
use Rattle.run.proofs.Turns.{correct_replica_range, Heard, ClientTurn, rested, wrote, asked, heard, made_again, took, client_turn_lem}
use Rattle.wire.specs.Acceptance.{replica, client}
use Rattle.wire.specs.Message.{Message}
use Rattle.wire.specs.Signatures.{Signature}
use Rattle.progress.specs.Delivery.{AtQuorum, Replied}
use Rattle.progress.specs.Operations.{OneLaptop, Invocation, Lasts, Sends, SentLast, IsEnd, Over}
use Rattle.progress.specs.Verdicts.{Judged}
use Rattle.progress.proofs.Awaited.{AwaitsNow, Onward, counts, asks_next, is_over_lem, onward}
use Rattle.progress.proofs.Counted.{counted_in, few_counted}
use Rattle.progress.proofs.Course.{not_over, begun_correct, lasted, just_begun, Course, not_idle, course, Step, waits_on, hears, step, heard_at, heard_later}
use Rattle.progress.proofs.Members.{is_member}
use Rattle.progress.proofs.Replies.{returned_at, heard_reply, counted_or_taken}

replica_one : (a b : ReplicaId) → replica a ≡ replica b → a ≡ b
replica_one a b e = cc

module _ (R : Run) (x : RegisterId) (o : Invocation R x) where
  abbrev now : ℕ → Client
  now t = client_at R o.id t

  correct : R.correct_client o.id ≡ true
  correct = begun_correct R x o

  -- ---- It lasts, or it is over

  pub over_or_lasts : (t : ℕ) → o.begun < t → OneLaptop R o.id o.begun t → Over R x o t ⊎ Lasts R x o t
  over_or_lasts zero l one = absurd (omega arith)
  over_or_lasts (suc t) l one =
      split_last o.begun t l
      (λ z. inr (just_begun R x o (omega arith) (omega arith)))
      (λ z. ⊎_elim (λ over. inl (later over)) (λ lasts. go z lasts (step R x o t (course R x o t z lasts) (λ nonce e a. one t nonce (omega arith) (omega arith) e (waits, a)))) (over_or_lasts t z (λ u nonce low high. one u nonce low (omega arith))))
    where
      later : Over R x o t → Over R x o (suc t)
      later it = let b = it.before in record { end = it.end; after = it.after; before = omega arith; lasts = it.lasts; at_client = it.at_client; is_end = it.is_end }

      -- It lasts one event more, where nothing ends it.
      goes : Lasts R x o t → (At R t (client o.id) → GoesOn R t) → Over R x o (suc t) ⊎ Lasts R x o (suc t)
      goes lasts on = inr (record { has_begun = let b = lasts.has_begun in omega arith; goes_on = λ u low high at. split_last u t high (λ z. subst (GoesOn R) (sym z) (on (subst (λ (v : ℕ). At R v (client o.id)) z at))) (λ z. lasts.goes_on u low z at) })

      ends : o.begun < t → Lasts R x o t → At R t (client o.id) → IsEnd R x t → Over R x o (suc t) ⊎ Lasts R x o (suc t)
      ends z lasts at e = inl (record { end = t; after = z; before = omega arith; lasts = lasts; at_client = at; is_end = e })

      by_answer : o.begun < t → Lasts R x o t → (h : Heard R o.id t) (answer : Answer) → answer_at R t ≡ accepted answer → Over R x o (suc t) ⊎ Lasts R x o (suc t)
      by_answer z lasts h (send m) a = goes lasts (λ at. record { not_done = λ s c w k. apart (cc); not_ended = λ k. apart (cc); not_made = λ i nonce e k. apart (cc h.event_is) })
      by_answer z lasts h waits a = goes lasts (λ at. record { not_done = λ s c w k. apart (cc); not_ended = λ k. apart (cc); not_made = λ i nonce e k. apart (cc h.event_is) })
      by_answer z lasts h (done timestamp card signers) a = ends z lasts (heard_at R x o t h) (inl (timestamp, card, signers, a))
      by_answer z lasts h ended a = ends z lasts (heard_at R x o t h) (inr a)

      go : o.begun < t → Lasts R x o t → Step R x o t → Over R x o (suc t) ⊎ Lasts R x o (suc t)
      go z lasts (waits_on same silent) = goes lasts (λ at. record { not_done = λ s c w k. silent at (done s c w) k; not_ended = λ k. silent at ended k; not_made = λ i nonce e k. silent at k.0 k.1 })
      go z lasts (hears h) = by_answer z lasts h h.turn.answer h.step.answer_is

  -- ---- The message that it sent last: its replies are awaited, and those that came are counted

  module _ {Made : Signature → Type 0} (judged : Judged R Made) where
    record Asking (t : ℕ) : Type 0 where
      at : ℕ
      message : Message
      sent_last : SentLast R x o t at message
      awaits : AwaitsNow (now t) message
      counted : (id : ReplicaId) → R.correct_replica id ≡ true → Replied R x Made o at message t id → has (counted_in (now t).phase) id ≡ true

    -- One that is sent at event t has no replies yet.
    just_asked : (t : ℕ) (m : Message) → Sends R x o t m → AwaitsNow (now (suc t)) m → Asking (suc t)
    just_asked t m sends awaits = record {
      at = t;
      message = m;
      sent_last = record { sends = sends; before = omega arith; none_since = λ v other low high k. absurd (omega arith) };
      awaits = awaits;
      counted = λ id c r. absurd (omega (arith, r.handed.after_sent, r.delivered.after_given, r.delivered.before));
    }

    -- A reply came at the last event, or earlier.
    came : {u t : ℕ} {m : Message} {id : ReplicaId} {P : Type 0} (r : Replied R x Made o u m (suc t) id) → (r.delivered.j ≡ t → P) → (Replied R x Made o u m t id → P) → P
    came {u} {t} r now_came before =
        split_last r.delivered.j t r.delivered.before now_came
        (λ l. before (record {
          handed = r.handed;
          long = r.long;
          reply = r.reply;
          replies = r.replies;
          delivered = record { j = r.delivered.j; after_given = r.delivered.after_given; before = l; signature = r.delivered.signature; verdicts = r.delivered.verdicts; boxed = r.delivered.boxed; event_is = r.delivered.event_is };
        }))

    first : Asking (suc o.begun)
    first = go (client_turn_lem R o.id correct o.begun)
      where
        begun_at : At R o.begun (client o.id)
        begun_at = begins_at R x o.is_write_lem o.id o.begun o.begins

        asks : (m : Message) → answer_at R o.begun ≡ accepted (send m) → (next : Client) → now (suc o.begun) ≡ next → AwaitsNow next m → Asking (suc o.begun)
        asks m a next e awaits = just_asked o.begun m (record { lasts = just_begun R x o (omega arith) (omega arith); by = begun_at; answered = a }) (rw e awaits)

        begun_course : Course R x o (suc o.begun)
        begun_course = course R x o (suc o.begun) (omega arith) (just_begun R x o (omega arith) (omega arith))

        go : ClientTurn R o.id o.begun → Asking (suc o.begun)
        go (rested same silent) = absurd (silent begun_at o.not_refused.0 o.not_refused.1)
        go (wrote y card turn e b s) = asks _ (s.answer_is ∙ ap accepted b.sends) turn.next s.next_is (rw (b.phase_is, b.same_id) refl)
        go (asked y turn e b s) = asks _ (s.answer_is ∙ ap accepted b.sends) turn.next s.next_is (rw (b.phase_is, b.same_id) refl)
        go (heard h) = let later = heard_later R x o o.begun h (omega arith) in absurd (omega arith)
        go (made_again nonce e positive s) = not_idle R x o (suc o.begun) begun_course (ap (λ (next : Client). next.phase) s.next_is)
        go (took y bytes verdicts next e it s) = not_idle R x o (suc o.begun) begun_course (ap (λ (next : Client). next.phase) (s.next_is ∙ it.after_is) ∙ it.was_idle)

    next : (t : ℕ) → o.begun < t → Lasts R x o t → (At R t (client o.id) → GoesOn R t) → Asking t → Asking (suc t)
    next t l lasts on it = go (step R x o t on_course (λ nonce e a. (on (makes o.id nonce, e, refl)).not_made o.id nonce e (waits, a)))
      where
        on_course : Course R x o t
        on_course = course R x o t l lasts

        -- The same message, with one event more.
        goes_on : ((message : Message) → At R t (client o.id) → answer_at R t ≡ accepted (send message) → ⊥) → AwaitsNow (now (suc t)) it.message → ((id : ReplicaId) → R.correct_replica id ≡ true → Replied R x Made o it.at it.message (suc t) id → has (counted_in (now (suc t)).phase) id ≡ true) → Asking (suc t)
        goes_on silent awaits all_counted = record { at = it.at; message = it.message; sent_last = still_last; awaits = awaits; counted = all_counted }
          where
            still_last : SentLast R x o (suc t) it.at it.message
            still_last =
                let last = it.sent_last in
                record {
                  sends = last.sends;
                  before = omega (arith, last.before);
                  none_since = λ v other low high s. split_last v t high
                      (λ z. silent other (subst (λ (w : ℕ). At R w (client o.id)) z s.by) (subst (λ (w : ℕ). answer_at R w ≡ accepted (send other)) z s.answered))
                      (λ z. last.none_since v other low z s);
                }

        -- A reply that comes now is of a replica that was counted, or is taken.
        came_now : (id : ReplicaId) → R.correct_replica id ≡ true → (r : Replied R x Made o it.at it.message (suc t) id) → r.delivered.j ≡ t → (has (counted_in (now t).phase) id ≡ true) ⊎ Accepted R t
        came_now id c r z =
            subst (λ (v : ℕ). (has (counted_in (now v).phase) id ≡ true) ⊎ Accepted R v) z
            (counted_or_taken R x o it.at (suc t) it.message it.sent_last.sends id c r judged (subst (λ (v : ℕ). (now v).register ≡ x) (sym z) on_course.register_is) (subst (λ (v : ℕ). AwaitsNow (now v) it.message) (sym z) it.awaits))

        go : Step R x o t → Asking (suc t)
        go (waits_on same silent) =
            goes_on (λ m at a. silent at (send m) a) (rw same it.awaits) (λ id c r. rw same (came r
            (λ z. ⊎_elim (λ k. k) (λ a. absurd (silent (returned_at R x o it.at (suc t) it.message it.sent_last.sends id c r t z) a.0 a.1)) (came_now id c r z))
            (λ before. it.counted id c before)))
        go (hears h) = by (onward (now t) _ it.message h.message h.turn h.facts.same_id it.awaits h.facts.case)
          where
            by : Onward (now t) it.message h.message h.turn → Asking (suc t)
            by (counts sender counted awaits by_sender in_range_lem sets) =
                goes_on (λ m at a. apart (cc h.step.answer_is)) (rw h.step.next_is awaits) (λ id c r.
                let range = correct_replica_range R id c in
                rw (h.step.next_is, sets) (is_member (counted_in (now t).phase) sender id range.0 (omega arith)
                (came r
                (λ z. inl (replica_one id sender (sym (heard_reply R x o it.at (suc t) it.message it.sent_last.sends id c r t z h) ∙ by_sender)))
                (λ before. inr (it.counted id c before)))))
            by (asks_next m a awaits) =
                just_asked t m (record { lasts = lasts; by = heard_at R x o t h; answered = h.step.answer_is ∙ ap accepted a }) (rw h.step.next_is awaits)
            by (is_over_lem over) = absurd (false≢true (sym (not_over R t h.turn.answer h.step.answer_is (on (heard_at R x o t h))) ∙ over))

    asking : (t : ℕ) → o.begun < t → Lasts R x o t → Asking t
    asking zero l lasts = absurd (omega arith)
    asking (suc t) l lasts =
        split_last o.begun t l (λ z. subst (λ (u : ℕ). Asking (suc u)) z first)
        (λ z. let before = lasted R x o (omega arith) (omega arith) lasts in next t z before (λ at. lasts.goes_on t z (omega arith) at) (asking t z before))

    -- ---- The theorem

    -- A quorum of counted replicas.
    quorum_counted : {So : ReplicaId → Type 0} (q : AtQuorum R So) (counted : ReplicaSet) → ((id : ReplicaId) → q.who id ≡ true → has counted id ≡ true) → is_quorum R.f counted ≡ true
    quorum_counted q counted h =
        le-leb (quorum_size R.f) (count (replica_count R.f) (has counted)) (omega (arith, q.enough, count_most (replica_count R.f) q.who (has counted) (λ id low high k. h id k)))

    -- The replies to the message that it sent last are enough.
    pub last_enough : (t : ℕ) → o.begun < t → OneLaptop R o.id o.begun t → ((u : ℕ) (m : Message) → SentLast R x o t u m → AtQuorum R (Replied R x Made o u m t)) → Over R x o t
    last_enough t l one answered = ⊎_elim (λ over. over) (λ lasts. never (asking t l lasts)) (over_or_lasts t l one)
      where
        -- While it lasts, those that are counted are no quorum.
        never : Asking t → Over R x o t
        never it =
            let q = answered it.at it.message it.sent_last in
            let full = quorum_counted q (counted_in (now t).phase) (λ id k. it.counted id (q.correct id k) (q.each id k)) in
            absurd (false≢true (sym (few_counted R o.id correct t) ∙ full))

    pub finishes : (t : ℕ) → o.begun < t → OneLaptop R o.id o.begun t → ((u : ℕ) (m : Message) → u < t → Sends R x o u m → AtQuorum R (Replied R x Made o u m t)) → Over R x o t
    finishes t l one answered = last_enough t l one (λ u m last. answered u m last.before last.sends)
