-- Document 02, #107: how many messages a finished or ended operation sent. Assumes nothing.
use mathlib.Core.Path.{◌≡◌, refl, sym, ap, subst, ◌∙◌}
use mathlib.Core.Bool.{true, false}
use Prim.Native.Nat.{ℕ, suc, ◌/◌, ◌<◌}
use native.Mathlib.Omega.{arith}
use lib.ListN.{length}
use Rattle.base.specs.Outcome.{accepted}
use Rattle.base.specs.Party.{quorum_size, is_writer}
use Rattle.base.specs.declared.party.RegisterId.{RegisterId}
use Rattle.base.proofs.Apart.{apart}
use Rattle.protocol.specs.Client.{Answer, send, waits, done, ended}
use Rattle.protocol.proofs.ClientCases.{is_over}
use Rattle.run.specs.Claims.{GoesOn, Finished}
use Rattle.run.specs.Run.{Run, answer_at, At}
use Rattle.wire.specs.Acceptance.{client}
use Rattle.progress.specs.Counts.{largest, read_messages, Ended, Counts}
use Rattle.progress.specs.Operations.{Invocation}
use Rattle.progress.proofs.Course.{sent_by, cards_by, stamps_by, Course, course, Step, waits_on, hears, step, Outcomes, goes, finished, stopped, outcomes}

module _ (R : Run) (x : RegisterId) (o : Invocation R x) (e : ℕ) where
  -- What was sent and taken, by the answer that ends the operation at event e.
  abbrev AtEnd : Answer → Type 0
  AtEnd (done timestamp card signers) =
      (o.is_write_lem ≡ true → length (sent_by R x o (suc e)) ≡ 3)
      × (o.is_write_lem ≡ false → is_writer o.id ≡ true → (length (cards_by R x o (suc e)) ≡ quorum_size R.f) × (length (sent_by R x o (suc e)) ≡ read_messages (cards_by R x o (suc e))))
  AtEnd ended = (length (sent_by R x o (suc e)) ≡ 1) × (largest (stamps_by R x o (suc e)) / 256 ≡ 4_294_967_295)
  AtEnd (send message) = Unit {0}
  AtEnd waits = Unit {0}

  at_end : o.begun < e → ((u : ℕ) → o.begun < u → u < e → At R u (client o.id) → GoesOn R u) → At R e (client o.id) → (answer : Answer) → answer_at R e ≡ accepted answer → is_over answer ≡ true → AtEnd answer
  at_end l between at answer a over = go (course R x o e l (record { has_begun = omega arith; goes_on = between }))
    where
      -- An answer that ends nothing.
      not_over : {A : Type 0} (other : Answer) → other ≡ answer → is_over other ≡ false → A
      not_over other is k = let same = ap is_over is in apart (cc)

      go : Course R x o e → AtEnd answer
      go it = by (step R x o e it (λ nonce q k. not_over waits (cc) refl))
        where
          by : Step R x o e → AtEnd answer
          by (waits_on same silent) = absurd (silent at answer a)
          by (hears h) = of (outcomes R x o e l h it h.facts.case)
            where
              is : h.turn.answer ≡ answer
              is = cc h.step.answer_is

              of : Outcomes R x o e l h it → AtEnd answer
              of (goes next sent on) = not_over h.turn.answer is on
              of (finished timestamp card signers k three read) = subst AtEnd (sym k ∙ is) (three, read)
              of (stopped k one last) = subst AtEnd (sym k ∙ is) (one, last)

module _ (R : Run) (x : RegisterId) where
  abbrev invoked : Finished R x → Invocation R x
  invoked o = record { id = o.id; is_write_lem = o.is_write_lem; begun = o.begun; begins = o.begins; not_refused = o.not_refused }

  at_done : (o : Finished R x) → AtEnd R x (invoked o) o.finished (done o.timestamp o.card o.signers)
  at_done o = at_end R x (invoked o) o.finished o.after o.none_between o.at_client (done o.timestamp o.card o.signers) o.is_done_lem refl

  abbrev stopping : Ended R x → Invocation R x
  stopping o = record { id = o.id; is_write_lem = o.is_write_lem; begun = o.begun; begins = o.begins; not_refused = o.not_refused }

  at_ended : (o : Ended R x) → AtEnd R x (stopping o) o.finished ended
  at_ended o = at_end R x (stopping o) o.finished o.after o.none_between o.at_client ended o.is_ended refl

pub counts : (R : Run) (x : RegisterId) → Counts R x
counts R x = record {
  write_sends = λ o w. (at_done R x o).0 w;
  read_takes = λ o r. ((at_done R x o).1 r o.by_writer).0;
  read_sends = λ o r. ((at_done R x o).1 r o.by_writer).1;
  ended_sends = λ o. (at_ended R x o).0;
  ended_last = λ o. (at_ended R x o).1;
}
