-- Document 02, #107 on every run and register: no refusal while an operation lasts, and its end. Assumes nothing.
use mathlib.Core.Logic.{⊎_elim}
use Prim.Native.Nat.{ℕ, ◌<◌}
use native.Mathlib.Omega.{arith}
use Rattle.base.specs.declared.party.RegisterId.{RegisterId}
use Rattle.base.specs.declared.party.ReplicaId.{ReplicaId}
use Rattle.run.specs.Premises.{Premises}
use Rattle.run.specs.Run.{Run}
use Rattle.wire.specs.Message.{Message}
use Rattle.wire.specs.Signatures.{Signature}
use Rattle.progress.specs.Delivery.{AtQuorum, Replied, Reached}
use Rattle.progress.specs.Operations.{OneLaptop, Invocation, Lasts, Sends, SentLast, Over}
use Rattle.progress.specs.Progress.{Progress}
use Rattle.progress.specs.Verdicts.{Judged}
use Rattle.progress.proofs.Course.{lasted}
use Rattle.progress.proofs.Finishes.{over_or_lasts, last_enough, finishes}
use Rattle.progress.proofs.NotRefused.{not_refused}

module _ (R : Run) (P : Premises R) {Made : Signature → Type 0} (judged : Judged R Made) (x : RegisterId) (o : Invocation R x) (t : ℕ) (l : o.begun < t) (one : OneLaptop R o.id 0 t) where
  -- A message that reached a replica while the operation lasts was answered there.
  replied : (u : ℕ) (m : Message) (id : ReplicaId) → Lasts R x o t → Sends R x o u m → Reached R x Made o u m t id → Replied R x Made o u m t id
  replied u m id lasts s r =
      let sent = s.lasts.has_begun in
      let lasts_then : Lasts R x o r.handed.i = lasted R x o (omega (arith, r.handed.after_sent)) (omega (arith, r.before)) lasts in
      let (reply, replies) = not_refused R x P judged o u r.handed.i m id r.handed.signature r.handed.verdicts s r.handed.after_sent lasts_then (λ v nonce low high. one v nonce low (omega (arith, r.before))) r.not_withdrawn r.boxed r.handed.event_is in
      record {
        handed = r.handed;
        long = r.boxed.long;
        reply = reply;
        replies = replies;
        delivered = r.delivered reply replies;
      }

  -- That the message that it sent last is delivered, and what is answered, is enough.
  pub last_delivered : ((u : ℕ) (m : Message) → SentLast R x o t u m → AtQuorum R (Reached R x Made o u m t)) → Over R x o t
  last_delivered reached =
      ⊎_elim (λ over. over)
      (λ lasts. last_enough R x o judged t l (λ v nonce low high. one v nonce (omega arith) high) (λ u m last.
      let q = reached u m last in
      record { who = q.who; enough = q.enough; correct = q.correct; each = λ id k. replied u m id lasts last.sends (q.each id k) }))
      (over_or_lasts R x o t l (λ v nonce low high. one v nonce (omega arith) high))

  delivered : ((u : ℕ) (m : Message) → u < t → Sends R x o u m → AtQuorum R (Reached R x Made o u m t)) → Over R x o t
  delivered reached = last_delivered (λ u m last. reached u m last.before last.sends)

pub progress : (R : Run) → Premises R → (Made : Signature → Type 0) → Judged R Made → (x : RegisterId) → Progress R x Made
progress R P Made judged x = record {
  not_refused = not_refused R x P judged;
  finishes = λ o. finishes R x o judged;
  delivered = delivered R P judged x;
}
