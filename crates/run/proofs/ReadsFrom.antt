-- A finished operation shows what was written. Assumes nothing.
use mathlib.Core.Path.{◌≡◌, subst, ◌∙◌}
use mathlib.Core.Logic.{inl, inr}
use mathlib.Core.Bool.{true}
use mathlib.Core.List.{List}
use Prim.Native.Nat.{ℕ, suc, ◌≤◌, ◌<◌}
use native.Mathlib.Omega.{arith}
use Rattle.base.specs.Party.{is_writer}
use Rattle.base.specs.ReplicaSet.{has}
use Rattle.base.specs.Timestamp.{number, client_of}
use Rattle.base.specs.declared.party.ClientId.{ClientId}
use Rattle.base.specs.declared.party.RegisterId.{RegisterId}
use Rattle.base.specs.declared.party.ReplicaId.{ReplicaId}
use Rattle.base.specs.declared.replica_set.ReplicaSet.{ReplicaSet}
use Rattle.wire.specs.Acceptance.{client}
use Rattle.wire.specs.Message.{PREPARE, PREPARED}
use Rattle.wire.specs.Sha256.{sha256}
use Rattle.run.specs.ReadsFrom.{Write, CarriesCorrect, ReadsFrom}
use Rattle.run.specs.Claims.{Finished}
use Rattle.run.specs.Premises.{Premises}
use Rattle.run.specs.Run.{Run, Said}
use Rattle.run.proofs.Turns.{same_client, correct_client_range, Answers, RegisterStep, register_step_lem}
use Rattle.run.proofs.SentMessages.{said_answers, step_said}
use Rattle.run.proofs.Slots.{Backed, meet}
use Rattle.run.proofs.Operations.{Shown}
use Rattle.run.proofs.Demand3.{write_shows, start_shows}
use Rattle.run.proofs.Order.{finish}
use Rattle.run.proofs.Writes.{write_of, write_in_run}

module _ (R : Run) (x : RegisterId) (P : Premises R) where
  -- A correct replica that signed PREPARED for a backed timestamp, at its step of the register.
  record Signed (t s : ℕ) (d : List ℕ) : Type 0 where
    time : ℕ
    earlier : time < t
    by : ReplicaId
    step : RegisterStep R x by time
    answers : Answers R x by time (PREPARED by s d)
    sends : step.reply.message ≡ PREPARED by s d

  signed : (t s : ℕ) (d : List ℕ) (who : ReplicaSet) → Backed R x t s d who → Signed t s d
  signed t s d who b =
      let one = meet R P.few_faulty (has who) (has who) b.enough b.enough in
      let said = b.signed one.at one.in_p one.in_r in
      let answers = said_answers R x one.at (PREPARED one.at s d) t said in
      let step = register_step_lem R x one.at one.in_r said.time (PREPARED one.at s d) answers in
      record { time = said.time; earlier = said.earlier; by = one.at; step = step; answers = answers; sends = cc (step.answer_is, said.answered) }

  backed_writer : (t s : ℕ) (d : List ℕ) (who : ReplicaSet) → Backed R x t s d who → is_writer (client_of s) ≡ true
  backed_writer t s d who b = let it = signed t s d who b in (it.step.facts.prepared_sent it.by s d it.sends).1

  -- A timestamp that is backed was prepared by its client, if that is correct.
  backed_write : (t s : ℕ) (d : List ℕ) (who : ReplicaSet) → R.correct_client (client_of s) ≡ true → Backed R x t s d who
      → (w : Write R x) × (w.id ≡ client_of s) × (w.timestamp ≡ s) × (sha256 w.card ≡ d) × (w.prepared < t)
  backed_write t s d who c b =
      let it = signed t s d who b in
      let (shown, last, is) = it.step.facts.prepared_asked it.by s d it.sends in
      let said : Said R x (client (client_of s)) (PREPARE (client_of s) s d shown last) it.time = step_said R P x it.by it.time it.step (PREPARED it.by s d) it.answers (PREPARE (client_of s) s d shown last) is c in
      let (w, own, at, of, when) = write_of R x (client_of s) c said.time s d shown last said.by said.register_is said.answered in
      let before = it.earlier in
      let before' = said.earlier in
      (w, own, at, of, omega arith)

  carried : (o : Finished R x) → client_of (number o.timestamp) ≡ o.timestamp.client
  carried o = let fits = (finish R x P o).fits in same_client (client_of (number o.timestamp)) o.timestamp.client (omega arith)

  pub reads_from : (o : Finished R x) → CarriesCorrect R x o
      → (w : Write R x) × (w.id ≡ o.timestamp.client) × (w.timestamp ≡ number o.timestamp) × (w.card ≡ o.card) × (w.begun < o.finished)
  reads_from o c = go (finish R x P o).is_shown
    where
      go : Shown R x (suc o.finished) (number o.timestamp) o.card o.signers
          → (w : Write R x) × (w.id ≡ o.timestamp.client) × (w.timestamp ≡ number o.timestamp) × (w.card ≡ o.card) × (w.begun < o.finished)
      go (inl k) = let z = k.0 in let range = correct_client_range R o.timestamp.client c in absurd (omega arith)
      go (inr v) =
          let c' : R.correct_client (client_of (number o.timestamp)) ≡ true = rw (carried o) c in
          let (w, own, at, of, before) = backed_write (suc o.finished) (number o.timestamp) (sha256 o.card) o.signers c' v.backed in
          let after = w.after in
          (w, own ∙ carried o, at, P.different_digests_lem w.card o.card (write_in_run R x w) v.card_in_lem of, omega arith)

  carries_writer : (o : Finished R x) → 1 ≤ number o.timestamp → is_writer o.timestamp.client ≡ true
  carries_writer o p = go (finish R x P o).is_shown
    where
      go : Shown R x (suc o.finished) (number o.timestamp) o.card o.signers → is_writer o.timestamp.client ≡ true
      go (inl k) = let z = k.0 in absurd (omega arith)
      go (inr v) = subst (λ (i : ClientId). is_writer i ≡ true) (carried o) (backed_writer (suc o.finished) (number o.timestamp) (sha256 o.card) o.signers v.backed)

  pub reads_from_writes : ReadsFrom R x
  reads_from_writes = record { reads_from = reads_from; writes_own = write_shows R x P; starts_from = start_shows R x P; carries_writer = carries_writer }
