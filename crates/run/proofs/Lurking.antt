-- Document 02, #108, of every run and register: of a client that each correct replica has withdrawn, at most one timestamp above S has a genuine
-- proof. Assumes nothing.
use mathlib.Core.Path.{◌≡◌, ap, ◌∙◌, sym}
use mathlib.Core.Logic.{◌⊎◌, inl, inr, ⊎_elim}
use mathlib.Core.Bool.{true, ◌&&◌}
use mathlib.Core.List.{List}
use Prim.Native.Nat.{ℕ, ◌≤◌, ◌<◌}
use native.Mathlib.Omega.{arith}
use borrow.Author.Tests.{lt-ltb}
use lib.Dec.{ltb}
use lib.ListN.{length}
use Rattle.base.specs.Party.{replica_count, is_register}
use Rattle.base.specs.ReplicaSet.{has}
use Rattle.base.specs.Timestamp.{client_of}
use Rattle.base.specs.declared.party.ClientId.{ClientId}
use Rattle.base.specs.declared.party.RegisterId.{RegisterId}
use Rattle.base.specs.declared.party.ReplicaId.{ReplicaId}
use Rattle.base.proofs.Booleans.{and_true_both}
use Rattle.base.proofs.Counting.{count_most}
use Rattle.base.proofs.Quorum.{quorum_correct}
use Rattle.base.proofs.Range.{bounds}
use Rattle.protocol.specs.Client.{send}
use Rattle.wire.specs.Acceptance.{client, replica, sender_of}
use Rattle.wire.specs.Decode.{register_in}
use Rattle.wire.specs.Message.{PREPARED}
use Rattle.wire.specs.Proof.{PreparedProof, signer_set}
use Rattle.run.specs.Claims.{Genuine}
use Rattle.run.specs.Lurking.{bar, WithdrawnEverywhere, LeftBehind, Lurking}
use Rattle.run.specs.Premises.{FewFaulty, Premises}
use Rattle.run.specs.Run.{Run, held, Said}
use Rattle.run.proofs.Closing.{written, earlier_closed, WrittenByQuorum, written_by}
use Rattle.run.proofs.Held.{written_held}
use Rattle.run.proofs.HeldFalling.{few_above_bar}
use Rattle.run.proofs.Order.{three_ways}
use Rattle.run.proofs.SentMessages.{AllTrue, said_answers}
use Rattle.run.proofs.Slots.{order, meet, genuine_backed, genuine_counted}
use Rattle.run.proofs.Turns.{register_step_lem}
use Rattle.run.proofs.Withdrawals.{withdrawals}

module _ (R : Run) (few : FewFaulty R) (truth : AllTrue R) (x : RegisterId) (registered : is_register x ≡ true) (c : ClientId) (t : ℕ) (withdrawn : WithdrawnEverywhere R c t) where
  -- What a correct replica sent PREPARED for, at the client's asking, it sent before it took the order.
  before_order : (id : ReplicaId) → R.correct_replica id ≡ true → (s : ℕ) (d : List ℕ) (end : ℕ) → client_of s ≡ c → Said R x (replica id) (PREPARED id s d) end → Said R x (replica id) (PREPARED id s d) t
  before_order id correct s d end own e =
      ⊎_elim (λ late. absurd (shut_out late)) (λ early. record { time = e.time; earlier = early; by = e.by; register_is = e.register_is; answered = e.answered }) (order t e.time)
    where
      shut_out : t ≤ e.time → ⊥
      shut_out late =
          let step = register_step_lem R x id correct e.time (PREPARED id s d) (said_answers R x id (PREPARED id s d) end e) in
          let (proof, last, asked) = step.facts.prepared_asked id s d (cc (step.answer_is, e.answered)) in
          (withdrawals R).shut_out id c t e.time (withdrawn id correct) late
          (record {
            bytes = step.bytes;
            verdicts = step.verdicts;
            register = register_in step.bytes;
            message = step.message;
            event_is = step.event_is;
            decoded = step.admitted.decodes;
            sender = ap sender_of asked ∙ ap client own;
          })
          (send (PREPARED id s d), e.answered)

  -- A quorum sent WRITTEN for no timestamp above S: f + 1 correct replicas would hold more than S.
  none_written : (s : ℕ) → bar R x t < s → WrittenByQuorum R x t s → ⊥
  none_written s above b =
      let quorum = b.said_it in
      let holders = count_most (replica_count R.f) (λ i. has b.who i && R.correct_replica i) (λ i. R.correct_replica i && ltb (bar R x t) (held R x i t)) holds in
      let many = quorum_correct R.f R.correct_replica few (bounds 1 5 R.f R.f_in_range).1 (has b.who) quorum.enough in
      omega (arith, few_above_bar R x t)
    where
      holds : (i : ReplicaId) → 1 ≤ i.0 → i.0 ≤ replica_count R.f → (has b.who i && R.correct_replica i) ≡ true → (R.correct_replica i && ltb (bar R x t) (held R x i t)) ≡ true
      holds i low high k =
          let both = and_true_both (has b.who i) (R.correct_replica i) k in
          let least = written_held R x i both.1 t s (b.said_it.signed i both.0 both.1) in
          rw both.1 (lt-ltb (bar R x t) (held R x i t) (omega arith))

  -- So what is left behind is above every correct replica's written timestamp.
  left_open : (id : ReplicaId) → R.correct_replica id ≡ true → (s : ℕ) → 1 ≤ s → LeftBehind R x c t s → written R x id t < s
  left_open id correct s positive left = ⊎_elim (λ closed. absurd (go closed (written_by R x truth registered id correct t))) (λ below. below) (order s (written R x id t))
    where
      go : s ≤ written R x id t → (written R x id t ≡ 0) ⊎ WrittenByQuorum R x t (written R x id t) → ⊥
      go closed (inl unwritten) = omega arith
      go closed (inr quorum) = none_written (written R x id t) (omega (arith, left.1)) quorum

  -- The replica that vouches for both would have prepared the later one only where the earlier one was written.
  not_both : (proof proof' : PreparedProof) → Genuine R x proof → Genuine R x proof' → LeftBehind R x c t proof.timestamp → LeftBehind R x c t proof'.timestamp
      → proof.timestamp < proof'.timestamp → ⊥
  not_both proof proof' g g' left left' less =
      let range = bounds 1 16 x.0 registered in
      let end = length R.events in
      let backed = genuine_backed R x (omega arith) proof g in
      let backed' = genuine_backed R x (omega arith) proof' g' in
      let common = meet R few (has (signer_set proof.entries)) (has (signer_set proof'.entries)) backed.enough backed'.enough in
      let id = common.at in
      let correct = common.in_r in
      let e = before_order id correct proof.timestamp proof.digest end left.0 (backed.signed id common.in_p correct) in
      let e' = before_order id correct proof'.timestamp proof'.digest end left'.0 (backed'.signed id common.in_q correct) in
      let counted = genuine_counted R x proof g in
      let closed = earlier_closed R x id correct t proof.timestamp proof'.timestamp proof.digest proof'.digest counted less (left.0 ∙ sym left'.0) e e' in
      omega (arith, left_open id correct proof.timestamp (omega arith) left)

-- Whatever the cards and the nonces.
pub at_most_one : (R : Run) → FewFaulty R → AllTrue R → (x : RegisterId) → Lurking R x
at_most_one R few truth x registered c t withdrawn proof proof' g g' left left' =
    three_ways proof.timestamp proof'.timestamp
    (λ l. absurd (not_both R few truth x registered c t withdrawn proof proof' g g' left left' l))
    (λ e. e)
    (λ l. absurd (not_both R few truth x registered c t withdrawn proof' proof g' g left' left l))

pub lurking : (R : Run) → Premises R → (x : RegisterId) → Lurking R x
lurking R P x = at_most_one R P.few_faulty P.true_verdicts_lem x
