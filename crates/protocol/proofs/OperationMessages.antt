-- An operation's messages: a read sends at most two, a write at most three, a view one. Assumes nothing.
use mathlib.Core.Path.{◌≡◌, refl, ap}
use mathlib.Core.Bool.{Bool, true, false, cond}
use mathlib.Core.List.{List, [], ◌∷◌}
use mathlib.Core.Option.{Option, none, some}
use Prim.Native.Nat.{ℕ, ◌+◌, ◌≤◌}
use native.Mathlib.Omega.{arith}
use borrow.Author.Tests.{leb-true}
use lib.Dec.{leb}
use Rattle.std.specs.declared.option.Option.{Option as CodeOption}
use Rattle.std.specs.declared.option.Option.TheVariants.{Some, None}
use Rattle.base.specs.Outcome.{Outcome, accepted, refused, guard, ◌>>=◌}
use Rattle.base.specs.Party.{is_writer, client_setup}
use Rattle.base.specs.ReplicaSet.{with}
use Rattle.base.specs.declared.party.ClientId.{ClientId}
use Rattle.base.specs.declared.party.RegisterId.{RegisterId}
use Rattle.base.specs.declared.party.ReplicaId.{ReplicaId}
use Rattle.base.specs.declared.replica_set.ReplicaSet.{ReplicaSet}
use Rattle.base.specs.declared.timestamp.Timestamp.{Timestamp}
use Rattle.base.proofs.Outcome.{guard_accepted}
use Rattle.wire.specs.HandedProof.{admitted_proof}
use Rattle.wire.specs.Layout.{signature}
use Rattle.wire.specs.Message.{Message, READ-STAMP, PREPARE, WRITE, READ, STAMP, PREPARED, WRITTEN, CARD}
use Rattle.wire.specs.Proof.{PreparedProof, WrittenProof}
use Rattle.wire.specs.Writing.{roomy}
use Rattle.protocol.specs.Client.{Answer, send, waits, done, ended, Turn, made_client, given, client_answers, enough, keep_better_card, begin_write, begin_read, to_prepare, after_stamp, on_stamp, after_prepared, on_prepared, after_written, after_write_back, on_written, after_card, count_card, on_card, on_reply, client_step, begin_write_call, begin_read_call, client_call}
use Rattle.protocol.specs.Events.{write_begun, read_begun, reply_handed, made, proof_handed, taking_answer, after_taking}
use Rattle.protocol.specs.Handing.{with_handed, may_take, take_proof, taking_answers, hand_call, making_call}
use Rattle.protocol.specs.Viewer.{after_view, on_viewer_reply, viewer_step, viewer_call}
use Rattle.protocol.specs.OperationMessages.{Call, sent_by, unless_begun, sent_after, sent_in, OperationMessages}
use Rattle.protocol.specs.RegisterReplica.{with_output}
use Rattle.protocol.specs.declared.client.Client.{Client}
use Rattle.protocol.specs.Client.{Send}
use Rattle.protocol.specs.declared.client.Phase.{Phase}
use Rattle.protocol.specs.declared.client.Phase.TheVariants.{Idle, Stamps, Prepareds, Writtens, Cards, WriteBack}
use Rattle.protocol.proofs.Accepts.{Accepts, by_value, by_refusal, by_guard, by_cases}
use Rattle.protocol.proofs.Towards.{client_takes_lem, viewer_takes}

-- The messages that an operation may still send, by its phase.
abbrev remaining : Phase → ℕ
remaining Idle = 0
remaining (Stamps nonce best counted) = 2
remaining (Prepareds timestamp counted) = 1
remaining (Writtens timestamp counted) = 0
remaining (Cards nonce best counted showed) = 1
remaining (WriteBack timestamp counted) = 0

abbrev pub sends : Answer → ℕ
sends (send message) = 1
sends waits = 0
sends (done timestamp card signers) = 0
sends ended = 0

-- What a turn sends and what may follow are so many at most.
record AtMost (most : ℕ) (turn : Turn) : Type 0 where
  few : sends turn.answer + remaining turn.next.phase ≤ most

-- ---- One turn: a message that is sent is one less to send

at_most_lem : {most : ℕ} {turn : Turn} → sends turn.answer + remaining turn.next.phase ≤ most → Accepts (AtMost most) (accepted turn)
at_most_lem h = by_value (record { few = h })

-- The same as a test: whatever a `cond` asks, both its branches pass.
abbrev at_most : ℕ → Outcome Turn → Bool
at_most most (accepted turn) = leb (sends turn.answer + remaining turn.next.phase) most
at_most most (refused number) = true

by_test : {most : ℕ} (out : Outcome Turn) → at_most most out ≡ true → Accepts (AtMost most) out
by_test {most} (accepted turn) e = at_most_lem (leb-true (sends turn.answer + remaining turn.next.phase) most e)
by_test (refused number) e = by_refusal

at_most_cond : (most : ℕ) (test : Bool) (a b : Outcome Turn) → at_most most (cond test a b) ≡ cond test (at_most most a) (at_most most b)
at_most_cond most true a b = refl
at_most_cond most false a b = refl

cond_same : (test : Bool) (b : Bool) → cond test b b ≡ b
cond_same true b = refl
cond_same false b = refl

to_prepare_lem : (client : Client) (best : Timestamp) (next : CodeOption Timestamp) → at_most 2 (to_prepare client best next) ≡ true
to_prepare_lem client best None = refl
to_prepare_lem client best (Some next) = refl

module _ (counted : ReplicaSet) (client : Client) where
  after_stamp_lem : (nonce : ℕ) (best : Timestamp) → Accepts (AtMost 2) (after_stamp nonce best counted client)
  unfolding after_stamp
  after_stamp_lem nonce best = by_test _ (simp (at_most_cond, to_prepare_lem, cond_same))

  after_prepared_lem : (timestamp : Timestamp) → Accepts (AtMost 1) (after_prepared timestamp counted client)
  unfolding after_prepared
  after_prepared_lem timestamp = by_test _ (simp (at_most_cond, cond_same))

  after_written_lem : (timestamp : Timestamp) → Accepts (AtMost 0) (after_written timestamp counted client)
  unfolding after_written
  after_written_lem timestamp = by_test _ (simp (at_most_cond, cond_same))

  after_write_back_lem : (timestamp : Timestamp) → Accepts (AtMost 0) (after_write_back timestamp counted client)
  unfolding after_write_back
  after_write_back_lem timestamp = by_test _ (simp (at_most_cond, cond_same))

  count_card_lem : (nonce : ℕ) (best : Timestamp) (showed : ReplicaSet) → Accepts (AtMost 1) (count_card after_card nonce best counted showed client)
  unfolding count_card after_card
  count_card_lem nonce best showed = by_test _ (simp (at_most_cond, cond_same))

module _ (client : Client) (sender : ReplicaId) where
  on_stamp_lem : (nonce : ℕ) (proof : Option PreparedProof) (addressed : ClientId) (phase : Phase) → Accepts (AtMost (remaining phase)) (on_stamp client sender nonce proof addressed phase)
  unfolding on_stamp
  on_stamp_lem nonce proof addressed Idle = by_refusal
  on_stamp_lem nonce proof addressed (Stamps asked best counted) = by_guard 18 (λ is. after_stamp_lem _ _ _ _)
  on_stamp_lem nonce proof addressed (Prepareds timestamp counted) = by_refusal
  on_stamp_lem nonce proof addressed (Writtens timestamp counted) = by_refusal
  on_stamp_lem nonce proof addressed (Cards asked best counted showed) = by_refusal
  on_stamp_lem nonce proof addressed (WriteBack timestamp counted) = by_refusal

  on_prepared_lem : (timestamp : ℕ) (digest own : List ℕ) (phase : Phase) → Accepts (AtMost (remaining phase)) (on_prepared client sender timestamp digest own phase)
  unfolding on_prepared
  on_prepared_lem timestamp digest own Idle = by_refusal
  on_prepared_lem timestamp digest own (Stamps asked best counted) = by_refusal
  on_prepared_lem timestamp digest own (Prepareds asked counted) = by_guard 18 (λ is. after_prepared_lem _ _ _)
  on_prepared_lem timestamp digest own (Writtens asked counted) = by_refusal
  on_prepared_lem timestamp digest own (Cards asked best counted showed) = by_refusal
  on_prepared_lem timestamp digest own (WriteBack asked counted) = by_refusal

  on_written_lem : (timestamp : ℕ) (own : List ℕ) (phase : Phase) → Accepts (AtMost (remaining phase)) (on_written client sender timestamp own phase)
  unfolding on_written
  on_written_lem timestamp own Idle = by_refusal
  on_written_lem timestamp own (Stamps asked best counted) = by_refusal
  on_written_lem timestamp own (Prepareds asked counted) = by_refusal
  on_written_lem timestamp own (Writtens asked counted) = by_guard 18 (λ is. after_written_lem _ _ _)
  on_written_lem timestamp own (Cards asked best counted showed) = by_refusal
  on_written_lem timestamp own (WriteBack asked counted) = by_guard 18 (λ is. after_write_back_lem _ _ _)

  on_card_lem : (nonce : ℕ) (card : List ℕ) (proof : Option PreparedProof) (addressed : ClientId) (phase : Phase)
      → Accepts (AtMost (remaining phase)) (on_card after_card client sender nonce card proof addressed phase)
  unfolding on_card
  on_card_lem nonce card proof addressed Idle = by_refusal
  on_card_lem nonce card proof addressed (Stamps asked best counted) = by_refusal
  on_card_lem nonce card proof addressed (Prepareds timestamp counted) = by_refusal
  on_card_lem nonce card proof addressed (Writtens timestamp counted) = by_refusal
  on_card_lem nonce card proof addressed (Cards asked best counted showed) = by_guard 18 (λ is. count_card_lem _ _ _ _ _)
  on_card_lem nonce card proof addressed (WriteBack timestamp counted) = by_refusal

on_reply_lem : (client : Client) (own : List ℕ) (message : Message) → Accepts (AtMost (remaining client.phase)) (on_reply client own message)
unfolding on_reply
on_reply_lem client own (STAMP sender nonce proof addressed) = on_stamp_lem client sender nonce proof addressed client.phase
on_reply_lem client own (PREPARED sender timestamp digest) = on_prepared_lem client sender timestamp digest own client.phase
on_reply_lem client own (WRITTEN sender timestamp) = on_written_lem client sender timestamp own client.phase
on_reply_lem client own (CARD sender nonce card proof addressed) = by_guard 14 (λ stands. on_card_lem client sender nonce card proof addressed client.phase)
on_reply_lem client own (READ-STAMP sender nonce) = by_refusal
on_reply_lem client own (PREPARE sender timestamp digest proof last) = by_refusal
on_reply_lem client own (WRITE sender card proof) = by_refusal
on_reply_lem client own (READ sender nonce) = by_refusal

step_sends : (client : Client) (bytes verdicts : List ℕ) → Accepts (AtMost (remaining client.phase)) (client_step client bytes verdicts)
step_sends client bytes verdicts = record { holds = λ turn e. let taken = client_takes_lem client bytes verdicts turn e in (on_reply_lem client (signature bytes) taken.0).holds turn taken.2 }

-- A beginning sends its question.
write_begins : (client : Client) (register : RegisterId) (card : List ℕ) → Accepts (AtMost 3) (begin_write client register card)
unfolding begin_write
write_begins client register card = by_guard 20 (λ registered. by_guard 14 (λ good. by_guard 17 (λ may. at_most_lem (omega arith))))

read_begins : (client : Client) (register : RegisterId) → Accepts (AtMost 2) (begin_read client register)
unfolding begin_read
read_begins client register = by_guard 20 (λ registered. by_guard 17 (λ may. at_most_lem (omega arith)))

-- ---- One call, refused or not

phase_low : (phase : Phase) → remaining phase ≤ 2
phase_low Idle = omega arith
phase_low (Stamps nonce best counted) = omega arith
phase_low (Prepareds timestamp counted) = omega arith
phase_low (Writtens timestamp counted) = omega arith
phase_low (Cards nonce best counted showed) = omega arith
phase_low (WriteBack timestamp counted) = omega arith

module _ (client : Client) (old : List ℕ) (most : ℕ) where
  call_sends : (step : Outcome Turn) → remaining client.phase ≤ most → Accepts (AtMost most) step
      → sent_by (client_answers client old (with_output old step)).answer + remaining (client_answers client old (with_output old step)).client.phase ≤ most
  call_sends step low turns = go (with_output old step) (λ turn e. turns.holds turn (guard_accepted 1 (roomy old) step turn e).1)
    where
      answers : (answer : Answer) (next : Client) → sends answer + remaining next.phase ≤ most
          → sent_by (given next.register old (accepted answer)).answer + remaining next.phase ≤ most
      answers (send message) next h = h
      answers waits next h = h
      answers (done timestamp card signers) next h = h
      answers ended next h = h

      go : (out : Outcome Turn) → ((turn : Turn) → out ≡ accepted turn → AtMost most turn)
          → sent_by (client_answers client old out).answer + remaining (client_answers client old out).client.phase ≤ most
      go (accepted turn) h = answers turn.answer turn.next (h turn refl).few
      go (refused number) h = omega arith

  -- A beginning that is refused leaves the record, and so what may follow.
  begins_again : (f : ℕ) (id : ClientId) (out : Outcome Turn) (calls : List Call) → sent_after f id client calls ≤ most
      → unless_begun (client_answers client old out).answer (sent_after f id (client_answers client old out).client calls) ≤ most
  begins_again f id (accepted turn) calls h = go turn.answer turn.next
    where
      go : (answer : Answer) (next : Client) → unless_begun (given next.register old (accepted answer)).answer (sent_after f id next calls) ≤ most
      go (send message) next = omega arith
      go waits next = omega arith
      go (done timestamp card signers) next = omega arith
      go ended next = omega arith
  begins_again f id (refused number) calls h = h

  -- So does a making; and a proof that is handed over sends nothing, and leaves the phase.
  makes_again : (f : ℕ) (id : ClientId) (out : Outcome Client) (calls : List Call) → sent_after f id client calls ≤ most
      → unless_begun (after_taking old (taking_answers client out)).answer (sent_after f id (after_taking old (taking_answers client out)).client calls) ≤ most
  makes_again f id (accepted next) calls h = omega arith
  makes_again f id (refused number) calls h = h

  takes_quietly : (register : RegisterId) (bytes verdicts : List ℕ)
      → (sent_by (after_taking old (hand_call client register bytes verdicts)).answer ≡ 0) × ((after_taking old (hand_call client register bytes verdicts)).client.phase ≡ client.phase)
  unfolding hand_call take_proof guard
  takes_quietly register bytes verdicts = go (admitted_proof client.f register bytes verdicts)
    where
      taken : (b : Bool) (proof : WrittenProof) → (sent_by (taking_answer (taking_answers client (guard 17 b (accepted (with_handed register proof client)))).answer) ≡ 0)
          × ((taking_answers client (guard 17 b (accepted (with_handed register proof client)))).client.phase ≡ client.phase)
      taken true proof = (refl, refl)
      taken false proof = (refl, refl)

      go : (o : Outcome WrittenProof) → (sent_by (taking_answer (taking_answers client (o >>= λ proof. guard 17 (may_take register client) (accepted (with_handed register proof client)))).answer) ≡ 0)
          × ((taking_answers client (o >>= λ proof. guard 17 (may_take register client) (accepted (with_handed register proof client)))).client.phase ≡ client.phase)
      go (accepted proof) = taken (may_take register client) proof
      go (refused number) = (refl, refl)

-- The record of a making, or its refusal.
abbrev made_or_not : ℕ → ClientId → ℕ → Outcome Client
made_or_not f id nonce = client_setup f id nonce >>= λ ready. accepted (made_client f id nonce)

-- ---- All calls of an operation

module _ (f : ℕ) (id : ClientId) (writer : is_writer id ≡ true) where
  after_sends : (client : Client) (calls : List Call) → sent_after f id client calls ≤ remaining client.phase
  unfolding sent_after begin_write_call begin_read_call client_call making_call
  after_sends client [] = omega arith
  after_sends client ((write_begun register card, old) ∷ calls) =
      begins_again client old (remaining client.phase) f id (with_output old (begin_write client register card)) calls (after_sends client calls)
  after_sends client ((read_begun register, old) ∷ calls) =
      begins_again client old (remaining client.phase) f id (with_output old (begin_read client register)) calls (after_sends client calls)
  after_sends client ((reply_handed bytes verdicts, old) ∷ calls) =
      let step = client_step client bytes verdicts in
      rw writer
      (omega (
        arith,
        call_sends client old (remaining client.phase) step (omega arith) (step_sends client bytes verdicts),
        after_sends (client_answers client old (with_output old step)).client calls,
      ))
  after_sends client ((made nonce, old) ∷ calls) = makes_again client old (remaining client.phase) f id (made_or_not f id nonce) calls (after_sends client calls)
  after_sends client ((proof_handed register bytes verdicts, old) ∷ calls) =
      let quiet = takes_quietly client old 0 register bytes verdicts in
      let same : remaining (after_taking old (hand_call client register bytes verdicts)).client.phase ≡ remaining client.phase = ap remaining quiet.1 in
      omega (arith, quiet.0, after_sends (after_taking old (hand_call client register bytes verdicts)).client calls)

  write_sends : (client : Client) (register : RegisterId) (card old : List ℕ) (calls : List Call) → sent_in f id (begin_write_call client register card old) calls ≤ 3
  unfolding begin_write_call
  write_sends client register card old calls =
      let low = phase_low client.phase in
      omega (
        arith,
        call_sends client old 3 (begin_write client register card) (omega arith) (write_begins client register card),
        after_sends (client_answers client old (with_output old (begin_write client register card))).client calls,
      )

  read_sends : (client : Client) (register : RegisterId) (old : List ℕ) (calls : List Call) → sent_in f id (begin_read_call client register old) calls ≤ 2
  unfolding begin_read_call
  read_sends client register old calls =
      omega (
        arith,
        call_sends client old 2 (begin_read client register) (phase_low client.phase) (read_begins client register),
        after_sends (client_answers client old (with_output old (begin_read client register))).client calls,
      )

-- ---- A view: nothing after its READ

pub record Quiet (turn : Turn) : Type 0 where
  pub sends_none : sends turn.answer ≡ 0

view_quiet : (client : Client) (sender : ReplicaId) (nonce : ℕ) (card : List ℕ) (proof : Option PreparedProof) (addressed : ClientId) (phase : Phase)
    → Accepts Quiet (on_card after_view client sender nonce card proof addressed phase)
unfolding on_card count_card after_view
view_quiet client sender nonce card proof addressed Idle = by_refusal
view_quiet client sender nonce card proof addressed (Stamps asked best counted) = by_refusal
view_quiet client sender nonce card proof addressed (Prepareds timestamp counted) = by_refusal
view_quiet client sender nonce card proof addressed (Writtens timestamp counted) = by_refusal
view_quiet client sender nonce card proof addressed (Cards asked best counted showed) =
    by_guard 18 (λ is. by_cases (enough (keep_better_card best card proof client) (with counted sender)) (λ full. by_value (record { sends_none = refl })) (λ less. by_value (record { sends_none = refl })))
view_quiet client sender nonce card proof addressed (WriteBack timestamp counted) = by_refusal

pub reply_quiet : (client : Client) (message : Message) → Accepts Quiet (on_viewer_reply client message)
unfolding on_viewer_reply
reply_quiet client (CARD sender nonce card proof addressed) = by_guard 14 (λ stands. view_quiet client sender nonce card proof addressed client.phase)
reply_quiet client (STAMP sender nonce proof addressed) = by_refusal
reply_quiet client (PREPARED sender timestamp digest) = by_refusal
reply_quiet client (WRITTEN sender timestamp) = by_refusal
reply_quiet client (READ-STAMP sender nonce) = by_refusal
reply_quiet client (PREPARE sender timestamp digest proof last) = by_refusal
reply_quiet client (WRITE sender card proof) = by_refusal
reply_quiet client (READ sender nonce) = by_refusal

handed_quiet : (client : Client) (bytes verdicts old : List ℕ) → sent_by (viewer_call client bytes verdicts old).answer ≡ 0
unfolding viewer_call
handed_quiet client bytes verdicts old = go (with_output old (viewer_step client bytes verdicts)) refl
  where
    answers : (answer : Answer) (next : Client) → sends answer ≡ 0 → sent_by (given next.register old (accepted answer)).answer ≡ 0
    answers (send message) next h = h
    answers waits next h = h
    answers (done timestamp card signers) next h = h
    answers ended next h = h

    go : (out : Outcome Turn) → with_output old (viewer_step client bytes verdicts) ≡ out → sent_by (client_answers client old out).answer ≡ 0
    go (refused number) e = refl
    go (accepted turn) e =
        let taken = viewer_takes client bytes verdicts turn (guard_accepted 1 (roomy old) (viewer_step client bytes verdicts) turn e).1 in
        answers turn.answer turn.next ((reply_quiet client taken.0).holds turn taken.2).sends_none

module _ (f : ℕ) (id : ClientId) (viewer : is_writer id ≡ false) where
  after_view_lem : (client : Client) (calls : List Call) → sent_after f id client calls ≤ 0
  unfolding sent_after begin_write_call begin_read_call making_call
  after_view_lem client [] = omega arith
  after_view_lem client ((write_begun register card, old) ∷ calls) = begins_again client old 0 f id (with_output old (begin_write client register card)) calls (after_view_lem client calls)
  after_view_lem client ((read_begun register, old) ∷ calls) = begins_again client old 0 f id (with_output old (begin_read client register)) calls (after_view_lem client calls)
  after_view_lem client ((reply_handed bytes verdicts, old) ∷ calls) =
      rw viewer (omega (arith, handed_quiet client bytes verdicts old, after_view_lem (viewer_call client bytes verdicts old).client calls))
  after_view_lem client ((made nonce, old) ∷ calls) = makes_again client old 0 f id (made_or_not f id nonce) calls (after_view_lem client calls)
  after_view_lem client ((proof_handed register bytes verdicts, old) ∷ calls) =
      omega (arith, (takes_quietly client old 0 register bytes verdicts).0, after_view_lem (after_taking old (hand_call client register bytes verdicts)).client calls)

  view_sends : (client : Client) (register : RegisterId) (old : List ℕ) (n : ℕ) (calls : List Call) → (begin_read_call client register old).answer ≡ accepted (Send n)
      → sent_in f id (begin_read_call client register old) calls ≡ 1
  view_sends client register old n calls e = let none = after_view_lem (begin_read_call client register old).client calls in rw e (omega arith)

pub operation_messages : OperationMessages
operation_messages = record { write = write_sends; read = read_sends; view = view_sends }
