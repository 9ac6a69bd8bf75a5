-- Document 02, #107: that a reply is delivered after it was given is needed. A run that meets the premises and all conditions on verdicts, in which each
-- message of a read reached three correct replicas, bytes equal to their replies were handed to the client, and the read is not over: the WRITTEN of
-- replica 3, equal to one that it gave to another client's WRITE, came before the read wrote back. Assumes nothing.
use mathlib.Core.Path.{◌≡◌, refl, sym, ap, subst, ◌∙◌}
use mathlib.Core.Logic.{⊎_elim}
use mathlib.Core.Bool.{Bool, true, false, not}
use mathlib.Core.List.{List, [], ◌∷◌, ◌++◌}
use mathlib.Core.Option.{some}
use Prim.Native.Nat.{ℕ, ◌<◌}
use native.Mathlib.Omega.{arith}
use lib.Dec.{eqb, lit<, lit≤}
use lib.ListN.{length, get_or, get_elem?, replicate, length-replicate}
use Rattle.base.proofs.Range.{bounds}
use Rattle.base.specs.Counting.{count}
use Rattle.base.specs.Outcome.{accepted}
use Rattle.base.specs.Range.{within}
use Rattle.base.specs.Same.{same}
use Rattle.base.specs.declared.party.RegisterId.{RegisterId}
use Rattle.base.specs.declared.party.ReplicaId.{ReplicaId}
use Rattle.progress.specs.Delivery.{AtQuorum, Boxed, Handed}
use Rattle.progress.specs.Operations.{OneLaptop, Invocation, Lasts, Sends, Over}
use Rattle.progress.specs.Verdicts.{Judged}
use Rattle.protocol.specs.Client.{send, waits}
use Rattle.run.proofs.Order.{three_ways}
use Rattle.run.specs.Premises.{Premises}
use Rattle.run.specs.Run.{begins_read, to_replica, to_client, Run, register_of, event, answer_at, At}
use Rattle.wire.specs.Acceptance.{replica, client}
use Rattle.wire.specs.Checks.{all}
use Rattle.wire.specs.Message.{Message, READ, WRITE, body, encode}
use Rattle.wire.specs.Signatures.{Signature, signatures_to}
use Rattle.witness.proofs.Answers.{no_test, code}
use Rattle.witness.proofs.Cast.{of_three, replica_1, replica_2, replica_3, register_1, client_1, client_2, signature, from_replica, from_client, stale, one, four, service}
use Rattle.witness.proofs.Computing.{messages}
use Rattle.witness.proofs.FirstWrite.{proof, write, written, shows, write_under_way, write_done}
use Rattle.witness.proofs.Invoked.{same_bytes, one_laptop, invoked, lasts_told}
use Rattle.witness.proofs.Judging.{passing, AllFair, as_boxes, Made, judged_told}
use Rattle.witness.proofs.Checked.{tests, Checked, run_of, goes_as_told, meets_premises}
use Rattle.witness.proofs.Story.{Line, ◌↝◌, ◌↛◌, each, told, Told, AllBetween, between, event_told, sends_told}

-- As `Replied`, but the reply's bytes may have come at any time.
pub record RepliedByBytes (R : Run) (x : RegisterId) (Made : Signature → Type 0) (o : Invocation R x) (u : ℕ) (message : Message) (t : ℕ) (id : ReplicaId) : Type 0 where
  pub handed : Handed R x Made u message id
  pub before : handed.i < t
  pub long : length handed.signature ≡ 64
  pub reply : Message
  pub replies : answer_at R handed.i ≡ accepted (send reply)
  pub j : ℕ
  pub came_before : j < t
  pub reply_signature : List ℕ
  pub reply_verdicts : List ℕ
  pub boxed : Boxed R x Made (replica id) reply reply_signature
  pub came : event R j ≡ some (to_client o.id (encode x reply reply_signature) reply_verdicts)

-- `finishes`, with that.
abbrev pub FinishesByBytes : (R : Run) → RegisterId → (Signature → Type 0) → Type 0
FinishesByBytes R x Made =
    (o : Invocation R x) (t : ℕ) → o.begun < t → OneLaptop R o.id o.begun t
    → ((u : ℕ) (message : Message) → u < t → Sends R x o u message → AtQuorum R (RepliedByBytes R x Made o u message t)) → Over R x o t

-- ---- What happens: replicas 1 to 3 and clients 1 and 2 are correct

abbrev asks : Message
asks = READ client_2 1

abbrev write_back : Message
write_back = WRITE client_2 service proof

unfoldable story : List Line
unfolding write_under_way write_done
story =
    -- 0 to 15: client 1 writes 1.1; its WRITE has reached replicas 1 and 2.
    write_under_way
    ++ write_done
    -- 16 to 19: client 2 begins a read. Replica 3 shows 0.0.
    ++ begins_read client_2 register_1 ↝ send asks
    ∷ to_replica replica_1 (from_client client_2 asks) one ↝ send (shows 1 client_2 replica_1)
    ∷ to_replica replica_2 (from_client client_2 asks) one ↝ send (shows 1 client_2 replica_2)
    ∷ to_replica replica_3 (from_client client_2 asks) one ↝ send (stale 1 client_2 replica_3)
    -- 20 and 21: client 1's WRITE reaches replica 3, and the WRITTEN comes to client 2, which does not wait for one.
    ∷ to_replica replica_3 (from_client client_1 write) four ↝ send (written replica_3)
    ∷ to_client client_2 (from_replica replica_3 written) one ↛ 18
    -- 22 to 24: the CARDs: two show 1.1, so it is written back.
    ∷ to_client client_2 (from_replica replica_1 (shows 1 client_2)) four ↝ waits
    ∷ to_client client_2 (from_replica replica_2 (shows 1 client_2)) four ↝ waits
    ∷ to_client client_2 (from_replica replica_3 (stale 1 client_2)) one ↝ send write_back
    -- 25 to 29: the WRITE reaches all three; those that showed 1.1 count already.
    ∷ to_replica replica_1 (from_client client_2 write_back) four ↝ send (written replica_1)
    ∷ to_replica replica_2 (from_client client_2 write_back) four ↝ send (written replica_2)
    ∷ to_replica replica_3 (from_client client_2 write_back) four ↝ send (written replica_3)
    ∷ to_client client_2 (from_replica replica_1 written) one ↛ 18
    ∷ to_client client_2 (from_replica replica_2 written) one ↛ 18
    ∷ []

checked : Checked 3 2 story
unfolding story tests
checked = record { at_most_four = lit≤ tt; at_most_96 = lit≤ tt; well_told_lem = refl; answers = refl; few_faulty = lit≤ tt; verdicts_true = refl; new_nonces_lem = refl; no_other_cards = refl }

pub run : Run
run = run_of checked

as_told : Told run story
unfolding run
as_told = goes_as_told checked

premises : Premises run
unfolding run
premises = meets_premises checked

all_fair : AllFair as_boxes story
unfolding story messages signatures_to all passing
all_fair = refl

-- ---- The read is not over

begun_at : get_elem? story 16 ≡ some (begins_read client_2 register_1 ↝ send asks)
unfolding story
begun_at = refl

abbrev operation : Invocation run register_1
operation = invoked run story as_told register_1 client_2 16 _ _ begun_at false refl

lasts_there : Lasts run register_1 operation 30
unfolding story code messages
lasts_there = lasts_told run story as_told register_1 client_2 16 _ _ begun_at false refl 30 (lit≤ tt) refl

not_over : Over run register_1 operation 30 → ⊥
not_over over =
    let on = lasts_there.goes_on over.end over.after over.before over.at_client in
    ⊎_elim (λ (timestamp, card, signers, e). on.not_done timestamp card signers e) (λ e. on.not_ended e) over.is_end

-- ---- Each message was answered, by bytes

abbrev ByBytes : ℕ → Message → ReplicaId → Type 0
ByBytes u m id = RepliedByBytes run register_1 Made operation u m 30 id

-- One that was told to be sent, at event u, reached a replica with event i, and the bytes of the told reply came with event j.
module _ (u : ℕ) (m question : Message) (asked : body register_1 m ≡ body register_1 question) where
  one_reply : (answer : ReplicaId → Message) (v w : List ℕ) (id : ReplicaId) (i j : ℕ) → u < i → i < 30 → j < 30 → get_elem? story i ≡ some (to_replica id (from_client client_2 question) v ↝ send (answer id))
      → register_of (to_replica id (from_client client_2 question) v) ≡ register_1 → event run j ≡ some (to_client client_2 (from_replica id answer) w) → same (signature id) (signature id) ≡ true → ByBytes u m id
  unfolding invoked
  one_reply answer v w id i j first second third at for came own =
      let (reply, replies, bytes) = sends_told run story as_told i _ (answer id) at in
      let is : body register_1 reply ≡ body register_1 (answer id) = subst (λ (y : RegisterId). body y reply ≡ body y (answer id)) for bytes in
      record {
        handed = record {
          i = i;
          after_sent = first;
          signature = replicate 64 102;
          verdicts = v;
          event_is = event_told run story as_told i _ at ∙ ap (λ (b : List ℕ). some (to_replica id b v)) (same_bytes register_1 question m (replicate 64 102) (sym asked));
        };
        before = second;
        long = length-replicate {A = ℕ} 64 102;
        reply = reply;
        replies = replies;
        j = j;
        came_before = third;
        reply_signature = signature id;
        reply_verdicts = w;
        boxed = record { long = length-replicate {A = ℕ} 64 id.0; made = own };
        came = came ∙ ap (λ (b : List ℕ). some (to_client client_2 b w)) (same_bytes register_1 (answer id) reply (signature id) (sym is));
      }

of_all : (u : ℕ) (m : Message) → ByBytes u m replica_1 → ByBytes u m replica_2 → ByBytes u m replica_3 → AtQuorum run (ByBytes u m)
unfolding run count within
of_all u m a b c = record {
  who = run.correct_replica;
  enough = lit≤ tt;
  correct = λ id k. k;
  each = λ id k. let range = bounds 1 3 id.0 k in of_three (ByBytes u m) id range.0 range.1 a b c;
}

-- What is sent at event u is, by its bytes, what is told.
sent_as_lem : (u : ℕ) (m question told : Message) → answer_at run u ≡ accepted (send told) → body register_1 told ≡ body register_1 question → answer_at run u ≡ accepted (send m) → body register_1 m ≡ body register_1 question
sent_as_lem u m question told is bytes a = let same_message : told ≡ m = cc in ap (body register_1) (sym same_message) ∙ bytes

read_answered : (m : Message) → answer_at run 16 ≡ accepted (send m) → AtQuorum run (ByBytes 16 m)
unfolding run story messages same
read_answered m a =
    let (told, is, bytes) = sends_told run story as_told 16 _ asks refl in
    let asked = sent_as_lem 16 m asks told is bytes a in
    of_all 16 m
    (one_reply 16 m asks asked (shows 1 client_2) one four replica_1 17 22 (lit< tt) (lit< tt) (lit< tt) refl refl refl refl)
    (one_reply 16 m asks asked (shows 1 client_2) one four replica_2 18 23 (lit< tt) (lit< tt) (lit< tt) refl refl refl refl)
    (one_reply 16 m asks asked (stale 1 client_2) one one replica_3 19 24 (lit< tt) (lit< tt) (lit< tt) refl refl refl refl)

-- Replica 3's reply, given at 27, came at 21.
write_answered : (m : Message) → answer_at run 24 ≡ accepted (send m) → AtQuorum run (ByBytes 24 m)
unfolding run story messages same
write_answered m a =
    let (told, is, bytes) = sends_told run story as_told 24 _ write_back refl in
    let asked = sent_as_lem 24 m write_back told is bytes a in
    of_all 24 m
    (one_reply 24 m write_back asked written four one replica_1 25 28 (lit< tt) (lit< tt) (lit< tt) refl refl refl refl)
    (one_reply 24 m write_back asked written four one replica_2 26 29 (lit< tt) (lit< tt) (lit< tt) refl refl refl refl)
    (one_reply 24 m write_back asked written four one replica_3 27 21 (lit< tt) (lit< tt) (lit< tt) refl refl refl refl)

-- It sends nothing else.
abbrev quiet : List ℕ → Bool
quiet numbers = not (eqb (get_or numbers 0 0) 0)

quiet_first : AllBetween story quiet (client client_2) 16 24
unfolding story code messages
quiet_first = refl

quiet_then : AllBetween story quiet (client client_2) 24 30
unfolding story code messages
quiet_then = refl

no_send : (begun finished : ℕ) → AllBetween story quiet (client client_2) begun finished → (t : ℕ) → begun < t → t < finished → At run t (client client_2) → (m : Message) → answer_at run t ≡ accepted (send m) → ⊥
unfolding code
no_send begun finished h t low high at m a =
    no_test (sym (ap (λ out. quiet (code (register_of at.0) out)) a) ∙ (between run story as_told quiet (client client_2) begun finished h t low high at).1)

all_answered : (u : ℕ) (m : Message) → u < 30 → Sends run register_1 operation u m → AtQuorum run (ByBytes u m)
unfolding invoked
all_answered u m l s =
    let from = s.lasts.has_begun in
    three_ways u 24
    (λ early. three_ways u 16 (λ k. absurd (omega arith)) (λ k. subst (λ (v : ℕ). AtQuorum run (ByBytes v m)) (sym k) (read_answered m (subst (λ (v : ℕ). answer_at run v ≡ accepted (send m)) k s.answered)))
    (λ k. absurd (no_send 16 24 quiet_first u k early s.by m s.answered)))
    (λ k. subst (λ (v : ℕ). AtQuorum run (ByBytes v m)) (sym k) (write_answered m (subst (λ (v : ℕ). answer_at run v ≡ accepted (send m)) k s.answered)))
    (λ late. absurd (no_send 24 30 quiet_then u late l s.by m s.answered))

on_one : OneLaptop run client_2 16 30
unfolding story
on_one = one_laptop run story as_told refl client_2 16 30

pub delivery_needed : Premises run × Judged run Made × (FinishesByBytes run register_1 Made → ⊥)
unfolding invoked
delivery_needed = (premises, judged_told run story as_told all_fair, λ claim. not_over (claim operation 30 (lit< tt) on_one all_answered))
