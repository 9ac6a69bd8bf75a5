-- A read of register 2 in a run that meets all that `delivered` asks: its one message reached three correct replicas, and their replies were delivered.
-- Assumes nothing.
use mathlib.Core.Path.{◌≡◌, refl, sym, ap, subst, ◌∙◌}
use mathlib.Core.Logic.{◌⊎◌, inl, inr}
use mathlib.Core.Bool.{true, false}
use mathlib.Core.List.{List, [], ◌∷◌}
use mathlib.Core.Option.{some}
use Prim.Native.Nat.{ℕ, zero, suc, ◌≤◌, ◌<◌}
use native.Mathlib.Omega.{arith}
use lib.Dec.{lit<, lit≤}
use lib.ListN.{get_elem?, replicate, length-replicate}
use Rattle.base.proofs.Apart.{apart}
use Rattle.base.proofs.Range.{bounds}
use Rattle.base.specs.Counting.{count}
use Rattle.base.specs.Outcome.{accepted}
use Rattle.base.specs.Range.{within}
use Rattle.base.specs.ReplicaSet.{empty}
use Rattle.base.specs.Same.{same}
use Rattle.base.specs.Timestamp.{start}
use Rattle.base.specs.declared.party.RegisterId.{RegisterId}
use Rattle.base.specs.declared.party.ReplicaId.{ReplicaId}
use Rattle.progress.proofs.Progress.{progress}
use Rattle.progress.specs.Delivery.{AtQuorum, Reached}
use Rattle.progress.specs.Operations.{Invocation, Sends, Over}
use Rattle.protocol.specs.Client.{send, waits, done}
use Rattle.protocol.specs.Parts.{start_card}
use Rattle.run.proofs.Slots.{order}
use Rattle.run.specs.Premises.{Premises}
use Rattle.run.specs.Run.{begins_read, to_replica, to_client, Run, register_of, event, answer_at, At}
use Rattle.wire.specs.Acceptance.{client}
use Rattle.wire.specs.Checks.{all}
use Rattle.wire.specs.Message.{Message, READ, body}
use Rattle.wire.specs.Signatures.{signatures_to}
use Rattle.witness.proofs.Answers.{code}
use Rattle.witness.proofs.Cast.{of_three, replica_1, replica_2, replica_3, register_2, client_1, signature, from_replica_for, from_client_for, stale, one}
use Rattle.witness.proofs.Computing.{messages}
use Rattle.witness.proofs.Invoked.{same_bytes, not_withdrawn, one_laptop, invoked}
use Rattle.witness.proofs.Judging.{passing, AllFair, as_boxes, Made, judged_told}
use Rattle.witness.proofs.Checked.{tests, Checked, run_of, goes_as_told, meets_premises}
use Rattle.witness.proofs.Story.{Line, ◌↝◌, each, told, Told, event_told, only_counted, done_told, sends_told}

abbrev pub asks : Message
asks = READ client_1 1

abbrev pub shows : ReplicaId → Message
shows id = stale 1 client_1 id

abbrev pub asked_bytes : List ℕ
asked_bytes = from_client_for register_2 client_1 asks

abbrev pub shown_bytes : ReplicaId → List ℕ
shown_bytes id = from_replica_for register_2 id shows

-- Replicas 1 to 3 and client 1 are correct.
unfoldable pub story : List Line
story =
    begins_read client_1 register_2 ↝ send asks
    ∷ to_replica replica_1 asked_bytes one ↝ send (shows replica_1)
    ∷ to_replica replica_2 asked_bytes one ↝ send (shows replica_2)
    ∷ to_replica replica_3 asked_bytes one ↝ send (shows replica_3)
    ∷ to_client client_1 (shown_bytes replica_1) one ↝ waits
    ∷ to_client client_1 (shown_bytes replica_2) one ↝ waits
    ∷ to_client client_1 (shown_bytes replica_3) one ↝ done start start_card empty
    ∷ []

checked : Checked 3 1 story
unfolding story tests
checked = record { at_most_four = lit≤ tt; at_most_96 = lit≤ tt; well_told_lem = refl; answers = refl; few_faulty = lit≤ tt; verdicts_true = refl; new_nonces_lem = refl; no_other_cards = refl }

pub run : Run
run = run_of checked

pub as_told : Told run story
unfolding run
as_told = goes_as_told checked

premises : Premises run
unfolding run
premises = meets_premises checked

all_fair : AllFair as_boxes story
unfolding story messages signatures_to all passing
all_fair = refl

-- ---- The read

pub begun_at : get_elem? story 0 ≡ some (begins_read client_1 register_2 ↝ send asks)
unfolding story
begun_at = refl

abbrev pub operation : Invocation run register_2
operation = invoked run story as_told register_2 client_1 0 _ _ begun_at false refl

module _ (m : Message) (answered : answer_at run 0 ≡ accepted (send m)) where
  asked : body register_2 m ≡ body register_2 asks
  asked = let (told, e, bytes) = sends_told run story as_told 0 _ asks begun_at in let same_message : told ≡ m = cc in ap (body register_2) (sym same_message) ∙ bytes

  -- It reached a replica with event i, and the reply came with event j.
  reached : (id : ReplicaId) (i j : ℕ) → 0 < i → i < j → j < 7 → get_elem? story i ≡ some (to_replica id asked_bytes one ↝ send (shows id)) → event run j ≡ some (to_client client_1 (shown_bytes id) one)
      → register_of (to_replica id asked_bytes one) ≡ register_2 → same (signature id) (signature id) ≡ true → Reached run register_2 Made operation 0 m 7 id
  unfolding invoked story same
  reached id i j first second third handed returned for own = record {
    handed = record {
      i = i;
      after_sent = first;
      signature = replicate 64 101;
      verdicts = one;
      event_is = event_told run story as_told i _ handed ∙ ap (λ (b : List ℕ). some (to_replica id b one)) (same_bytes register_2 asks m (replicate 64 101) (sym asked));
    };
    before = omega arith;
    boxed = record { long = length-replicate {A = ℕ} 64 101; made = refl };
    not_withdrawn = not_withdrawn run story as_told refl id client_1 i;
    delivered = λ reply replies.
        let (told, e, bytes) = sends_told run story as_told i _ (shows id) handed in
        let same_message : told ≡ reply = cc in
        let is : body register_2 reply ≡ body register_2 (shows id) = ap (body register_2) (sym same_message) ∙ subst (λ (y : RegisterId). body y told ≡ body y (shows id)) for bytes in
        record {
          j = j;
          after_given = second;
          before = third;
          signature = signature id;
          verdicts = one;
          boxed = record { long = length-replicate {A = ℕ} 64 id.0; made = own };
          event_is = returned ∙ ap (λ (b : List ℕ). some (to_client client_1 b one)) (same_bytes register_2 (shows id) reply (signature id) (sym is));
        };
  }

  by_three : AtQuorum run (Reached run register_2 Made operation 0 m 7)
  unfolding run story count within messages
  by_three = record {
    who = run.correct_replica;
    enough = lit≤ tt;
    correct = λ id k. k;
    each = λ id k. let range = bounds 1 3 id.0 k in
        of_three (Reached run register_2 Made operation 0 m 7) id range.0 range.1 (reached replica_1 1 4 (lit< tt) (lit< tt) (lit< tt) refl refl refl refl) (reached replica_2 2 5 (lit< tt) (lit< tt) (lit< tt) refl refl refl refl)
        (reached replica_3 3 6 (lit< tt) (lit< tt) (lit< tt) refl refl refl refl);
  }

-- Client 1 sends nothing after its READ.
counted_between : (t : ℕ) → 0 < t → t < 6 → At run t (client client_1) → answer_at run t ≡ accepted waits
unfolding story code messages
counted_between = only_counted run story as_told client_1 0 6 refl

done_last : answer_at run 6 ≡ accepted (done start start_card empty)
unfolding story
done_last = done_told run story as_told 6 _ start start_card empty refl

-- Each message that the read sent before event 7 has reached three correct replicas, and their replies have been delivered.
pub all_reached : (u : ℕ) (m : Message) → u < 7 → Sends run register_2 operation u m → AtQuorum run (Reached run register_2 Made operation u m 7)
unfolding invoked
all_reached zero m l s = by_three m s.answered
all_reached (suc u) m l s = absurd (go (order 6 (suc u)))
  where
    go : (6 ≤ suc u) ⊎ (suc u < 6) → ⊥
    go (inl k) = let z : suc u ≡ 6 = omega arith in let d = done_last in let a : answer_at run 6 ≡ accepted (send m) = subst (λ (v : ℕ). answer_at run v ≡ accepted (send m)) z s.answered in apart (cc)
    go (inr k) = let c = counted_between (suc u) (omega arith) k s.by in let a = s.answered in apart (cc)

-- So the read is over before event 7.
pub is_over_lem : Over run register_2 operation 7
unfolding invoked story
is_over_lem = (progress run premises Made (judged_told run story as_told all_fair) register_2).delivered operation 7 (lit< tt) (one_laptop run story as_told refl client_1 0 7) all_reached
