-- Document 02, #107: "a seal marked genuine by one party is marked so by all" is needed. A run that meets the premises and the first two conditions, in
-- which an entry of the faulty replica 4 is judged 1 by a client and 0 by a replica, which refuses the client's PREPARE with 10. Assumes nothing.
use mathlib.Core.Path.{◌≡◌, refl, sym, ap, ◌∙◌}
use mathlib.Core.Logic.{◌⊎◌, ⊎_elim}
use mathlib.Core.Bool.{Bool, true, false, ◌||◌, not, false≢true}
use mathlib.Core.List.{List, [], ◌∷◌, ◌++◌}
use mathlib.Core.Option.{none, some}
use Prim.Native.Nat.{ℕ, ◌≤◌}
use borrow.Author.Tests.{eqb-true}
use lib.Dec.{eqb, lit<, lit≤}
use lib.ListN.{length, get_elem?, replicate, length-replicate}
use Rattle.base.proofs.Apart.{apart}
use Rattle.base.proofs.Booleans.{or_true}
use Rattle.base.specs.ClientSet.{has}
use Rattle.base.specs.Counting.{count}
use Rattle.base.specs.Outcome.{refused}
use Rattle.base.specs.Same.{same}
use Rattle.progress.specs.Operations.{OneLaptop, Invocation, Lasts, Sends}
use Rattle.progress.specs.Progress.{Progress}
use Rattle.progress.specs.Verdicts.{signatures_at, verdicts_at, SignedAt}
use Rattle.protocol.specs.Client.{send}
use Rattle.run.specs.Premises.{Premises}
use Rattle.run.specs.Run.{begins_write, to_replica, Run, event, answer_at, Correct, Sent}
use Rattle.run.specs.Withdrawals.{withdrawn_at}
use Rattle.wire.specs.Acceptance.{Sender, replica, client}
use Rattle.wire.specs.Checks.{all, verdicts_fit}
use Rattle.wire.specs.Message.{Message, READ-STAMP, body}
use Rattle.wire.specs.Signatures.{Signature, signatures_to}
use Rattle.witness.proofs.Answers.{code}
use Rattle.witness.proofs.AnyWrite.{Writing, prepare, asking, prepare_bytes}
use Rattle.witness.proofs.Cast.{replica_1, register_1, client_2, lathe, lathe_digest}
use Rattle.witness.proofs.Computing.{messages}
use Rattle.witness.proofs.FirstWrite.{proof, write_under_way, write_done}
use Rattle.witness.proofs.Invoked.{same_bytes, not_withdrawn, one_laptop, invoked, lasts_told, sends_in}
use Rattle.witness.proofs.Judging.{passing, AllFair, one_each, each_passes, Made}
use Rattle.witness.proofs.Checked.{tests, Checked, run_of, goes_as_told, meets_premises}
use Rattle.witness.proofs.Story.{Line, ◌↝◌, ◌↛◌, Told, correct_in, replicas_to, clients_to, refused_told, event_told}

-- Client 2's write, at 2.2: it shows the proof of 1.1, which has an entry of replica 4.
abbrev shown : Writing
shown = record { register = register_1; id = client_2; nonce = 1; card = lathe; digest = lathe_digest; timestamp = record { count = 2; client = client_2 }; held = some proof; last = none }

-- That entry, the last, is judged 0.
abbrev last_not : List ℕ
last_not = 1 ∷ 1 ∷ 1 ∷ 0 ∷ []

-- Replicas 1 to 3 and clients 1 and 2 are correct.
unfoldable story : List Line
unfolding write_under_way write_done
story =
    -- 0 to 15: client 1 writes 1.1.
    write_under_way
    ++ write_done
    -- 16 to 21: client 2 begins a write, finds the entry genuine in three STAMPs, and shows the proof.
    ++ asking shown
    -- 22: replica 1 does not find it genuine.
    ++ (to_replica replica_1 (prepare_bytes shown) last_not ↛ 10 ∷ [])

checked : Checked 3 2 story
unfolding story tests
checked = record { at_most_four = lit≤ tt; at_most_96 = lit≤ tt; well_told_lem = refl; answers = refl; few_faulty = lit≤ tt; verdicts_true = refl; new_nonces_lem = refl; no_other_cards = refl }

pub run : Run
run = run_of checked

as_told : Told run story
unfolding run
as_told = goes_as_told checked

premises : Premises run
unfolding run
premises = meets_premises checked

-- ---- The first two conditions hold, for any say on what was made

-- The verdict is 1, or the signer is faulty.
abbrev one_or_faulty : Signature → ℕ → Bool
one_or_faulty s v = eqb v 1 || not (correct_in (replicas_to 3) (clients_to 2) s.signer)

all_fair : AllFair one_or_faulty story
unfolding story messages signatures_to all passing
all_fair = refl

correct_one : (t : ℕ) (s : Signature) (v : ℕ) → SignedAt run t s v → Correct run s.signer → v ≡ 1
unfolding run
correct_one t s v at c = go s.signer c (or_true (eqb v 1) (not (correct_in (replicas_to 3) (clients_to 2) s.signer)) (each_passes run story as_told one_or_faulty all_fair t s v at))
  where
    go : (p : Sender) → Correct run p → (eqb v 1 ≡ true) ⊎ (not (correct_in (replicas_to 3) (clients_to 2) p) ≡ true) → v ≡ 1
    go (replica id) c h = ⊎_elim (λ e. eqb-true v 1 e) (λ e. absurd (false≢true (sym (ap not c) ∙ e))) h
    go (client id) c h = ⊎_elim (λ e. eqb-true v 1 e) (λ e. absurd (false≢true (sym (ap not c) ∙ e))) h

-- ---- What is claimed fails

begun_at : get_elem? story 16 ≡ some (begins_write client_2 register_1 lathe ↝ send (READ-STAMP client_2 1))
unfolding story
begun_at = refl

abbrev operation : Invocation run register_1
operation = invoked run story as_told register_1 client_2 16 _ _ begun_at true (lathe, refl)

-- Its PREPARE, handed to replica 1, is refused.
refused_there : (answer_at run 22 ≡ refused 10) × (event run 22 ≡ some (to_replica replica_1 (prepare_bytes shown) last_not))
unfolding story
refused_there = (refused_told run story as_told 22 _ 10 refl, event_told run story as_told 22 _ refl)

lasts_there : Lasts run register_1 operation 22
unfolding story code messages
lasts_there = lasts_told run story as_told register_1 client_2 16 _ _ begun_at true (lathe, refl) 22 (lit≤ tt) refl

sends_there : (sent : Message) × Sends run register_1 operation 21 sent × (body register_1 sent ≡ body register_1 (prepare shown))
unfolding story code messages
sends_there = sends_in run story as_told register_1 client_2 16 _ _ begun_at true (lathe, refl) 21 _ (prepare shown) (lit≤ tt) refl refl refl refl

on_one : OneLaptop run client_2 0 22
unfolding story
on_one = one_laptop run story as_told refl client_2 0 22

served : has (withdrawn_at run replica_1 22) client_2 ≡ false
unfolding story
served = not_withdrawn run story as_told refl replica_1 client_2 22

not_progress : Progress run register_1 Made → ⊥
unfolding invoked same
not_progress p =
    let (sent, sends, bytes) = sends_there in
    let own : List ℕ = replicate 64 102 in
    let handed = refused_there.1 ∙ ap (λ (b : List ℕ). some (to_replica replica_1 b last_not)) (same_bytes register_1 (prepare shown) sent own (sym bytes)) in
    let (reply, answered) = p.not_refused operation 21 22 sent replica_1 own last_not sends (lit< tt) lasts_there on_one served (record { long = length-replicate {A = ℕ} 64 102; made = refl }) handed in
    apart (cc refused_there.0)

-- All that `progress` asks, but the third condition.
pub record ButAgreement (R : Run) (Made : Signature → Type 0) : Type 0 where
  pub meets : Premises R
  pub one_each : (t : ℕ) → 1 ≤ length (signatures_at (event R t)) → verdicts_fit (length (signatures_at (event R t))) (verdicts_at (event R t)) ≡ true
  pub made_genuine : (t : ℕ) (s : Signature) (v : ℕ) → SignedAt R t s v → Correct R s.signer → Sent R s.signer s.covers t → Made s → v ≡ 1

pub agreement_needed : ButAgreement run Made × (Progress run register_1 Made → ⊥)
agreement_needed = (
  record { meets = premises; one_each = one_each run story as_told one_or_faulty all_fair; made_genuine = λ t s v at c sent made. correct_one t s v at c },
  not_progress,
)
