-- NotEmpty's run meets the further conditions on verdicts, so that progress is proved of it; and the messages of its operations are counted: a write of
-- three, a read of one, a read of two. Assumes nothing.
use mathlib.Core.Path.{◌≡◌, refl, sym, ap, ap₂, ◌∙◌}
use mathlib.Core.Bool.{cond}
use mathlib.Core.List.{List, [], ◌∷◌, ◌++◌}
use mathlib.Core.Option.{Option, none, some}
use Prim.Native.Nat.{ℕ, zero, suc}
use lib.Dec.{eqb, leb}
use lib.ListN.{get_elem?}
use Rattle.base.specs.Outcome.{Outcome, accepted, refused}
use Rattle.base.specs.declared.party.ClientId.{ClientId}
use Rattle.base.specs.declared.party.RegisterId.{RegisterId}
use Rattle.progress.proofs.Counts.{counts}
use Rattle.progress.proofs.Progress.{progress}
use Rattle.progress.specs.Counts.{card_shown, taken_in, seen_at, seen, read_messages, cards_taken, sent}
use Rattle.progress.specs.Progress.{Progress}
use Rattle.progress.specs.Verdicts.{Judged}
use Rattle.protocol.specs.Client.{Answer}
use Rattle.protocol.specs.Events.{ClientEvent, write_begun, read_begun, reply_handed, made, proof_handed}
use Rattle.run.specs.Run.{Event, at_replica, at_client, register_of, Run, event, answer_at}
use Rattle.wire.specs.Checks.{all}
use Rattle.wire.specs.Message.{Message}
use Rattle.wire.specs.Signatures.{signatures_to}
use Rattle.witness.proofs.Answers.{code, not_refused}
use Rattle.witness.proofs.Cast.{register_1, client_2, client_3, 1·1}
use Rattle.witness.proofs.Computing.{messages}
use Rattle.witness.proofs.Judging.{passing, AllFair, as_boxes, Made, judged_told}
use Rattle.witness.proofs.NotEmpty.{story, run, as_told, premises, first_write, read, read_with_write_back}
use Rattle.witness.proofs.Story.{Line, event_in, event_in_lem, Told, event_told, answer_told, finished_told}

all_fair : AllFair as_boxes story
unfolding story messages signatures_to all passing
all_fair = refl

pub judged : Judged run Made
judged = judged_told run story as_told all_fair

pub progresses : (x : RegisterId) → Progress run x Made
progresses = progress run premises Made judged

-- ---- What is taken, by the lines

-- A message shows what it shows, whatever is answered: only a refusal takes none.
abbrev Shown : Type 0
Shown = Outcome (RegisterId × Message) → List ℕ

same_taken : (shown : Shown) (id : ClientId) (x : RegisterId) (e : Event) (out told : Outcome Answer) → code x out ≡ code x told → seen_at (taken_in shown) id (some e) out ≡ seen_at (taken_in shown) id (some e) told
same_taken shown id x (at_replica at e) out told q = refl
same_taken shown id x (at_client at e) (accepted a) (accepted b) q = ap (λ (seen : List ℕ). cond (eqb at.0 id.0) seen []) (blind e)
  where
    blind : (e : ClientEvent) → taken_in shown e a ≡ taken_in shown e b
    blind (reply_handed bytes verdicts) = refl
    blind (write_begun y card) = refl
    blind (read_begun y) = refl
    blind (made nonce) = refl
    blind (proof_handed y bytes verdicts) = refl
same_taken shown id x (at_client at e) (accepted a) (refused n) q = absurd (not_refused x a (refused n) q refl)
same_taken shown id x (at_client at e) (refused n) (accepted b) q = absurd (not_refused x b (refused n) (sym q) refl)
same_taken shown id x (at_client at e) (refused n) (refused m) q = refl

abbrev seen_in : Shown → ClientId → Option Line → List ℕ
seen_in shown id none = []
seen_in shown id (some line) = seen_at (taken_in shown) id (some line.event) line.answer

unfoldable seen_told : List Line → Shown → ClientId → ℕ → ℕ → List ℕ
seen_told lines shown id from zero = []
seen_told lines shown id from (suc t) = seen_told lines shown id from t ++ cond (leb from t) (seen_in shown id (get_elem? lines t)) []

seen_told_lem : (R : Run) (lines : List Line) → Told R lines → (shown : Shown) (id : ClientId) (from t : ℕ) → seen R (taken_in shown) id from t ≡ seen_told lines shown id from t
unfolding seen seen_told
seen_told_lem R lines told shown id from zero = refl
seen_told_lem R lines told shown id from (suc t) =
    ap₂ (λ (before now : List ℕ). before ++ cond (leb from t) now []) (seen_told_lem R lines told shown id from t) (go (get_elem? lines t) refl)
  where
    there : event R t ≡ event_in (get_elem? lines t)
    there = ap (λ (es : List Event). get_elem? es t) told.events ∙ event_in_lem t lines

    go : (line : Option Line) → get_elem? lines t ≡ line → seen_at (taken_in shown) id (event R t) (answer_at R t) ≡ seen_in shown id line
    go none at = ap (λ (e : Option Event). seen_at (taken_in shown) id e (answer_at R t)) (there ∙ ap event_in at)
    go (some line) at =
        ap (λ (e : Option Event). seen_at (taken_in shown) id e (answer_at R t)) (event_told R lines told t line at)
        ∙ same_taken shown id (register_of line.event) line.event (answer_at R t) line.answer (answer_told R lines told t line at)

-- ---- The operations

pub write_of_three : sent run register_1 first_write ≡ 3
unfolding finished_told first_write
write_of_three = (counts run register_1).write_sends first_write refl

-- Its three CARDs show 1.1.
cards_of_one : cards_taken run register_1 read ≡ 1·1 ∷ 1·1 ∷ 1·1 ∷ []
unfolding finished_told read story messages seen_told
cards_of_one = seen_told_lem run story as_told card_shown client_2 16 22

pub read_of_one : sent run register_1 read ≡ 1
unfolding finished_told read all
read_of_one = (counts run register_1).read_sends read refl ∙ ap read_messages cards_of_one

-- One of its three shows 0.0.
cards_of_two : cards_taken run register_1 read_with_write_back ≡ 1·1 ∷ 1·1 ∷ 0 ∷ []
unfolding finished_told read_with_write_back story messages seen_told
cards_of_two = seen_told_lem run story as_told card_shown client_3 24 38

pub read_of_two : sent run register_1 read_with_write_back ≡ 2
unfolding finished_told read_with_write_back all
read_of_two = (counts run register_1).read_sends read_with_write_back refl ∙ ap read_messages cards_of_two
