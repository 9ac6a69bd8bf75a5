-- What is seen at a client's events, one event after another. Assumes nothing.
use mathlib.Core.Path.{◌≡◌, refl, ap, ◌∙◌}
use mathlib.Core.Bool.{Bool, true, false, cond}
use mathlib.Core.List.{List, [], ◌++◌, append-nil}
use mathlib.Core.Option.{Option, none, some}
use Prim.Native.Nat.{ℕ, zero, suc, ◌≤◌}
use native.Mathlib.Omega.{arith}
use borrow.Author.Tests.{eqb-true, eq-eqb, le-leb, lt-leb}
use lib.Dec.{eqb}
use Rattle.base.specs.Outcome.{Outcome, accepted, refused}
use Rattle.base.specs.declared.party.ClientId.{ClientId}
use Rattle.protocol.specs.Client.{Answer}
use Rattle.protocol.specs.Events.{ClientEvent}
use Rattle.run.specs.Run.{Event, at_replica, at_client, Run, event, answer_at}
use Rattle.run.proofs.Turns.{same_client, Silent}
use Rattle.wire.specs.Acceptance.{client}
use Rattle.progress.specs.Counts.{Look, seen_at, seen}

module _ (R : Run) {A : Type 0} (look : Look A) (id : ClientId) (from : ℕ) where
  pub none_before : (t : ℕ) → t ≤ from → seen R look id from t ≡ []
  unfolding seen
  none_before zero l = refl
  none_before (suc t) l = rw (lt-leb from t (omega arith), none_before t (omega arith)) refl

  one_more : (t : ℕ) → from ≤ t → seen R look id from (suc t) ≡ seen R look id from t ++ seen_at look id (event R t) (answer_at R t)
  unfolding seen
  one_more t l = rw (le-leb from t l) refl

  -- Nothing at an event that the client does not answer,
  pub silent_seen : (t : ℕ) → from ≤ t → Silent R (client id) t → seen R look id from (suc t) ≡ seen R look id from t
  silent_seen t l silent = one_more t l ∙ ap (λ (more : List A). seen R look id from t ++ more) (nothing (event R t) refl (answer_at R t) refl) ∙ append-nil (seen R look id from t)
    where
      own : (at : ClientId) (e : ClientEvent) → event R t ≡ some (at_client at e) → (answer : Answer) → answer_at R t ≡ accepted answer → (b : Bool) → eqb at.0 id.0 ≡ b → cond b (look e answer) [] ≡ []
      own at e q answer a true k = absurd (silent (at_client at e, q, ap client (same_client at id (eqb-true at.0 id.0 k))) answer a)
      own at e q answer a false k = refl

      nothing : (e : Option Event) → event R t ≡ e → (out : Outcome Answer) → answer_at R t ≡ out → seen_at look id e out ≡ []
      nothing none q out a = refl
      nothing (some (at_replica at e)) q out a = refl
      nothing (some (at_client at e)) q (accepted answer) a = own at e q answer a (eqb at.0 id.0) refl
      nothing (some (at_client at e)) q (refused number) a = refl

  -- and at one that it does, what is looked for.
  pub turn_seen : (t : ℕ) → from ≤ t → (e : ClientEvent) (answer : Answer) → event R t ≡ some (at_client id e) → answer_at R t ≡ accepted answer
      → seen R look id from (suc t) ≡ seen R look id from t ++ look e answer
  turn_seen t l e answer q a = one_more t l ∙ rw (a, q, eq-eqb id.0 id.0 refl) refl
