-- Boxes by their bytes: a signature is made if it is 64 times its party's byte. A told run whose verdicts say so meets the further conditions on verdicts,
-- by a test that computes. Assumes nothing.
use mathlib.Core.Path.{◌≡◌, refl, sym, ap, subst, ◌∙◌}
use mathlib.Core.Logic.{⊎_elim}
use mathlib.Core.Bool.{Bool, true, false, ◌&&◌, ◌||◌, cond}
use mathlib.Core.List.{List, [], ◌∷◌}
use mathlib.Core.Option.{Option, none, some}
use Prim.Native.Nat.{ℕ, zero, suc, ◌+◌, ◌≤◌}
use native.Mathlib.Omega.{arith}
use borrow.Author.Tests.{eqb-true}
use lib.Dec.{eqb}
use lib.ListN.{length, get_elem?, replicate}
use Rattle.base.specs.Same.{same}
use Rattle.base.proofs.Apart.{apart}
use Rattle.base.proofs.Booleans.{and_true_both, or_true}
use Rattle.progress.specs.Verdicts.{signatures_at, verdicts_at, Beside, SignedAt, Judged}
use Rattle.run.specs.Run.{Event, Run, event}
use Rattle.wire.specs.Acceptance.{Sender, replica, client}
use Rattle.wire.specs.Checks.{verdicts_fit}
use Rattle.wire.specs.Signatures.{Signature}
use Rattle.witness.proofs.Answers.{no_test}
use Rattle.witness.proofs.Story.{Line, each, each_tested, line_of, Told}

-- ---- A test of each signature with its verdict

unfoldable pub passing : (Signature → ℕ → Bool) → List Signature → List ℕ → Bool
passing test [] verdicts = true
passing test (s ∷ ss) [] = true
passing test (s ∷ ss) (v ∷ vs) = test s v && passing test ss vs

beside_passes : (test : Signature → ℕ → Bool) (ss : List Signature) (vs : List ℕ) (s : Signature) (v : ℕ) → passing test ss vs ≡ true → Beside ss vs s v → test s v ≡ true
unfolding passing
beside_passes test [] vs s v h (i, a, b) = apart (cc)
beside_passes test (z ∷ ss) [] s v h (i, a, b) = apart (cc)
beside_passes test (z ∷ ss) (y ∷ vs) s v h (zero, a, b) =
    let same_signature : z ≡ s = cc in
    let same_verdict : y ≡ v = cc in
    subst (λ (n : ℕ). test s n ≡ true) same_verdict (subst (λ (q : Signature). test q y ≡ true) same_signature (and_true_both (test z y) (passing test ss vs) h).0)
beside_passes test (z ∷ ss) (y ∷ vs) s v h (suc i, a, b) = beside_passes test ss vs s v (and_true_both (test z y) (passing test ss vs) h).1 (i, a, b)

-- Where there are signatures, each has one verdict, which passes.
abbrev pub fair : (Signature → ℕ → Bool) → Event → Bool
fair test e =
    let signatures = signatures_at (some e) in
    let verdicts = verdicts_at (some e) in
    (eqb (length signatures) 0 || verdicts_fit (length signatures) verdicts) && passing test signatures verdicts

abbrev pub AllFair : (Signature → ℕ → Bool) → List Line → Type 0
AllFair test lines = each (λ t line. fair test line.event) 0 lines ≡ true

module _ (R : Run) (lines : List Line) (told : Told R lines) (test : Signature → ℕ → Bool) (all_fair : AllFair test lines) where
  fair_at : (t : ℕ) (e : Event) → event R t ≡ some e → fair test e ≡ true
  fair_at t e found =
      let (line, at, is) = line_of lines t e (sym (ap (λ (es : List Event). get_elem? es t) told.events) ∙ found) in
      subst (λ (x : Event). fair test x ≡ true) is (each_tested (λ s line. fair test line.event) t lines line all_fair at)

  -- The first condition,
  pub one_each : (t : ℕ) → 1 ≤ length (signatures_at (event R t)) → verdicts_fit (length (signatures_at (event R t))) (verdicts_at (event R t)) ≡ true
  one_each t = go (event R t) refl
    where
      go : (e : Option Event) → event R t ≡ e → 1 ≤ length (signatures_at e) → verdicts_fit (length (signatures_at e)) (verdicts_at e) ≡ true
      go none q l = absurd (omega arith)
      go (some e) q l =
          let count = length (signatures_at (some e)) in
          let fit = (and_true_both (eqb count 0 || verdicts_fit count (verdicts_at (some e))) (passing test (signatures_at (some e)) (verdicts_at (some e))) (fair_at t e q)).0 in
          ⊎_elim (λ z. let nothing = eqb-true count 0 z in absurd (omega arith)) (λ k. k) (or_true (eqb count 0) (verdicts_fit count (verdicts_at (some e))) fit)

  -- and what the test says of each.
  pub each_passes : (t : ℕ) (s : Signature) (v : ℕ) → SignedAt R t s v → test s v ≡ true
  each_passes t s v = go (event R t) refl
    where
      go : (e : Option Event) → event R t ≡ e → Beside (signatures_at e) (verdicts_at e) s v → test s v ≡ true
      go none q (i, a, b) = apart (cc)
      go (some e) q b =
          let count = length (signatures_at (some e)) in
          beside_passes test (signatures_at (some e)) (verdicts_at (some e)) s v
          (and_true_both (eqb count 0 || verdicts_fit count (verdicts_at (some e))) (passing test (signatures_at (some e)) (verdicts_at (some e))) (fair_at t e q)).1 b

-- ---- Boxes

abbrev box_bytes : Sender → List ℕ
box_bytes (replica id) = replicate 64 id.0
box_bytes (client id) = replicate 64 (100 + id.0)

abbrev is_made : Signature → Bool
is_made s = same s.bytes (box_bytes s.signer)

abbrev pub Made : Signature → Type 0
Made s = is_made s ≡ true

-- The verdict is 1 if the box made the signature, and 0 otherwise.
abbrev pub as_boxes : Signature → ℕ → Bool
as_boxes s v = eqb v (cond (is_made s) 1 0)

pub judged_told : (R : Run) (lines : List Line) → Told R lines → AllFair as_boxes lines → Judged R Made
judged_told R lines told all_fair = record {
  one_each = one_each R lines told as_boxes all_fair;
  made_genuine = λ t s v at c sent made. is t s v at made;
  genuine_for_all = λ u t s v first l at. is t s v at (was u s first);
}
  where
    verdict : (t : ℕ) (s : Signature) (v : ℕ) → SignedAt R t s v → v ≡ cond (is_made s) 1 0
    verdict t s v at = eqb-true v (cond (is_made s) 1 0) (each_passes R lines told as_boxes all_fair t s v at)

    is : (t : ℕ) (s : Signature) (v : ℕ) → SignedAt R t s v → Made s → v ≡ 1
    is t s v at made = verdict t s v at ∙ ap (λ (b : Bool). cond b 1 0) made

    -- What is judged 1 was made.
    was : (u : ℕ) (s : Signature) → SignedAt R u s 1 → Made s
    was u s at = go (is_made s) refl (each_passes R lines told as_boxes all_fair u s 1 at)
      where
        go : (b : Bool) → is_made s ≡ b → eqb 1 (cond b 1 0) ≡ true → Made s
        go true e k = e
        go false e k = no_test k
