-- Tests 9 to 11 of a message from those of its proofs: the smallest refusal is the first. Assumes nothing.
use Rattle.std.proofs.Common.{◌≡◌, ℕ, ◌≤◌, Bool, true, false, ◌&&◌, eqb, List, [], ◌++◌, sym, refl, ap, ◌∙◌, arith}
use mathlib.Core.Option.{Option, none, some}
use native.Mathlib.Nat.{min-eq_left, min-eq_right}
use Rattle.base.specs.Outcome.{Outcome, accepted, refused, guard, ◌>>=◌}
use Rattle.base.specs.ReplicaSet.{empty}
use Rattle.base.specs.declared.replica_set.ReplicaSet.{ReplicaSet}
use Rattle.base.proofs.Outcome.{guard_passes, guard_refuses, guard_accepted}
use Rattle.base.proofs.Apart.{apart}
use Rattle.wire.specs.Checks.{prepared_of, written_of, timestamp_of, if_there, all, shaped, shaped_if_there, genuine, issued, issued_if_there, proven, proof_outcome}
use Rattle.wire.specs.Judging.{shaped_signers, smallest, outcome_if_there}
use Rattle.wire.specs.Message.{Message}
use Rattle.wire.specs.Parts.{signers_if_there}
use Rattle.wire.specs.Proof.{Entry, Proof, signer_set}
use Rattle.wire.proofs.Verdicts.{all_append}

-- 9 to 11 of a proof, by what 9 makes of its entries.
module _ (f : ℕ) (entries : List Entry) (verdicts : List ℕ) (timestamp : ℕ) where
  pub shape_passed : (signers : ReplicaSet) → shaped_signers f entries ≡ accepted signers
      → proof_outcome f entries verdicts timestamp ≡ guard 10 (genuine verdicts) (guard 11 (issued timestamp) (accepted signers))
  unfolding proof_outcome
  shape_passed signers e = let passed = guard_accepted 9 (shaped f entries) (accepted (signer_set entries)) signers e in guard_passes 9 (shaped f entries) _ passed.0 ∙ rw passed.1

  pub shape_refused : (n : ℕ) → shaped_signers f entries ≡ refused n → proof_outcome f entries verdicts timestamp ≡ refused n
  unfolding proof_outcome
  shape_refused n e = go (shaped f entries) e
    where
      go : (b : Bool) → guard 9 b (accepted (signer_set entries)) ≡ refused n → guard 9 b (guard 10 (genuine verdicts) (guard 11 (issued timestamp) (accepted (signer_set entries)))) ≡ refused n
      go true k = let p = guard_passes 9 true (accepted (signer_set entries)) refl in apart (cc)
      go false k = guard_refuses 9 false _ refl ∙ sym (guard_refuses 9 false (accepted (signer_set entries)) refl) ∙ k

  module _ {signers : ReplicaSet} (e : shaped_signers f entries ≡ accepted signers) where
    pub not_real : genuine verdicts ≡ false → proof_outcome f entries verdicts timestamp ≡ refused 10
    not_real h = shape_passed signers e ∙ guard_refuses 10 (genuine verdicts) _ h

    pub not_issued : genuine verdicts ≡ true → issued timestamp ≡ false → proof_outcome f entries verdicts timestamp ≡ refused 11
    not_issued h t = shape_passed signers e ∙ guard_passes 10 (genuine verdicts) _ h ∙ guard_refuses 11 (issued timestamp) _ t

    pub all_passed : genuine verdicts ≡ true → issued timestamp ≡ true → proof_outcome f entries verdicts timestamp ≡ accepted signers
    all_passed h t = shape_passed signers e ∙ guard_passes 10 (genuine verdicts) _ h ∙ guard_passes 11 (issued timestamp) _ t

-- No refusal below a number.
abbrev From : {A : Type 0} → ℕ → Outcome A → Type 0
From number (accepted a) = Unit {0}
From number (refused other) = number ≤ other

from_guard : {A : Type 0} (number other : ℕ) (test : Bool) (next : Outcome A) → number ≤ other → From number next → From number (guard other test next)
unfolding guard
from_guard number other true next h k = k
from_guard number other false next h k = h

-- Two tests of one number, with only larger ones behind them, are one test.
both : {A : Type 0} (number : ℕ) (a b : Bool) (x y : Outcome A) → From number x → From number y → smallest (guard number a x) (guard number b y) ≡ guard number (a && b) (smallest x y)
unfolding guard
both number true true x y hx hy = refl
both number true false (accepted t) y hx hy = refl
both number true false (refused m) y hx hy = ap refused (min-eq_right hx)
both number false true x (accepted t) hx hy = refl
both number false true x (refused m) hx hy = ap refused (min-eq_left hy)
both number false false x y hx hy = ap refused (min-eq_left (omega arith))

pub smallest_good : {A : Type 0} (x : Outcome A) (b : A) → smallest x (accepted b) ≡ x
smallest_good (accepted a) b = refl
smallest_good (refused m) b = refl

-- 9 to 11 of a part, and what it accepts.
abbrev part : {A : Type 0} → Bool → Bool → Bool → A → Outcome A
part shape real time a = guard 9 shape (guard 10 real (guard 11 time (accepted a)))

part_then : {A B : Type 0} (s r t : Bool) (a : A) (next : A → Outcome B) → (part s r t a >>= next) ≡ guard 9 s (guard 10 r (guard 11 t (next a)))
unfolding guard
part_then true true true a next = refl
part_then true true false a next = refl
part_then true false t a next = refl
part_then false r t a next = refl

with_own : {A : Type 0} (s r t own : Bool) (a b : A) → smallest (part s r t a) (guard 11 own (accepted b)) ≡ part s r (own && t) a
unfolding guard
with_own true true true true a b = refl
with_own true true true false a b = refl
with_own true true false true a b = refl
with_own true true false false a b = refl
with_own true false t true a b = refl
with_own true false t false a b = refl
with_own false r t true a b = refl
with_own false r t false a b = refl

-- Of three parts that are good the first one's is accepted.
parts : {A : Type 0} (s s' r r' t t' own : Bool) (a b c : A)
    → smallest (smallest (part s r t a) (part s' r' t' b)) (guard 11 own (accepted c)) ≡ part (s && s') (r && r') (own && (t && t')) a
parts {A} s s' r r' t t' own a b c =
    let first : Outcome A = accepted a in
    let second : Outcome A = accepted b in
    let e₁₁ : smallest (guard 11 t first) (guard 11 t' second) ≡ guard 11 (t && t') first = both 11 t t' first second tt tt in
    let e₁₀ = both 10 r r' (guard 11 t first) (guard 11 t' second) (from_guard 10 11 t first (omega arith) tt) (from_guard 10 11 t' second (omega arith) tt) in
    let e₉ =
    both 9 s s' (guard 10 r (guard 11 t first)) (guard 10 r' (guard 11 t' second))
    (from_guard 9 10 r (guard 11 t first) (omega arith) (from_guard 9 11 t first (omega arith) tt))
    (from_guard 9 10 r' (guard 11 t' second) (omega arith) (from_guard 9 11 t' second (omega arith) tt)) in
    rw (e₉, e₁₀, e₁₁) (with_own (s && s') (r && r') (t && t') own a c)

module _ (f : ℕ) where
  proof_part_lem : {d : ℕ} (verdicts : List ℕ) (proof : Option (Proof d))
      → outcome_if_there f verdicts proof ≡ part (shaped_if_there f proof) (genuine verdicts) (issued_if_there proof) (signers_if_there proof)
  unfolding guard proof_outcome
  proof_part_lem verdicts none = refl
  proof_part_lem verdicts (some proof) = refl

  -- The law behind `checks::first_refusal`: the verdicts of the prepared proof's entries, then those of the written proof's.
  pub proven_smallest : (message : Message) (first second : List ℕ)
      → smallest (smallest (outcome_if_there f first (prepared_of message)) (outcome_if_there f second (written_of message))) (guard 11 (if_there issued (timestamp_of message)) (accepted empty))
      ≡ proven f message (first ++ second) (accepted (signers_if_there (prepared_of message)))
  unfolding proven
  proven_smallest message first second =
      let p = prepared_of message in
      let w = written_of message in
      rw (all_append (λ v. eqb v 1) first second, proof_part_lem first p, proof_part_lem second w)
      (parts (shaped_if_there f p) (shaped_if_there f w) (genuine first) (genuine second) (issued_if_there p) (issued_if_there w) (if_there issued (timestamp_of message)) (signers_if_there p) (signers_if_there w) empty)

  -- A proof that is missing, with no verdicts, is good.
  pub proof_missing : (d : ℕ) → outcome_if_there {d = d} f [] none ≡ accepted empty
  unfolding guard all
  proof_missing d = refl

  -- What follows 9 to 11.
  pub proven_then : {A B : Type 0} (message : Message) (verdicts : List ℕ) (a : A) (next : A → Outcome B)
      → (proven f message verdicts (accepted a) >>= next) ≡ proven f message verdicts (next a)
  unfolding proven
  proven_then message verdicts a next =
      let s = shaped_if_there f (prepared_of message) && shaped_if_there f (written_of message) in
      let t = if_there issued (timestamp_of message) && (issued_if_there (prepared_of message) && issued_if_there (written_of message)) in
      part_then s (genuine verdicts) t a next
