-- What sets of clients hold. Assumes nothing.
use mathlib.Core.Path.{◌≡◌, refl, ap, ◌∙◌}
use mathlib.Core.Bool.{Bool, true, false, ◌||◌, or_assoc}
use mathlib.Core.Logic.{◌⊎◌, inl, inr}
use Prim.Native.Nat.{ℕ, ◌-◌, ◌≤◌}
use native.Mathlib.Omega.{arith}
use borrow.Author.Tests.{eq-eqb, ne_eqb, ltb-true, ltb-false}
use lib.Dec.{eqb, ltb}
use Rattle.base.specs.ClientSet.{nobody, has, with}
use Rattle.base.specs.Mask.{in_mask, put_in}
use Rattle.base.specs.Party.{is_client}
use Rattle.base.specs.Range.{within}
use Rattle.base.specs.declared.client_set.ClientSet.{ClientSet}
use Rattle.base.specs.declared.party.ClientId.{ClientId}
use Rattle.base.proofs.Apart.{apart}
use Rattle.std.proofs.lemmas.Bool.{and_parts, or_cases}
use Rattle.base.proofs.Digits.{digit}
use Rattle.base.proofs.Mask.{in_zero, in_put, put_again, put_outside}
use Rattle.base.proofs.Range.{inside, below, above, bounds}

pub has_nobody : (i : ClientId) → has nobody i ≡ false
unfolding has
has_nobody i = rw (in_zero 1 64 i.0, in_zero 65 96 i.0)

-- No number outside 1 to 96 is a member.
pub has_client_lem : (set : ClientSet) (i : ClientId) → is_client i ≡ false → has set i ≡ false
unfolding has
has_client_lem set i e = rw (outside 1 64 (omega arith) (omega arith), outside 65 96 (omega arith) (omega arith))
  where
    outside : (low high : ℕ) → 1 ≤ low → high ≤ 96 → within low high i.0 ≡ false
    outside low high l h = go (within low high i.0) refl
      where
        go : (b : Bool) → within low high i.0 ≡ b → b ≡ false
        go true k = let there = bounds low high i.0 k in let client = inside 1 96 i.0 (omega arith) (omega arith) in apart (cc)
        go false k = refl

-- A client is a writer or a viewing client.
data Side (i : ℕ) : Type 0 where
  writes : within 1 64 i ≡ true → within 65 96 i ≡ false → Side i
  views : within 1 64 i ≡ false → within 65 96 i ≡ true → Side i

side : (i : ℕ) → within 1 96 i ≡ true → Side i
side i e = go (ltb 64 i) refl
  where
    go : (b : Bool) → ltb 64 i ≡ b → Side i
    go true h = let over = ltb-true 64 i h in views (above 1 64 i over) (inside 65 96 i (omega arith) (bounds 1 96 i e).1)
    go false h = let under = ltb-false 64 i h in writes (inside 1 64 i (bounds 1 96 i e).0 (omega arith)) (below 65 96 i (omega arith))

-- Asked of a client, whoever is put in.
with_client_lem : (set : ClientSet) (x i : ClientId) → is_client i ≡ true → has (with set x) i ≡ (eqb i.0 x.0 || has set i)
unfolding has with
with_client_lem set x i e = go (side i.0 e)
  where
    go : Side i.0
        → (in_mask 1 64 (put_in 1 64 set.writers x.0) i.0 || in_mask 65 96 (put_in 65 96 set.viewers x.0) i.0)
        ≡ (eqb i.0 x.0 || (in_mask 1 64 set.writers i.0 || in_mask 65 96 set.viewers i.0))
    go (writes h k) = rw (in_put 1 64 set.writers x.0 i.0 h, k) (or_assoc (eqb i.0 x.0) (in_mask 1 64 set.writers i.0) false)
    go (views h k) = rw (in_put 65 96 set.viewers x.0 i.0 k, h)

-- A set with one client more has that one and what it had, and nobody else.
pub has_with : (set : ClientSet) (x i : ClientId) → is_client x ≡ true → has (with set x) i ≡ (eqb i.0 x.0 || has set i)
has_with set x i e = go (is_client i) refl
  where
    go : (b : Bool) → is_client i ≡ b → has (with set x) i ≡ (eqb i.0 x.0 || has set i)
    go true k = with_client_lem set x i k
    go false k =
        let other : i.0 ≡ x.0 → ⊥ = λ one. let is = ap (λ (n : ℕ). is_client (record { 0 = n })) one in apart (cc) in
        has_client_lem (with set x) i k ∙ rw (ne_eqb i.0 x.0 other, has_client_lem set i k)

pub has_put : (set : ClientSet) (x : ClientId) → is_client x ≡ true → has (with set x) x ≡ true
has_put set x e = has_with set x x e ∙ rw (eq-eqb x.0 x.0 refl)

-- Who is in already changes nothing.
pub with_again : (set : ClientSet) (x : ClientId) → has set x ≡ true → with set x ≡ set
unfolding has with
with_again set x e = go (or_cases (in_mask 1 64 set.writers x.0) (in_mask 65 96 set.viewers x.0) e)
  where
    both : (writers viewers : ℕ) → writers ≡ set.writers → viewers ≡ set.viewers → ◌≡◌ {A = ClientSet} (record { writers = writers; viewers = viewers }) set
    both writers viewers h k = rw (h, k)

    range : (low high mask : ℕ) → in_mask low high mask x.0 ≡ true → (low ≤ x.0) × (x.0 ≤ high)
    range low high mask h = bounds low high x.0 (and_parts (within low high x.0) (digit (x.0 - low) mask) h).0

    go : (in_mask 1 64 set.writers x.0 ≡ true) ⊎ (in_mask 65 96 set.viewers x.0 ≡ true)
        → ◌≡◌ {A = ClientSet} (record { writers = put_in 1 64 set.writers x.0; viewers = put_in 65 96 set.viewers x.0 }) set
    go (inl h) =
        let there = range 1 64 set.writers h in
        both _ _ (put_again 1 64 set.writers x.0 h) (put_outside 65 96 set.viewers x.0 (below 65 96 x.0 (omega arith)))
    go (inr h) =
        let there = range 65 96 set.viewers h in
        both _ _ (put_outside 1 64 set.writers x.0 (above 1 64 x.0 (omega arith))) (put_again 65 96 set.viewers x.0 h)
