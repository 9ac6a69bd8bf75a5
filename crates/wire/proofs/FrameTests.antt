-- Tests 2 to 4: what passes them, and what each refuses. Assumes nothing.
use Rattle.std.proofs.Common.{◌≡◌, ℕ, ◌+◌, ◌/◌, ◌%◌, ◌<◌, ◌≤◌, Bool, true, false, ◌&&◌, eqb, List, [], ◌∷◌, length, get_or, sym, refl, ◌∙◌, ap, Result, Ok, Err, arith, ◌⊎◌, inl, inr, le-ltb, lt-ltb, eq-eqb, ne_eqb, eqb-true}
use Rattle.std.specs.Int.{w16, from_be_bytes}
use mathlib.Core.Bool.{and-false}
use native.Mathlib.Nat.{div-div-eq-div-mul}
use Rattle.base.specs.BigEndian.{from_bytes}
use Rattle.base.specs.Outcome.{Outcome, accepted, refused, guard}
use Rattle.base.specs.Range.{within}
use Rattle.base.specs.Refusal.{outcome}
use Rattle.base.specs.declared.refusal.Refusal.{Refusal}
use Rattle.base.proofs.Outcome.{guard_passes, guard_refuses}
use Rattle.base.proofs.Range.{inside, below, above}
use Rattle.base.proofs.Apart.{apart}
use Rattle.wire.specs.Decode.{framed, good_map}
use Rattle.wire.specs.Layout.{map_in, place}
use Rattle.wire.specs.Message.{longest}
use Rattle.wire.specs.Places.{Lays, places_in}
use Rattle.wire.specs.declared.frame.Places.{Places}
use Rattle.wire.proofs.FieldPlaces.{Framed, framed_accepted}

-- The bit map is the number of the first two bytes.
map_at : (s : List ℕ) → 2 ≤ length s → map_in s ≡ from_bytes (get_or s 0 0 ∷ get_or s 1 0 ∷ [])
map_at [] h = absurd (omega arith)
map_at (a ∷ []) h = absurd (omega arith)
map_at (a ∷ b ∷ s) h = refl

pub the_map : (s : List ℕ) → 2 ≤ length s → (map : ℕ) → map ≡ from_be_bytes w16 (get_or s 0 0 ∷ get_or s 1 0 ∷ []) → map ≡ map_in s
unfolding from_bytes
the_map s long map known = rw (map_at s long) (omega (arith, known))

-- Test 3 as the code makes it.
good_map_lem : (map : ℕ) → map % 4 ≡ 3 → map < 1024 → good_map map ≡ true
good_map_lem map low high =
    let zeroth : map / 1 % 2 ≡ 1 = omega arith in
    let first : map / 2 % 2 ≡ 1 = omega arith in
    rw (eq-eqb (map / 1 % 2) 1 zeroth, eq-eqb (map / 2 % 2) 1 first, lt-ltb map 1024 high)

and_none : (a b : Bool) → (a ≡ true → b ≡ true → ⊥) → (a && b) ≡ false
and_none true true h = absurd (h refl refl)
and_none true false h = refl
and_none false b h = refl

lacks_bits : (map : ℕ) → (map % 4 ≡ 3 → ⊥) → good_map map ≡ false
lacks_bits map h =
    rw (and_none (eqb (map / 1 % 2) 1) (eqb (map / 2 % 2) 1) (λ a b. both (eqb-true (map / 1 % 2) 1 a) (eqb-true (map / 2 % 2) 1 b)))
  where
    both : map / 1 % 2 ≡ 1 → map / 2 % 2 ≡ 1 → ⊥
    both a b = h (omega (arith, div-div-eq-div-mul map 2 2))

has_more : (map : ℕ) → 1024 ≤ map → good_map map ≡ false
has_more map h = rw (le-ltb map 1024 h) (and-false (eqb (map / 1 % 2) 1 && eqb (map / 2 % 2) 1))

-- Tests 2 and 3 in the code's words.
module _ {A : Type 0} (s : List ℕ) (next : Outcome A) where
  pub bad_length : (length s < 2) ⊎ ((2 ≤ length s) × (1580 < length s)) → refused 2 ≡ framed s next
  unfolding framed
  bad_length (inl h) = sym (guard_refuses 2 _ _ (below 2 longest (length s) h))
  bad_length (inr h) = sym (guard_refuses 2 _ _ (above 2 longest (length s) h.1))

  module _ (long : 2 ≤ length s) (short : length s ≤ 1580) (map : ℕ) (known : map ≡ from_be_bytes w16 (get_or s 0 0 ∷ get_or s 1 0 ∷ [])) where
    refused_map : good_map map ≡ false → refused 3 ≡ framed s next
    unfolding framed
    refused_map e = sym (guard_passes 2 _ _ (inside 2 longest (length s) long short) ∙ guard_refuses 3 _ _ (rw (the_map s long map known) at e))

    pub bad_map : (map % 4 ≡ 3 → ⊥) ⊎ ((map % 4 ≡ 3) × (1024 ≤ map)) → refused 3 ≡ framed s next
    bad_map (inl h) = refused_map (lacks_bits map h)
    bad_map (inr h) = refused_map (has_more map h.1)

    pub to_end : map % 4 ≡ 3 → map < 1024 → framed s next ≡ guard 4 (eqb (place s 10 + 64) (length s)) next
    unfolding framed
    to_end low high = guard_passes 2 _ _ (inside 2 longest (length s) long short) ∙ guard_passes 3 _ _ (rw (the_map s long map known) at (good_map_lem map low high))

-- Test 4 by the places that were laid.
pub laid : (s : List ℕ) (found : Result Places Refusal) → Lays s found → outcome found ≡ guard 4 (eqb (place s 10 + 64) (length s)) (accepted (places_in s))
laid s (Err refusal) (four, ends) = ap (λ (r : Refusal). outcome {A = Places} (Err r)) four ∙ sym (guard_refuses 4 _ _ (ne_eqb (place s 10 + 64) (length s) ends))
laid s (Ok p) (same, ends) = ap accepted same ∙ sym (guard_passes 4 _ _ (eq-eqb (place s 10 + 64) (length s) ends))

-- A refusal by tests 2 to 4 does not hang on what follows them.
guards_refused : {A B : Type 0} (t2 t3 t4 : Bool) (x : A) (next : Outcome B) (n : ℕ)
    → guard 2 t2 (guard 3 t3 (guard 4 t4 (accepted x))) ≡ refused n → guard 2 t2 (guard 3 t3 (guard 4 t4 next)) ≡ refused n
unfolding guard
guards_refused true true true x next n e = apart (cc)
guards_refused true true false x next n e = let same : ◌≡◌ {A = ℕ} 4 n = cc in rw same
guards_refused true false t4 x next n e = let same : ◌≡◌ {A = ℕ} 3 n = cc in rw same
guards_refused false t3 t4 x next n e = let same : ◌≡◌ {A = ℕ} 2 n = cc in rw same

pub refuses : {A B : Type 0} (s : List ℕ) (x : A) (next : Outcome B) (n : ℕ) → framed s (accepted x) ≡ refused n → framed s next ≡ refused n
unfolding framed
refuses s x next n e = guards_refused (within 2 longest (length s)) (good_map (map_in s)) (eqb (place s 10 + 64) (length s)) x next n e

pub known : (s : List ℕ) (p : Places) → framed s (accepted (places_in s)) ≡ accepted p → Framed s × (p ≡ places_in s)
known s p e = let passed = framed_accepted s (accepted (places_in s)) p e in (passed.0, let same = passed.1 in cc)
