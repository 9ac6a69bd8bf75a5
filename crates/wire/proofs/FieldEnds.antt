-- Where fields end, for the reader: places only rise, and a field that is cut anywhere fails test 4. Assumes nothing.
use Rattle.std.proofs.Common.{◌≡◌, Option, Some, ℕ, zero, suc, ◌+◌, ◌/◌, ◌%◌, ◌^◌, ◌<◌, ◌≤◌, true, false, List, get_or, drop, refl, subst, arith, eq-eqb, ne_eqb}
use Rattle.base.specs.BitMap.{bit}
use Rattle.wire.specs.Layout.{Rule, fixed, extent, rules, map_in, place}
use Rattle.wire.specs.Places.{TakesField}
use Rattle.wire.proofs.FieldPlaces.{place_present, place_absent, place_rises}

-- Places begin at 2 and only rise: where a field's length cannot be read, the signature does not end where the message does.
pub place_first : (s : List ℕ) → place s 0 ≡ 2
unfolding place
place_first s = refl

pub place_short : (s : List ℕ) (b : ℕ) → b ≤ 10 → place s b ≤ place s 10
place_short s b low = place_rises s b 10 low

-- Bits 0, 1, 8 and 9 are the fields of one byte.
pub one_byte : (b : ℕ) → b < 10 → (b ≡ 2 → ⊥) → (b ≡ 3 → ⊥) → (b ≡ 4 → ⊥) → (b ≡ 5 → ⊥) → (b ≡ 6 → ⊥) → (b ≡ 7 → ⊥) → get_or rules b (fixed 0) ≡ fixed 1
unfolding rules
one_byte zero h n2 n3 n4 n5 n6 n7 = refl
one_byte (suc zero) h n2 n3 n4 n5 n6 n7 = refl
one_byte (suc (suc zero)) h n2 n3 n4 n5 n6 n7 = absurd (n2 refl)
one_byte (suc (suc (suc zero))) h n2 n3 n4 n5 n6 n7 = absurd (n3 refl)
one_byte (suc (suc (suc (suc zero)))) h n2 n3 n4 n5 n6 n7 = absurd (n4 refl)
one_byte (suc (suc (suc (suc (suc zero))))) h n2 n3 n4 n5 n6 n7 = absurd (n5 refl)
one_byte (suc (suc (suc (suc (suc (suc zero)))))) h n2 n3 n4 n5 n6 n7 = absurd (n6 refl)
one_byte (suc (suc (suc (suc (suc (suc (suc zero))))))) h n2 n3 n4 n5 n6 n7 = absurd (n7 refl)
one_byte (suc (suc (suc (suc (suc (suc (suc (suc zero)))))))) h n2 n3 n4 n5 n6 n7 = refl
one_byte (suc (suc (suc (suc (suc (suc (suc (suc (suc zero))))))))) h n2 n3 n4 n5 n6 n7 = refl
one_byte (suc (suc (suc (suc (suc (suc (suc (suc (suc (suc b)))))))))) h n2 n3 n4 n5 n6 n7 = absurd (omega arith)

-- Where the field of a bit ends, by what the code tests.
module _ (s : List ℕ) (map b at : ℕ) (known : (map ≡ map_in s) × (b < 10) × (at ≡ place s b) × (at ≤ 200_000)) where
  pub field_missing : map / 2 ^ b % 2 ≡ 0 → TakesField s at (place s (suc b)) (Some at)
  field_missing clear =
      let unset : bit (map_in s) b ≡ false = rw (← known.0) (ne_eqb (map / 2 ^ b % 2) 1 (λ e. omega arith)) in
      let same = place_absent s b unset in
      (omega arith, omega arith)

  pub field_there : (rule : Rule) (r : Option ℕ) → (map / 2 ^ b % 2 ≡ 0 → ⊥) → get_or rules b (fixed 0) ≡ rule → TakesField s at (at + extent rule (drop at s)) r → TakesField s at (place s (suc b)) r
  field_there rule r set same taken =
      let there : bit (map_in s) b ≡ true = rw (← known.0) (eq-eqb (map / 2 ^ b % 2) 1 (omega arith)) in
      let ends : at + extent rule (drop at s) ≡ place s (suc b) = rw (place_present s b there, same, ← known.2) in
      subst (λ (end : ℕ). TakesField s at end r) ends taken
