-- What the tests 2 to 4 say of some bytes: where their fields lie and how long they are. Assumes nothing.
use Rattle.std.proofs.Common.{◌≡◌, ℕ, zero, suc, ◌+◌, ◌-◌, ◌*◌, ◌<◌, ◌≤◌, true, false, ◌&&◌, eqb, ltb, List, [], length, get_or, take, drop, refl, ◌∙◌, suc-add, zero-add, arith, length-drop, length-take-le, get_or-take, ltb-true, eq-eqb, eqb-true}
use Rattle.base.specs.BigEndian.{Bytes}
use Rattle.base.specs.BitMap.{bit}
use Rattle.base.specs.Outcome.{Outcome, accepted, guard}
use Rattle.base.specs.Range.{within}
use Rattle.base.proofs.Booleans.{and_true_both}
use Rattle.base.proofs.Outcome.{guard_passes, guard_accepted}
use Rattle.base.proofs.Range.{inside, bounds}
use Rattle.wire.specs.Decode.{framed, good_map}
use Rattle.wire.specs.Layout.{Rule, fixed, repeated, extent, rules, map_in, place, field}
use Rattle.wire.specs.Message.{longest}
use Rattle.base.proofs.BigEndian.{bytes_take, bytes_drop}

-- The tests 2 to 4 passed.
pub record Framed (bytes : List ℕ) : Type 0 where
  pub long : 2 ≤ length bytes
  pub short : length bytes ≤ longest
  pub good : good_map (map_in bytes) ≡ true
  pub ends : place bytes 10 + 64 ≡ length bytes

module _ {A : Type 0} (bytes : List ℕ) (next : Outcome A) where
  pub framed_passes : Framed bytes → framed bytes next ≡ next
  unfolding framed
  framed_passes f =
      let four = guard 4 (eqb (place bytes 10 + 64) (length bytes)) next in
      guard_passes 2 (within 2 longest (length bytes)) (guard 3 (good_map (map_in bytes)) four) (inside 2 longest (length bytes) f.long f.short)
      ∙ guard_passes 3 (good_map (map_in bytes)) four f.good
      ∙ guard_passes 4 (eqb (place bytes 10 + 64) (length bytes)) next (eq-eqb (place bytes 10 + 64) (length bytes) f.ends)

  pub framed_accepted : (a : A) → framed bytes next ≡ accepted a → Framed bytes × (next ≡ accepted a)
  unfolding framed
  framed_accepted a e =
      let four = guard 4 (eqb (place bytes 10 + 64) (length bytes)) next in
      let two = guard_accepted 2 (within 2 longest (length bytes)) (guard 3 (good_map (map_in bytes)) four) a e in
      let three = guard_accepted 3 (good_map (map_in bytes)) four a two.1 in
      let last = guard_accepted 4 (eqb (place bytes 10 + 64) (length bytes)) next a three.1 in
      let range = bounds 2 longest (length bytes) two.0 in
      (record { long = range.0; short = range.1; good = three.0; ends = eqb-true (place bytes 10 + 64) (length bytes) last.0 }, last.1)

-- Places rise.
pub place_next : (bytes : List ℕ) (b : ℕ) → place bytes b ≤ place bytes (suc b)
unfolding place
place_next bytes b = omega arith

place_further : (bytes : List ℕ) (b k : ℕ) → place bytes b ≤ place bytes (k + b)
place_further bytes b zero = rw zero-add (omega arith)
place_further bytes b (suc k) = rw suc-add (omega (arith, place_further bytes b k, place_next bytes (k + b)))

pub place_rises : (bytes : List ℕ) (a b : ℕ) → a ≤ b → place bytes a ≤ place bytes b
place_rises bytes a b h = let e : b - a + a ≡ b = omega arith in rw e at (place_further bytes a (b - a))

-- A bit that is not set takes no bytes, one that is set what its rule says.
pub place_absent : (bytes : List ℕ) (b : ℕ) → bit (map_in bytes) b ≡ false → place bytes (suc b) ≡ place bytes b
unfolding place
place_absent bytes b e = rw e (omega arith)

pub place_present : (bytes : List ℕ) (b : ℕ) → bit (map_in bytes) b ≡ true → place bytes (suc b) ≡ place bytes b + extent (get_or rules b (fixed 0)) (drop (place bytes b) bytes)
unfolding place
place_present bytes b e = rw e

pub field_absent : (bytes : List ℕ) (b : ℕ) → bit (map_in bytes) b ≡ false → field bytes b ≡ []
unfolding field
field_absent bytes b e = let none : place bytes (suc b) - place bytes b ≡ 0 = omega (arith, place_absent bytes b e) in rw none

-- A field that says its length in its head says it alone too.
abbrev pub Headed : Rule → Type 0
Headed (fixed width) = Unit {0}
Headed (repeated head unit) = 1 ≤ head

extent_take : (rule : Rule) (xs : List ℕ) → Headed rule → extent rule (take (extent rule xs) xs) ≡ extent rule xs
extent_take (fixed width) xs h = refl
extent_take (repeated head unit) xs h = rw (get_or-take (head + unit * get_or xs (head - 1) 0) xs (head - 1) 0 (omega arith))

module _ (bytes : List ℕ) (f : Framed bytes) where
  -- Bits 0 and 1 are set, and none above 9.
  good_parts : (bit (map_in bytes) 0 && bit (map_in bytes) 1 ≡ true) × (ltb (map_in bytes) 1024 ≡ true)
  good_parts = and_true_both (bit (map_in bytes) 0 && bit (map_in bytes) 1) (ltb (map_in bytes) 1024) f.good

  pub map_small : map_in bytes < 1024
  map_small = ltb-true (map_in bytes) 1024 good_parts.1

  pub first_bits : (bit (map_in bytes) 0 ≡ true) × (bit (map_in bytes) 1 ≡ true)
  first_bits = and_true_both (bit (map_in bytes) 0) (bit (map_in bytes) 1) good_parts.0

  -- So the kind stands at 2, the sender at 3, and the rest from 4 on.
  pub place_one : place bytes 1 ≡ 3
  unfolding place rules
  place_one = place_present bytes 0 first_bits.0

  pub place_two : place bytes 2 ≡ 4
  unfolding rules
  place_two = place_present bytes 1 first_bits.1 ∙ omega (arith, place_one)

  pub place_within : (b : ℕ) → b ≤ 10 → place bytes b + 64 ≤ length bytes
  place_within b h = let end = f.ends in omega (arith, place_rises bytes b 10 h)

  pub length_field : (b : ℕ) → b ≤ 9 → length (field bytes b) ≡ place bytes (suc b) - place bytes b
  unfolding field
  length_field b h =
      let next = place_within (suc b) (omega arith) in
      length-take-le (place bytes (suc b) - place bytes b) (drop (place bytes b) bytes) (simp length-drop (omega arith))

  -- A field that is there has the length that it says.
  pub field_whole : (b : ℕ) → b ≤ 9 → bit (map_in bytes) b ≡ true → Headed (get_or rules b (fixed 0)) → extent (get_or rules b (fixed 0)) (field bytes b) ≡ length (field bytes b)
  unfolding field
  field_whole b h set headed =
      let rule = get_or rules b (fixed 0) in
      let rest = drop (place bytes b) bytes in
      let size : place bytes (suc b) - place bytes b ≡ extent rule rest = omega (arith, place_present bytes b set) in
      rw (length_field b h) (rw size (extent_take rule rest headed))

-- The parts of bytes are bytes.
pub bytes_field : (bytes : List ℕ) (b : ℕ) → Bytes bytes → Bytes (field bytes b)
unfolding field
bytes_field bytes b small = bytes_take (place bytes (suc b) - place bytes b) (drop (place bytes b) bytes) (bytes_drop (place bytes b) bytes small)
