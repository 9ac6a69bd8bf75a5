-- The fields of bytes that passed tests 2 to 4, as the reader takes them. Assumes nothing.
use Rattle.std.proofs.Common.{◌≡◌, Some, ℕ, suc, ◌-◌, ◌<◌, ◌≤◌, Bool, true, false, List, [], ◌∷◌, length, get_or, take, drop, refl, ap, ◌∙◌, arith, inl, inr, ◌⊎◌, sym, le-ltb, length-take, take_all, get_or-take, get_or-drop}
use Rattle.base.proofs.Apart.{apart}
use Rattle.base.specs.BigEndian.{from_bytes}
use Rattle.base.specs.BitMap.{bit}
use Rattle.base.specs.Bytes.{between}
use Rattle.base.specs.Timestamp.{of_number}
use Rattle.base.specs.declared.timestamp.Timestamp.{Timestamp}
use Rattle.wire.specs.Decode.{fields_in}
use Rattle.wire.specs.Kind.{kind_of_number, kind_there}
use Rattle.wire.specs.Layout.{fixed, rules, map_in, place, field}
use Rattle.wire.specs.Parts.{number_part, timestamp_part}
use Rattle.wire.specs.Places.{places_in}
use Rattle.wire.specs.declared.frame.Places.{Places}
use Rattle.wire.specs.declared.message.Fields.{Fields}
use Rattle.wire.specs.declared.message.Kind.{Kind}
use Rattle.wire.proofs.FieldPlaces.{Framed, place_present, place_absent, field_absent, length_field, place_within, place_one, place_two, first_bits}
use Rattle.wire.proofs.Windows.{number_whole}

-- A field of a fixed width is so long, or not there.
pub fixed_field : (s : List ℕ) (b width : ℕ) → Framed s → b ≤ 9 → get_or rules b (fixed 0) ≡ fixed width → (length (field s b) ≡ width) ⊎ (field s b ≡ [])
fixed_field s b width whole low rule = go (bit (map_in s) b) refl
  where
    go : (there : Bool) → bit (map_in s) b ≡ there → (length (field s b) ≡ width) ⊎ (field s b ≡ [])
    go true e = inl (length_field s whole b low ∙ rw (place_present s b e, rule) (omega arith))
    go false e = inr (field_absent s b e)

-- In any bytes it is no longer than that, so as many bytes from its place on, up to the next place, are all of it.
pub fixed_front : (s : List ℕ) (b width : ℕ) → get_or rules b (fixed 0) ≡ fixed width → take width (between s (place s b) (place s (suc b))) ≡ field s b
unfolding field
fixed_front s b width rule = let few = at_most_lem (bit (map_in s) b) refl in take_all width (between s (place s b) (place s (suc b))) (rw length-take (omega arith))
  where
    at_most_lem : (there : Bool) → bit (map_in s) b ≡ there → place s (suc b) - place s b ≤ width
    at_most_lem true e = rw (place_present s b e, rule) (omega arith)
    at_most_lem false e = rw (place_absent s b e) (omega arith)

-- The byte of a field of one byte; 0 if it is not there.
byte_of : (field : List ℕ) → (length field ≡ 1) ⊎ (field ≡ []) → get_or field 0 0 ≡ from_bytes field
unfolding from_bytes
byte_of [] e = refl
byte_of (b ∷ []) e = omega arith
byte_of (b ∷ c ∷ field) (inl e) = absurd (omega arith)
byte_of (b ∷ c ∷ field) (inr e) = apart (cc)

timestamp_whole : (field : List ℕ) → (length field ≡ 5) ⊎ (field ≡ []) → timestamp_part field ≡ of_number (from_bytes field)
unfolding timestamp_part from_bytes
timestamp_whole field (inl e) = rw (le-ltb (length field) 5 (omega arith), take_all 5 field (omega arith))
timestamp_whole field (inr e) = rw e

-- Kind and sender are always there.
module _ (s : List ℕ) (whole : Framed s) where
  pub room_for_both : 4 ≤ length s
  room_for_both = omega (arith, place_two s whole, place_within s whole 2 (omega arith))

  single : (b : ℕ) → b ≤ 9 → get_or rules b (fixed 0) ≡ fixed 1 → bit (map_in s) b ≡ true → place s b < length s → from_bytes (field s b) ≡ get_or s (place s b) 0
  unfolding field
  single b low rule there h =
      let next = place_present s b there in
      let one : place s (suc b) - place s b ≡ 1 = rw (next, rule) (omega arith) in
      sym (byte_of (field s b) (fixed_field s b 1 whole low rule)) ∙ rw (one, get_or-take 1 (drop (place s b) s) 0 0 (omega arith), get_or-drop (place s b) s 0 0) (ap (λ (i : ℕ). get_or s i 0) (omega arith))

  pub kind_at : from_bytes (field s 0) ≡ get_or s 2 0
  unfolding place rules
  kind_at = let h = room_for_both in single 0 (omega arith) refl (first_bits s whole).0 (omega arith)

  pub sender_is : from_bytes (field s 1) ≡ get_or s 3 0
  unfolding rules
  sender_is = let h = room_for_both in let at = place_one s whole in single 1 (omega arith) refl (first_bits s whole).1 (omega arith) ∙ rw at

pub made : (s : List ℕ) (p : Places) (kind : Kind) (nonce : ℕ) (timestamp : Timestamp) (addressed register : ℕ) → Framed s → p ≡ places_in s → kind_of_number (get_or s 2 0) ≡ Some kind
    → nonce ≡ number_part 8 (between s p.nonce p.timestamp)
    → timestamp ≡ timestamp_part (between s p.timestamp p.digest)
    → addressed ≡ get_or (between s p.addressed p.register) 0 0
    → register ≡ get_or (between s p.register p.signature) 0 0
    → ◌≡◌ {A = Fields} (record {
      map = p.map;
      kind = kind;
      sender = get_or s 3 0;
      nonce = nonce;
      timestamp = timestamp;
      digest = record { start = p.digest; end = p.card };
      card = record { start = p.card; end = p.prepared };
      prepared = record { start = p.prepared; end = p.written };
      written = record { start = p.written; end = p.addressed };
      addressed = record { 0 = addressed };
      register = record { 0 = register };
      signature = record { start = p.signature; end = length s };
    }) (fields_in s)
unfolding places_in fields_in field rules
made s p kind nonce timestamp addressed register whole e k n t a r =
    let n' : nonce ≡ from_bytes (field s 2) = n ∙ rw e (number_whole 8 (field s 2) (fixed_field s 2 8 whole (omega arith) refl)) in
    let t' : timestamp ≡ of_number (from_bytes (field s 3)) = t ∙ rw e (timestamp_whole (field s 3) (fixed_field s 3 5 whole (omega arith) refl)) in
    let a' : addressed ≡ from_bytes (field s 8) = a ∙ rw e (byte_of (field s 8) (fixed_field s 8 1 whole (omega arith) refl)) in
    let r' : register ≡ from_bytes (field s 9) = r ∙ rw e (byte_of (field s 9) (fixed_field s 9 1 whole (omega arith) refl)) in
    let k' : kind_there (kind_of_number (from_bytes (field s 0))) ≡ kind = rw (kind_at s whole, k) in
    rw (n', t', a', r', k', ← sender_is s whole, e)
