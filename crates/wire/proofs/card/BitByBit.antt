-- A card read bit by bit: what remains decides. Assumes nothing.
use Rattle.std.proofs.Common.{◌≡◌, ℕ, zero, suc, ◌+◌, ◌/◌, ◌%◌, ◌<◌, ◌≤◌, List, [], ◌∷◌, ◌++◌, length, get_or, map, take, drop, set, replicate, sym, refl, ap, ◌∙◌, append_assoc, append-nil, add-one, arith, length-drop, length-set, drop_of_length-le, take_all, drop-cons, get_or-set_other, take-suc, drop-drop, take-suc-set}
use mathlib.Core.Option.{Option, none, some}
use Rattle.std.specs.declared.option.Option as Answer
use Rattle.std.specs.declared.option.Option.TheVariants.{Some, None}
use Rattle.base.specs.Outcome.{accepted, refused}
use Rattle.base.proofs.Apart.{apart}
use Rattle.wire.specs.declared.card.Row.{Row}
use Rattle.wire.specs.Card.{row, table, Fields, prepend, prepend_present, standing, read_fields, shown, read_answer}
use Rattle.wire.proofs.card.FieldsAndMap.{stood, field_missing, field_present}

-- The fields that were read, as the code shows them, behind those of earlier bits.
abbrev pub shown_after : List (Answer.Option ℕ) → Option Fields → Option (List (Answer.Option ℕ))
shown_after earlier none = none
shown_after earlier (some fields) = some (earlier ++ map shown fields)

one_more : (earlier : List (Answer.Option ℕ)) (field : Option ℕ) (later : Option Fields)
    → shown_after earlier (prepend field later) ≡ shown_after (earlier ++ shown field ∷ []) later
one_more earlier field none = refl
one_more earlier field (some fields) = simp append_assoc

none_after : (earlier : List (Answer.Option ℕ)) (fields : Option Fields) → shown_after earlier fields ≡ none → fields ≡ none
none_after earlier none e = refl
none_after earlier (some fields) e = apart (cc)

-- A field as the code shows it tells the field.
shown_some : (value : ℕ) (field : Option ℕ) → Some value ≡ shown field → some value ≡ field
shown_some value none e = apart (cc)
shown_some value (some v) e = let same : value ≡ v = cc in ap some same

shown_none : (field : Option ℕ) → None ≡ shown field → none ≡ field
shown_none none e = refl
shown_none (some v) e = apart (cc)

row_at : (bit : ℕ) → bit < 7 → drop bit table ≡ get_or table bit (row 0 0 0) ∷ drop (bit + 1) table
unfolding table
row_at bit h = rw add-one (drop-cons table bit (row 0 0 0) h)

-- The state before a bit is looked at.
pub record Reading (card : List ℕ) (map : ℕ) (fields : List (Answer.Option ℕ)) (at rest bit : ℕ) : Type 0 where
  pub decides : shown_after [] (read_fields table map (drop 2 card)) ≡ shown_after (take bit fields) (read_fields (drop bit table) rest (drop at card))
  pub missing : (k : ℕ) → bit ≤ k → get_or fields k None ≡ None
  pub seven : length fields ≡ 7
  pub place : at ≤ length card
  pub bits : bit ≤ 7

none_only : (n k : ℕ) → ◌≡◌ {A = Answer.Option ℕ} (get_or (replicate n None) k None) None
none_only zero k = refl
none_only (suc n) zero = refl
none_only (suc n) (suc k) = none_only n k

pub begun : (card : List ℕ) (bits : ℕ) → 2 ≤ length card → Reading card bits (replicate 7 None) 2 bits 0
begun card bits h = record {
  decides = refl;
  missing = λ k l. none_only 7 k;
  seven = refl;
  place = h;
  bits = omega arith;
}

module _ {card : List ℕ} {bits : ℕ} {fields : List (Answer.Option ℕ)} {at rest bit : ℕ} (r : Reading card bits fields at rest bit) where
  -- Nothing comes of fields that cannot be read on.
  pub stopped : read_fields (drop bit table) rest (drop at card) ≡ none → read_fields table bits (drop 2 card) ≡ none
  stopped e = none_after [] (read_fields table bits (drop 2 card)) (r.decides ∙ ap (shown_after (take bit fields)) e)

  -- A bit more, with its field and where the next one starts.
  next : (field : Option ℕ) (fields' : List (Answer.Option ℕ)) (at' : ℕ) → bit < 7 → at' ≤ length card
      → read_fields (drop bit table) rest (drop at card) ≡ prepend field (read_fields (drop (bit + 1) table) (rest / 2) (drop at' card))
      → take (bit + 1) fields' ≡ take bit fields ++ shown field ∷ [] → length fields' ≡ 7 → ((k : ℕ) → bit + 1 ≤ k → get_or fields' k None ≡ None)
      → Reading card bits fields' at' (rest / 2) (bit + 1)
  next field fields' at' h place turn front seven missing = record {
    decides = r.decides ∙ rw (turn, front) (one_more (take bit fields) field (read_fields (drop (bit + 1) table) (rest / 2) (drop at' card)));
    missing = missing;
    seven = seven;
    place = place;
    bits = omega arith;
  }

  pub passed_missing : bit < 7 → (rest % 2 ≡ 1 → ⊥) → Reading card bits fields at (rest / 2) (bit + 1)
  passed_missing h even =
      let inside : bit < length fields = omega (arith, r.seven) in
      next none fields at h r.place
      (rw (row_at bit h) (field_missing (get_or table bit (row 0 0 0)) (drop (bit + 1) table) rest (drop at card) even))
      (rw (add-one, take-suc fields bit None, r.missing bit (omega arith)))
      r.seven
      (λ k l. r.missing k (omega arith))

  module _ (found : Row) (is_row : found ≡ get_or table bit (row 0 0 0)) (h : bit < 7) (odd : rest % 2 ≡ 1) where
    here : read_fields (drop bit table) rest (drop at card) ≡ prepend_present (standing found (drop at card)) (read_fields (drop (bit + 1) table) (rest / 2) (drop (at + found.width) card))
    here = rw (row_at bit h, ← is_row, ← drop-drop found.width at card) (field_present found (drop (bit + 1) table) rest (drop at card) odd)

    pub passed_present : (value : ℕ) → Some value ≡ shown (standing found (drop at card)) → Reading card bits (set fields bit (Some value)) (at + found.width) (rest / 2) (bit + 1)
    passed_present value s =
        let e = shown_some value (standing found (drop at card)) s in
        let room = (stood found (drop at card) value (sym e)).0 in
        let inside : bit < length fields = omega (arith, r.seven) in
        next (some value) (set fields bit (Some value)) (at + found.width) h (omega (arith, rw length-drop at room, r.place))
        (here ∙ rw (← e))
        (rw (add-one, take-suc-set fields bit (Some value)))
        (length-set fields bit (Some value) ∙ r.seven)
        (λ k l. get_or-set_other fields bit k (Some value) None (omega arith) ∙ r.missing k (omega arith))

    pub refused_present : None ≡ shown (standing found (drop at card)) → read_answer (read_fields table bits (drop 2 card)) ≡ refused 14
    refused_present s = ap read_answer (stopped (here ∙ rw (← shown_none (standing found (drop at card)) s)))

  -- Bytes are left over behind the last field.
  pub refused_longer : 7 ≤ bit → at < length card → read_answer (read_fields table bits (drop 2 card)) ≡ refused 14
  unfolding table read_fields
  refused_longer h l = let last : bit ≡ 7 = omega (arith, r.bits) in ap read_answer (stopped (rw (last, drop-cons card at 0 l)))

  pub finished : 7 ≤ bit → length card ≤ at → read_answer (read_fields table bits (drop 2 card)) ≡ accepted fields
  unfolding table read_fields
  finished h l = go (read_fields table bits (drop 2 card)) (r.decides ∙ rest_read)
    where
      rest_read : shown_after (take bit fields) (read_fields (drop bit table) rest (drop at card)) ≡ some fields
      rest_read = let last : bit ≡ 7 = omega (arith, r.bits) in rw (last, drop_of_length-le card l, append-nil, take_all 7 fields (omega (arith, r.seven)))

      go : (o : Option Fields) → shown_after [] o ≡ some fields → read_answer o ≡ accepted fields
      go none k = apart (cc)
      go (some found) k = let same : map shown found ≡ fields = cc in ap accepted same
