-- What fields that were read say of the bytes and the map. Assumes nothing.
use Rattle.std.proofs.Common.{◌≡◌, ℕ, ◌/◌, ◌%◌, ◌^◌, ◌<◌, ◌≤◌, Bool, true, false, cond, ◌&&◌, eqb, ltb, leb, List, [], ◌∷◌, length, take, drop, sym, refl, ◌∙◌, pow-suc, arith, ltb-true, eq-eqb, ne_eqb, eqb-true, le-leb, leb-true}
use mathlib.Core.Option.{Option, none, some}
use Rattle.std.specs.declared.option.Option as Answer
use borrow.Author.Tests.{eqb-false, lt-leb}
use Rattle.base.specs.BigEndian.{from_bytes}
use Rattle.base.specs.Outcome.{accepted, refused, guard}
use Rattle.base.specs.Range.{within}
use Rattle.base.proofs.Booleans.{and_true_both}
use Rattle.base.specs.BitMap.{map_of}
use Rattle.base.proofs.Apart.{apart}
use Rattle.wire.specs.declared.card.Row.{Row}
use Rattle.wire.specs.Card.{table, Fields, prepend, prepend_present, standing, read_fields, good_card_map, read_card, is_some, read_answer}

module _ (row : Row) (bytes : List ℕ) where
  pub too_short : length bytes < row.width → standing row bytes ≡ none
  too_short h = rw (lt-leb row.width (length bytes) h)

  pub stands_not : (value : ℕ) → row.width ≤ length bytes → value ≡ from_bytes (take row.width bytes)
      → within row.least row.greatest value ≡ false → standing row bytes ≡ none
  stands_not value h e out = rw (le-leb row.width (length bytes) h, ← e, out)

  pub stands : (value : ℕ) → row.width ≤ length bytes → value ≡ from_bytes (take row.width bytes)
      → within row.least row.greatest value ≡ true → standing row bytes ≡ some value
  stands value h e in_range_lem = rw (le-leb row.width (length bytes) h, ← e, in_range_lem)

  -- What stands there has its bytes, their number and its range.
  pub stood : (value : ℕ) → standing row bytes ≡ some value
      → (row.width ≤ length bytes) × (from_bytes (take row.width bytes) ≡ value) × (within row.least row.greatest value ≡ true)
  stood value e = go (leb row.width (length bytes) && within row.least row.greatest number) refl e
    where
      number : ℕ
      number = from_bytes (take row.width bytes)

      go : (b : Bool) → (leb row.width (length bytes) && within row.least row.greatest number) ≡ b → cond b (some number) none ≡ some value
          → (row.width ≤ length bytes) × (number ≡ value) × (within row.least row.greatest value ≡ true)
      go true t k =
          let both = and_true_both (leb row.width (length bytes)) (within row.least row.greatest number) t in
          let same : number ≡ value = cc in
          (leb-true row.width (length bytes) both.0, same, rw same at both.1)
      go false t k = apart (cc)

module _ (row : Row) (rows : List Row) (map : ℕ) (bytes : List ℕ) where
  pub field_missing : (map % 2 ≡ 1 → ⊥) → read_fields (row ∷ rows) map bytes ≡ prepend none (read_fields rows (map / 2) bytes)
  unfolding read_fields
  field_missing h = rw (ne_eqb (map % 2) 1 h)

  pub field_present : map % 2 ≡ 1 → read_fields (row ∷ rows) map bytes ≡ prepend_present (standing row bytes) (read_fields rows (map / 2) (drop row.width bytes))
  unfolding read_fields
  field_present h = rw (eq-eqb (map % 2) 1 h)

-- How the fields came to be read, row by row.
pub data ReadAs : List Row → ℕ → List ℕ → Fields → Type 0 where
  ended : {map : ℕ} → ReadAs [] map [] []
  missing : {row : Row} {rows : List Row} {map : ℕ} {bytes : List ℕ} {fields : Fields}
      → (map % 2 ≡ 1 → ⊥) → ReadAs rows (map / 2) bytes fields → ReadAs (row ∷ rows) map bytes (none ∷ fields)
  present : {row : Row} {rows : List Row} {map : ℕ} {bytes : List ℕ} {fields : Fields} {value : ℕ}
      → map % 2 ≡ 1 → standing row bytes ≡ some value → ReadAs rows (map / 2) (drop row.width bytes) fields → ReadAs (row ∷ rows) map bytes (some value ∷ fields)

-- A field in front was put before what was read behind it.
prepended : (field : Option ℕ) (later : Option Fields) (fields : Fields) → prepend field later ≡ some fields → (rest : Fields) × (later ≡ some rest) × (field ∷ rest ≡ fields)
prepended field none fields e = apart (cc)
prepended field (some rest) fields e = (rest, refl, (cc))

-- One row of `read_as`, from what is known of the later rows.
module _ (row : Row) (rows : List Row) (map : ℕ) (bytes : List ℕ) (fields : Fields)
    (later : (bytes : List ℕ) (fields : Fields) → read_fields rows (map / 2) bytes ≡ some fields → ReadAs rows (map / 2) bytes fields) where
  read_missing : (map % 2 ≡ 1 → ⊥) → read_fields (row ∷ rows) map bytes ≡ some fields → ReadAs (row ∷ rows) map bytes fields
  read_missing even e =
      let p = prepended none (read_fields rows (map / 2) bytes) fields (sym (field_missing row rows map bytes even) ∙ e) in
      rw (← p.2) (missing even (later bytes p.0 p.1))

  read_present : map % 2 ≡ 1 → read_fields (row ∷ rows) map bytes ≡ some fields → ReadAs (row ∷ rows) map bytes fields
  read_present odd e = go (standing row bytes) refl (sym (field_present row rows map bytes odd) ∙ e)
    where
      go : (o : Option ℕ) → standing row bytes ≡ o → prepend_present o (read_fields rows (map / 2) (drop row.width bytes)) ≡ some fields → ReadAs (row ∷ rows) map bytes fields
      go none s k = apart (cc)
      go (some value) s k =
          let p = prepended (some value) (read_fields rows (map / 2) (drop row.width bytes)) fields k in
          rw (← p.2) (present odd s (later (drop row.width bytes) p.0 p.1))

  read_row : read_fields (row ∷ rows) map bytes ≡ some fields → ReadAs (row ∷ rows) map bytes fields
  read_row e = go (eqb (map % 2) 1) refl
    where
      go : (b : Bool) → eqb (map % 2) 1 ≡ b → ReadAs (row ∷ rows) map bytes fields
      go true t = read_present (eqb-true (map % 2) 1 t) e
      go false t = read_missing (eqb-false (map % 2) 1 t) e

pub read_as : (rows : List Row) (map : ℕ) (bytes : List ℕ) (fields : Fields) → read_fields rows map bytes ≡ some fields → ReadAs rows map bytes fields
unfolding read_fields
read_as [] map [] fields e = let same : [] ≡ fields = cc in rw (← same) ended
read_as [] map (b ∷ bytes) fields e = apart (cc)
read_as (row ∷ rows) map bytes fields e = read_row row rows map bytes fields (λ b f k. read_as rows (map / 2) b f k) e

-- The map is told by the fields.
pub mapped : {rows : List Row} {map : ℕ} {bytes : List ℕ} {fields : Fields} → ReadAs rows map bytes fields → map < 2 ^ length rows → map_of fields ≡ map
mapped ended h = omega arith
mapped (missing {rows = rows} {map = map} even r) h = let more = pow-suc 2 (length rows) in let rest = mapped r (omega arith) in omega arith
mapped (present {rows = rows} {map = map} odd v r) h = let more = pow-suc 2 (length rows) in let rest = mapped r (omega arith) in omega arith

pub good_small : (map : ℕ) → good_card_map map ≡ true → map < 128
unfolding good_card_map
good_small map good = ltb-true map 128 (and_true_both (ltb map 128) (eqb (map % 2) (map / 2 % 2)) good).0

module _ (card : List ℕ) where
  pub without_map : length card < 2 → read_card card ≡ none
  unfolding read_card
  without_map h = rw (lt-leb 2 (length card) h)

  module _ (map : ℕ) (is_map : map ≡ from_bytes (take 2 card)) (h : 2 ≤ length card) where
    pub with_bad_map : good_card_map map ≡ false → read_card card ≡ none
    unfolding read_card
    with_bad_map bad = rw (le-leb 2 (length card) h, ← is_map, bad)

    pub with_good_map : good_card_map map ≡ true → read_card card ≡ read_fields table map (drop 2 card)
    unfolding read_card
    with_good_map good = rw (le-leb 2 (length card) h, ← is_map, good)

-- The check's outcome is that of the card's test.
pub checked_read : (o : Option Fields) (fields : List (Answer.Option ℕ)) → accepted fields ≡ read_answer o → guard {A = Unit {0}} 14 (is_some o) (accepted tt) ≡ accepted tt
unfolding guard
checked_read none fields e = apart (cc)
checked_read (some fields') fields e = refl

pub refused_read : (o : Option Fields) (n : ℕ) → refused n ≡ read_answer o → guard {A = Unit {0}} 14 (is_some o) (accepted tt) ≡ refused n
unfolding guard
refused_read none n e = let same : n ≡ 14 = cc in rw same
refused_read (some fields) n e = apart (cc)
