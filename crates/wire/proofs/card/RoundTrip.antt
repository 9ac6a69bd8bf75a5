-- Cards written then read, and read then written; how long a card is. Assumes nothing.
use Rattle.std.proofs.Common.{◌≡◌, ℕ, ◌+◌, ◌*◌, ◌/◌, ◌^◌, ◌<◌, ◌≤◌, Bool, true, false, cond, ◌&&◌, leb, List, [], ◌∷◌, ◌++◌, length, map, take, drop, replicate, sym, refl, ap, ◌∙◌, arith, length-append, length-drop, take-append-drop, length-take-le, take_at, drop_at, leb-true}
use mathlib.Core.Option.{none, some}
use Rattle.base.specs.BigEndian.{from_bytes, to_bytes, Bytes}
use Rattle.base.specs.Outcome.{accepted}
use Rattle.base.specs.Range.{within}
use Rattle.base.proofs.BigEndian.{length_to_bytes, from_bytes_to_bytes, to_bytes_from_bytes, bytes_take, bytes_drop}
use Rattle.base.proofs.Booleans.{and_true_both}
use Rattle.base.proofs.Range.{bounds}
use Rattle.base.specs.BitMap.{map_of}
use Rattle.base.proofs.Apart.{apart}
use Rattle.wire.specs.declared.card.Row.{Row}
use Rattle.wire.specs.Card.{table, Fields, standing, read_fields, good_card_map, read_card, write_fields, write_card, in_range, legal_fields, shown, read_answer, card_read}
use Rattle.wire.proofs.card.FieldsAndMap.{ReadAs, ended, missing, present, read_as, mapped, stood, stands, field_missing, field_present, good_small, with_good_map}

-- Each row's values fit its bytes.
abbrev Fitting : List Row → Type 0
Fitting [] = Unit {0}
Fitting (row ∷ rows) = (row.greatest < 256 ^ row.width) × Fitting rows

table_fitting : Fitting table
unfolding table
table_fitting = omega arith

-- A field that was written stands there.
stands_written : (row : Row) (value : ℕ) (behind : List ℕ) → row.greatest < 256 ^ row.width → within row.least row.greatest value ≡ true
    → standing row (to_bytes row.width value ++ behind) ≡ some value
stands_written row value behind fits in_range_lem =
    let bytes = to_bytes row.width value in
    let wide = length_to_bytes row.width value in
    let most = (bounds row.least row.greatest value in_range_lem).1 in
    stands row (bytes ++ behind) value (rw (length-append bytes behind, wide) (omega arith))
    (rw (take_at bytes behind row.width wide) (sym (from_bytes_to_bytes row.width value (omega arith)))) in_range_lem

-- One row of `fields_written`, from what is known of the later rows.
module _ (row : Row) (rows : List Row) (fields : Fields) (later : read_fields rows (map_of fields) (write_fields rows fields) ≡ some fields) where
  written_missing : read_fields (row ∷ rows) (2 * map_of fields) (write_fields rows fields) ≡ some (none ∷ fields)
  written_missing =
      let half : 2 * map_of fields / 2 ≡ map_of fields = omega arith in
      field_missing row rows (2 * map_of fields) (write_fields rows fields) (λ odd. omega arith) ∙ rw (half, later)

  written_present : (value : ℕ) → standing row (to_bytes row.width value ++ write_fields rows fields) ≡ some value
      → read_fields (row ∷ rows) (2 * map_of fields + 1) (to_bytes row.width value ++ write_fields rows fields) ≡ some (some value ∷ fields)
  written_present value s =
      let half : (2 * map_of fields + 1) / 2 ≡ map_of fields = omega arith in
      let bytes = to_bytes row.width value in
      field_present row rows (2 * map_of fields + 1) (bytes ++ write_fields rows fields) (omega arith)
      ∙ rw (s, half, drop_at bytes (write_fields rows fields) row.width (length_to_bytes row.width value), later)

fields_written : (rows : List Row) (fields : Fields) → Fitting rows → in_range rows fields ≡ true → read_fields rows (map_of fields) (write_fields rows fields) ≡ some fields
unfolding read_fields write_fields in_range
fields_written [] [] fit legal = refl
fields_written [] (field ∷ fields) fit legal = apart (cc)
fields_written (row ∷ rows) [] fit legal = apart (cc)
fields_written (row ∷ rows) (none ∷ fields) fit legal = written_missing row rows fields (fields_written rows fields fit.1 legal)
fields_written (row ∷ rows) (some value ∷ fields) fit legal =
    let both = and_true_both (within row.least row.greatest value) (in_range rows fields) legal in
    written_present row rows fields (fields_written rows fields fit.1 both.1) value (stands_written row value (write_fields rows fields) fit.0 both.0)

-- Writing then reading returns the fields.
pub read_write : (fields : Fields) → legal_fields fields ≡ true → read_card (write_card fields) ≡ some fields
unfolding legal_fields write_card
read_write fields legal =
    let both = and_true_both (in_range table fields) (good_card_map (map_of fields)) legal in
    let small = good_small (map_of fields) both.1 in
    let front = to_bytes 2 (map_of fields) in
    let two = length_to_bytes 2 (map_of fields) in
    let behind = write_fields table fields in
    let is_map : map_of fields ≡ from_bytes (take 2 (front ++ behind)) = rw (take_at front behind 2 two) (sym (from_bytes_to_bytes 2 (map_of fields) (omega arith))) in
    with_good_map (front ++ behind) (map_of fields) is_map (rw (length-append front behind) (omega arith)) both.1
    ∙ rw (drop_at front behind 2 two) (fields_written table fields table_fitting both.0)

ranged : {rows : List Row} {map : ℕ} {bytes : List ℕ} {fields : Fields} → ReadAs rows map bytes fields → in_range rows fields ≡ true
unfolding in_range
ranged ended = refl
ranged (missing even r) = ranged r
ranged (present {row = row} {bytes = bytes} {value = value} odd s r) = rw (stood row bytes value s).2 (ranged r)

-- Bytes in front that were read are written again.
front_again : (n : ℕ) (bytes : List ℕ) → Bytes bytes → n ≤ length bytes → to_bytes n (from_bytes (take n bytes)) ≡ take n bytes
front_again n bytes small h = rw (length-take-le n bytes h) at (to_bytes_from_bytes (take n bytes) (bytes_take n bytes small))

written : {rows : List Row} {map : ℕ} {bytes : List ℕ} {fields : Fields} → ReadAs rows map bytes fields → Bytes bytes → write_fields rows fields ≡ bytes
unfolding write_fields
written ended small = refl
written (missing even r) small = written r small
written (present {row = row} {bytes = bytes} {value = value} odd s r) small =
    let found = stood row bytes value s in
    rw (← found.1, front_again row.width bytes small found.0, written r (bytes_drop row.width bytes small)) (take-append-drop row.width bytes)

-- What a good card shows: a good map, and its fields behind it.
pub record GoodCard (card : List ℕ) (fields : Fields) : Type 0 where
  pub whole : 2 ≤ length card
  pub good : good_card_map (from_bytes (take 2 card)) ≡ true
  pub map_is : map_of fields ≡ from_bytes (take 2 card)
  pub behind : ReadAs table (from_bytes (take 2 card)) (drop 2 card) fields

pub good_card : (card : List ℕ) (fields : Fields) → read_card card ≡ some fields → GoodCard card fields
unfolding read_card table
good_card card fields e = go (leb 2 (length card) && good_card_map map) refl e
  where
    map : ℕ
    map = from_bytes (take 2 card)

    go : (b : Bool) → (leb 2 (length card) && good_card_map map) ≡ b → cond b (read_fields table map (drop 2 card)) none ≡ some fields → GoodCard card fields
    go true t k =
        let both = and_true_both (leb 2 (length card)) (good_card_map map) t in
        let r = read_as table map (drop 2 card) fields k in
        record { whole = leb-true 2 (length card) both.0; good = both.1; map_is = mapped r (good_small map both.1); behind = r }
    go false t k = apart (cc)

-- Reading then writing returns the bytes, so that a card has one byte form.
pub write_read : (card : List ℕ) (fields : Fields) → Bytes card → read_card card ≡ some fields → write_card fields ≡ card
unfolding write_card
write_read card fields small e =
    let g = good_card card fields e in
    rw (g.map_is, front_again 2 card small g.whole, written g.behind (bytes_drop 2 card small)) (take-append-drop 2 card)

-- The fields of a good card are legal.
pub read_legal : (card : List ℕ) (fields : Fields) → read_card card ≡ some fields → legal_fields fields ≡ true
unfolding legal_fields
read_legal card fields e = let g = good_card card fields e in rw (ranged g.behind, g.map_is, g.good)

-- A card has as many bytes as the map and the rows have at most.
abbrev widths : List Row → ℕ
widths [] = 0
widths (row ∷ rows) = row.width + widths rows

short : {rows : List Row} {map : ℕ} {bytes : List ℕ} {fields : Fields} → ReadAs rows map bytes fields → length bytes ≤ widths rows
short ended = omega arith
short (missing even r) = let later = short r in omega arith
short (present {row = row} {bytes = bytes} odd s r) = let later = short r in omega (arith, rw length-drop at later)

pub at_most_17 : (card : List ℕ) (fields : Fields) → read_card card ≡ some fields → length card ≤ 17
unfolding table
at_most_17 card fields e = let g = good_card card fields e in let later = short g.behind in omega (arith, rw length-drop at later)

-- Some card has 17 bytes.
abbrev pub longest : Fields
longest = some 9_000 ∷ some 4_000 ∷ some 350 ∷ some 150 ∷ some 2_000_000 ∷ some 4 ∷ some 65_535 ∷ []

pub some_17 : (card : List ℕ) × (read_card card ≡ some longest) × (length card ≡ 17)
unfolding table in_range within good_card_map legal_fields write_card write_fields to_bytes
some_17 = (write_card longest, read_write longest refl, refl)

-- "The starting card is 00 00": good, with no field.
pub starting : read_card (0 ∷ 0 ∷ []) ≡ some (replicate 7 none)
unfolding read_card read_fields table good_card_map from_bytes
starting = refl

-- What the code answers tells the fields.
pub shown_once : (fields fields' : Fields) → map shown fields ≡ map shown fields' → fields ≡ fields'
shown_once [] [] e = refl
shown_once [] (field' ∷ fields') e = apart (cc)
shown_once (field ∷ fields) [] e = apart (cc)
shown_once (none ∷ fields) (none ∷ fields') e = ap (λ (later : Fields). none ∷ later) (shown_once fields fields' (cc))
shown_once (none ∷ fields) (some value' ∷ fields') e = apart (cc)
shown_once (some value ∷ fields) (none ∷ fields') e = apart (cc)
shown_once (some value ∷ fields) (some value' ∷ fields') e = let later = shown_once fields fields' (cc) in cc

pub card_fields : (card : List ℕ) (fields : Fields) → read_card card ≡ some fields → card_read card ≡ accepted (map shown fields)
card_fields card fields e = ap read_answer e
