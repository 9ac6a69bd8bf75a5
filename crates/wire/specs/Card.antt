-- Document 01, "The card".
use Rattle.std.specs.Prelude.{ℕ, ◌/◌, ◌%◌, Bool, true, false, cond, ◌&&◌, List, [], ◌∷◌, ◌++◌, length, take, drop, map, ◌==◌, nat_le, nat_lt}
use Rattle.std.proofs.Math.Option.{Option, none, some}
use Rattle.std.specs.declared.option.Option as Answer
use Rattle.std.specs.declared.option.Option.TheVariants.{Some, None}
use Rattle.base.specs.BigEndian.{from_bytes, to_bytes}
use Rattle.base.specs.BitMap.{map_of}
use Rattle.base.specs.Outcome.{Outcome, accepted, refused, guard}
use Rattle.base.specs.Range.{within}
use Rattle.base.specs.Same.{same}
use Rattle.wire.specs.declared.card.Row.{Row}
use Rattle.wire.specs.Sha256.{sha256}

-- A row of the table: how many bytes the field has, its least and its greatest value.
abbrev pub row : ℕ → ℕ → ℕ → Row
row w l g = record { width = w; least = l; greatest = g }

-- The table, by bit.
unfoldable pub table : List Row
table =
    row 2 4_000 9_000  -- 0: left diameter, tenths of mm
    ∷ row 2 4_000 9_000  -- 1: right diameter, tenths of mm
    ∷ row 2 150 350  -- 2: left flange, tenths of mm
    ∷ row 2 150 350  -- 3: right flange, tenths of mm
    ∷ row 4 0 2_000_000  -- 4: kilometres since turning
    ∷ row 1 1 4  -- 5: state: 1 service, 2 spare, 3 lathe, 4 scrapped
    ∷ row 2 0 65_535  -- 6: day of measuring, from 1 January 2000 = 0
    ∷ []

-- A card's fields, by bit: each is missing or present with its value.
abbrev pub Fields : Type 0
Fields = List (Option ℕ)

-- One more field in front of those that were read, if they were.
abbrev pub prepend : Option ℕ → Option Fields → Option Fields
prepend field none = none
prepend field (some fields) = some (field ∷ fields)

-- A field whose bit is set: none is read if it does not stand there.
abbrev pub prepend_present : Option ℕ → Option Fields → Option Fields
prepend_present none rest = none
prepend_present (some value) rest = prepend (some value) rest

-- The value of a row's field at the front of the bytes, if it stands there in its range.
abbrev pub standing : Row → List ℕ → Option ℕ
standing row bytes =
    let value = from_bytes (take row.width bytes) in
    cond (nat_le row.width (length bytes) && within row.least row.greatest value) (some value) none

-- The fields of the rows, "only the fields whose bit is set, lowest bit first"; they end exactly at the end.
unfoldable pub read_fields : List Row → ℕ → List ℕ → Option Fields
read_fields [] map [] = some []
read_fields [] map (b ∷ bytes) = none
read_fields (row ∷ rows) map bytes =
    cond (map % 2 == 1)
    (prepend_present (standing row bytes) (read_fields rows (map / 2) (drop row.width bytes)))
    (prepend none (read_fields rows (map / 2) bytes))

-- "Bit map (2 bytes)"; "Bits 7 to 15 are 0", so that it is below 128; "bits 0 and 1 go together".
unfoldable pub good_card_map : ℕ → Bool
good_card_map map = nat_lt map 128 && map % 2 == map / 2 % 2

-- The fields of a card, if it keeps its table.
unfoldable pub read_card : List ℕ → Option Fields
read_card card =
    let map = from_bytes (take 2 card) in
    cond (nat_le 2 (length card) && good_card_map map) (read_fields table map (drop 2 card)) none

-- The other way: the bytes of a card with these fields.
unfoldable pub write_fields : List Row → Fields → List ℕ
write_fields [] fields = []
write_fields (row ∷ rows) [] = []
write_fields (row ∷ rows) (none ∷ fields) = write_fields rows fields
write_fields (row ∷ rows) (some value ∷ fields) = to_bytes row.width value ++ write_fields rows fields

unfoldable pub write_card : Fields → List ℕ
write_card fields = to_bytes 2 (map_of fields) ++ write_fields table fields

-- Fields that a card can have: one for each row, in its range if present, and both diameters or none.
unfoldable pub in_range : List Row → Fields → Bool
in_range [] [] = true
in_range [] (field ∷ fields) = false
in_range (row ∷ rows) [] = false
in_range (row ∷ rows) (none ∷ fields) = in_range rows fields
in_range (row ∷ rows) (some value ∷ fields) = within row.least row.greatest value && in_range rows fields

unfoldable pub legal_fields : Fields → Bool
legal_fields fields = in_range table fields && good_card_map (map_of fields)

abbrev pub is_some : Option Fields → Bool
is_some none = false
is_some (some fields) = true

-- Whether a card keeps its table, and refusal 14: "A card breaks its table".
abbrev pub is_card : List ℕ → Bool
is_card card = is_some (read_card card)

abbrev pub check_card : List ℕ → Outcome (Unit {0})
check_card card = guard 14 (is_card card) (accepted tt)

-- What the code answers: a field, and a card's fields by bit, or the refusal.
abbrev pub shown : Option ℕ → Answer.Option ℕ
shown none = None
shown (some value) = Some value

abbrev pub read_answer : Option Fields → Outcome (List (Answer.Option ℕ))
read_answer none = refused 14
read_answer (some fields) = accepted (map shown fields)

abbrev pub card_read : List ℕ → Outcome (List (Answer.Option ℕ))
card_read card = read_answer (read_card card)

-- "The card digest is SHA-256 of its bytes." Of a card with a proof, 14: it "breaks its table", or "its digest differs from the proof's".
abbrev pub stands_under : List ℕ → List ℕ → Bool
stands_under card digest = is_card card && same (sha256 card) digest
