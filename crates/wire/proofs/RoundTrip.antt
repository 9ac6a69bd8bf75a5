-- Writing then reading returns the message. Assumes nothing.
use Rattle.std.proofs.Common.{◌≡◌, ℕ, ◌^◌, ◌<◌, List, [], ◌++◌, length, get_or, take, sym, refl, ap, ◌∙◌, append_assoc, arith, length-append, drop_at}
use mathlib.Core.Option.{Option, none, some}
use Rattle.base.specs.BigEndian.{from_bytes, to_bytes}
use Rattle.base.specs.BitMap.{bit, map_of}
use Rattle.base.specs.Outcome.{Outcome, accepted}
use Rattle.base.specs.declared.party.RegisterId.{RegisterId}
use Rattle.base.proofs.BigEndian.{length_to_bytes, from_bytes_to_bytes}
use Rattle.wire.specs.Decode.{Row, kinds, of_kind, tested, message_in, for_register, decode, taker_of, kind_in, register_in, optional, proof_in}
use Rattle.wire.specs.Layout.{map_in, place, field, signature}
use Rattle.wire.specs.Message.{Message, READ-STAMP, PREPARE, WRITE, READ, STAMP, PREPARED, WRITTEN, CARD, kind_of, proof_field, fields, joined, body, encode, IsSignature, ProofFits, IfThere, Fits, Legal, size}
use Rattle.wire.specs.Proof.{Proof, read_proof}
use Rattle.wire.specs.declared.message.Party.{Party}
use Rattle.wire.proofs.FieldPlaces.{Framed, framed_passes}
use Rattle.wire.proofs.ReadingByKind.{decode_joins}
use Rattle.wire.proofs.Rows.{row, own_row, good_map_lem}
use Rattle.wire.proofs.WrittenPlaces.{is_there, content, written, map_written, bit_written, place_written, field_written}
use Rattle.wire.proofs.ProofBytes.{read_proof_lem}
use Rattle.wire.proofs.Size.{fields_obey, encode_size}

encode_written : (x : RegisterId) (m : Message) (s : List ℕ) → encode x m s ≡ written (fields x m) s
unfolding encode body
encode_written x m s = append_assoc (to_bytes 2 (map_of (fields x m))) (joined (fields x m)) s

-- Ten fields.
all_fields : (x : RegisterId) (m : Message) → take 10 (fields x m) ≡ fields x m
unfolding fields
all_fields x (READ-STAMP c n) = refl
all_fields x (PREPARE c t d proof last) = refl
all_fields x (WRITE c card proof) = refl
all_fields x (READ c n) = refl
all_fields x (STAMP r n proof c) = refl
all_fields x (PREPARED r t d) = refl
all_fields x (WRITTEN r t) = refl
all_fields x (CARD r n card proof c) = refl

-- A message's bytes hold its fields.
module _ (x : RegisterId) (m : Message) (s : List ℕ) (fits : Fits m) where
  map_encoded : map_in (encode x m s) ≡ map_of (fields x m)
  map_encoded = rw (encode_written x m s) (map_written (fields x m) s (fields_obey x m fits))

  bit_encoded : (b : ℕ) → bit (map_in (encode x m s)) b ≡ is_there (get_or (fields x m) b none)
  bit_encoded b = rw (encode_written x m s) (bit_written (fields x m) s (fields_obey x m fits) b)

  field_encoded : (b : ℕ) → field (encode x m s) b ≡ content (get_or (fields x m) b none)
  field_encoded b = rw (encode_written x m s) (field_written (fields x m) s (fields_obey x m fits) b)

  -- They end where the signature starts.
  pub end_encoded : place (encode x m s) 10 ≡ length (body x m)
  unfolding body
  end_encoded =
      let end = place_written (fields x m) s (fields_obey x m fits) 10 in
      let all = ap (λ (fs : List (Option (List ℕ))). length (joined fs)) (all_fields x m) in
      rw (encode_written x m s, length-append, length_to_bytes) (omega arith)

  number_encoded : (b width n : ℕ) → content (get_or (fields x m) b none) ≡ to_bytes width n → n < 256 ^ width → from_bytes (field (encode x m s) b) ≡ n
  number_encoded b width n e small = rw (field_encoded b, e) (from_bytes_to_bytes width n small)

  proof_encoded : {d : ℕ} (b : ℕ) (proof : Option (Proof d)) → get_or (fields x m) b none ≡ proof_field proof → IfThere ProofFits proof → proof_in d b (encode x m s) ≡ accepted proof
  proof_encoded {d} b proof e f = rw (bit_encoded b, field_encoded b, e) (go proof f)
    where
      go : (proof : Option (Proof d)) → IfThere ProofFits proof → optional (is_there (proof_field proof)) (read_proof d (content (proof_field proof))) ≡ accepted proof
      go none f = refl
      go (some p) f = rw (read_proof_lem p f)

-- The row of a message finds it.
row_encoded : (x : RegisterId) (m : Message) (s : List ℕ) (fits : Fits m) → (row (kind_of m)).message (encode x m s) ≡ accepted m
unfolding row kinds fields Fits
row_encoded x (READ-STAMP c n) s fits =
    let m = READ-STAMP c n in
    rw (number_encoded x m s fits 1 1 c.0 refl fits.0, number_encoded x m s fits 2 8 n refl fits.1)
row_encoded x (PREPARE c t d proof last) s fits =
    let m = PREPARE c t d proof last in
    rw (
      proof_encoded x m s fits 6 proof refl fits.3,
      proof_encoded x m s fits 7 last refl fits.4,
      number_encoded x m s fits 1 1 c.0 refl fits.0,
      number_encoded x m s fits 3 5 t refl fits.1,
      field_encoded x m s fits 4,
    )
row_encoded x (WRITE c card proof) s fits =
    let m = WRITE c card proof in
    rw (field_encoded x m s fits 6, read_proof_lem proof fits.2, number_encoded x m s fits 1 1 c.0 refl fits.0, field_encoded x m s fits 5)
row_encoded x (READ c n) s fits =
    let m = READ c n in
    rw (number_encoded x m s fits 1 1 c.0 refl fits.0, number_encoded x m s fits 2 8 n refl fits.1)
row_encoded x (STAMP r n proof c) s fits =
    let m = STAMP r n proof c in
    rw (
      proof_encoded x m s fits 6 proof refl fits.2,
      number_encoded x m s fits 1 1 r.0 refl fits.0,
      number_encoded x m s fits 2 8 n refl fits.1,
      number_encoded x m s fits 8 1 c.0 refl fits.3,
    )
row_encoded x (PREPARED r t d) s fits =
    let m = PREPARED r t d in
    rw (number_encoded x m s fits 1 1 r.0 refl fits.0, number_encoded x m s fits 3 5 t refl fits.1, field_encoded x m s fits 4)
row_encoded x (WRITTEN r t) s fits =
    let m = WRITTEN r t in
    rw (number_encoded x m s fits 1 1 r.0 refl fits.0, number_encoded x m s fits 3 5 t refl fits.1)
row_encoded x (CARD r n card proof c) s fits =
    let m = CARD r n card proof c in
    rw (
      proof_encoded x m s fits 6 proof refl fits.3,
      number_encoded x m s fits 1 1 r.0 refl fits.0,
      number_encoded x m s fits 2 8 n refl fits.1,
      field_encoded x m s fits 5,
      number_encoded x m s fits 8 1 c.0 refl fits.4,
    )

-- The kind stands in bit 0.
kind_field : (x : RegisterId) (m : Message) → content (get_or (fields x m) 0 none) ≡ to_bytes 1 (kind_of m)
unfolding fields
kind_field x (READ-STAMP c n) = refl
kind_field x (PREPARE c t d proof last) = refl
kind_field x (WRITE c card proof) = refl
kind_field x (READ c n) = refl
kind_field x (STAMP r n proof c) = refl
kind_field x (PREPARED r t d) = refl
kind_field x (WRITTEN r t) = refl
kind_field x (CARD r n card proof c) = refl

kind_small : (m : Message) → kind_of m < 256 ^ 1
kind_small (READ-STAMP c n) = omega arith
kind_small (PREPARE c t d proof last) = omega arith
kind_small (WRITE c card proof) = omega arith
kind_small (READ c n) = omega arith
kind_small (STAMP r n proof c) = omega arith
kind_small (PREPARED r t d) = omega arith
kind_small (WRITTEN r t) = omega arith
kind_small (CARD r n card proof c) = omega arith

kind_encoded : (x : RegisterId) (m : Message) (s : List ℕ) → Fits m → kind_in (encode x m s) ≡ kind_of m
kind_encoded x m s fits = number_encoded x m s fits 0 1 (kind_of m) (kind_field x m) (kind_small m)

-- The register stands in bit 9.
register_field : (x : RegisterId) (m : Message) → content (get_or (fields x m) 9 none) ≡ to_bytes 1 x.0
unfolding fields
register_field x (READ-STAMP c n) = refl
register_field x (PREPARE c t d proof last) = refl
register_field x (WRITE c card proof) = refl
register_field x (READ c n) = refl
register_field x (STAMP r n proof c) = refl
register_field x (PREPARED r t d) = refl
register_field x (WRITTEN r t) = refl
register_field x (CARD r n card proof c) = refl

pub register_encoded : (x : RegisterId) (m : Message) (s : List ℕ) → x.0 < 256 → Fits m → register_in (encode x m s) ≡ x
register_encoded x m s small fits = ap (λ (n : ℕ). register n) (number_encoded x m s fits 9 1 x.0 (register_field x m) small)
  where
    register : ℕ → RegisterId
    register n = record { 0 = n }

-- Two messages, or two registers, differ in the bytes that the signature covers.
module _ (x y : RegisterId) (m n : Message) (fm : Fits m) (fn : Fits n) (e : body x m ≡ body y n) where
  same_encoded : encode x m [] ≡ encode y n []
  unfolding encode
  same_encoded = ap (λ (l : List ℕ). l ++ []) e

  pub body_message : m ≡ n
  body_message =
      let kind : kind_of m ≡ kind_of n = sym (kind_encoded x m [] fm) ∙ ap kind_in same_encoded ∙ kind_encoded y n [] fn in
      let same = same_encoded in
      let rows : (row (kind_of m)).message (encode x m []) ≡ (row (kind_of n)).message (encode y n []) = cc in
      cc (row_encoded x m [] fm, row_encoded y n [] fn)

  pub body_register : x.0 < 256 → y.0 < 256 → x ≡ y
  body_register fx fy = sym (register_encoded x m [] fx fm) ∙ ap register_in same_encoded ∙ register_encoded y n [] fy fn

module _ (x : RegisterId) (m : Message) (s : List ℕ) (legal : Legal x m) (sig : IsSignature s) where
  encoded_framed : Framed (encode x m s)
  unfolding encode
  encoded_framed =
      let size : length (encode x m s) ≡ size m = encode_size x m s legal.fits sig in
      let parts = length-append (body x m) s in
      let short = legal.short in
      let end = end_encoded x m s legal.fits in
      let signed = sig.0 in
      record { long = omega arith; short = omega arith; good = rw (map_encoded x m s legal.fits) (good_map_lem x m); ends = omega arith }

  tested_encoded : {A : Type 0} (party : Party) (next : Row → Outcome A) → tested party (encode x m s) next ≡ of_kind party (map_of (fields x m)) (kind_of m) kinds next
  tested_encoded party next =
      framed_passes (encode x m s) (of_kind party (map_in (encode x m s)) (kind_in (encode x m s)) kinds next) encoded_framed
      ∙ ap (λ (k : ℕ). of_kind party (map_in (encode x m s)) k kinds next) (kind_encoded x m s legal.fits)
      ∙ ap (λ (map : ℕ). of_kind party map (kind_of m) kinds next) (map_encoded x m s legal.fits)

  -- Each legal message is read back by the party that takes it, with its register and its signature.
  message_encode : message_in (taker_of m) (encode x m s) ≡ accepted m
  unfolding message_in
  message_encode =
      let next : Row → Outcome Message = λ row. row.message (encode x m s) in
      tested_encoded (taker_of m) next ∙ own_row x m next ∙ row_encoded x m s legal.fits

  pub decode_encode : decode (taker_of m) (encode x m s) ≡ accepted (x, m)
  decode_encode =
      decode_joins (taker_of m) (encode x m s) m message_encode
      ∙ ap (λ (y : RegisterId). accepted (for_register y m)) (register_encoded x m s legal.register_fits legal.fits)

  pub signature_encode : signature (encode x m s) ≡ s
  unfolding encode
  signature_encode = drop_at (body x m) s (place (encode x m s) 10) (sym (end_encoded x m s legal.fits))
