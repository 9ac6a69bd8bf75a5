-- Reading then writing returns the bytes: each legal message has one form. Assumes nothing.
use Rattle.std.proofs.Common.{◌≡◌, ℕ, zero, suc, ◌+◌, ◌-◌, ◌*◌, ◌/◌, ◌%◌, ◌^◌, ◌<◌, ◌≤◌, Bool, true, false, cond, eqb, List, [], ◌∷◌, ◌++◌, length, get_or, take, drop, sym, refl, ap, ◌∙◌, subst, append_assoc, zero-add, arith, length-drop, take-append-drop, length-take-le, drop-drop, shr-shr}
use mathlib.Core.Option.{Option, none, some}
use lib.Pow.{mod-pow-add}
use Rattle.base.specs.BigEndian.{from_bytes, to_bytes, Bytes}
use Rattle.base.specs.BitMap.{bit, map_of}
use Rattle.base.specs.Outcome.{accepted}
use Rattle.base.specs.declared.party.RegisterId.{RegisterId}
use Rattle.wire.specs.Decode.{for_register, decode, kind_in, card_in, register_in}
use Rattle.wire.specs.Layout.{Rule, fixed, extent, rules, map_in, place, field, signature}
use Rattle.wire.specs.Message.{Message, proof_field, fields, joined, body, encode, IsDigest, IsSignature, ProofFits, IfThere, CardFits, Fits, Legal}
use Rattle.wire.specs.Proof.{proof_bytes, proof_from}
use Rattle.wire.specs.declared.message.Party.{Party}
use Rattle.wire.proofs.FieldPlaces.{Framed, Headed, place_next, field_absent, field_whole, bytes_field, map_small, first_bits}
use Rattle.wire.proofs.ReadingByKind.{ProofBit, prepared_bit, written_bit, proof_at, proof_ends, message_of, Tested, message_tested, decode_splits, decode_tested}
use Rattle.base.proofs.BigEndian.{bytes_take, bytes_drop}
use Rattle.wire.proofs.Widths.{rewritten, below}
use Rattle.wire.proofs.ProofBytes.{proof_back, proof_fits}
use Rattle.wire.proofs.Rows.{Taken, read_stamp, prepare, write, read, stamp, prepared, written, card, has_register, bits}
use Rattle.wire.proofs.Size.{encode_size}

-- A field by its bit; so many fields of some bytes, from a bit on.
abbrev present : Bool → List ℕ → Option (List ℕ)
present true bytes = some bytes
present false bytes = none

abbrev parts : List ℕ → ℕ → ℕ → List (Option (List ℕ))
parts bytes b zero = []
parts bytes b (suc k) = present (bit (map_in bytes) b) (field bytes b) ∷ parts bytes (suc b) k

-- All ten by a list of bits.
abbrev cells : List Bool → List (List ℕ) → List (Option (List ℕ))
cells [] xs = []
cells (t ∷ ts) [] = []
cells (t ∷ ts) (x ∷ xs) = present t x ∷ cells ts xs

abbrev contents : List ℕ → List (List ℕ)
contents bytes = field bytes 0 ∷ field bytes 1 ∷ field bytes 2 ∷ field bytes 3 ∷ field bytes 4 ∷ field bytes 5 ∷ field bytes 6 ∷ field bytes 7 ∷ field bytes 8 ∷ field bytes 9 ∷ []

-- Their map is the map read.
map_present : (d : ℕ) (x : List ℕ) (fs : List (Option (List ℕ))) → d < 2 → map_of (present (eqb d 1) x ∷ fs) ≡ 2 * map_of fs + d
map_present zero x fs h = omega arith
map_present (suc zero) x fs h = refl
map_present (suc (suc d)) x fs h = absurd (omega arith)

map_parts : (bytes : List ℕ) (b k : ℕ) → map_of (parts bytes b k) ≡ map_in bytes / 2 ^ b % 2 ^ k
map_parts bytes b zero = omega arith
map_parts bytes b (suc k) =
    let m = map_in bytes in
    let x = m / 2 ^ b in
    let half : m / 2 ^ suc b ≡ x / 2 = ap (λ (n : ℕ). m / 2 ^ n) (add_one_back b) ∙ sym (shr-shr m b 1) in
    let more : x % 2 ^ suc k ≡ x / 2 % 2 ^ k * 2 + x % 2 = ap (λ (n : ℕ). x % 2 ^ n) (add_one_back k) ∙ mod-pow-add x k 1 in
    map_present (x % 2) (field bytes b) (parts bytes (suc b) k) (omega arith) ∙ rw (map_parts bytes (suc b) k, half, more) (omega arith)
  where
    add_one_back : (n : ℕ) → suc n ≡ n + 1
    add_one_back n = omega arith

-- Joined they are the bytes between their places.
field_split : (bytes : List ℕ) (b : ℕ) → field bytes b ++ drop (place bytes (suc b)) bytes ≡ drop (place bytes b) bytes
unfolding field
field_split bytes b =
    let d = place bytes (suc b) - place bytes b in
    let e : place bytes b + d ≡ place bytes (suc b) = omega (arith, place_next bytes b) in
    ap (λ (l : List ℕ). take d (drop (place bytes b) bytes) ++ l) (ap (λ (n : ℕ). drop n bytes) (sym e) ∙ sym (drop-drop d (place bytes b) bytes))
    ∙ take-append-drop d (drop (place bytes b) bytes)

joined_present : (t : Bool) (x : List ℕ) (fs : List (Option (List ℕ))) → (t ≡ false → x ≡ []) → joined (present t x ∷ fs) ≡ x ++ joined fs
unfolding joined
joined_present true x fs empty = refl
joined_present false x fs empty = rw (empty refl)

joined_parts : (bytes : List ℕ) (b k : ℕ) → Framed bytes → joined (parts bytes b k) ++ drop (place bytes (k + b)) bytes ≡ drop (place bytes b) bytes
unfolding joined
joined_parts bytes b zero f = rw zero-add
joined_parts bytes b (suc k) f =
    let across : suc k + b ≡ k + suc b = omega arith in
    rw (joined_present (bit (map_in bytes) b) (field bytes b) (parts bytes (suc b) k) (field_absent bytes b), append_assoc, across, joined_parts bytes (suc b) k f) (field_split bytes b)

-- Bytes that passed 2 to 4 are their map, their fields and their signature.
module _ (bytes : List ℕ) (f : Framed bytes) (small : Bytes bytes) where
  whole : to_bytes 2 (map_of (parts bytes 0 10)) ++ (joined (parts bytes 0 10) ++ signature bytes) ≡ bytes
  unfolding place
  whole =
      let map : map_of (parts bytes 0 10) ≡ map_in bytes = map_parts bytes 0 10 ∙ omega (arith, map_small bytes f) in
      let long = f.long in
      ap (λ (n : ℕ). to_bytes 2 n ++ (joined (parts bytes 0 10) ++ signature bytes)) map
      ∙ ap (λ (l : List ℕ). to_bytes 2 (map_in bytes) ++ l) (joined_parts bytes 0 10 f)
      ∙ ap (λ (l : List ℕ). l ++ drop 2 bytes) (rewritten 2 (take 2 bytes) (length-take-le 2 bytes long) (bytes_take 2 bytes small))
      ∙ take-append-drop 2 bytes

  -- A field of fixed width: its length; its number written again; its number's bound.
  module _ (b width : ℕ) (h : b ≤ 9) (rule : get_or rules b (fixed 0) ≡ fixed width) (set : bit (map_in bytes) b ≡ true) where
    width_of : length (field bytes b) ≡ width
    width_of = sym (subst (λ (r : Rule). Headed r → extent r (field bytes b) ≡ length (field bytes b)) rule (field_whole bytes f b h set) tt)

    number_back : to_bytes width (from_bytes (field bytes b)) ≡ field bytes b
    number_back = rewritten width (field bytes b) width_of (bytes_field bytes b small)

    number_fits : from_bytes (field bytes b) < 256 ^ width
    number_fits = below width (field bytes b) width_of (bytes_field bytes b small)

  -- The numbers and the digest.
  sender_back : to_bytes 1 (from_bytes (field bytes 1)) ≡ field bytes 1
  unfolding rules
  sender_back = number_back 1 1 (omega arith) refl (first_bits bytes f).1

  sender_fits : from_bytes (field bytes 1) < 256 ^ 1
  unfolding rules
  sender_fits = number_fits 1 1 (omega arith) refl (first_bits bytes f).1

  nonce_back : bit (map_in bytes) 2 ≡ true → to_bytes 8 (from_bytes (field bytes 2)) ≡ field bytes 2
  unfolding rules
  nonce_back set = number_back 2 8 (omega arith) refl set

  nonce_fits : bit (map_in bytes) 2 ≡ true → from_bytes (field bytes 2) < 256 ^ 8
  unfolding rules
  nonce_fits set = number_fits 2 8 (omega arith) refl set

  timestamp_back : bit (map_in bytes) 3 ≡ true → to_bytes 5 (from_bytes (field bytes 3)) ≡ field bytes 3
  unfolding rules
  timestamp_back set = number_back 3 5 (omega arith) refl set

  timestamp_fits : bit (map_in bytes) 3 ≡ true → from_bytes (field bytes 3) < 256 ^ 5
  unfolding rules
  timestamp_fits set = number_fits 3 5 (omega arith) refl set

  addressed_back : bit (map_in bytes) 8 ≡ true → to_bytes 1 (from_bytes (field bytes 8)) ≡ field bytes 8
  unfolding rules
  addressed_back set = number_back 8 1 (omega arith) refl set

  addressed_fits : bit (map_in bytes) 8 ≡ true → from_bytes (field bytes 8) < 256 ^ 1
  unfolding rules
  addressed_fits set = number_fits 8 1 (omega arith) refl set

  register_back : bit (map_in bytes) 9 ≡ true → to_bytes 1 (from_bytes (field bytes 9)) ≡ field bytes 9
  unfolding rules
  register_back set = number_back 9 1 (omega arith) refl set

  register_fits : bit (map_in bytes) 9 ≡ true → from_bytes (field bytes 9) < 256 ^ 1
  unfolding rules
  register_fits set = number_fits 9 1 (omega arith) refl set

  digest_fits : bit (map_in bytes) 4 ≡ true → IsDigest (field bytes 4)
  unfolding rules
  digest_fits set = (width_of 4 32 (omega arith) refl set, bytes_field bytes 4 small)

  -- The card.
  card_whole : bit (map_in bytes) 5 ≡ true → 1 + 1 * get_or (field bytes 5) 0 0 ≡ length (field bytes 5)
  unfolding rules
  card_whole set = field_whole bytes f 5 (omega arith) set (omega arith)

  card_back : bit (map_in bytes) 5 ≡ true → length (card_in bytes) ∷ card_in bytes ≡ field bytes 5
  card_back set = go (field bytes 5) (card_whole set)
    where
      go : (x : List ℕ) → 1 + 1 * get_or x 0 0 ≡ length x → length (drop 1 x) ∷ drop 1 x ≡ x
      go [] e = absurd (omega arith)
      go (c ∷ cs) e = let same : length cs ≡ c = omega arith in rw same

  card_fits : bit (map_in bytes) 5 ≡ true → CardFits (card_in bytes)
  card_fits set =
      let count = bytes_field bytes 5 small 0 in
      let size = card_whole set in
      (simp length-drop (omega arith), bytes_drop 1 (field bytes 5) (bytes_field bytes 5 small))

  -- The proofs.
  module _ {d b : ℕ} (bit_is : ProofBit d b) where
    there_back : bit (map_in bytes) b ≡ true → proof_bytes (proof_from d (field bytes b)) ≡ field bytes b
    there_back set = proof_back d (field bytes b) (proof_ends bytes f bit_is set) (bytes_field bytes b small)

    there_fits : bit (map_in bytes) b ≡ true → ProofFits (proof_from d (field bytes b))
    there_fits set = proof_fits d (field bytes b) (proof_ends bytes f bit_is set) (bytes_field bytes b small)

    proof_part_lem : proof_field (proof_at d b bytes) ≡ present (bit (map_in bytes) b) (field bytes b)
    proof_part_lem = go (bit (map_in bytes) b) refl
      where
        go : (t : Bool) → bit (map_in bytes) b ≡ t → proof_field (cond t (some (proof_from d (field bytes b))) none) ≡ present t (field bytes b)
        go true set = rw (there_back set)
        go false set = refl

    part_fits : IfThere ProofFits (proof_at d b bytes)
    part_fits = go (bit (map_in bytes) b) refl
      where
        go : (t : Bool) → bit (map_in bytes) b ≡ t → IfThere ProofFits (cond t (some (proof_from d (field bytes b))) none)
        go true set = there_fits set
        go false set = tt

  -- What is found fits.
  message_fits : (kind : ℕ) (party : Party) (t : Taken (map_in bytes) kind party) → Fits (message_of t bytes)
  unfolding Fits
  message_fits kind party (read_stamp e) = (sender_fits, nonce_fits (cc))
  message_fits kind party (prepare e) =
      (sender_fits, timestamp_fits (cc), digest_fits (cc), part_fits prepared_bit, part_fits written_bit)
  message_fits kind party (write e) = (sender_fits, card_fits (cc), there_fits prepared_bit (cc))
  message_fits kind party (read e) = (sender_fits, nonce_fits (cc))
  message_fits kind party (stamp e) = (sender_fits, nonce_fits (cc), part_fits prepared_bit, addressed_fits (cc))
  message_fits kind party (prepared e) =
      (sender_fits, timestamp_fits (cc), digest_fits (cc))
  message_fits kind party (written e) = (sender_fits, timestamp_fits (cc))
  message_fits kind party (card e) = (sender_fits, nonce_fits (cc), card_fits (cc), part_fits prepared_bit, addressed_fits (cc))

  -- The fields of what is found are those of the bytes.
  kind_back : (kind : ℕ) → kind_in bytes ≡ kind → to_bytes 1 kind ≡ field bytes 0
  unfolding rules
  kind_back kind k = rw (← k) (number_back 0 1 (omega arith) refl (first_bits bytes f).0)

  by_bits : (bs : List Bool) → bits (map_in bytes) ≡ bs → cells bs (contents bytes) ≡ parts bytes 0 10
  by_bits bs e = ap (λ (bs : List Bool). cells bs (contents bytes)) (sym e)

  message_fields : (kind : ℕ) (party : Party) → kind_in bytes ≡ kind → (t : Taken (map_in bytes) kind party) → fields (register_in bytes) (message_of t bytes) ≡ parts bytes 0 10
  unfolding fields
  message_fields kind party k (read_stamp e) =
      rw (kind_back kind k, sender_back, nonce_back (cc), register_back (cc)) (by_bits _ e)
  message_fields kind party k (prepare e) =
      rw (kind_back kind k, sender_back, timestamp_back (cc), proof_part_lem prepared_bit, proof_part_lem written_bit, register_back (cc)) (by_bits _ e)
  message_fields kind party k (write e) =
      rw (kind_back kind k, sender_back, card_back (cc), there_back prepared_bit (cc), register_back (cc)) (by_bits _ e)
  message_fields kind party k (read e) =
      rw (kind_back kind k, sender_back, nonce_back (cc), register_back (cc)) (by_bits _ e)
  message_fields kind party k (stamp e) =
      rw (kind_back kind k, sender_back, nonce_back (cc), proof_part_lem prepared_bit, addressed_back (cc), register_back (cc)) (by_bits _ e)
  message_fields kind party k (prepared e) =
      rw (kind_back kind k, sender_back, timestamp_back (cc), register_back (cc)) (by_bits _ e)
  message_fields kind party k (written e) =
      rw (kind_back kind k, sender_back, timestamp_back (cc), register_back (cc)) (by_bits _ e)
  message_fields kind party k (card e) =
      rw (kind_back kind k, sender_back, nonce_back (cc), card_back (cc), proof_part_lem prepared_bit, addressed_back (cc), register_back (cc)) (by_bits _ e)

module _ (party : Party) (bytes : List ℕ) (x : RegisterId) (m : Message) (e : decode party bytes ≡ accepted (for_register x m)) where
  decode_passed : Tested party bytes
  decode_passed = decode_tested party bytes x m e

  found : message_of decode_passed.passed.taken bytes ≡ m
  found = cc (message_tested party bytes decode_passed, (decode_splits party bytes x m e).1)

  pub found_register : register_in bytes ≡ x
  found_register = (decode_splits party bytes x m e).0

  pub signature_size : length (signature bytes) ≡ 64
  signature_size = let end = decode_passed.framed.ends in rw length-drop (omega arith)

  module _ (small : Bytes bytes) where
    pub decoded_signature : IsSignature (signature bytes)
    decoded_signature = (signature_size, bytes_drop (place bytes 10) bytes small)

    pub decoded_fits : Fits m
    decoded_fits = rw (← found) (message_fits bytes decode_passed.framed small (kind_in bytes) party decode_passed.passed.taken)

    pub decoded_register : x.0 < 256
    decoded_register = rw (← found_register) (register_fits bytes decode_passed.framed small (has_register decode_passed.passed.taken))

    -- The bytes are those of the message that they are read as.
    pub encode_decode : encode x m (signature bytes) ≡ bytes
    unfolding encode body
    encode_decode =
        let same : fields x m ≡ parts bytes 0 10 = ap (λ (y : RegisterId). fields y m) (sym found_register) ∙ ap (fields (register_in bytes)) (sym found) ∙ message_fields bytes decode_passed.framed small (kind_in bytes) party refl decode_passed.passed.taken in
        append_assoc (to_bytes 2 (map_of (fields x m))) (joined (fields x m)) (signature bytes)
        ∙ ap (λ (fs : List (Option (List ℕ))). to_bytes 2 (map_of fs) ++ (joined fs ++ signature bytes)) same ∙ whole bytes decode_passed.framed small

    pub decoded_legal : Legal x m
    decoded_legal =
        let size = encode_size x m (signature bytes) decoded_fits decoded_signature in
        let short = decode_passed.framed.short in
        record { register_fits = decoded_register; fits = decoded_fits; short = omega (arith, ap length encode_decode) }
