-- Document 01, "Messages": where the fields of a message stand, "by their own lengths" alone.
use Rattle.std.specs.Prelude.{ℕ, zero, suc, ◌+◌, ◌-◌, ◌*◌, cond, List, [], ◌∷◌, take, drop, slice_index, slice_index_or}
use Rattle.base.specs.BigEndian.{from_bytes}
use Rattle.base.specs.BitMap.{bit}

-- How long a field is: so many bytes; or a head, whose last byte says how many units of so many bytes follow it.
pub data Rule : Type 0 where
  fixed : ℕ → Rule
  repeated : ℕ → ℕ → Rule

-- The bytes of a field that starts at the front of these bytes.
abbrev pub extent : Rule → List ℕ → ℕ
extent (fixed width) bytes = width
extent (repeated head unit) bytes = head + unit * slice_index bytes (head - 1)

-- A proof: timestamp (5), digest (d), number of entries (1), and entries of 65 bytes.
abbrev pub proof_rule : ℕ → Rule
proof_rule d = repeated (6 + d) 65

-- A prepared proof has a digest of 32 bytes; a written proof is "the same without the digest".
abbrev pub prepared_rule : Rule
prepared_rule = proof_rule 32

abbrev pub written_rule : Rule
written_rule = proof_rule 0

-- The fields by bit.
unfoldable pub rules : List Rule
rules =
    fixed 1  -- 0: kind
    ∷ fixed 1  -- 1: sender
    ∷ fixed 8  -- 2: nonce
    ∷ fixed 5  -- 3: timestamp (stamp)
    ∷ fixed 32  -- 4: digest
    ∷ repeated 1 1  -- 5: card (length byte, card)
    ∷ prepared_rule  -- 6: prepared proof
    ∷ written_rule  -- 7: written proof
    ∷ fixed 1  -- 8: client (desk) addressed
    ∷ fixed 1  -- 9: register (set), document 02, #103
    ∷ []

-- The fields have bits 0 to 9.
abbrev pub field_bits : ℕ
field_bits = 10

-- "Bit map (2 bytes)"
abbrev pub map_in : List ℕ → ℕ
map_in bytes = from_bytes (take 2 bytes)

-- Where the field of a bit starts, or would start if it were there: "fields lowest bit first".
unfoldable pub place : List ℕ → ℕ → ℕ
place bytes zero = 2
place bytes (suc b) = let at = place bytes b in at + cond (bit (map_in bytes) b) (extent (slice_index_or rules b (fixed 0)) (drop at bytes)) 0

-- The bytes of the field of a bit; none if it is not there.
unfoldable pub field : List ℕ → ℕ → List ℕ
field bytes b = let at = place bytes b in take (place bytes (suc b) - at) (drop at bytes)

-- "then a 64-byte seal over all bytes before it": the signature.
abbrev pub signature_place : List ℕ → ℕ
signature_place bytes = place bytes field_bits

abbrev pub signature : List ℕ → List ℕ
signature bytes = drop (signature_place bytes) bytes

-- Room for a card of all fields: "At most 17 bytes."
abbrev pub card_room : ℕ
card_room = 17

-- For the entries "of holder (1) and seal (64)" of the largest quorum: "f = 5 gives 16, 11".
abbrev pub entries_room : ℕ
entries_room = 11 * 65

-- Room for a proof with a digest of d bytes: timestamp, digest, number of entries, entries.
abbrev pub proof_room : ℕ → ℕ
proof_room d = 5 + d + 1 + entries_room

-- For a signature (seal) of each of 16 replicas.
abbrev pub signatures_room : ℕ
signatures_room = 16 * 64
