-- Document 01, "Messages" and "Turned down", 2 to 5: the message that some bytes are and its register, or their refusal.
use Rattle.std.specs.Prelude.{ℕ, suc, ◌+◌, ◌-◌, ◌^◌, Bool, true, false, cond, ◌&&◌, List, [], ◌∷◌, length, drop, ◌==◌, nat_lt}
use Rattle.std.proofs.Math.Option.{Option, none, some}
use Rattle.base.specs.BigEndian.{from_bytes}
use Rattle.base.specs.BitMap.{bit}
use Rattle.base.specs.Outcome.{Outcome, accepted, refused, guard, ◌>>=◌}
use Rattle.base.specs.Range.{within}
use Rattle.base.specs.Timestamp.{of_number}
use Rattle.base.specs.declared.party.ClientId.{ClientId}
use Rattle.base.specs.declared.party.RegisterId.{RegisterId}
use Rattle.base.specs.declared.party.ReplicaId.{ReplicaId}
use Rattle.wire.specs.Kind.{kind_of_number, kind_there}
use Rattle.wire.specs.Layout.{field_bits, map_in, place, field, signature_place}
use Rattle.wire.specs.Message.{Message, READ-STAMP, PREPARE, WRITE, READ, STAMP, PREPARED, WRITTEN, CARD, longest}
use Rattle.wire.specs.Proof.{Proof, read_proof}
use Rattle.wire.specs.declared.message.Fields.{Fields}
use Rattle.wire.specs.declared.message.Party.{Party}
use Rattle.wire.specs.declared.message.Party.TheVariants.{Replica, Client}
use Rattle.wire.specs.declared.message.Span.{Span}

-- The fields of bytes that passed 2 to 4.
abbrev pub kind_in : List ℕ → ℕ
kind_in bytes = from_bytes (field bytes 0)

abbrev pub client_in : List ℕ → ClientId
client_in bytes = record { 0 = from_bytes (field bytes 1) }

abbrev pub replica_in : List ℕ → ReplicaId
replica_in bytes = record { 0 = from_bytes (field bytes 1) }

abbrev pub nonce_in : List ℕ → ℕ
nonce_in bytes = from_bytes (field bytes 2)

abbrev pub timestamp_in : List ℕ → ℕ
timestamp_in bytes = from_bytes (field bytes 3)

abbrev pub digest_in : List ℕ → List ℕ
digest_in bytes = field bytes 4

-- The bytes after the length byte.
abbrev pub card_in : List ℕ → List ℕ
card_in bytes = drop 1 (field bytes 5)

abbrev pub addressed_in : List ℕ → ClientId
addressed_in bytes = record { 0 = from_bytes (field bytes 8) }

-- Document 02, #103: "Every message gains bit 9, the set (1 byte, after bit 8)". 0 where it is not there.
abbrev pub register_in : List ℕ → RegisterId
register_in bytes = record { 0 = from_bytes (field bytes 9) }

-- A proof that may be missing.
abbrev pub optional : {A : Type 0} → Bool → Outcome A → Outcome (Option A)
optional true proof = proof >>= λ p. accepted (some p)
optional false proof = accepted none

-- With a digest of d bytes, by its bit: the prepared proof has 32 and bit 6, the written one none and bit 7.
abbrev pub proof_in : (d b : ℕ) → List ℕ → Outcome (Option (Proof d))
proof_in d b bytes = optional (bit (map_in bytes) b) (read_proof d (field bytes b))

-- A row of the table of kinds: who takes it, the bits it has, the bits it may have, and the message. Each has bit 9.
pub record Row : Type 1 where
  pub number : ℕ
  pub taker : Party
  pub must : List ℕ
  pub may : List ℕ
  pub message : List ℕ → Outcome Message

abbrev kind : ℕ → Party → List ℕ → List ℕ → (List ℕ → Outcome Message) → Row
kind number taker must may message = record { number = number; taker = taker; must = must; may = may; message = message }

unfoldable pub kinds : List Row
kinds =
    -- READ-STAMP
    kind 1 Replica (0 ∷ 1 ∷ 2 ∷ 9 ∷ []) [] (λ m. accepted (READ-STAMP (client_in m) (nonce_in m)))
    -- PREPARE
    ∷ kind 2 Replica (0 ∷ 1 ∷ 3 ∷ 4 ∷ 9 ∷ []) (6 ∷ 7 ∷ []) (λ m.
    proof_in 32 6 m >>= λ proof. proof_in 0 7 m >>= λ last. accepted (PREPARE (client_in m) (timestamp_in m) (digest_in m) proof last))
    -- WRITE
    ∷ kind 3 Replica (0 ∷ 1 ∷ 5 ∷ 6 ∷ 9 ∷ []) [] (λ m. read_proof 32 (field m 6) >>= λ proof. accepted (WRITE (client_in m) (card_in m) proof))
    -- READ
    ∷ kind 4 Replica (0 ∷ 1 ∷ 2 ∷ 9 ∷ []) [] (λ m. accepted (READ (client_in m) (nonce_in m)))
    -- STAMP
    ∷ kind 5 Client (0 ∷ 1 ∷ 2 ∷ 8 ∷ 9 ∷ []) (6 ∷ []) (λ m. proof_in 32 6 m >>= λ proof. accepted (STAMP (replica_in m) (nonce_in m) proof (addressed_in m)))
    -- PREPARED
    ∷ kind 6 Client (0 ∷ 1 ∷ 3 ∷ 4 ∷ 9 ∷ []) [] (λ m. accepted (PREPARED (replica_in m) (timestamp_in m) (digest_in m)))
    -- WRITTEN
    ∷ kind 7 Client (0 ∷ 1 ∷ 3 ∷ 9 ∷ []) [] (λ m. accepted (WRITTEN (replica_in m) (timestamp_in m)))
    -- CARD
    ∷ kind 8 Client (0 ∷ 1 ∷ 2 ∷ 5 ∷ 8 ∷ 9 ∷ []) (6 ∷ []) (λ m.
    proof_in 32 6 m >>= λ proof. accepted (CARD (replica_in m) (nonce_in m) (card_in m) proof (addressed_in m)))
    ∷ []

-- Who takes a message: "holders 1 to 4, desks 5 to 8".
abbrev pub taker_of : Message → Party
taker_of (READ-STAMP client nonce) = Replica
taker_of (PREPARE client timestamp digest proof last) = Replica
taker_of (WRITE client card proof) = Replica
taker_of (READ client nonce) = Replica
taker_of (STAMP replica nonce proof client) = Client
taker_of (PREPARED replica timestamp digest) = Client
taker_of (WRITTEN replica timestamp) = Client
taker_of (CARD replica nonce card proof client) = Client

abbrev pub same_party : Party → Party → Bool
same_party Replica Replica = true
same_party Replica Client = false
same_party Client Replica = false
same_party Client Client = true

-- The map of some bits, and a map without them.
abbrev pub map_with : List ℕ → ℕ
map_with [] = 0
map_with (b ∷ bits) = 2 ^ b + map_with bits

abbrev pub without : List ℕ → ℕ → ℕ
without [] map = map
without (b ∷ bits) map = without bits (cond (bit map b) (map - 2 ^ b) map)

-- Whether the party takes the kind, and the bits are the kind's: but for those it may have, just those it has.
abbrev pub suits : Party → ℕ → Row → Bool
suits party map row = same_party party row.taker && without row.may map == map_with row.must

-- 5: "The kind is not one this party takes (holders 1 to 4, desks 5 to 8), or the bits are not the kind's."
unfoldable pub of_kind : {A : Type 0} → Party → ℕ → ℕ → List Row → (Row → Outcome A) → Outcome A
of_kind party map number [] next = refused 5
of_kind party map number (row ∷ rows) next = cond (number == row.number) (guard 5 (suits party map row) (next row)) (of_kind party map number rows next)

-- 3: "The bit map lacks bit 0 or 1, or has one of" 10 to 15 (document 02, #103).
abbrev pub good_map : ℕ → Bool
good_map map = (bit map 0 && bit map 1) && nat_lt map (2 ^ field_bits)

-- Tests 2 to 4, which look at lengths and the bit map alone, and what follows.
unfoldable pub framed : {A : Type 0} → List ℕ → Outcome A → Outcome A
framed bytes next =
    guard 2 (within 2 longest (length bytes))
    (guard 3 (good_map (map_in bytes))
    (guard 4 (signature_place bytes + 64 == length bytes)
    next))

-- Tests 2 to 5, and what follows for the kind.
abbrev pub tested : {A : Type 0} → Party → List ℕ → (Row → Outcome A) → Outcome A
tested party bytes next = framed bytes (of_kind party (map_in bytes) (kind_in bytes) kinds next)

unfoldable pub message_in : Party → List ℕ → Outcome Message
message_in party bytes = tested party bytes (λ row. row.message bytes)

-- With the register that it is for.
abbrev pub for_register : RegisterId → Message → RegisterId × Message
for_register register message = (register, message)

unfoldable pub decode : Party → List ℕ → Outcome (RegisterId × Message)
decode party bytes = message_in party bytes >>= λ message. accepted (for_register (register_in bytes) message)

-- Where the field of a bit stands.
abbrev pub span_of : List ℕ → ℕ → Span
span_of bytes b = record { start = place bytes b; end = place bytes (suc b) }

-- The same as the code finds it: numbers, and where the rest stands.
unfoldable pub fields_in : List ℕ → Fields
fields_in bytes =
    record {
      map = map_in bytes;
      kind = kind_there (kind_of_number (kind_in bytes));
      sender = from_bytes (field bytes 1);
      nonce = nonce_in bytes;
      timestamp = of_number (timestamp_in bytes);
      digest = span_of bytes 4;
      card = span_of bytes 5;
      prepared = span_of bytes 6;
      written = span_of bytes 7;
      addressed = addressed_in bytes;
      register = register_in bytes;
      signature = record { start = signature_place bytes; end = length bytes };
    }

unfoldable pub reading : Party → List ℕ → Outcome Fields
reading party bytes = tested party bytes (λ row. accepted (fields_in bytes))
