-- What an accepted reading says, kind by kind; reading and decoding refuse alike. Assumes nothing.
use Rattle.std.proofs.Common.{◌≡◌, ℕ, ◌+◌, ◌*◌, ◌≤◌, Bool, true, false, cond, eqb, ◌⊎◌, List, [], ◌∷◌, length, get_or, sym, refl, ap, ◌∙◌, subst, inl, inr, arith}
use mathlib.Core.Option.{Option, none, some}
use Rattle.base.specs.BitMap.{bit}
use Rattle.base.specs.Outcome.{Outcome, accepted, refused, guard, ◌>>=◌}
use Rattle.base.specs.Range.{within}
use Rattle.base.specs.Timestamp.{number}
use Rattle.base.specs.declared.party.RegisterId.{RegisterId}
use Rattle.base.proofs.Timestamps.{number_of_number}
use Rattle.base.proofs.Outcome.{guard_alike}
use Rattle.base.proofs.Apart.{apart}
use Rattle.wire.specs.Decode.{Row, kinds, suits, of_kind, good_map, framed, tested, message_in, for_register, decode, register_in, reading, fields_in, kind_in, client_in, replica_in, nonce_in, timestamp_in, digest_in, card_in, addressed_in, optional, proof_in}
use Rattle.wire.specs.Kind.{kind_number, kind_of_number, kind_there}
use Rattle.wire.specs.Layout.{rules, map_in, place, field}
use Rattle.wire.specs.Message.{Message, READ-STAMP, PREPARE, WRITE, READ, STAMP, PREPARED, WRITTEN, CARD, longest}
use Rattle.wire.specs.Proof.{Proof, proof_from, read_proof}
use Rattle.wire.specs.declared.message.Fields.{Fields}
use Rattle.wire.specs.declared.message.Kind.{Kind}
use Rattle.wire.specs.declared.message.Kind.TheVariants.{ReadStamp, Prepare, Write, Read, Stamp, Prepared, Written, Card}
use Rattle.wire.specs.declared.message.Party.{Party}
use Rattle.wire.specs.declared.message.Party.TheVariants.{Replica, Client}
use Rattle.wire.proofs.FieldPlaces.{Framed, framed_passes, framed_accepted, field_whole, place_rises, place_within, place_one, place_two}
use Rattle.wire.proofs.ProofBytes.{accepts_proof}
use Rattle.wire.proofs.Rows.{Taken, read_stamp, prepare, write, read, stamp, prepared, written, card, HasRow, row, accepted_passed}

-- The bit of a proof with a digest of so many bytes.
pub data ProofBit : ℕ → ℕ → Type 0 where
  prepared_bit : ProofBit 32 6
  written_bit : ProofBit 0 7

pub bit_low : {d b : ℕ} → ProofBit d b → b ≤ 9
bit_low prepared_bit = omega arith
bit_low written_bit = omega arith

-- The proof of a bit, of bytes that passed 2 to 4, if the bit is set.
abbrev pub proof_at : (d b : ℕ) → List ℕ → Option (Proof d)
proof_at d b bytes = cond (bit (map_in bytes) b) (some (proof_from d (field bytes b))) none

module _ (bytes : List ℕ) (f : Framed bytes) where
  -- Fields that are there, so these proofs always read.
  pub proof_ends : {d b : ℕ} → ProofBit d b → bit (map_in bytes) b ≡ true → 6 + d + 65 * get_or (field bytes b) (5 + d) 0 ≡ length (field bytes b)
  unfolding rules
  proof_ends prepared_bit set = field_whole bytes f 6 (omega arith) set (omega arith)
  proof_ends written_bit set = field_whole bytes f 7 (omega arith) set (omega arith)

  pub proof_reads : {d b : ℕ} → ProofBit d b → bit (map_in bytes) b ≡ true → read_proof d (field bytes b) ≡ accepted (proof_from d (field bytes b))
  proof_reads {d} {b} bit_is set = accepts_proof d (field bytes b) (proof_ends bit_is set)

  pub proof_in_lem : {d b : ℕ} → ProofBit d b → proof_in d b bytes ≡ accepted (proof_at d b bytes)
  proof_in_lem {d} {b} bit_is = go (bit (map_in bytes) b) refl
    where
      go : (t : Bool) → bit (map_in bytes) b ≡ t → optional t (read_proof d (field bytes b)) ≡ accepted (cond t (some (proof_from d (field bytes b))) none)
      go true set = rw (proof_reads bit_is set)
      go false set = refl

-- The message of bytes that the table lets through.
abbrev pub message_of : {map kind : ℕ} {party : Party} → Taken map kind party → List ℕ → Message
message_of (read_stamp e) bytes = READ-STAMP (client_in bytes) (nonce_in bytes)
message_of (prepare e) bytes = PREPARE (client_in bytes) (timestamp_in bytes) (digest_in bytes) (proof_at 32 6 bytes) (proof_at 0 7 bytes)
message_of (write e) bytes = WRITE (client_in bytes) (card_in bytes) (proof_from 32 (field bytes 6))
message_of (read e) bytes = READ (client_in bytes) (nonce_in bytes)
message_of (stamp e) bytes = STAMP (replica_in bytes) (nonce_in bytes) (proof_at 32 6 bytes) (addressed_in bytes)
message_of (prepared e) bytes = PREPARED (replica_in bytes) (timestamp_in bytes) (digest_in bytes)
message_of (written e) bytes = WRITTEN (replica_in bytes) (timestamp_in bytes)
message_of (card e) bytes = CARD (replica_in bytes) (nonce_in bytes) (card_in bytes) (proof_at 32 6 bytes) (addressed_in bytes)

row_message : (bytes : List ℕ) (kind : ℕ) (party : Party) → Framed bytes → (t : Taken (map_in bytes) kind party) → (row kind).message bytes ≡ accepted (message_of t bytes)
unfolding row kinds
row_message bytes kind party f (read_stamp e) = refl
row_message bytes kind party f (prepare e) = rw (proof_in_lem bytes f prepared_bit, proof_in_lem bytes f written_bit)
row_message bytes kind party f (write e) = rw (proof_reads bytes f prepared_bit (cc))
row_message bytes kind party f (read e) = refl
row_message bytes kind party f (stamp e) = rw (proof_in_lem bytes f prepared_bit)
row_message bytes kind party f (prepared e) = refl
row_message bytes kind party f (written e) = refl
row_message bytes kind party f (card e) = rw (proof_in_lem bytes f prepared_bit)

-- The tests 2 to 5 passed.
pub record Tested (party : Party) (bytes : List ℕ) : Type 1 where
  pub framed : Framed bytes
  pub passed : HasRow party (map_in bytes) (kind_in bytes)

pub tested_accepted : {A : Type 0} (party : Party) (bytes : List ℕ) (next : Row → Outcome A) (a : A) → tested party bytes next ≡ accepted a → Tested party bytes
tested_accepted party bytes next a e =
    let found = framed_accepted bytes (of_kind party (map_in bytes) (kind_in bytes) kinds next) a e in
    record { framed = found.0; passed = accepted_passed party (map_in bytes) (kind_in bytes) next a found.1 }

module _ (party : Party) (bytes : List ℕ) (t : Tested party bytes) where
  tested_passes : (A : Type 0) (next : Row → Outcome A) → tested party bytes next ≡ next (row (kind_in bytes))
  tested_passes A next = framed_passes bytes (of_kind party (map_in bytes) (kind_in bytes) kinds next) t.framed ∙ t.passed.passes A next

  -- Then the bytes are a message, and reading accepts.
  pub message_tested : message_in party bytes ≡ accepted (message_of t.passed.taken bytes)
  unfolding message_in
  message_tested = tested_passes Message (λ row. row.message bytes) ∙ row_message bytes (kind_in bytes) party t.framed t.passed.taken

  pub reading_tested : reading party bytes ≡ accepted (fields_in bytes)
  unfolding reading
  reading_tested = tested_passes Fields (λ row. accepted (fields_in bytes))

-- Bytes that the table lets through are read with the kind of their number.
kind_kept : {map number : ℕ} {party : Party} → Taken map number party → kind_number (kind_there (kind_of_number number)) ≡ number
kind_kept (read_stamp e) = refl
kind_kept (prepare e) = refl
kind_kept (write e) = refl
kind_kept (read e) = refl
kind_kept (stamp e) = refl
kind_kept (prepared e) = refl
kind_kept (written e) = refl
kind_kept (card e) = refl

-- What an accepted reading says.
pub record Parsed (party : Party) (bytes : List ℕ) (fs : Fields) : Type 0 where
  pub same : fs ≡ fields_in bytes
  pub framed : Framed bytes
  -- Bits 0 and 1 are set: the sender stands at 3 and the other fields from 4 on.
  pub second : place bytes 1 ≡ 3
  pub third : place bytes 2 ≡ 4
  pub rises : (a b : ℕ) → a ≤ b → place bytes a ≤ place bytes b
  pub inside : (b : ℕ) → b ≤ 10 → place bytes b + 64 ≤ length bytes
  pub taken : Taken (map_in bytes) (kind_in bytes) party
  pub kind : kind_number fs.kind ≡ kind_in bytes
  pub decodes : message_in party bytes ≡ accepted (message_of taken bytes)

module _ (party : Party) (bytes : List ℕ) (fs : Fields) (e : reading party bytes ≡ accepted fs) where
  reading_passed : Tested party bytes
  unfolding reading
  reading_passed = tested_accepted party bytes (λ row. accepted (fields_in bytes)) fs e

  pub parsed : Parsed party bytes fs
  unfolding fields_in
  parsed =
      let t = reading_passed in
      let same : fields_in bytes ≡ fs = cc (reading_tested party bytes t) in
      let first : Parsed party bytes (fields_in bytes) =
      record {
        same = refl;
        framed = t.framed;
        second = place_one bytes t.framed;
        third = place_two bytes t.framed;
        rises = place_rises bytes;
        inside = place_within bytes t.framed;
        taken = t.passed.taken;
        kind = kind_kept t.passed.taken;
        decodes = message_tested party bytes t;
      }
      in
      subst (λ (fs : Fields). Parsed party bytes fs) same first

module _ (party : Party) (bytes : List ℕ) (fs : Fields) (e : reading party bytes ≡ accepted fs) (k : Kind) (same : fs.kind ≡ k) where
  number_is : kind_in bytes ≡ kind_number k
  number_is = sym (parsed party bytes fs e).kind ∙ ap kind_number same

  -- The bits of a kind: of these constructors one is left to match.
  pub taken_kind : Taken (map_in bytes) (kind_number k) party
  taken_kind = subst (λ (n : ℕ). Taken (map_in bytes) n party) number_is (parsed party bytes fs e).taken

  kind_row : message_in party bytes ≡ (row (kind_number k)).message bytes
  unfolding message_in
  kind_row =
      tested_passes party bytes (reading_passed party bytes fs e) Message (λ row. row.message bytes) ∙ ap (λ (n : ℕ). (row n).message bytes) number_is

write_set : {map : ℕ} → Taken map 3 Replica → bit map 6 ≡ true
write_set (write e) = cc

-- The message, kind by kind.
pub reads_read_stamp : (bytes : List ℕ) (fs : Fields) → reading Replica bytes ≡ accepted fs → fs.kind ≡ ReadStamp → message_in Replica bytes ≡ accepted (READ-STAMP (record { 0 = fs.sender }) fs.nonce)
unfolding row kinds fields_in
reads_read_stamp bytes fs e k = let p = parsed Replica bytes fs e in rw (kind_row Replica bytes fs e ReadStamp k, p.same)

pub reads_prepare : (bytes : List ℕ) (fs : Fields) → reading Replica bytes ≡ accepted fs → fs.kind ≡ Prepare → message_in Replica bytes ≡ accepted (PREPARE (record { 0 = fs.sender }) (number fs.timestamp) (digest_in bytes) (proof_at 32 6 bytes) (proof_at 0 7 bytes))
unfolding row kinds fields_in
reads_prepare bytes fs e k = let p = parsed Replica bytes fs e in rw (kind_row Replica bytes fs e Prepare k, p.same, proof_in_lem bytes p.framed prepared_bit, proof_in_lem bytes p.framed written_bit, number_of_number (timestamp_in bytes))

pub reads_write : (bytes : List ℕ) (fs : Fields) → reading Replica bytes ≡ accepted fs → fs.kind ≡ Write → message_in Replica bytes ≡ accepted (WRITE (record { 0 = fs.sender }) (card_in bytes) (proof_from 32 (field bytes 6)))
unfolding row kinds fields_in
reads_write bytes fs e k = let p = parsed Replica bytes fs e in rw (kind_row Replica bytes fs e Write k, p.same, proof_reads bytes p.framed prepared_bit (write_set (taken_kind Replica bytes fs e Write k)))

pub reads_read : (bytes : List ℕ) (fs : Fields) → reading Replica bytes ≡ accepted fs → fs.kind ≡ Read → message_in Replica bytes ≡ accepted (READ (record { 0 = fs.sender }) fs.nonce)
unfolding row kinds fields_in
reads_read bytes fs e k = let p = parsed Replica bytes fs e in rw (kind_row Replica bytes fs e Read k, p.same)

pub reads_stamp : (bytes : List ℕ) (fs : Fields) → reading Client bytes ≡ accepted fs → fs.kind ≡ Stamp → message_in Client bytes ≡ accepted (STAMP (record { 0 = fs.sender }) fs.nonce (proof_at 32 6 bytes) fs.addressed)
unfolding row kinds fields_in
reads_stamp bytes fs e k = let p = parsed Client bytes fs e in rw (kind_row Client bytes fs e Stamp k, p.same, proof_in_lem bytes p.framed prepared_bit)

pub reads_prepared : (bytes : List ℕ) (fs : Fields) → reading Client bytes ≡ accepted fs → fs.kind ≡ Prepared → message_in Client bytes ≡ accepted (PREPARED (record { 0 = fs.sender }) (number fs.timestamp) (digest_in bytes))
unfolding row kinds fields_in
reads_prepared bytes fs e k = let p = parsed Client bytes fs e in rw (kind_row Client bytes fs e Prepared k, p.same, number_of_number (timestamp_in bytes))

pub reads_written : (bytes : List ℕ) (fs : Fields) → reading Client bytes ≡ accepted fs → fs.kind ≡ Written → message_in Client bytes ≡ accepted (WRITTEN (record { 0 = fs.sender }) (number fs.timestamp))
unfolding row kinds fields_in
reads_written bytes fs e k = let p = parsed Client bytes fs e in rw (kind_row Client bytes fs e Written k, p.same, number_of_number (timestamp_in bytes))

pub reads_card : (bytes : List ℕ) (fs : Fields) → reading Client bytes ≡ accepted fs → fs.kind ≡ Card → message_in Client bytes ≡ accepted (CARD (record { 0 = fs.sender }) fs.nonce (card_in bytes) (proof_at 32 6 bytes) fs.addressed)
unfolding row kinds fields_in
reads_card bytes fs e k = let p = parsed Client bytes fs e in rw (kind_row Client bytes fs e Card k, p.same, proof_in_lem bytes p.framed prepared_bit)

-- "holders 1 to 4, desks 5 to 8"
pub replica_kind : {map : ℕ} (kind : Kind) → Taken map (kind_number kind) Replica → (kind ≡ ReadStamp) ⊎ ((kind ≡ Prepare) ⊎ ((kind ≡ Write) ⊎ (kind ≡ Read)))
replica_kind ReadStamp t = inl refl
replica_kind Prepare t = inr (inl refl)
replica_kind Write t = inr (inr (inl refl))
replica_kind Read t = inr (inr (inr refl))
replica_kind Stamp t = elim t [ ]
replica_kind Prepared t = elim t [ ]
replica_kind Written t = elim t [ ]
replica_kind Card t = elim t [ ]

pub client_kind : {map : ℕ} (kind : Kind) → Taken map (kind_number kind) Client → (kind ≡ Stamp) ⊎ ((kind ≡ Prepared) ⊎ ((kind ≡ Written) ⊎ (kind ≡ Card)))
client_kind ReadStamp t = elim t [ ]
client_kind Prepare t = elim t [ ]
client_kind Write t = elim t [ ]
client_kind Read t = elim t [ ]
client_kind Stamp t = inl refl
client_kind Prepared t = inr (inl refl)
client_kind Written t = inr (inr (inl refl))
client_kind Card t = inr (inr (inr refl))

-- Outcomes that only the tests refuse, refused alike whatever follows.
module _ {A B : Type 0} (n : ℕ) where
  rows_alike : (party : Party) (map number : ℕ) (rows : List Row) (a : A) (next : Row → Outcome B)
      → of_kind party map number rows (λ row. accepted a) ≡ refused n → of_kind party map number rows next ≡ refused n
  unfolding of_kind
  rows_alike party map number [] a next e = cc
  rows_alike party map number (r ∷ rows) a next e = go (rows_alike party map number rows a next) (eqb number r.number) e
    where
      go : (of_kind party map number rows (λ row. accepted a) ≡ refused n → of_kind party map number rows next ≡ refused n) → (t : Bool)
          → cond t (guard 5 (suits party map r) (accepted a)) (of_kind party map number rows (λ row. accepted a)) ≡ refused n
          → cond t (guard 5 (suits party map r) (next r)) (of_kind party map number rows next) ≡ refused n
      go ih true e = guard_alike n 5 (suits party map r) (accepted a) (next r) (λ z. apart (cc)) e
      go ih false e = ih e

  tested_alike : (party : Party) (bytes : List ℕ) (a : A) (next : Row → Outcome B) → tested party bytes (λ row. accepted a) ≡ refused n → tested party bytes next ≡ refused n
  unfolding framed
  tested_alike party bytes a next e =
      let x = of_kind party (map_in bytes) (kind_in bytes) kinds (λ row. accepted a) in
      let y = of_kind party (map_in bytes) (kind_in bytes) kinds next in
      let four = eqb (place bytes 10 + 64) (length bytes) in
      let three = good_map (map_in bytes) in
      guard_alike n 2 (within 2 longest (length bytes)) (guard 3 three (guard 4 four x)) (guard 3 three (guard 4 four y))
      (guard_alike n 3 three (guard 4 four x) (guard 4 four y) (guard_alike n 4 four x y (rows_alike party (map_in bytes) (kind_in bytes) kinds a next))) e

-- What reading refuses is no message.
pub message_refused : (party : Party) (bytes : List ℕ) (n : ℕ) → reading party bytes ≡ refused n → message_in party bytes ≡ refused n
unfolding reading message_in
message_refused party bytes n e = tested_alike n party bytes (fields_in bytes) (λ row. row.message bytes) e

-- What is a message, reading accepts.
pub message_reads : (party : Party) (bytes : List ℕ) (m : Message) → message_in party bytes ≡ accepted m → reading party bytes ≡ accepted (fields_in bytes)
unfolding message_in
message_reads party bytes m e = reading_tested party bytes (tested_accepted party bytes (λ row. row.message bytes) m e)

-- Decoding yields that message with the register of the bytes.
module _ (party : Party) (bytes : List ℕ) where
  pub decode_joins : (m : Message) → message_in party bytes ≡ accepted m → decode party bytes ≡ accepted (for_register (register_in bytes) m)
  unfolding decode
  decode_joins m e = rw e

  pub decode_refused : (n : ℕ) → message_in party bytes ≡ refused n → decode party bytes ≡ refused n
  unfolding decode
  decode_refused n e = rw e

  pub decode_splits : (x : RegisterId) (m : Message) → decode party bytes ≡ accepted (for_register x m) → (register_in bytes ≡ x) × (message_in party bytes ≡ accepted m)
  unfolding decode
  decode_splits x m e = go (message_in party bytes) refl e
    where
      go : (o : Outcome Message) → message_in party bytes ≡ o → (o >>= λ m. accepted (for_register (register_in bytes) m)) ≡ accepted (for_register x m)
          → (register_in bytes ≡ x) × (message_in party bytes ≡ accepted m)
      go (refused n) d e = apart (cc)
      go (accepted m') d e =
          let both : for_register (register_in bytes) m' ≡ for_register x m = cc in
          (ap (λ (pair : RegisterId × Message). pair.0) both, d ∙ ap (λ (pair : RegisterId × Message). accepted pair.1) both)

  -- It passed 2 to 5.
  pub decode_tested : (x : RegisterId) (m : Message) → decode party bytes ≡ accepted (for_register x m) → Tested party bytes
  unfolding message_in
  decode_tested x m e = tested_accepted party bytes (λ row. row.message bytes) m (decode_splits x m e).1
