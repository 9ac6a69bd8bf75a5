-- The laws that wire offers to the engines: what a message that it accepted is, by the parts that it answers. Assumes nothing.
use Rattle.std.proofs.Common.{◌≡◌, ℕ, ◌+◌, ◌-◌, ◌*◌, ◌<◌, ◌≤◌, Bool, true, false, cond, eqb, ◌⊎◌, List, [], ◌∷◌, length, get_or, take, drop, sym, refl, ap, ◌∙◌, subst, arith, length-drop, length-take, take_all, le-ltb, eqb-true}
use mathlib.Core.Option.{none, some}
use Rattle.base.specs.BigEndian.{from_bytes}
use Rattle.base.specs.BitMap.{bit}
use Rattle.base.specs.Outcome.{accepted}
use Rattle.base.specs.Party.{quorum_size, replica_count, is_register}
use Rattle.base.specs.Rising.{rising}
use Rattle.base.specs.Timestamp.{number, of_number}
use Rattle.base.specs.declared.client_set.ClientSet.{ClientSet}
use Rattle.base.specs.declared.replica_set.ReplicaSet.{ReplicaSet}
use Rattle.base.proofs.Booleans.{and_true_both}
use Rattle.base.proofs.Timestamps.{number_of_number}
use Rattle.wire.specs.Acceptance.{sender_of, in_its_range, may_send, is_served, admitted, acceptance}
use Rattle.wire.specs.Checks.{shaped, shaped_if_there}
use Rattle.wire.specs.Decode.{message_in, for_register, register_in, reading, fields_in}
use Rattle.wire.specs.Layout.{rules, map_in, place, field, signature}
use Rattle.wire.specs.Message.{Message, kind_of, READ-STAMP, PREPARE, WRITE, READ, STAMP, PREPARED, WRITTEN, CARD}
use Rattle.wire.specs.Parts.{part_at, card_at, proof_part, prepared_part, timestamp_if_there, prepared_timestamp, prepared_signers, timestamp_part, digest_part, count_part, entries_part, Whole, WholeIfThere}
use Rattle.wire.specs.Proof.{signers, signer_set, entries_bytes, proof_from, prepared_from}
use Rattle.wire.specs.declared.message.Fields.{Fields}
use Rattle.wire.specs.declared.message.Kind.TheVariants.{ReadStamp, Prepare, Write, Read, Stamp, Prepared, Written, Card}
use Rattle.wire.specs.declared.message.Party.{Party}
use Rattle.wire.specs.declared.message.Party.TheVariants.{Replica, Client}
use Rattle.wire.proofs.Tests6To11.{seen}
use Rattle.wire.proofs.AdmittedMessage.{admitted_passed, acceptance_accepted}
use Rattle.wire.proofs.FieldPlaces.{field_absent, place_present}
use Rattle.wire.proofs.ReadingByKind.{ProofBit, prepared_bit, written_bit, Parsed, parsed, proof_at, proof_ends, taken_kind, decode_splits, replica_kind, client_kind, reads_read_stamp, reads_prepare, reads_write, reads_read, reads_stamp, reads_prepared, reads_written, reads_card}
use Rattle.wire.proofs.Tests7To11.{Passed}
use Rattle.wire.proofs.ProofBytes.{length_read, entries_read, extent_is}
pub use Rattle.wire.proofs.ProofBytes.{front_timestamp}
use Rattle.wire.proofs.Rows.{Taken, prepare, write}

-- ---- A proof by its parts

-- A proof's bytes that are whole, by the parts that the code answers.
pub record ByParts (d : ℕ) (proof : List ℕ) : Type 0 where
  pub timestamp : (proof_from d proof).timestamp ≡ number (timestamp_part proof)
  pub digest : (proof_from d proof).digest ≡ digest_part d proof
  pub count : length (proof_from d proof).entries ≡ count_part d proof
  pub entries : entries_bytes (proof_from d proof).entries ≡ entries_part d proof
  pub digest_length : length (digest_part d proof) ≡ d
  pub entries_length : length (entries_part d proof) ≡ 65 * count_part d proof

pub by_parts : {d : ℕ} (proof : List ℕ) → Whole d proof → ByParts d proof
unfolding digest_part count_part entries_part
by_parts {d} proof whole =
    let ends = sym (extent_is d proof) ∙ whole.ends in
    let behind : length (drop (6 + d) proof) ≡ 65 * get_or proof (5 + d) 0 = rw length-drop (omega arith) in
    let enough = le-ltb (length proof) (5 + d) (omega arith) in
    record {
      timestamp = sym (ap number (front_timestamp proof (omega arith)) ∙ number_of_number (from_bytes (take 5 proof)));
      digest = rw enough;
      count = length_read (get_or proof (5 + d) 0) (drop (6 + d) proof);
      entries = entries_read (get_or proof (5 + d) 0) (drop (6 + d) proof) behind;
      digest_length = rw enough (simp (length-take, length-drop) (omega arith));
      entries_length = behind;
    }

-- A proof that may be missing: its timestamp, and whether it is proof-there.
pub shown : (proof : List ℕ) → WholeIfThere proof → timestamp_part proof ≡ of_number (prepared_timestamp (prepared_part proof))
unfolding timestamp_part
shown [] whole = refl
shown (byte ∷ proof) whole = let ends = whole.ends in front_timestamp (byte ∷ proof) (omega arith)

pub missing_part : (proof : List ℕ) → length proof ≡ 0 → prepared_part proof ≡ none
missing_part [] e = refl
missing_part (byte ∷ proof) e = absurd (omega arith)

pub record There (proof : List ℕ) : Type 0 where
  pub whole : Whole 32 proof
  pub is : prepared_part proof ≡ some (prepared_from proof)

pub proof_there : (proof : List ℕ) → WholeIfThere proof → (length proof ≡ 0 → ⊥) → There proof
proof_there [] whole h = absurd (h refl)
proof_there (byte ∷ proof) whole h = record { whole = whole; is = refl }

whole_if : (proof : List ℕ) → Whole 32 proof → WholeIfThere proof
whole_if [] whole = tt
whole_if (byte ∷ proof) whole = whole

some_part : (d : ℕ) (proof : List ℕ) → 0 < length proof → proof_part d proof ≡ some (proof_from d proof)
some_part d [] h = absurd (omega arith)
some_part d (byte ∷ proof) h = refl

-- A quorum has at most 11 replicas.
few_entries : (f d : ℕ) (proof : List ℕ) → shaped f (proof_from d proof).entries ≡ true → count_part d proof ≤ 11
unfolding shaped count_part
few_entries f d proof h =
    let entries = (proof_from d proof).entries in
    let both = and_true_both (eqb (length entries) (quorum_size f)) (rising 0 (replica_count f) (signers entries)) h in
    omega (arith, eqb-true (length entries) (quorum_size f) both.0, length_read (get_or proof (5 + d) 0) (drop (6 + d) proof))

-- ---- A message by its parts

-- The proofs of a message that was read, where they stand.
module _ (party : Party) (bytes : List ℕ) (fields : Fields) (found : Parsed party bytes fields) where
  pub prepared_is : part_at bytes fields.prepared ≡ field bytes 6
  unfolding fields_in field
  prepared_is = rw found.same

  pub written_is : part_at bytes fields.written ≡ field bytes 7
  unfolding fields_in field
  written_is = rw found.same

  part_shown : {d b : ℕ} → ProofBit d b → proof_part d (field bytes b) ≡ proof_at d b bytes
  part_shown {d} {b} bit_is = go (bit (map_in bytes) b) refl
    where
      go : (t : Bool) → bit (map_in bytes) b ≡ t → proof_part d (field bytes b) ≡ cond t (some (proof_from d (field bytes b))) none
      go true set = some_part d (field bytes b) (let ends = proof_ends bytes found.framed bit_is set in omega arith)
      go false clear = rw (field_absent bytes b clear)

  pub prepared_shown : prepared_part (part_at bytes fields.prepared) ≡ proof_at 32 6 bytes
  prepared_shown = rw prepared_is (part_shown prepared_bit)

  pub written_shown : proof_part 0 (part_at bytes fields.written) ≡ proof_at 0 7 bytes
  written_shown = rw written_is (part_shown written_bit)

-- The message that 2 to 11 let through.
pub record Handed (party : Party) (f : ℕ) (withdrawn : ClientSet) (bytes verdicts : List ℕ) (message : Message) : Type 0 where
  pub decodes : message_in party bytes ≡ accepted message
  pub admits : admitted party f withdrawn bytes verdicts ≡ accepted (for_register (register_in bytes) message)
  pub ranged : in_its_range f (sender_of message) ≡ true
  pub may_send_lem : may_send (kind_of message) (sender_of message) ≡ true
  pub registered : is_register (register_in bytes) ≡ true
  pub served : is_served withdrawn (sender_of message) ≡ true
  pub passed : Passed f message verdicts

module _ (party : Party) (f : ℕ) (withdrawn : ClientSet) (bytes verdicts : List ℕ) (fields : Fields) {signers : ReplicaSet} (e : acceptance party f withdrawn bytes verdicts ≡ accepted (fields, signers)) where
  reads : reading party bytes ≡ accepted fields
  reads = (acceptance_accepted party f withdrawn bytes verdicts fields signers e).2

  found : Parsed party bytes fields
  found = parsed party bytes fields reads

  handed : (m : Message) → message_in party bytes ≡ accepted m → Handed party f withdrawn bytes verdicts m
  handed m d =
      let a = acceptance_accepted party f withdrawn bytes verdicts fields signers e in
      let h = admitted_passed party f withdrawn bytes verdicts (register_in bytes) a.0 a.1 in
      let decodes = (decode_splits party bytes (register_in bytes) a.0 h.decodes).1 in
      let same : a.0 ≡ m = cc in
      subst (λ (m : Message). Handed party f withdrawn bytes verdicts m) same
      (record { decodes = decodes; admits = a.1; ranged = h.ranged; may_send_lem = h.may_send_lem; registered = h.registered; served = h.served; passed = h.passed })

  -- The register that was found is the message's.
  pub register_is : fields.register ≡ register_in bytes
  unfolding fields_in
  register_is = rw found.same

  -- The signers that were found are those of the prepared proof; nobody where proof-there is none.
  pub signers_are : signers ≡ prepared_signers (prepared_part (part_at bytes fields.prepared))
  signers_are =
      let a = acceptance_accepted party f withdrawn bytes verdicts fields signers e in
      let h = admitted_passed party f withdrawn bytes verdicts (register_in bytes) a.0 a.1 in
      let s = seen party bytes a.0 (decode_splits party bytes (register_in bytes) a.0 h.decodes).1 in
      a.3 ∙ ap prepared_signers (s.prepared ∙ sym (prepared_shown party bytes fields found))

  digest_is : part_at bytes fields.digest ≡ field bytes 4
  unfolding fields_in field
  digest_is = rw found.same

  card_is : card_at bytes fields.card ≡ drop 1 (field bytes 5)
  unfolding fields_in field
  card_is = rw found.same

  -- What follows the fields is the signature.
  pub signature_is : part_at bytes fields.signature ≡ signature bytes
  unfolding fields_in
  signature_is = rw found.same (take_all (length bytes - place bytes 10) (drop (place bytes 10) bytes) (rw length-drop (omega arith)))

  pub signature_length : length (part_at bytes fields.signature) ≡ 64
  signature_length = let ends = found.framed.ends in rw (signature_is, length-drop) (omega arith)

  digest_there : bit (map_in bytes) 4 ≡ true → length (part_at bytes fields.digest) ≡ 32
  unfolding field rules
  digest_there set =
      let next = place_present bytes 4 set in
      let inside = found.inside 5 (omega arith) in
      rw digest_is (simp (length-take, length-drop) (omega arith))

  -- The written proof's timestamp, which is all that a replica takes of it.
  pub last_shown : timestamp_part (part_at bytes fields.written) ≡ of_number (timestamp_if_there (proof_part 0 (part_at bytes fields.written)))
  unfolding timestamp_part
  last_shown = rw (written_is party bytes fields found) (go (bit (map_in bytes) 7) refl)
    where
      go : (b : Bool) → bit (map_in bytes) 7 ≡ b → timestamp_part (field bytes 7) ≡ of_number (timestamp_if_there (proof_part 0 (field bytes 7)))
      go true set =
          let ends = proof_ends bytes found.framed written_bit set in
          rw (some_part 0 (field bytes 7) (omega arith)) (front_timestamp (field bytes 7) (omega arith))
      go false clear = rw (field_absent bytes 7 clear)

  -- A prepared proof that is proof-there is whole, and has at most 11 entries.
  pub proof_whole : WholeIfThere (part_at bytes fields.prepared)
  proof_whole =
      let h = handed _ found.decodes in
      let s = seen party bytes _ found.decodes in
      rw (prepared_is party bytes fields found) (go (bit (map_in bytes) 6) refl (rw s.prepared at h.passed.prepared_shaped))
    where
      go : (b : Bool) → bit (map_in bytes) 6 ≡ b → shaped_if_there f (cond b (some (prepared_from (field bytes 6))) none) ≡ true → WholeIfThere (field bytes 6)
      go true set h = whole_if (field bytes 6) (record { ends = proof_ends bytes found.framed prepared_bit set; few = few_entries f 32 (field bytes 6) h })
      go false clear h = rw (field_absent bytes 6 clear) tt

-- The requests, kind by kind, with the parts that the code takes out of them.
module _ (f : ℕ) (withdrawn : ClientSet) (bytes verdicts : List ℕ) (fields : Fields) {signers : ReplicaSet} (e : acceptance Replica f withdrawn bytes verdicts ≡ accepted (fields, signers)) where
  pub handed_read_stamp : fields.kind ≡ ReadStamp → Handed Replica f withdrawn bytes verdicts (READ-STAMP (record { 0 = fields.sender }) fields.nonce)
  handed_read_stamp k = handed Replica f withdrawn bytes verdicts fields e _ (reads_read_stamp bytes fields (reads Replica f withdrawn bytes verdicts fields e) k)

  pub handed_prepare : fields.kind ≡ Prepare
      → Handed Replica f withdrawn bytes verdicts (PREPARE (record { 0 = fields.sender }) (number fields.timestamp) (part_at bytes fields.digest) (prepared_part (part_at bytes fields.prepared)) (proof_part 0 (part_at bytes fields.written)))
  handed_prepare k =
      rw (digest_is Replica f withdrawn bytes verdicts fields e, prepared_shown Replica bytes fields (found Replica f withdrawn bytes verdicts fields e), written_shown Replica bytes fields (found Replica f withdrawn bytes verdicts fields e))
      (handed Replica f withdrawn bytes verdicts fields e _ (reads_prepare bytes fields (reads Replica f withdrawn bytes verdicts fields e) k))

  pub handed_write : fields.kind ≡ Write → Handed Replica f withdrawn bytes verdicts (WRITE (record { 0 = fields.sender }) (card_at bytes fields.card) (prepared_from (part_at bytes fields.prepared)))
  handed_write k =
      rw (card_is Replica f withdrawn bytes verdicts fields e, prepared_is Replica bytes fields (found Replica f withdrawn bytes verdicts fields e))
      (handed Replica f withdrawn bytes verdicts fields e _ (reads_write bytes fields (reads Replica f withdrawn bytes verdicts fields e) k))

  pub handed_read : fields.kind ≡ Read → Handed Replica f withdrawn bytes verdicts (READ (record { 0 = fields.sender }) fields.nonce)
  handed_read k = handed Replica f withdrawn bytes verdicts fields e _ (reads_read bytes fields (reads Replica f withdrawn bytes verdicts fields e) k)

  -- "holders 1 to 4"
  pub request_kind : (fields.kind ≡ ReadStamp) ⊎ ((fields.kind ≡ Prepare) ⊎ ((fields.kind ≡ Write) ⊎ (fields.kind ≡ Read)))
  request_kind = replica_kind fields.kind (taken_kind Replica bytes fields (reads Replica f withdrawn bytes verdicts fields e) fields.kind refl)

  prepare_set : {map : ℕ} → Taken map 2 Replica → bit map 4 ≡ true
  prepare_set (prepare set) = cc

  write_set : {map : ℕ} → Taken map 3 Replica → bit map 6 ≡ true
  write_set (write set) = cc

  pub prepare_digest : fields.kind ≡ Prepare → length (part_at bytes fields.digest) ≡ 32
  prepare_digest k = digest_there Replica f withdrawn bytes verdicts fields e (prepare_set (taken_kind Replica bytes fields (reads Replica f withdrawn bytes verdicts fields e) Prepare k))

  pub write_proof : fields.kind ≡ Write → Whole 32 (part_at bytes fields.prepared)
  write_proof k =
      let set = write_set (taken_kind Replica bytes fields (reads Replica f withdrawn bytes verdicts fields e) Write k) in
      let whole = proof_ends bytes (found Replica f withdrawn bytes verdicts fields e).framed prepared_bit set in
      let same = prepared_is Replica bytes fields (found Replica f withdrawn bytes verdicts fields e) in
      (proof_there (part_at bytes fields.prepared) (proof_whole Replica f withdrawn bytes verdicts fields e) (λ none. let size = ap length same in omega arith)).whole

  pub write_signers : fields.kind ≡ Write → signers ≡ signer_set (prepared_from (part_at bytes fields.prepared)).entries
  write_signers k =
      let ends = (write_proof k).ends in
      signers_are Replica f withdrawn bytes verdicts fields e ∙ ap prepared_signers (some_part 32 (part_at bytes fields.prepared) (omega arith))

-- The replies, kind by kind.
module _ (f : ℕ) (withdrawn : ClientSet) (bytes verdicts : List ℕ) (fields : Fields) {signers : ReplicaSet} (e : acceptance Client f withdrawn bytes verdicts ≡ accepted (fields, signers)) where
  pub handed_stamp : fields.kind ≡ Stamp → Handed Client f withdrawn bytes verdicts (STAMP (record { 0 = fields.sender }) fields.nonce (prepared_part (part_at bytes fields.prepared)) fields.addressed)
  handed_stamp k =
      rw (prepared_shown Client bytes fields (found Client f withdrawn bytes verdicts fields e))
      (handed Client f withdrawn bytes verdicts fields e _ (reads_stamp bytes fields (reads Client f withdrawn bytes verdicts fields e) k))

  pub handed_prepared : fields.kind ≡ Prepared → Handed Client f withdrawn bytes verdicts (PREPARED (record { 0 = fields.sender }) (number fields.timestamp) (part_at bytes fields.digest))
  handed_prepared k =
      rw (digest_is Client f withdrawn bytes verdicts fields e)
      (handed Client f withdrawn bytes verdicts fields e _ (reads_prepared bytes fields (reads Client f withdrawn bytes verdicts fields e) k))

  pub handed_written : fields.kind ≡ Written → Handed Client f withdrawn bytes verdicts (WRITTEN (record { 0 = fields.sender }) (number fields.timestamp))
  handed_written k = handed Client f withdrawn bytes verdicts fields e _ (reads_written bytes fields (reads Client f withdrawn bytes verdicts fields e) k)

  pub handed_card : fields.kind ≡ Card → Handed Client f withdrawn bytes verdicts (CARD (record { 0 = fields.sender }) fields.nonce (card_at bytes fields.card) (prepared_part (part_at bytes fields.prepared)) fields.addressed)
  handed_card k =
      rw (card_is Client f withdrawn bytes verdicts fields e, prepared_shown Client bytes fields (found Client f withdrawn bytes verdicts fields e))
      (handed Client f withdrawn bytes verdicts fields e _ (reads_card bytes fields (reads Client f withdrawn bytes verdicts fields e) k))

  -- "desks 5 to 8"
  pub reply_kind : (fields.kind ≡ Stamp) ⊎ ((fields.kind ≡ Prepared) ⊎ ((fields.kind ≡ Written) ⊎ (fields.kind ≡ Card)))
  reply_kind = client_kind fields.kind (taken_kind Client bytes fields (reads Client f withdrawn bytes verdicts fields e) fields.kind refl)
