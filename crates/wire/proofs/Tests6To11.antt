-- Tests 6 to 11 on the bytes of a message: its sender, its verdicts, its proofs where they stand. Assumes nothing.
use Rattle.std.proofs.Common.{◌≡◌, ℕ, ◌+◌, ◌*◌, ◌/◌, ◌≤◌, Bool, true, false, cond, ◌&&◌, eqb, leb, List, [], ◌∷◌, ◌++◌, length, get_or, take, drop, sym, refl, ap, ◌∙◌, subst, arith, length-append, length-drop, take-append-drop, length-take-le, eq-eqb, ne_eqb}
use mathlib.Core.Option.{Option, none, some}
use Rattle.base.specs.BigEndian.{from_bytes}
use Rattle.base.specs.BitMap.{bit}
use Rattle.base.specs.Party.{is_register}
use Rattle.base.specs.Outcome.{accepted, refused, guard}
use Rattle.base.specs.ReplicaSet.{empty}
use Rattle.base.specs.Timestamp.{number, of_number, is_issued}
use Rattle.base.specs.declared.client_set.ClientSet.{ClientSet}
use Rattle.base.proofs.Timestamps.{number_of_number}
use Rattle.wire.specs.Acceptance.{sender_of, numbered, in_its_range, may_send, is_served}
use Rattle.wire.specs.Accepting.{opened, count_in, signature_count, proof_judged, Ready}
use Rattle.wire.specs.Checks.{prepared_of, written_of, timestamp_of, if_there, entries_if_there, entries_of, one_verdict_each, verdicts_fit, own_genuine, issued, all, proven, proof_outcome}
use Rattle.wire.specs.Decode.{message_in, register_in, kind_in, reading, span_of, fields_in, framed, timestamp_in}
use Rattle.wire.specs.Judging.{entries_in, first_refusal, outcome_if_there}
use Rattle.wire.specs.Kind.{kind_number}
use Rattle.wire.specs.Layout.{map_in, field}
use Rattle.wire.specs.Message.{Message, kind_of}
use Rattle.wire.specs.Parts.{part_at, prepared_signers, timestamp_part, count_part, entries_part}
use Rattle.wire.specs.Proof.{proof_from, read_entries}
use Rattle.wire.specs.declared.message.Fields.{Fields}
use Rattle.wire.specs.declared.message.Party.{Party}
use Rattle.wire.proofs.FieldPlaces.{Framed, framed_passes, framed_accepted, field_absent}
use Rattle.wire.proofs.ReadingByKind.{ProofBit, prepared_bit, written_bit, proof_at, message_of, proof_ends, parsed, message_reads, message_refused}
use Rattle.wire.proofs.ProofBytes.{length_read, front_timestamp}
use Rattle.wire.proofs.FirstRefusal.{proven_smallest, proof_missing}
use Rattle.wire.proofs.Rows.{Taken, read_stamp, prepare, write, read, stamp, prepared, written, card}

-- The timestamp field, if there is one.
abbrev pub timestamp_at : List ℕ → Option ℕ
timestamp_at bytes = cond (bit (map_in bytes) 3) (some (timestamp_in bytes)) none

-- What the tests look at, in the message and in its bytes.
pub record Seen (party : Party) (bytes : List ℕ) (message : Message) : Type 0 where
  pub sender : sender_of message ≡ numbered party (from_bytes (field bytes 1))
  pub kind : kind_of message ≡ kind_in bytes
  pub prepared : prepared_of message ≡ proof_at 32 6 bytes
  pub written : written_of message ≡ proof_at 0 7 bytes
  pub timestamp : timestamp_of message ≡ timestamp_at bytes

module _ (bytes : List ℕ) where
  no_proof : (d b : ℕ) → bit (map_in bytes) b ≡ false → none ≡ proof_at d b bytes
  no_proof d b e = rw e

  no_timestamp : bit (map_in bytes) 3 ≡ false → none ≡ timestamp_at bytes
  no_timestamp e = rw e

  with_timestamp : bit (map_in bytes) 3 ≡ true → some (timestamp_in bytes) ≡ timestamp_at bytes
  with_timestamp e = rw e

  kind_taken : {kind : ℕ} {party : Party} (t : Taken (map_in bytes) kind party) → kind_of (message_of t bytes) ≡ kind
  kind_taken (read_stamp e) = refl
  kind_taken (prepare e) = refl
  kind_taken (write e) = refl
  kind_taken (read e) = refl
  kind_taken (stamp e) = refl
  kind_taken (prepared e) = refl
  kind_taken (written e) = refl
  kind_taken (card e) = refl

  seen_taken : {kind : ℕ} {party : Party} (t : Taken (map_in bytes) kind party) → kind_of (message_of t bytes) ≡ kind_in bytes → Seen party bytes (message_of t bytes)
  seen_taken (read_stamp e) k = record { sender = refl; kind = k; prepared = no_proof 32 6 (cc); written = no_proof 0 7 (cc); timestamp = no_timestamp (cc) }
  seen_taken (prepare e) k = record { sender = refl; kind = k; prepared = refl; written = refl; timestamp = with_timestamp (cc) }
  seen_taken (write e) k = record { sender = refl; kind = k; prepared = let set : bit (map_in bytes) 6 ≡ true = cc in rw set; written = no_proof 0 7 (cc); timestamp = no_timestamp (cc) }
  seen_taken (read e) k = record { sender = refl; kind = k; prepared = no_proof 32 6 (cc); written = no_proof 0 7 (cc); timestamp = no_timestamp (cc) }
  seen_taken (stamp e) k = record { sender = refl; kind = k; prepared = refl; written = no_proof 0 7 (cc); timestamp = no_timestamp (cc) }
  seen_taken (prepared e) k = record { sender = refl; kind = k; prepared = no_proof 32 6 (cc); written = no_proof 0 7 (cc); timestamp = with_timestamp (cc) }
  seen_taken (written e) k = record { sender = refl; kind = k; prepared = no_proof 32 6 (cc); written = no_proof 0 7 (cc); timestamp = with_timestamp (cc) }
  seen_taken (card e) k = record { sender = refl; kind = k; prepared = refl; written = no_proof 0 7 (cc); timestamp = no_timestamp (cc) }

pub seen : (party : Party) (bytes : List ℕ) (message : Message) → message_in party bytes ≡ accepted message → Seen party bytes message
unfolding fields_in
seen party bytes message e =
    let p = parsed party bytes (fields_in bytes) (message_reads party bytes message e) in
    let same : message_of p.taken bytes ≡ message = cc p.decodes in
    subst (λ (m : Message). Seen party bytes m) same (seen_taken bytes p.taken (kind_taken bytes p.taken))

-- Where the proofs stand, by the fields.
pub record Placed (bytes : List ℕ) (fields : Fields) : Type 0 where
  pub whole : Framed bytes
  pub map : fields.map ≡ map_in bytes
  pub sender : fields.sender ≡ from_bytes (field bytes 1)
  pub timestamp : fields.timestamp ≡ of_number (timestamp_in bytes)
  pub prepared : fields.prepared ≡ span_of bytes 6
  pub written : fields.written ≡ span_of bytes 7
  pub register : fields.register ≡ register_in bytes

pub fields_placed : (bytes : List ℕ) (fields : Fields) → framed bytes (accepted (fields_in bytes)) ≡ accepted fields → Placed bytes fields
unfolding fields_in
fields_placed bytes fields e =
    let found = framed_accepted bytes (accepted (fields_in bytes)) fields e in
    let same : fields_in bytes ≡ fields = cc found.1 in
    subst (λ (fs : Fields). Placed bytes fs) same (own found.0)
  where
    own : Framed bytes → Placed bytes (fields_in bytes)
    own f =
        record {
          whole = f;
          map = refl;
          sender = refl;
          timestamp = refl;
          prepared = refl;
          written = refl;
          register = refl;
        }

pub placed_reading : (party : Party) (bytes : List ℕ) (fields : Fields) → reading party bytes ≡ accepted fields → Placed bytes fields
placed_reading party bytes fields e =
    let p = parsed party bytes fields e in
    fields_placed bytes fields (framed_passes bytes (accepted (fields_in bytes)) p.framed ∙ ap accepted (sym p.same))

pub all_signatures : (bytes : List ℕ) (fields : Fields) → Placed bytes fields → count_in bytes fields ≡ signature_count bytes
unfolding signature_count fields_in
all_signatures bytes fields p = rw (p.prepared, p.written)

-- Entries behind their number.
module _ (d : ℕ) (part : List ℕ) (ends : 6 + d + 65 * get_or part (5 + d) 0 ≡ length part) where
  count_behind : length (drop (6 + d) part) / 65 ≡ get_or part (5 + d) 0
  count_behind = rw length-drop (omega arith)

  entries_behind : entries_in (drop (6 + d) part) ≡ read_entries (get_or part (5 + d) 0) (drop (6 + d) part)
  entries_behind = rw count_behind

none_left : (verdicts : List ℕ) → length verdicts ≡ 0 → verdicts ≡ []
none_left [] e = refl
none_left (v ∷ verdicts) e = absurd (omega arith)

-- A proof is as many bytes as its number of entries says; none where there is none.
module _ (bytes : List ℕ) (f : Framed bytes) {d b : ℕ} (bit_is : ProofBit d b) where
  pub proof_count : length (entries_if_there (proof_at d b bytes)) ≡ count_part d (field bytes b)
  unfolding count_part
  proof_count = go (bit (map_in bytes) b) refl
    where
      go : (t : Bool) → bit (map_in bytes) b ≡ t → length (entries_if_there (cond t (some (proof_from d (field bytes b))) none)) ≡ get_or (field bytes b) (5 + d) 0
      go true e = length_read (get_or (field bytes b) (5 + d) 0) (drop (6 + d) (field bytes b))
      go false e = rw (field_absent bytes b e)

  pub proof_size : 65 * count_part d (field bytes b) ≤ length (field bytes b)
  unfolding count_part
  proof_size = go (bit (map_in bytes) b) refl
    where
      go : (t : Bool) → bit (map_in bytes) b ≡ t → 65 * get_or (field bytes b) (5 + d) 0 ≤ length (field bytes b)
      go true e = omega (arith, proof_ends bytes f bit_is e)
      go false e = rw (field_absent bytes b e) (omega arith)

  -- 9 to 11 of a proof with its verdicts.
  proof_judged_lem : (n : ℕ) (verdicts : List ℕ) → length verdicts ≡ count_part d (field bytes b) → proof_judged d n (field bytes b) verdicts ≡ outcome_if_there n verdicts (proof_at d b bytes)
  unfolding proof_judged count_part entries_part
  proof_judged_lem n verdicts size = go (bit (map_in bytes) b) refl
    where
      go : (t : Bool) → bit (map_in bytes) b ≡ t
          → cond (eqb (length (field bytes b)) 0) (accepted empty) (proof_outcome n (entries_in (drop (6 + d) (field bytes b))) verdicts (number (timestamp_part (field bytes b))))
          ≡ outcome_if_there n verdicts (cond t (some (proof_from d (field bytes b))) none)
      go true e =
          let part = field bytes b in
          let ends = proof_ends bytes f bit_is e in
          rw (ne_eqb (length part) 0 (λ z. omega arith), entries_behind d part ends, front_timestamp part (omega arith), number_of_number (from_bytes (take 5 part)))
      go false e =
          let nothing : verdicts ≡ [] = none_left verdicts (size ∙ rw (field_absent bytes b e)) in
          rw (field_absent bytes b e, nothing) (sym (proof_missing n d))

-- A message has as many signatures as its proofs say: its own and those of their entries.
pub entries_counted_lem : (party : Party) (bytes : List ℕ) (message : Message) → message_in party bytes ≡ accepted message → Framed bytes → 1 + length (entries_of message) ≡ signature_count bytes
unfolding entries_of signature_count fields_in field
entries_counted_lem party bytes message e f =
    let s = seen party bytes message e in
    let first = proof_count bytes f prepared_bit in
    let second = proof_count bytes f written_bit in
    rw (s.prepared, s.written, length-append) (omega arith)

-- Test 7 by the places of the proofs.
pub one_each : (party : Party) (bytes : List ℕ) (message : Message) (verdicts : List ℕ) → message_in party bytes ≡ accepted message → Framed bytes
    → one_verdict_each message verdicts ≡ (eqb (length verdicts) (signature_count bytes) && all (λ v. leb v 1) verdicts)
unfolding one_verdict_each
one_each party bytes message verdicts e f = rw (entries_counted_lem party bytes message e f)

-- Tests 9 to 11 by the places of the proofs.
own_timestamp : (bytes : List ℕ) → cond (bit (map_in bytes) 3) (is_issued (of_number (timestamp_in bytes))) true ≡ if_there issued (timestamp_at bytes)
own_timestamp bytes = go (bit (map_in bytes) 3)
  where
    go : (t : Bool) → cond t (is_issued (of_number (timestamp_in bytes))) true ≡ if_there issued (cond t (some (timestamp_in bytes)) none)
    go true = refl
    go false = refl

judged : (f : ℕ) (party : Party) (bytes : List ℕ) (message : Message) (first second : List ℕ) → message_in party bytes ≡ accepted message → Framed bytes
    → length first ≡ count_part 32 (field bytes 6)
    → length second ≡ count_part 0 (field bytes 7)
    → first_refusal (proof_judged 32 f (field bytes 6) first) (proof_judged 0 f (field bytes 7) second) (cond (bit (map_in bytes) 3) (is_issued (of_number (timestamp_in bytes))) true)
    ≡ proven f message (first ++ second) (accepted (prepared_signers (prepared_of message)))
judged f party bytes message first second e whole first_size second_size =
    let s = seen party bytes message e in
    rw (proof_judged_lem bytes whole prepared_bit f first first_size, proof_judged_lem bytes whole written_bit f second second_size, own_timestamp bytes, ← s.prepared, ← s.written, ← s.timestamp)
    (proven_smallest f message first second)

-- Tests 2 to 8 by the bytes.
opened_read : (party : Party) (f : ℕ) (withdrawn : ClientSet) (bytes verdicts : List ℕ) (fields : Fields) → accepted fields ≡ reading party bytes
    → opened party f withdrawn bytes verdicts
    ≡ guard 6 (in_its_range f (numbered party fields.sender)) (guard 19 (may_send (kind_number fields.kind) (numbered party fields.sender)) (guard 20 (is_register fields.register)
    (guard 7 (verdicts_fit (count_in bytes fields) verdicts) (guard 8 (own_genuine verdicts) (guard 23 (is_served withdrawn (numbered party fields.sender)) (accepted fields))))))
unfolding opened fields_in
opened_read party f withdrawn bytes verdicts fields e =
    let p = parsed party bytes fields (sym e) in
    let m = message_of p.taken bytes in
    let s = seen party bytes m p.decodes in
    let at = placed_reading party bytes fields (sym e) in
    let kind : kind_of m ≡ kind_number fields.kind = s.kind ∙ sym p.kind in
    let sender : sender_of m ≡ numbered party fields.sender = s.sender ∙ ap (numbered party) (sym at.sender) in
    rw (p.decodes, sender, kind, one_each party bytes m verdicts p.decodes p.framed, ← all_signatures bytes fields at, p.same)

-- Each refusal, and the fields behind all tests.
module _ (party : Party) (f : ℕ) (withdrawn : ClientSet) (bytes verdicts : List ℕ) (fields : Fields) (known : accepted fields ≡ reading party bytes) where
  pub out_of_range : false ≡ in_its_range f (numbered party fields.sender) → refused 6 ≡ opened party f withdrawn bytes verdicts
  unfolding guard
  out_of_range e = rw (opened_read party f withdrawn bytes verdicts fields known, ← e)

  module _ (ranged : true ≡ in_its_range f (numbered party fields.sender)) where
    pub of_viewer : false ≡ may_send (kind_number fields.kind) (numbered party fields.sender) → refused 19 ≡ opened party f withdrawn bytes verdicts
    unfolding guard
    of_viewer e = rw (opened_read party f withdrawn bytes verdicts fields known, ← ranged, ← e)

    module _ (may : true ≡ may_send (kind_number fields.kind) (numbered party fields.sender)) where
      pub for_none : false ≡ is_register fields.register → refused 20 ≡ opened party f withdrawn bytes verdicts
      unfolding guard
      for_none e = rw (opened_read party f withdrawn bytes verdicts fields known, ← ranged, ← may, ← e)

      module _ (registered : true ≡ is_register fields.register) (n : ℕ) (count : n ≡ count_in bytes fields) where
        pub not_each : false ≡ verdicts_fit n verdicts → refused 7 ≡ opened party f withdrawn bytes verdicts
        unfolding guard
        not_each e = rw (opened_read party f withdrawn bytes verdicts fields known, ← ranged, ← may, ← registered, ← count, ← e)

        module _ (each : true ≡ verdicts_fit n verdicts) where
          pub forged : (get_or verdicts 0 0 ≡ 1 → ⊥) → refused 8 ≡ opened party f withdrawn bytes verdicts
          unfolding guard
          forged e = rw (opened_read party f withdrawn bytes verdicts fields known, ← ranged, ← may, ← registered, ← count, ← each, ne_eqb (get_or verdicts 0 0) 1 e)

          module _ (own : get_or verdicts 0 0 ≡ 1) where
            pub of_withdrawn : false ≡ is_served withdrawn (numbered party fields.sender) → refused 23 ≡ opened party f withdrawn bytes verdicts
            unfolding guard
            of_withdrawn e = rw (opened_read party f withdrawn bytes verdicts fields known, ← ranged, ← may, ← registered, ← count, ← each, eq-eqb (get_or verdicts 0 0) 1 own, ← e)

            pub open_to : true ≡ is_served withdrawn (numbered party fields.sender) → accepted fields ≡ opened party f withdrawn bytes verdicts
            unfolding guard
            open_to e = rw (opened_read party f withdrawn bytes verdicts fields known, ← ranged, ← may, ← registered, ← count, ← each, eq-eqb (get_or verdicts 0 0) 1 own, ← e)

pub opened_unread : (party : Party) (f : ℕ) (withdrawn : ClientSet) (bytes verdicts : List ℕ) (n : ℕ) → refused n ≡ reading party bytes → refused n ≡ opened party f withdrawn bytes verdicts
unfolding opened
opened_unread party f withdrawn bytes verdicts n e = rw (message_refused party bytes n (sym e))

-- Tests 9 to 11 from what the code finds, part by part: the entries' verdicts are so many for the prepared proof, and the rest.
module _ (f : ℕ) (bytes verdicts : List ℕ) (fields : Fields) (ready : Ready bytes verdicts fields) where
  pub judged_parts : (party : Party) (message : Message) → message_in party bytes ≡ accepted message
      → (let n = count_part 32 (part_at bytes fields.prepared) in
      first_refusal (proof_judged 32 f (part_at bytes fields.prepared) (take n (drop 1 verdicts))) (proof_judged 0 f (part_at bytes fields.written) (drop n (drop 1 verdicts)))
      (cond (bit fields.map 3) (is_issued fields.timestamp) true))
      ≡ proven f message (drop 1 verdicts) (accepted (prepared_signers (prepared_of message)))
  unfolding signature_count fields_in field
  judged_parts party message e =
      let p = fields_placed bytes fields ready.whole in
      let n = count_part 32 (field bytes 6) in
      let rest = drop 1 verdicts in
      let size = ready.one_each in
      rw (p.prepared, p.written, p.map, p.timestamp)
      (judged f party bytes message (take n rest) (drop n rest) e p.whole (length-take-le n rest (rw length-drop (omega arith))) (simp length-drop (omega arith))
      ∙ ap (λ (l : List ℕ). proven f message l (accepted (prepared_signers (prepared_of message)))) (take-append-drop n rest))
