-- The signatures of a message by its bytes: how many there are, and the i-th of them. Assumes nothing.
use Rattle.std.proofs.Common.{◌≡◌, Option as Found, Some, None, Result, Ok, Err, ℕ, zero, suc, ◌+◌, ◌-◌, ◌*◌, ◌<◌, ◌≤◌, Bool, true, false, List, [], ◌∷◌, ◌++◌, length, get_or, take, drop, sym, refl, ap, ◌∙◌, subst, arith, length-append, length-drop, length-take, get_or-drop, drop-drop, le-ltb, ltb, ltb-true, ltb-false, cond, le-leb}
use borrow.Author.Tests.{lt-leb}
use Rattle.std.proofs.lemmas.Result.{err_from_is_err_and}
use Rattle.std.specs.Result.{IsErrAnd}
use mathlib.Core.Option.{Option, none, some}
use lib.ListN.{get_elem?}
use Rattle.base.specs.BigEndian.{from_bytes}
use Rattle.base.specs.BitMap.{bit}
use Rattle.base.specs.Bytes.{filled}
use Rattle.base.specs.Outcome.{Outcome, accepted, refused, guard}
use Rattle.base.specs.Refusal.{number_of}
use Rattle.base.specs.Timestamp.{number}
use Rattle.base.specs.declared.party.RegisterId.{RegisterId}
use Rattle.base.specs.declared.party.ReplicaId.{ReplicaId}
use Rattle.base.specs.declared.refusal.Refusal.{Refusal}
use Rattle.base.specs.declared.refusal.Refusal.TheVariants.{OutputTooShort}
use Rattle.base.proofs.Apart.{apart}
use Rattle.base.proofs.Filling.{filled_whole}
use Rattle.base.proofs.Outcome.{guard_passes, guard_refuses}
use Rattle.base.proofs.Timestamps.{number_of_number}
use Rattle.wire.specs.Acceptance.{Sender, replica, numbered}
use Rattle.wire.specs.Accepting.{count_in}
use Rattle.wire.specs.Checks.{prepared_of, written_of, entries_if_there, entries_of}
use Rattle.wire.specs.Decode.{for_register, register_in, reading, fields_in}
use Rattle.wire.specs.Layout.{map_in, field, signature}
use Rattle.wire.specs.Message.{Message, PREPARED, WRITTEN, body, longest}
use Rattle.wire.specs.Parts.{part_at, proof_part, timestamp_part, digest_part, count_part, entries_part}
use Rattle.wire.specs.Proof.{Entry, Proof, proof_from, read_entries}
use Rattle.wire.specs.Signatures.{Signature, signed_by, prepared_signatures, written_signatures, signatures_if_there, signatures_of, signatures_to, signature_to, signer_of, signer_at, ShowsSignature, EntriesStand}
use Rattle.wire.specs.Putting.{Put}
use Rattle.wire.specs.Writing.{roomy}
use Rattle.wire.specs.declared.message.Fields.{Fields}
use Rattle.wire.specs.declared.message.Party.{Party}
use Rattle.wire.specs.declared.signatures.Signed.{Signed}
use Rattle.wire.specs.declared.signatures.Signer.{Signer}
use Rattle.wire.proofs.Tests6To11.{seen, placed_reading, all_signatures, proof_size, entries_counted_lem}
use Rattle.wire.proofs.FieldPlaces.{field_absent, length_field, place_within, place_rises}
use Rattle.wire.proofs.MessageParts.{prepared_is, written_is, prepared_shown, written_shown}
use Rattle.wire.proofs.ReadingByKind.{ProofBit, prepared_bit, written_bit, proof_at, message_of, parsed, proof_ends, message_refused, decode_joins, decode_refused}
use Rattle.wire.proofs.ProofBytes.{length_read, front_timestamp}

-- ---- How many

pub length_signed : (x : RegisterId) (message : ReplicaId → Message) (entries : List Entry) → length (signed_by x message entries) ≡ length entries
length_signed x message [] = refl
length_signed x message (entry ∷ entries) = ap suc (length_signed x message entries)

-- The message whose signature an entry of a proof is.
abbrev Vouching : ℕ → Type 0
Vouching d = Proof d → ReplicaId → Message

abbrev as_prepared : Vouching 32
as_prepared p id = PREPARED id p.timestamp p.digest

abbrev as_written : Vouching 0
as_written p id = WRITTEN id p.timestamp

-- The signatures of a proof that may be missing.
abbrev of_proof : {d : ℕ} → RegisterId → Vouching d → Option (Proof d) → List Signature
of_proof {d} x message proof = signatures_if_there (λ (p : Proof d). signed_by x (message p) p.entries) proof

length_of_lem : {d : ℕ} (x : RegisterId) (message : Vouching d) (proof : Option (Proof d)) → length (of_proof x message proof) ≡ length (entries_if_there proof)
length_of_lem x message none = refl
length_of_lem x message (some proof) = length_signed x (message proof) proof.entries

-- Its own, and one an entry: as many as verdicts that test 7 asks for.
pub length_signatures : (bytes : List ℕ) (x : RegisterId) (message : Message) → length (signatures_of bytes (for_register x message)) ≡ 1 + length (entries_of message)
unfolding entries_of
length_signatures bytes x message =
    let first = length_of_lem x as_prepared (prepared_of message) in
    let second = length_of_lem x as_written (written_of message) in
    simp length-append (omega arith)

-- Of bytes that can be read, as many as their fields say; of others none.
pub signatures_counted : (party : Party) (bytes : List ℕ) (fields : Fields) → reading party bytes ≡ accepted fields → length (signatures_to party bytes) ≡ count_in bytes fields
unfolding signatures_to
signatures_counted party bytes fields e =
    let p = parsed party bytes fields e in
    let m = message_of p.taken bytes in
    rw (decode_joins party bytes m p.decodes)
    (length_signatures bytes (register_in bytes) m ∙ entries_counted_lem party bytes m p.decodes p.framed ∙ sym (all_signatures bytes fields (placed_reading party bytes fields e)))

-- They are few, since each has 64 bytes of the message.
pub few_signatures : (party : Party) (bytes : List ℕ) (fields : Fields) → reading party bytes ≡ accepted fields → count_in bytes fields ≤ 64
unfolding field
few_signatures party bytes fields e =
    let at = placed_reading party bytes fields e in
    let whole = at.whole in
    let short = whole.short in
    let first = proof_size bytes whole prepared_bit in
    let second = proof_size bytes whole written_bit in
    let ends = place_within bytes whole 8 (omega arith) in
    rw (at.prepared, at.written) (omega (arith, length_field bytes whole 6 (omega arith), length_field bytes whole 7 (omega arith), place_rises bytes 6 7 (omega arith), place_rises bytes 7 8 (omega arith)))

pub no_signatures : (party : Party) (bytes : List ℕ) (n : ℕ) → reading party bytes ≡ refused n → length (signatures_to party bytes) ≡ 0
unfolding signatures_to
no_signatures party bytes n e = rw (decode_refused party bytes n (message_refused party bytes n e))

-- ---- The i-th

-- An entry's signature: its replica's, over that replica's message; the 64 bytes that stand behind the replica's number.
abbrev entry_signature : RegisterId → (ReplicaId → Message) → List ℕ → ℕ → Signature
entry_signature x message bytes at =
    let id : ReplicaId = record { 0 = get_or bytes at 0 } in
    record { signer = replica id; covers = body x (message id); bytes = take 64 (drop (suc at) bytes) }

signed_at : (x : RegisterId) (message : ReplicaId → Message) (n : ℕ) (bytes : List ℕ) (i : ℕ) → i < n
    → get_elem? (signed_by x message (read_entries n bytes)) i ≡ some (entry_signature x message bytes (65 * i))
unfolding read_entries
signed_at x message zero bytes i h = absurd (omega arith)
signed_at x message (suc n) bytes zero h = refl
signed_at x message (suc n) bytes (suc i) h =
    let next : 65 + 65 * i ≡ 65 * suc i = omega arith in
    let behind : 65 + suc (65 * i) ≡ suc (65 * suc i) = omega arith in
    signed_at x message n (drop 65 bytes) i (omega arith) ∙ rw (get_or-drop 65 bytes (65 * i) 0, drop-drop (suc (65 * i)) 65 bytes, next, behind)

-- Of a list behind another.
module _ {A : Type 0} where
  in_first : (a b : List A) (i : ℕ) → i < length a → get_elem? (a ++ b) i ≡ get_elem? a i
  in_first [] b i h = absurd (omega arith)
  in_first (x ∷ a) b zero h = refl
  in_first (x ∷ a) b (suc i) h = in_first a b i (omega arith)

  in_second : (a b : List A) (i : ℕ) → length a ≤ i → get_elem? (a ++ b) i ≡ get_elem? b (i - length a)
  in_second [] b i h = let all : i - 0 ≡ i = omega arith in rw all
  in_second (x ∷ a) b zero h = absurd (omega arith)
  in_second (x ∷ a) b (suc i) h = let less : suc i - suc (length a) ≡ i - length a = omega arith in in_second a b i (omega arith) ∙ rw less

  pub behind_all : (a : List A) (i : ℕ) → length a ≤ i → get_elem? a i ≡ none
  behind_all [] i h = refl
  behind_all (x ∷ a) zero h = absurd (omega arith)
  behind_all (x ∷ a) (suc i) h = behind_all a i (omega arith)

-- Of a proof with a digest of d bytes, by the parts that the code answers.
module _ (d : ℕ) (proof : List ℕ) (stand : EntriesStand d proof) (i : ℕ) where
  abbrev id_at : ReplicaId
  id_at = record { 0 = get_or (entries_part d proof) (65 * i) 0 }

  entry_inside : i < count_part d proof → 65 * i < length (entries_part d proof)
  entry_inside h = let room = stand in omega arith

  counted : {signer : ReplicaId} → Some signer ≡ signer_at d proof i → (i < count_part d proof) × (signer ≡ id_at)
  counted {signer} e = go (ltb i (count_part d proof)) refl e
    where
      go : (b : Bool) → ltb i (count_part d proof) ≡ b → Some signer ≡ cond b (Some id_at) None → (i < count_part d proof) × (signer ≡ id_at)
      go true t same = (ltb-true i (count_part d proof) t, let there : signer ≡ id_at = cc in there)
      go false t same = apart (cc)

  not_counted : None ≡ signer_at d proof i → count_part d proof ≤ i
  not_counted e = go (ltb i (count_part d proof)) refl e
    where
      go : (b : Bool) → ltb i (count_part d proof) ≡ b → None ≡ cond b (Some id_at) None → count_part d proof ≤ i
      go true t same = apart (cc)
      go false t same = ltb-false i (count_part d proof) t

  module _ (x : RegisterId) (message : ReplicaId → Message) where
    pub none_of : None ≡ signer_at d proof i → get_elem? (signed_by x message (proof_from d proof).entries) i ≡ none
    unfolding count_part
    none_of e = behind_all (signed_by x message (proof_from d proof).entries) i (rw (length_signed x message (proof_from d proof).entries, length_read (get_or proof (5 + d) 0) (drop (6 + d) proof)) (not_counted e))

    pub one_of : (signer : ReplicaId) → Some signer ≡ signer_at d proof i
        → get_elem? (signed_by x message (proof_from d proof).entries) i ≡ some (record { signer = replica signer; covers = body x (message signer); bytes = take 64 (drop (suc (65 * i)) (entries_part d proof)) })
    unfolding count_part entries_part
    one_of signer e = let k = counted e in rw k.1 (signed_at x message (get_or proof (5 + d) 0) (drop (6 + d) proof) i k.0)

  module _ {signer : ReplicaId} (e : Some signer ≡ signer_at d proof i) where
    long : 6 + d ≤ length proof
    unfolding entries_part
    long = let size = length-drop (6 + d) proof in let there = entry_inside (counted e).0 in omega arith

    pub timestamp_is : from_bytes (take 5 proof) ≡ number (timestamp_part proof)
    timestamp_is = let enough = long in sym (ap number (front_timestamp proof (omega arith)) ∙ number_of_number (from_bytes (take 5 proof)))

    pub digest_is : take d (drop 5 proof) ≡ filled d (digest_part d proof)
    unfolding digest_part
    digest_is =
        let enough = long in
        let whole : length (take d (drop 5 proof)) ≡ d = simp (length-take, length-drop) (omega arith) in
        rw (le-ltb (length proof) (5 + d) (omega arith), filled_whole d (take d (drop 5 proof)) whole)

-- The signature of an entry of a prepared proof, and of a written one.
abbrev pub entry_bytes : ℕ → List ℕ → ℕ → List ℕ
entry_bytes d proof i = take 64 (drop (suc (65 * i)) (entries_part d proof))

pub prepared_at : (x : RegisterId) (proof : List ℕ) (i : ℕ) (signer : ReplicaId) → EntriesStand 32 proof → Some signer ≡ signer_at 32 proof i
    → get_elem? (prepared_signatures x (proof_from 32 proof)) i
    ≡ some (record { signer = replica signer; covers = body x (PREPARED signer (number (timestamp_part proof)) (filled 32 (digest_part 32 proof))); bytes = entry_bytes 32 proof i })
prepared_at x proof i signer stand e =
    rw (← timestamp_is 32 proof stand i e, ← digest_is 32 proof stand i e) (one_of 32 proof stand i x (λ id. PREPARED id (from_bytes (take 5 proof)) (take 32 (drop 5 proof))) signer e)

pub written_at : (x : RegisterId) (proof : List ℕ) (i : ℕ) (signer : ReplicaId) → EntriesStand 0 proof → Some signer ≡ signer_at 0 proof i
    → get_elem? (written_signatures x (proof_from 0 proof)) i ≡ some (record { signer = replica signer; covers = body x (WRITTEN signer (number (timestamp_part proof))); bytes = entry_bytes 0 proof i })
written_at x proof i signer stand e = rw (← timestamp_is 0 proof stand i e) (one_of 0 proof stand i x (λ id. WRITTEN id (from_bytes (take 5 proof))) signer e)

module _ {d : ℕ} (x : RegisterId) (message : Vouching d) where
  part_size : (proof : List ℕ) → length (of_proof x message (proof_part d proof)) ≡ count_part d proof
  unfolding count_part
  part_size [] = refl
  part_size (byte ∷ proof) = length_of_lem x message (proof_part d (byte ∷ proof)) ∙ length_read _ _

  -- No bytes are no proof, and a proof of no entries.
  pub all_there : (proof : List ℕ) → of_proof x message (proof_part d proof) ≡ signed_by x (message (proof_from d proof)) (proof_from d proof).entries
  unfolding read_entries
  all_there [] = refl
  all_there (byte ∷ proof) = refl

-- Of both proofs.
abbrev of_prepared : RegisterId → List ℕ → List Signature
of_prepared x proof = of_proof x as_prepared (proof_part 32 proof)

abbrev of_written : RegisterId → List ℕ → List Signature
of_written x proof = of_proof x as_written (proof_part 0 proof)

module _ (x : RegisterId) (prepared written : List ℕ) (i : ℕ) where
  pub of_first : i < count_part 32 prepared → get_elem? (prepared_signatures x (proof_from 32 prepared)) i ≡ get_elem? (of_prepared x prepared ++ of_written x written) i
  of_first h =
      let size = part_size x as_prepared prepared in
      sym (in_first (of_prepared x prepared) (of_written x written) i (omega arith) ∙ rw (all_there x as_prepared prepared))

  pub of_second : count_part 32 prepared ≤ i → get_elem? (written_signatures x (proof_from 0 written)) (i - count_part 32 prepared) ≡ get_elem? (of_prepared x prepared ++ of_written x written) i
  of_second past =
      let size = part_size x as_prepared prepared in
      sym (in_second (of_prepared x prepared) (of_written x written) i (omega arith) ∙ rw (size, all_there x as_written written))

-- Of a message that was read.
module _ (party : Party) (bytes : List ℕ) (fields : Fields) (e : reading party bytes ≡ accepted fields) where
  pub own_at : signature_to party bytes 0 ≡ accepted (some (record { signer = numbered party fields.sender; covers = take (length bytes - 64) bytes; bytes = signature bytes }))
  unfolding signature_to
  own_at =
      let p = parsed party bytes fields e in
      let s = seen party bytes _ p.decodes in
      rw (decode_joins party bytes _ p.decodes, s.sender, ← (placed_reading party bytes fields e).sender)

  register_read : fields.register ≡ register_in bytes
  unfolding fields_in
  register_read = rw (parsed party bytes fields e).same

  both : RegisterId → List Signature
  both x = of_proof x as_prepared (proof_at 32 6 bytes) ++ of_proof x as_written (proof_at 0 7 bytes)

  pub entry_at : (i : ℕ) → signature_to party bytes (suc i) ≡ accepted (get_elem? (of_prepared fields.register (part_at bytes fields.prepared) ++ of_written fields.register (part_at bytes fields.written)) i)
  unfolding signature_to both
  entry_at i =
      let p = parsed party bytes fields e in
      let s = seen party bytes _ p.decodes in
      rw (decode_joins party bytes _ p.decodes, s.prepared, s.written, prepared_shown party bytes fields p, written_shown party bytes fields p)
      (ap (λ (x : RegisterId). accepted (get_elem? (both x) i)) (sym register_read))

  stand : {d b : ℕ} → ProofBit d b → EntriesStand d (field bytes b)
  unfolding count_part entries_part
  stand {d} {b} bit_is = go (bit (map_in bytes) b) refl
    where
      go : (t : Bool) → bit (map_in bytes) b ≡ t → 65 * count_part d (field bytes b) ≤ length (drop (6 + d) (field bytes b))
      go true set = let ends = proof_ends bytes (parsed party bytes fields e).framed bit_is set in rw length-drop (omega arith)
      go false clear = rw (field_absent bytes b clear) (omega arith)

  pub prepared_stand : EntriesStand 32 (part_at bytes fields.prepared)
  prepared_stand = rw (prepared_is party bytes fields (parsed party bytes fields e)) (stand prepared_bit)

  pub written_stand : EntriesStand 0 (part_at bytes fields.written)
  written_stand = rw (written_is party bytes fields (parsed party bytes fields e)) (stand written_bit)

pub unread_at : (party : Party) (bytes : List ℕ) (i n : ℕ) → reading party bytes ≡ refused n → signature_to party bytes i ≡ refused n
unfolding signature_to
unread_at party bytes i n e = rw (decode_refused party bytes n (message_refused party bytes n e))

-- ---- Answers

-- The bytes covered, stored in front of the output.
pub answers : {found : Outcome (Option Signature)} {old covers bytes : List ℕ} {sender : Sender} {signer : Signer} {most next : ℕ} {new : List ℕ}
    → found ≡ accepted (some (record { signer = sender; covers = covers; bytes = bytes })) → signer_of signer ≡ sender → Put old 0 covers most next new → ShowsSignature found old (Ok (Some (record { signer = signer; covered = next }))) new
answers {found} {old} {covers} {bytes} {sender} {signer} {most} {next} {new} e who a =
    let all : next ≡ length covers = omega (arith, a.behind) in
    let none : 0 + length covers ≡ length covers = omega arith in
    record { answered = rw (e, who, all); holds = a.holds ∙ rw (e, none) }

-- The same, found otherwise.
pub found_so : {found found' : Outcome (Option Signature)} {old : List ℕ} {answer : Result (Found Signed) Refusal} {new : List ℕ} → found ≡ found' → ShowsSignature found old answer new → ShowsSignature found' old answer new
found_so {old = old} {answer} {new} e a = subst (λ (f : Outcome (Option Signature)). ShowsSignature f old answer new) e a

-- No signature, or no message: the output is as it was.
pub no_answer : {found : Outcome (Option Signature)} {old : List ℕ} → found ≡ accepted none → ShowsSignature found old (Ok None) old
no_answer e = record { answered = rw e; holds = rw e }

pub refuses : {found : Outcome (Option Signature)} {old : List ℕ} {refusal : Refusal} → found ≡ refused (number_of refusal) → ShowsSignature found old (Err refusal) old
refuses e = record { answered = rw e; holds = rw e }

-- A refusal that was passed on.
pub refused_on : {found : Outcome (Option Signature)} {old : List ℕ} (answer : Result (Found Signed) Refusal) (refusal : Refusal) → IsErrAnd answer (λ e. e ≡ refusal) → found ≡ refused (number_of refusal) → ShowsSignature found old answer old
refused_on answer refusal was e = let p = err_from_is_err_and answer was in rw (p.1, p.2) (refuses e)

-- Test 1 before the rest.
pub no_room : (found : Outcome (Option Signature)) {old : List ℕ} → length old < longest → ShowsSignature (guard 1 (roomy old) found) old (Err OutputTooShort) old
no_room found {old} h = refuses (guard_refuses 1 (roomy old) found (lt-leb longest (length old) h))

pub with_room : {found : Outcome (Option Signature)} {old : List ℕ} {answer : Result (Found Signed) Refusal} {new : List ℕ} → longest ≤ length old → ShowsSignature found old answer new → ShowsSignature (guard 1 (roomy old) found) old answer new
with_room {found} {old} h a = found_so (sym (guard_passes 1 (roomy old) found (le-leb longest (length old) h))) a
