-- The fields of a message obey their rules; its size; the longest message. Assumes nothing.
use Rattle.std.proofs.Common.{◌≡◌, ℕ, zero, suc, ◌+◌, ◌<◌, ◌≤◌, true, List, [], ◌∷◌, length, get_or, replicate, sym, refl, ◌∙◌, arith, length-append}
use mathlib.Core.Option.{Option, none, some}
use Rattle.base.proofs.BigEndian.{length_to_bytes}
use Rattle.base.specs.Outcome.{accepted, guard}
use Rattle.base.specs.Range.{within}
use Rattle.base.specs.Rising.{rising}
use Rattle.base.specs.declared.party.RegisterId.{RegisterId}
use Rattle.wire.specs.Checks.{prepared_of, written_of, entries_of, all, one_verdict_each, shaped, proven, checked}
use Rattle.wire.specs.Layout.{fixed, repeated, proof_rule, rules}
use Rattle.wire.specs.Message.{Message, READ-STAMP, PREPARE, WRITE, READ, STAMP, PREPARED, WRITTEN, CARD, number_field, sized, proof_field, fields, joined, body, encode, IsSignature, ProofFits, IfThere, Fits, proof_size, EachFits, Legal, size, longest}
use Rattle.wire.specs.Proof.{Entry, Proof, PreparedProof, WrittenProof}
use Rattle.wire.proofs.WrittenPlaces.{content, Obeys, AllObey}
use Rattle.wire.proofs.ProofBytes.{length_proof, proof_obeys}

number_obeys : (width n : ℕ) → Obeys (fixed width) (number_field width n)
number_obeys width n rest = sym (length_to_bytes width n)

sized_obeys : (card : List ℕ) → Obeys (repeated 1 1) (sized card)
sized_obeys card rest = omega arith

field_obeys : {d : ℕ} (proof : Option (Proof d)) → IfThere ProofFits proof → Obeys (proof_rule d) (proof_field proof)
field_obeys none fits = tt
field_obeys (some p) fits = proof_obeys p fits

pub fields_obey : (x : RegisterId) (m : Message) → Fits m → AllObey rules (fields x m)
unfolding fields rules Fits
fields_obey x (READ-STAMP c n) fits = (number_obeys 1 1, (number_obeys 1 c.0, (number_obeys 8 n, (tt, (tt, (tt, (tt, (tt, (tt, (number_obeys 1 x.0, tt))))))))))
fields_obey x (PREPARE c t d proof last) fits =
    (number_obeys 1 2, (number_obeys 1 c.0, (tt, (number_obeys 5 t, ((λ rest. sym fits.2.0), (tt, (field_obeys proof fits.3, (field_obeys last fits.4, (tt, (number_obeys 1 x.0, tt))))))))))
fields_obey x (WRITE c card proof) fits = (number_obeys 1 3, (number_obeys 1 c.0, (tt, (tt, (tt, (sized_obeys card, (proof_obeys proof fits.2, (tt, (tt, (number_obeys 1 x.0, tt))))))))))
fields_obey x (READ c n) fits = (number_obeys 1 4, (number_obeys 1 c.0, (number_obeys 8 n, (tt, (tt, (tt, (tt, (tt, (tt, (number_obeys 1 x.0, tt))))))))))
fields_obey x (STAMP r n proof c) fits =
    (number_obeys 1 5, (number_obeys 1 r.0, (number_obeys 8 n, (tt, (tt, (tt, (field_obeys proof fits.2, (tt, (number_obeys 1 c.0, (number_obeys 1 x.0, tt))))))))))
fields_obey x (PREPARED r t d) fits = (number_obeys 1 6, (number_obeys 1 r.0, (tt, (number_obeys 5 t, ((λ rest. sym fits.2.0), (tt, (tt, (tt, (tt, (number_obeys 1 x.0, tt))))))))))
fields_obey x (WRITTEN r t) fits = (number_obeys 1 7, (number_obeys 1 r.0, (tt, (number_obeys 5 t, (tt, (tt, (tt, (tt, (tt, (number_obeys 1 x.0, tt))))))))))
fields_obey x (CARD r n card proof c) fits =
    (number_obeys 1 8, (number_obeys 1 r.0, (number_obeys 8 n, (tt, (tt, (sized_obeys card, (field_obeys proof fits.3, (tt, (number_obeys 1 c.0, (number_obeys 1 x.0, tt))))))))))

-- The lengths of fields, added up.
total : List (Option (List ℕ)) → ℕ
total [] = 0
total (f ∷ fs) = length (content f) + total fs

length_joined : (fs : List (Option (List ℕ))) → length (joined fs) ≡ total fs
unfolding joined total
length_joined [] = refl
length_joined (none ∷ fs) = length_joined fs ∙ omega arith
length_joined (some x ∷ fs) = rw (length-append, length_joined fs)

length_field : {d : ℕ} (proof : Option (Proof d)) → IfThere ProofFits proof → length (content (proof_field proof)) ≡ proof_size proof
length_field none fits = refl
length_field (some p) fits = length_proof p fits

total_size : (x : RegisterId) (m : Message) → Fits m → 2 + total (fields x m) + 64 ≡ size m
unfolding total fields Fits size
total_size x (READ-STAMP c n) fits = simp length_to_bytes (omega arith)
total_size x (PREPARE c t d proof last) fits =
    let digest = fits.2.0 in
    simp (length_to_bytes, length_field proof fits.3, length_field last fits.4) (omega arith)
total_size x (WRITE c card proof) fits = simp (length_to_bytes, length_proof proof fits.2) (omega arith)
total_size x (READ c n) fits = simp length_to_bytes (omega arith)
total_size x (STAMP r n proof c) fits = simp (length_to_bytes, length_field proof fits.2) (omega arith)
total_size x (PREPARED r t d) fits = let digest = fits.2.0 in simp length_to_bytes (omega arith)
total_size x (WRITTEN r t) fits = simp length_to_bytes (omega arith)
total_size x (CARD r n card proof c) fits = simp (length_to_bytes, length_field proof fits.3) (omega arith)

-- How many bytes are written.
pub encode_size : (x : RegisterId) (m : Message) (signature : List ℕ) → Fits m → IsSignature signature → length (encode x m signature) ≡ size m
unfolding encode body
encode_size x m signature fits sig =
    let whole = total_size x m fits in
    let end = sig.0 in
    simp (length-append, length_to_bytes, length_joined) (omega arith)

-- The card of a message, empty where it has none.
abbrev pub card_bytes : Message → List ℕ
card_bytes (READ-STAMP c n) = []
card_bytes (PREPARE c t d proof last) = []
card_bytes (WRITE c card proof) = card
card_bytes (READ c n) = []
card_bytes (STAMP r n proof c) = []
card_bytes (PREPARED r t d) = []
card_bytes (WRITTEN r t) = []
card_bytes (CARD r n card proof c) = card

few_entries : {d : ℕ} (proof : Option (Proof d)) → IfThere (λ (p : Proof d). length p.entries ≤ 11) proof → proof_size proof ≤ 721 + d
few_entries none few = omega arith
few_entries (some p) few = omega arith

-- "The longest message is 1,580 bytes", for cards of at most 17 bytes and proofs of at most 11 entries.
pub at_most_longest : (m : Message) → length (card_bytes m) ≤ 17
    → IfThere (λ (p : PreparedProof). length p.entries ≤ 11) (prepared_of m) → IfThere (λ (p : WrittenProof). length p.entries ≤ 11) (written_of m) → size m ≤ longest
unfolding size
at_most_longest (READ-STAMP c n) card prepared written = omega arith
at_most_longest (PREPARE c t d proof last) card prepared written = omega (arith, few_entries proof prepared, few_entries last written)
at_most_longest (WRITE c bytes proof) card prepared written = omega arith
at_most_longest (READ c n) card prepared written = omega arith
at_most_longest (STAMP r n proof c) card prepared written = omega (arith, few_entries proof prepared)
at_most_longest (PREPARED r t d) card prepared written = omega arith
at_most_longest (WRITTEN r t) card prepared written = omega arith
at_most_longest (CARD r n bytes proof c) card prepared written = omega (arith, few_entries proof prepared)

-- A PREPARE with two proofs of 11 entries, of different replicas, has that many, and passes 7 to 11 for f = 5.
blank : ℕ → Entry
blank id = record { signer = record { 0 = id }; signature = replicate 64 0 }

blanks : ℕ → ℕ → List Entry
blanks id zero = []
blanks id (suc n) = blank id ∷ blanks (suc id) n

pub longest_message : Message
longest_message =
    PREPARE (record { 0 = 1 }) 513 (replicate 32 0) (some (record { timestamp = 257; digest = replicate 32 0; entries = blanks 1 11 })) (some (record { timestamp = 257; digest = []; entries = blanks 1 11 }))

zeros : (n i : ℕ) → get_or (replicate n 0) i 0 < 256
zeros zero i = omega arith
zeros (suc n) zero = omega arith
zeros (suc n) (suc i) = zeros n i

blanks_fit : (id n : ℕ) → id + n < 256 → EachFits (blanks id n)
unfolding blank blanks
blanks_fit id zero h = tt
blanks_fit id (suc n) h = ((omega arith, (refl, zeros 64)), blanks_fit (suc id) n (omega arith))

pub longest_reached : (size longest_message ≡ longest) × Legal (record { 0 = 1 }) longest_message
unfolding size longest_message Fits blanks
longest_reached = (
  refl,
  record {
    register_fits = omega arith;
    fits = (omega arith, omega arith, (refl, zeros 32), (omega arith, (refl, zeros 32), (omega arith, blanks_fit 1 11 (omega arith))), (omega arith, (refl, λ i. omega arith), (omega arith, blanks_fit 1 11 (omega arith))));
    short = omega arith;
  },
)

pub longest_passes : checked 5 true longest_message (replicate 23 1) (accepted longest_message) ≡ accepted longest_message
unfolding longest_message blank blanks checked one_verdict_each entries_of all proven shaped rising within guard
longest_passes = refl
