-- The bytes of a message that fits are bytes. Assumes nothing.
use mathlib.Core.List.{List, [], ◌∷◌, ◌++◌}
use mathlib.Core.Option.{Option, none, some}
use Prim.Native.Nat.{ℕ}
use lib.ListN.{length}
use Rattle.base.specs.BigEndian.{to_bytes, Bytes}
use Rattle.base.specs.BitMap.{map_of}
use Rattle.base.specs.declared.party.RegisterId.{RegisterId}
use Rattle.base.proofs.BigEndian.{bytes_append, bytes_to_bytes}
use Rattle.wire.specs.Message.{Message, READ-STAMP, PREPARE, WRITE, READ, STAMP, PREPARED, WRITTEN, CARD, proof_field, fields, joined, body, encode, EntriesFit, ProofFits, IfThere, CardFits, Fits}
use Rattle.wire.specs.Proof.{Entry, Proof, entries_bytes, counted_entries, proof_bytes}
use Rattle.wire.specs.Writing.{unsigned, blank_signature}
use Rattle.protocol.proofs.ArrayLaws.{bytes_none, bytes_zeros, bytes_cons, entries_bytes_lem}

counted_bytes : (entries : List Entry) → EntriesFit entries → Bytes (counted_entries entries)
counted_bytes entries h = bytes_cons _ (entries_bytes entries) h.0 (entries_bytes_lem entries h.1)

proof_bytes_lem : {d : ℕ} (proof : Proof d) → ProofFits proof → Bytes (proof_bytes proof)
unfolding proof_bytes
proof_bytes_lem proof h =
    bytes_append (to_bytes 5 proof.timestamp) (proof.digest ++ counted_entries proof.entries) (bytes_to_bytes 5 proof.timestamp)
    (bytes_append proof.digest (counted_entries proof.entries) h.1.1 (counted_bytes proof.entries h.2))

if_proof : {d : ℕ} (proof : Option (Proof d)) → IfThere ProofFits proof → IfThere Bytes (proof_field proof)
if_proof none h = tt
if_proof (some proof) h = proof_bytes_lem proof h

sized_bytes : (card : List ℕ) → CardFits card → Bytes (length card ∷ card)
sized_bytes card h = bytes_cons _ card h.0 h.1

abbrev EachBytes : List (Option (List ℕ)) → Type 0
EachBytes [] = Unit {0}
EachBytes (field ∷ fields) = IfThere Bytes field × EachBytes fields

fields_bytes : (x : RegisterId) (m : Message) → Fits m → EachBytes (fields x m)
unfolding fields Fits
fields_bytes x (READ-STAMP c n) h = (bytes_to_bytes 1 1, (bytes_to_bytes 1 c.0, (bytes_to_bytes 8 n, (tt, (tt, (tt, (tt, (tt, (tt, (bytes_to_bytes 1 x.0, tt))))))))))
fields_bytes x (PREPARE c t d proof last) h =
    (bytes_to_bytes 1 2, (bytes_to_bytes 1 c.0, (tt, (bytes_to_bytes 5 t, (h.2.1, (tt, (if_proof proof h.3, (if_proof last h.4, (tt, (bytes_to_bytes 1 x.0, tt))))))))))
fields_bytes x (WRITE c card proof) h = (bytes_to_bytes 1 3, (bytes_to_bytes 1 c.0, (tt, (tt, (tt, (sized_bytes card h.1, (proof_bytes_lem proof h.2, (tt, (tt, (bytes_to_bytes 1 x.0, tt))))))))))
fields_bytes x (READ c n) h = (bytes_to_bytes 1 4, (bytes_to_bytes 1 c.0, (bytes_to_bytes 8 n, (tt, (tt, (tt, (tt, (tt, (tt, (bytes_to_bytes 1 x.0, tt))))))))))
fields_bytes x (STAMP r n proof c) h = (bytes_to_bytes 1 5, (bytes_to_bytes 1 r.0, (bytes_to_bytes 8 n, (tt, (tt, (tt, (if_proof proof h.2, (tt, (bytes_to_bytes 1 c.0, (bytes_to_bytes 1 x.0, tt))))))))))
fields_bytes x (PREPARED r t d) h = (bytes_to_bytes 1 6, (bytes_to_bytes 1 r.0, (tt, (bytes_to_bytes 5 t, (h.2.1, (tt, (tt, (tt, (tt, (bytes_to_bytes 1 x.0, tt))))))))))
fields_bytes x (WRITTEN r t) h = (bytes_to_bytes 1 7, (bytes_to_bytes 1 r.0, (tt, (bytes_to_bytes 5 t, (tt, (tt, (tt, (tt, (tt, (bytes_to_bytes 1 x.0, tt))))))))))
fields_bytes x (CARD r n card proof c) h =
    (bytes_to_bytes 1 8, (bytes_to_bytes 1 r.0, (bytes_to_bytes 8 n, (tt, (tt, (sized_bytes card h.2, (if_proof proof h.3, (tt, (bytes_to_bytes 1 c.0, (bytes_to_bytes 1 x.0, tt))))))))))

joined_bytes : (parts : List (Option (List ℕ))) → EachBytes parts → Bytes (joined parts)
unfolding joined
joined_bytes [] h = bytes_none
joined_bytes (none ∷ parts) h = joined_bytes parts h.1
joined_bytes (some bytes ∷ parts) h = bytes_append bytes (joined parts) h.0 (joined_bytes parts h.1)

pub unsigned_bytes : (x : RegisterId) (m : Message) → Fits m → Bytes (unsigned x m)
unfolding encode body blank_signature
unsigned_bytes x m h =
    bytes_append (body x m) blank_signature
    (bytes_append (to_bytes 2 (map_of (fields x m))) (joined (fields x m)) (bytes_to_bytes 2 _) (joined_bytes (fields x m) (fields_bytes x m h))) (bytes_zeros 64)
