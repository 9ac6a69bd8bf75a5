-- Proofs alone, with a digest of d bytes: what is written is read back, and what is read is written back. Assumes nothing.
use Rattle.std.proofs.Common.{◌≡◌, ℕ, zero, suc, ◌+◌, ◌-◌, ◌*◌, ◌≤◌, eqb, List, [], ◌∷◌, ◌++◌, length, get_or, take, drop, sym, refl, ap, ◌∙◌, subst, append_assoc, append-nil, arith, length-append, length-drop, length-take-le, take_all, drop-drop, take_at, take-add, drop_at, eq-eqb, eqb-true, le-ltb}
use lib.Seq.{split_at, get_or_at}
use Rattle.base.specs.BigEndian.{from_bytes, to_bytes, Bytes}
use Rattle.base.specs.Outcome.{accepted}
use Rattle.base.specs.Timestamp.{of_number}
use Rattle.base.proofs.BigEndian.{length_to_bytes, from_bytes_to_bytes}
use Rattle.base.proofs.Outcome.{guard_passes, guard_accepted}
use Rattle.wire.specs.Layout.{extent, proof_rule}
use Rattle.wire.specs.Message.{EachFits, ProofFits}
use Rattle.wire.specs.Parts.{timestamp_part}
use Rattle.wire.specs.Proof.{Entry, Proof, entries_bytes, counted_entries, proof_bytes, read_entries, proof_from, read_proof}
use Rattle.base.proofs.BigEndian.{bytes_take, bytes_drop}
use Rattle.wire.proofs.Widths.{rewritten, below}

-- Entries written.
pub length_entries : (es : List Entry) → EachFits es → length (entries_bytes es) ≡ 65 * length es
unfolding entries_bytes
length_entries [] fits = refl
length_entries (e ∷ es) fits =
    let ih = length_entries es fits.1 in
    let size = fits.0.1.0 in
    rw length-append (omega arith)

-- Then read, with anything behind them.
pub read_entries_lem : (es : List Entry) (rest : List ℕ) → EachFits es → read_entries (length es) (entries_bytes es ++ rest) ≡ es
unfolding entries_bytes read_entries
read_entries_lem [] rest fits = refl
read_entries_lem (e ∷ es) rest fits =
    let size = fits.0.1.0 in
    rw (append_assoc, take_at e.signature (entries_bytes es ++ rest) 64 size, drop_at e.signature (entries_bytes es ++ rest) 64 size, read_entries_lem es rest fits.1)

-- Entries read.
pub length_read : (n : ℕ) (bytes : List ℕ) → length (read_entries n bytes) ≡ n
unfolding read_entries
length_read zero bytes = refl
length_read (suc n) bytes = ap suc (length_read n (drop 65 bytes))

-- They have the bytes that they were read from.
pub bytes_read : (n : ℕ) (bytes : List ℕ) → 65 * n ≤ length bytes → entries_bytes (read_entries n bytes) ≡ take (65 * n) bytes
unfolding entries_bytes read_entries
bytes_read zero bytes h = refl
bytes_read (suc n) [] h = absurd (omega arith)
bytes_read (suc n) (b ∷ bytes) h =
    let long : 65 * n ≤ length (drop 64 bytes) = rw length-drop (omega arith) in
    let more : 65 * suc n ≡ suc (64 + 65 * n) = omega arith in
    rw (more, bytes_read n (drop 64 bytes) long, take-add 64 (65 * n) bytes)

pub entries_read : (n : ℕ) (bytes : List ℕ) → length bytes ≡ 65 * n → entries_bytes (read_entries n bytes) ≡ bytes
entries_read n bytes size = bytes_read n bytes (omega arith) ∙ take_all (65 * n) bytes (omega arith)

pub fits_read : (n : ℕ) (bytes : List ℕ) → 65 * n ≤ length bytes → Bytes bytes → EachFits (read_entries n bytes)
unfolding read_entries
fits_read zero bytes long small = tt
fits_read (suc n) bytes long small = (
  (small 0, (length-take-le 64 (drop 1 bytes) (simp length-drop (omega arith)), bytes_take 64 (drop 1 bytes) (bytes_drop 1 bytes small))),
  fits_read n (drop 65 bytes) (simp length-drop (omega arith)) (bytes_drop 65 bytes small),
)

-- A proof is as long as its number of entries says.
pub extent_is : (d : ℕ) (bytes : List ℕ) → extent (proof_rule d) bytes ≡ 6 + d + 65 * get_or bytes (5 + d) 0
extent_is d bytes = let before : 6 + d - 1 ≡ 5 + d = omega arith in rw before

-- A proof: timestamp and digest in front of its entries.
front_of : {d : ℕ} → Proof d → List ℕ
front_of p = to_bytes 5 p.timestamp ++ p.digest

front_is : {d : ℕ} (p : Proof d) → proof_bytes p ≡ front_of p ++ counted_entries p.entries
unfolding proof_bytes front_of
front_is p = sym (append_assoc (to_bytes 5 p.timestamp) p.digest (counted_entries p.entries))

-- Bytes of the length that a proof says.
module _ (d : ℕ) (bytes : List ℕ) (ends : 6 + d + 65 * get_or bytes (5 + d) 0 ≡ length bytes) where
  pub accepts_proof : read_proof d bytes ≡ accepted (proof_from d bytes)
  unfolding read_proof
  accepts_proof = guard_passes 4 (eqb (extent (proof_rule d) bytes) (length bytes)) (accepted (proof_from d bytes)) (eq-eqb (extent (proof_rule d) bytes) (length bytes) (extent_is d bytes ∙ ends))

  behind_size : length (drop (6 + d) bytes) ≡ 65 * get_or bytes (5 + d) 0
  behind_size = rw length-drop (omega arith)

  pub proof_back : Bytes bytes → proof_bytes (proof_from d bytes) ≡ bytes
  unfolding proof_bytes
  proof_back small =
      let next : suc (5 + d) ≡ 6 + d = omega arith in
      let split : bytes ≡ take (5 + d) bytes ++ get_or bytes (5 + d) 0 ∷ drop (6 + d) bytes = split_at bytes (5 + d) 0 (omega arith) ∙ rw next in
      rw (
        rewritten 5 (take 5 bytes) (length-take-le 5 bytes (omega arith)) (bytes_take 5 bytes small),
        length_read (get_or bytes (5 + d) 0) (drop (6 + d) bytes),
        entries_read (get_or bytes (5 + d) 0) (drop (6 + d) bytes) behind_size,
      )
      (sym (append_assoc (take 5 bytes) (take d (drop 5 bytes)) (get_or bytes (5 + d) 0 ∷ drop (6 + d) bytes)) ∙ rw (← take-add 5 d bytes) (sym split))

  pub proof_fits : Bytes bytes → ProofFits (proof_from d bytes)
  proof_fits small =
      let count = small (5 + d) in (
        below 5 (take 5 bytes) (length-take-le 5 bytes (omega arith)) (bytes_take 5 bytes small),
        (length-take-le d (drop 5 bytes) (simp length-drop (omega arith)), bytes_take d (drop 5 bytes) (bytes_drop 5 bytes small)),
        (rw length_read count, fits_read (get_or bytes (5 + d) 0) (drop (6 + d) bytes) (rw behind_size (omega arith)) (bytes_drop (6 + d) bytes small)),
      )

module _ {d : ℕ} (p : Proof d) (fits : ProofFits p) where
  front_size : length (front_of p) ≡ 5 + d
  unfolding front_of
  front_size = let digest = fits.1.0 in rw (length-append, length_to_bytes) (omega arith)

  pub length_proof : length (proof_bytes p) ≡ 6 + d + 65 * length p.entries
  length_proof = let front = front_size in let entries = length_entries p.entries fits.2.1 in rw (front_is p, length-append) (omega arith)

  count_at : (rest : List ℕ) → get_or (proof_bytes p ++ rest) (5 + d) 0 ≡ length p.entries
  count_at rest = rw (front_is p, append_assoc) (get_or_at (front_of p) (length p.entries) (entries_bytes p.entries ++ rest) 0 (5 + d) front_size)

  -- A proof that is written says its own length.
  pub proof_obeys : (rest : List ℕ) → extent (proof_rule d) (proof_bytes p ++ rest) ≡ length (proof_bytes p)
  proof_obeys rest = extent_is d (proof_bytes p ++ rest) ∙ rw (count_at rest) (sym length_proof)

  from_its_bytes : proof_from d (proof_bytes p) ≡ p
  from_its_bytes = λ i. record { timestamp = timestamp i; digest = digest i; entries = entries i }
    where
      timestamp : from_bytes (take 5 (proof_bytes p)) ≡ p.timestamp
      timestamp = unfold proof_bytes in rw (take_at (to_bytes 5 p.timestamp) (p.digest ++ counted_entries p.entries) 5 (length_to_bytes 5 p.timestamp)) (from_bytes_to_bytes 5 p.timestamp fits.0)

      digest : take d (drop 5 (proof_bytes p)) ≡ p.digest
      digest = unfold proof_bytes in rw (drop_at (to_bytes 5 p.timestamp) (p.digest ++ counted_entries p.entries) 5 (length_to_bytes 5 p.timestamp)) (take_at p.digest (counted_entries p.entries) d fits.1.0)

      behind : drop (6 + d) (proof_bytes p) ≡ entries_bytes p.entries ++ []
      behind =
          let next : 6 + d ≡ 5 + d + 1 = omega arith in
          rw (front_is p, next, ← drop-drop 1 (5 + d) (front_of p ++ counted_entries p.entries), drop_at (front_of p) (counted_entries p.entries) (5 + d) front_size, append-nil)

      entries : read_entries (get_or (proof_bytes p) (5 + d) 0) (drop (6 + d) (proof_bytes p)) ≡ p.entries
      entries = rw (rw append-nil at (count_at []), behind) (read_entries_lem p.entries [] fits.2.1)

  pub read_proof_lem : read_proof d (proof_bytes p) ≡ accepted p
  read_proof_lem = accepts_proof d (proof_bytes p) (rw (rw append-nil at (count_at [])) (sym length_proof)) ∙ ap accepted from_its_bytes

-- What a reading accepts has that length and is that proof.
pub proof_accepted : {d : ℕ} (bytes : List ℕ) (p : Proof d) → read_proof d bytes ≡ accepted p → (6 + d + 65 * get_or bytes (5 + d) 0 ≡ length bytes) × (proof_from d bytes ≡ p)
unfolding read_proof
proof_accepted {d} bytes p e =
    let passed = guard_accepted 4 (eqb (extent (proof_rule d) bytes) (length bytes)) (accepted (proof_from d bytes)) p e in
    (sym (extent_is d bytes) ∙ eqb-true (extent (proof_rule d) bytes) (length bytes) passed.0, cc passed.1)

-- Reading then writing a proof returns the bytes, and what was read fits.
pub proof_rewritten : {d : ℕ} (bytes : List ℕ) (p : Proof d) → Bytes bytes → read_proof d bytes ≡ accepted p → (proof_bytes p ≡ bytes) × ProofFits p
proof_rewritten {d} bytes p small e =
    let found = proof_accepted bytes p e in
    subst (λ (q : Proof d). (proof_bytes q ≡ bytes) × ProofFits q) found.1 (proof_back d bytes found.0 small, proof_fits d bytes found.0 small)

-- The timestamp in front of enough bytes.
pub front_timestamp : (proof : List ℕ) → 5 ≤ length proof → timestamp_part proof ≡ of_number (from_bytes (take 5 proof))
unfolding timestamp_part
front_timestamp proof long = rw (le-ltb (length proof) 5 long)
