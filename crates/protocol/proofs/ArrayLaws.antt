-- Lists as arrays of bytes: parts and zeros behind, cards and entries in them, tables of blocks. Assumes nothing.
use mathlib.Core.Path.{◌≡◌, refl, sym, ap, ap₂, ◌∙◌}
use mathlib.Core.Bool.{Bool, true, false, cond}
use mathlib.Core.List.{List, [], ◌∷◌, ◌++◌, append_assoc}
use mathlib.Core.Option.{none, some}
use Prim.Native.Nat.{ℕ, zero, suc, ◌+◌, ◌-◌, ◌*◌, ◌≤◌, ◌<◌, min}
use native.Mathlib.Omega.{arith}
use borrow.Author.Tests.{eqb-true}
use lib.Dec.{eqb}
use lib.ListN.{length, take, drop, replicate, length-append, length-take, length-drop, length-replicate}
use lib.Seq.{length-take-le, take-append-le, drop-append-le, drop-append-add, take-append_seam, take_at, drop_at, take-take, drop-drop}
use Rattle.base.specs.BigEndian.{Bytes}
use Rattle.base.specs.Bytes.{filled}
use Rattle.base.proofs.BigEndian.{bytes_append, bytes_take, bytes_drop}
use Rattle.base.proofs.Filling.{zeros, filled_length, filled_zeros}
use Rattle.wire.specs.Message.{IsSignature, EachFits, EntriesFit, IfThere, proof_size}
use Rattle.wire.specs.Proof.{Entry, PreparedProof, entries_bytes, read_entries}
use Rattle.wire.specs.Writing.{blank_signature}
use Rattle.wire.proofs.ProofBytes.{length_entries, read_entries_lem, length_read, fits_read}
use Rattle.protocol.specs.Parts.{card_kept, entries_kept, if_issued}
use Rattle.protocol.proofs.Fit.{Array}
use Rattle.wire.specs.Parts.{prepared_timestamp}

-- ---- Bytes

pub bytes_none : Bytes []
bytes_none i = omega arith

pub bytes_zeros : (n : ℕ) → Bytes (replicate n 0)
bytes_zeros zero i = omega arith
bytes_zeros (suc n) zero = omega arith
bytes_zeros (suc n) (suc i) = bytes_zeros n i

pub bytes_cons : (x : ℕ) (bytes : List ℕ) → x < 256 → Bytes bytes → Bytes (x ∷ bytes)
bytes_cons x bytes h hs zero = h
bytes_cons x bytes h hs (suc i) = hs i

pub zeros_fit : (width : ℕ) → Array width (replicate width 0)
zeros_fit width = (length-replicate width 0, bytes_zeros width)

pub blank_signature_lem : IsSignature blank_signature
unfolding blank_signature
blank_signature_lem = zeros_fit 64

-- ---- Zeros behind

module _ (width : ℕ) (bytes : List ℕ) where
  filled_bytes : Bytes bytes → Bytes (filled width bytes)
  filled_bytes h = bytes_take width (bytes ++ replicate width 0) (bytes_append bytes (replicate width 0) h (bytes_zeros width))

  pub filled_fits : Bytes bytes → Array width (filled width bytes)
  filled_fits h = (filled_length width bytes, filled_bytes h)

  front_kept : length bytes ≤ width → take (min (length bytes) width) (filled width bytes) ≡ bytes
  front_kept h =
      let all : min (length bytes) width ≡ length bytes = omega arith in
      ap₂ (λ (n : ℕ) (l : List ℕ). take n l) all (filled_zeros width bytes h) ∙ take-append_seam bytes (zeros (width - length bytes))

-- ---- Cards

pub card_kept_lem : (card : List ℕ) → length card ≤ 17 → card_kept (filled 17 card) (length card) ≡ card
card_kept_lem card h = front_kept 17 card h

pub card_in_bytes : (array : List ℕ) (kept : ℕ) → Bytes array → Bytes (card_kept array kept)
card_in_bytes array kept h = bytes_take (min kept 17) array h

pub card_in_short : (array : List ℕ) (kept : ℕ) → length (card_kept array kept) ≤ 17
card_in_short array kept = rw length-take (omega arith)

-- ---- Entries

module _ (array : List ℕ) (kept : ℕ) where
  pub entries_in_length : length (entries_kept array kept) ≤ 11
  entries_in_length = rw length_read (omega arith)

  pub entries_in_fit : Array 715 array → EntriesFit (entries_kept array kept)
  entries_in_fit h = (rw length_read (omega arith), fits_read (min kept 11) array (omega arith) h.1)

pub entries_bytes_lem : (entries : List Entry) → EachFits entries → Bytes (entries_bytes entries)
unfolding entries_bytes
entries_bytes_lem [] h = bytes_none
entries_bytes_lem (entry ∷ entries) h =
    bytes_cons entry.signer.0 (entry.signature ++ entries_bytes entries) h.0.0
    (bytes_append entry.signature (entries_bytes entries) h.0.1.1 (entries_bytes_lem entries h.1))

pub entries_kept_in : (width : ℕ) (entries : List Entry) → EachFits entries → 65 * length entries ≤ width → read_entries (length entries) (filled width (entries_bytes entries)) ≡ entries
entries_kept_in width entries h l =
    ap (read_entries (length entries)) (filled_zeros width (entries_bytes entries) (rw (length_entries entries h) l))
    ∙ read_entries_lem entries (zeros (width - length (entries_bytes entries))) h

pub entries_kept_lem : (entries : List Entry) → EachFits entries → length entries ≤ 11 → entries_kept (filled 715 (entries_bytes entries)) (length entries) ≡ entries
entries_kept_lem entries h l =
    let all : min (length entries) 11 ≡ length entries = omega arith in
    ap (λ (n : ℕ). read_entries n (filled 715 (entries_bytes entries))) all ∙ entries_kept_in 715 entries h (omega arith)

pub entries_filled : (entries : List Entry) → EachFits entries → Array 715 (filled 715 (entries_bytes entries))
entries_filled entries h = filled_fits 715 (entries_bytes entries) (entries_bytes_lem entries h)

-- ---- Blocks in a table: what stands from one place to another is replaced

take_drop_take : (n c a : ℕ) (l : List ℕ) → c + n ≤ a → take n (drop c (take a l)) ≡ take n (drop c l)
take_drop_take n zero a l h = take-take n a l (omega arith)
take_drop_take n (suc c) zero l h = absurd (omega arith)
take_drop_take n (suc c) (suc a) [] h = refl
take_drop_take n (suc c) (suc a) (x ∷ l) h = take_drop_take n c a l (omega arith)

module _ (from to : ℕ) (block table : List ℕ) (fills : from + length block ≡ to) (inside : to ≤ length table) where
  front_length : length (take from table) ≡ from
  front_length = length-take-le from table (omega arith)

  both_length : length (take from table ++ block) ≡ to
  both_length = rw (length-append, front_length) fills

  pub replaced_length : length (take from table ++ (block ++ drop to table)) ≡ length table
  replaced_length = simp (length-append, length-drop, front_length) (omega arith)

  pub replaced_bytes : Bytes block → Bytes table → Bytes (take from table ++ (block ++ drop to table))
  replaced_bytes hb ht =
      bytes_append (take from table) (block ++ drop to table) (bytes_take from table ht) (bytes_append block (drop to table) hb (bytes_drop to table ht))

  -- The block stands there.
  pub replaced_here : (n : ℕ) → length block ≡ n → take n (drop from (take from table ++ (block ++ drop to table))) ≡ block
  replaced_here n h = rw (drop_at (take from table) (block ++ drop to table) from front_length) (take_at block (drop to table) n h)

  -- What stands before it or behind it is as it was.
  pub replaced_before : (n at : ℕ) → at + n ≤ from → take n (drop at (take from table ++ (block ++ drop to table))) ≡ take n (drop at table)
  replaced_before n at h =
      let front = front_length in
      let inner = length-drop at (take from table) in
      rw (drop-append-le at (take from table) (block ++ drop to table) (omega arith), take-append-le n (drop at (take from table)) (block ++ drop to table) (omega arith))
      (take_drop_take n at from table h)

  pub replaced_behind : (n at : ℕ) → to ≤ at → take n (drop at (take from table ++ (block ++ drop to table))) ≡ take n (drop at table)
  replaced_behind n at h =
      let both = both_length in
      let further : at ≡ length (take from table ++ block) + (at - to) = omega arith in
      let there : to + (at - to) ≡ at = omega arith in
      ap (take n)
      (ap₂ (λ (k : ℕ) (l : List ℕ). drop k l) further (sym (append_assoc (take from table) block (drop to table)))
      ∙ drop-append-add (take from table ++ block) (drop to table) (at - to)
      ∙ drop-drop (at - to) to table
      ∙ ap (λ (k : ℕ). drop k table) there)

-- ---- Proofs that are there if their timestamp is issued

module _ {A : Type 0} (timestamp : ℕ) (proof : A) where
  pub issued_there : (P : A → Type 0) → P proof → IfThere P (if_issued timestamp proof)
  issued_there P h = go (eqb timestamp 0)
    where
      go : (b : Bool) → IfThere P (cond b none (some proof))
      go true = tt
      go false = h

module _ (timestamp : ℕ) (proof : PreparedProof) where
  -- A proof of that timestamp, or none for 0.
  pub issued_timestamp : proof.timestamp ≡ timestamp → prepared_timestamp (if_issued timestamp proof) ≡ timestamp
  issued_timestamp e = go (eqb timestamp 0) refl
    where
      go : (b : Bool) → eqb timestamp 0 ≡ b → prepared_timestamp (cond b none (some proof)) ≡ timestamp
      go true k = sym (eqb-true timestamp 0 k)
      go false k = e

  pub issued_size : proof_size (if_issued timestamp proof) ≤ 38 + 65 * length proof.entries
  issued_size = go (eqb timestamp 0)
    where
      go : (b : Bool) → proof_size (cond b none (some proof)) ≤ 38 + 65 * length proof.entries
      go true = omega arith
      go false = omega arith
