-- Entries gathered one by one into an array. Assumes nothing.
use mathlib.Core.Path.{◌≡◌, refl, sym, ap, ◌∙◌}
use mathlib.Core.Bool.{Bool, true, false, cond}
use mathlib.Core.List.{List, [], ◌∷◌, ◌++◌, map-append, append_assoc, append-nil}
use Prim.Native.Nat.{ℕ, zero, suc, ◌+◌, ◌-◌, ◌*◌, ◌≤◌, ◌<◌, min}
use native.Mathlib.Omega.{arith}
use lib.ListN.{length, take, drop, set, length-append, length-take, length-drop}
use lib.Seq.{length-take-le, take-append-le, take_all, take_at, drop_at, drop-append-add, drop-drop, set_split, append_snoc}
use Rattle.base.specs.Counting.{replica}
use Rattle.base.specs.ReplicaSet.{empty, has, with, with_all}
use Rattle.base.specs.declared.party.ReplicaId.{ReplicaId}
use Rattle.base.specs.declared.replica_set.ReplicaSet.{ReplicaSet}
use Rattle.wire.specs.Proof.{Entry, signers, signer_set, entries_bytes, read_entries}
use Rattle.protocol.specs.Client.{gathered, signature_at}
use Rattle.base.specs.Bytes.{filled}
use Rattle.protocol.specs.Parts.{entries_kept}
use Rattle.client.specs.Arrays.{Added, Keeps}
use Rattle.client.specs.declared.signatures.Built.{Built}
use Rattle.base.proofs.Filling.{zeros, filled_zeros, filled_more}
use Rattle.base.proofs.Listed.{with_all_append}

-- Entries whose signatures have 64 bytes.
abbrev pub Sized : List Entry → Type 0
Sized [] = Unit {0}
Sized (entry ∷ entries) = (length entry.signature ≡ 64) × Sized entries

sized_append : (a b : List Entry) → Sized a → Sized b → Sized (a ++ b)
sized_append [] b ha hb = hb
sized_append (entry ∷ a) b ha hb = (ha.0, sized_append a b ha.1 hb)

sized_take : (n : ℕ) (entries : List Entry) → Sized entries → Sized (take n entries)
sized_take zero entries h = tt
sized_take (suc n) [] h = tt
sized_take (suc n) (entry ∷ entries) h = (h.0, sized_take n entries h.1)

sized_bytes : (entries : List Entry) → Sized entries → length (entries_bytes entries) ≡ 65 * length entries
unfolding entries_bytes
sized_bytes [] h = refl
sized_bytes (entry ∷ entries) h = rw (length-append, sized_bytes entries h.1) (omega arith)

bytes_append : (a b : List Entry) → entries_bytes (a ++ b) ≡ entries_bytes a ++ entries_bytes b
unfolding entries_bytes
bytes_append [] b = refl
bytes_append (entry ∷ a) b = rw (bytes_append a b, append_assoc)

read_back : (entries : List Entry) (behind : List ℕ) → Sized entries → read_entries (length entries) (entries_bytes entries ++ behind) ≡ entries
unfolding entries_bytes read_entries
read_back [] behind h = refl
read_back (entry ∷ entries) behind h =
    rw (append_assoc, take_at entry.signature (entries_bytes entries ++ behind) 64 h.0, drop_at entry.signature (entries_bytes entries ++ behind) 64 h.0, read_back entries behind h.1)

-- An entry stored right behind others.
added : (width count : ℕ) (entries : List Entry) (one : Entry) (old : List ℕ) → Sized entries → length one.signature ≡ 64 → count ≡ length entries → 65 * count + 65 ≤ width
    → old ≡ filled width (entries_bytes entries)
    → take (65 * count) old ++ ((one.signer.0 ∷ one.signature) ++ drop (65 * count + 65) old) ≡ filled width (entries_bytes (entries ++ one ∷ []))
added width count entries one old sized signed many room was =
    let bytes = sized_bytes entries sized in
    let block : List ℕ = one.signer.0 ∷ one.signature in
    let here : 65 * count ≡ length (entries_bytes entries) = omega arith in
    let behind : 65 * count + 65 ≡ length (entries_bytes entries) + length block = omega arith in
    let last : entries_bytes (one ∷ []) ≡ block = unfold entries_bytes in rw append-nil in
    rw (behind, here, was) (filled_more width (entries_bytes entries) block (omega arith) ∙ ap (filled width) (sym (bytes_append entries (one ∷ []) ∙ ap (λ (l : List ℕ). entries_bytes entries ++ l) last)))

-- Entries kept in an array, as a writer takes them.
pub kept : (entries : List Entry) (built : Built) → Sized entries → length entries ≤ 11 → Keeps entries built → entries_kept built.entries built.count ≡ entries
kept entries built sized few k =
    let all : min (length entries) 11 ≡ length entries = omega arith in
    let bytes = sized_bytes entries sized in
    rw (k.many, k.holds, all, filled_zeros 715 (entries_bytes entries) (omega arith)) (read_back entries (zeros (715 - length (entries_bytes entries))) sized)

pub nothing_gathered : (counted : ReplicaSet) (signatures : List ℕ) → Keeps (take 11 (gathered 0 counted signatures)) (record { count = 0; signers = empty; entries = zeros 715 })
unfolding gathered entries_bytes with_all
nothing_gathered counted signatures = record { many = refl; who = refl; holds = refl }

-- An entry more has its signer join.
signers_append : (entries : List Entry) (one : Entry) → signer_set (entries ++ one ∷ []) ≡ with (signer_set entries) one.signer
unfolding with_all
signers_append entries one = rw (map-append (λ (entry : Entry). entry.signer) entries (one ∷ [])) (with_all_append empty (signers entries) (one.signer ∷ []))

module _ (counted : ReplicaSet) (signatures : List ℕ) (long : length signatures ≡ 1_024) where
  gathered_sized : (n : ℕ) → n ≤ 16 → Sized (gathered n counted signatures)
  unfolding gathered
  gathered_sized zero h = tt
  gathered_sized (suc n) h = sized_append (gathered n counted signatures) _ (gathered_sized n (omega arith)) (go (has counted (replica (suc n))))
    where
      go : (b : Bool) → Sized (cond b (record { signer = replica (suc n); signature = signature_at signatures (replica (suc n)) } ∷ []) [])
      go true = (simp (length-take, length-drop) (omega arith), tt)
      go false = tt

  pub built_sized : (n : ℕ) → n ≤ 16 → Sized (take 11 (gathered n counted signatures))
  built_sized n h = sized_take 11 (gathered n counted signatures) (gathered_sized n h)

  module _ (n : ℕ) (old : Built) (small : suc n ≤ 16) (k : Keeps (take 11 (gathered n counted signatures)) old) where
    abbrev before : List Entry
    before = gathered n counted signatures

    abbrev one : Entry
    one = record { signer = replica (suc n); signature = signature_at signatures (replica (suc n)) }

    -- A replica more that is counted, with room for it.
    pub gathered_more : (new : Built) (id : ReplicaId) (signature : List ℕ) → id ≡ replica (suc n) → signature ≡ signature_at signatures (replica (suc n)) → has counted id ≡ true → old.count < 11
        → Added id signature old new → Keeps (take 11 (gathered (suc n) counted signatures)) new
    unfolding gathered
    gathered_more new id signature is own there room a =
        let many = k.many ∙ length-take 11 before in
        let all : take 11 before ≡ before = take_all 11 before (omega arith) in
        let signed : length (signature_at signatures (replica (suc n))) ≡ 64 = simp (length-take, length-drop) (omega arith) in
        let longer = length-append before (one ∷ []) in
        let whole : take 11 (before ++ one ∷ []) ≡ before ++ one ∷ [] = take_all 11 (before ++ one ∷ []) (omega arith) in
        let was : old.entries ≡ filled 715 (entries_bytes before) = k.holds ∙ rw all in
        rw (rw is at there, whole)
        (record {
          many = a.many ∙ (omega arith);
          who = a.who ∙ rw (k.who, all, is) (sym (signers_append before one));
          holds = rw (is, own) at a.holds ∙ added 715 old.count before one old.entries (gathered_sized n (omega arith)) signed (omega arith) (omega arith) was;
        })

    -- One that is not.
    pub gathered_past : has counted (replica (suc n)) ≡ false → Keeps (take 11 (gathered (suc n) counted signatures)) old
    unfolding gathered
    gathered_past gone = rw (gone, append-nil) k

    -- One that there is no room for.
    pub gathered_full : 11 ≤ old.count → Keeps (take 11 (gathered (suc n) counted signatures)) old
    unfolding gathered
    gathered_full full = let many = k.many ∙ length-take 11 before in rw (take-append-le 11 before (cond (has counted (replica (suc n))) (one ∷ []) []) (omega arith)) k

-- A byte stored, and bytes right behind it.
pub byte_then : (old block : List ℕ) (at byte : ℕ) → at + 1 + length block ≤ length old
    → take (at + 1) (set old at byte) ++ (block ++ drop (at + 1 + length block) (set old at byte)) ≡ take at old ++ ((byte ∷ block) ++ drop (at + length (byte ∷ block)) old)
byte_then old block at byte h =
    let next : at + 1 ≡ suc at = omega arith in
    let front : length (take at old ++ byte ∷ []) ≡ at + 1 = rw (length-append, length-take-le at old (omega arith)) in
    let split : set old at byte ≡ (take at old ++ byte ∷ []) ++ drop (suc at) old = set_split old at byte (omega arith) ∙ sym (append_snoc (take at old) byte (drop (suc at) old)) in
    let there : length (take at old ++ byte ∷ []) + length block ≡ at + 1 + length block = omega arith in
    let behind : suc at + length block ≡ at + length (byte ∷ block) = omega arith in
    rw (split, take_at (take at old ++ byte ∷ []) (drop (suc at) old) (at + 1) front, ← there, drop-append-add (take at old ++ byte ∷ []) (drop (suc at) old) (length block), drop-drop (length block) (suc at) old, behind, append_assoc)
