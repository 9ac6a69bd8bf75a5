-- Entries as bytes: writing then reading, and reading then writing. Assumes nothing.
use mathlib.Core.Path.{◌≡◌, refl, sym, ap, ◌∙◌}
use mathlib.Core.Bool.{Bool, true, false, cond}
use mathlib.Core.List.{List, [], ◌∷◌, ◌++◌, append_assoc}
use mathlib.Core.Option.{none, some}
use Prim.Native.Nat.{ℕ, suc, ◌+◌, ◌≤◌, ◌<◌}
use native.Mathlib.Omega.{arith}
use borrow.Author.Tests.{eqb-true, eqb-false, ne_eqb}
use lib.Dec.{eqb}
use lib.ListN.{length, take, drop, length-append, length-drop, take-append-drop}
use lib.Seq.{length-take-le, take-append_seam, drop-append_seam, take_at, drop_at, drop-drop, take-add}
use Rattle.base.specs.BigEndian.{from_bytes, to_bytes, Bytes}
use Rattle.base.proofs.Apart.{apart}
use Rattle.base.proofs.BigEndian.{length_to_bytes, from_bytes_to_bytes, to_bytes_from_bytes, bytes_take}
use Rattle.protocol.specs.Events.{ReplicaEvent, request_handed, order_handed}
use Rattle.audit.specs.Log.{Recorded, replied, refusal, LogEntry, Front, front_of, ◌then◌, length_in, prefixed_in, request_in, order_in, call_opened_by, received_in, answer_opened_by, recorded_in, entry_in}
use Rattle.audit.specs.Replaying.{prefixed_bytes, received_bytes, recorded_bytes, entry_bytes, ReceivedFits, RecordedFits, WellFormed}
use Rattle.audit.proofs.Readers.{then_some, prefixed_front, prefixed_whole, prefixed_found_lem, length_below}

-- ---- Writing, then reading

prefixed_parts : (xs rest : List ℕ) → length xs < 65_536 → prefixed_in (to_bytes 2 (length xs) ++ (xs ++ rest)) ≡ some (front_of xs rest)
prefixed_parts xs rest short =
    let n = length xs in
    let bytes = to_bytes 2 n ++ (xs ++ rest) in
    let size = length_to_bytes 2 n in
    let count : length_in bytes ≡ n = ap from_bytes (take_at (to_bytes 2 n) (xs ++ rest) 2 size) ∙ from_bytes_to_bytes 2 n (omega arith) in
    let long : length bytes ≡ 2 + (n + length rest) = simp (length-append, length_to_bytes) in
    let behind : drop 2 bytes ≡ xs ++ rest = drop_at (to_bytes 2 n) (xs ++ rest) 2 size in
    let end : drop (2 + n) bytes ≡ rest = sym (drop-drop n 2 bytes) ∙ ap (drop n) behind ∙ drop-append_seam xs rest in
    let item : take n (drop 2 bytes) ≡ xs = ap (take n) behind ∙ take-append_seam xs rest in
    prefixed_whole bytes (omega (arith, count, long)) ∙ ap (λ (k : ℕ). some (front_of (take k (drop 2 bytes)) (drop (2 + k) bytes))) count
    ∙ ap (λ (l : List ℕ). some (front_of l (drop (2 + n) bytes))) item ∙ ap (λ (l : List ℕ). some (front_of xs l)) end

prefixed_written : (xs rest : List ℕ) → length xs < 65_536 → prefixed_in (prefixed_bytes xs ++ rest) ≡ some (front_of xs rest)
prefixed_written xs rest short = ap prefixed_in (append_assoc (to_bytes 2 (length xs)) xs rest) ∙ prefixed_parts xs rest short

received_written : (call : ReplicaEvent) (rest : List ℕ) → ReceivedFits call → received_in (received_bytes call ++ rest) ≡ some (front_of call rest)
unfolding received_in request_in order_in
received_written (request_handed bytes verdicts) rest fits =
    ap request_in (append_assoc (prefixed_bytes bytes) (prefixed_bytes verdicts) rest)
    ∙ rw (prefixed_written bytes (prefixed_bytes verdicts ++ rest) fits.0, prefixed_written verdicts rest fits.1)
received_written (order_handed order) rest fits = rw (prefixed_written order rest fits)

recorded_written : (answer : Recorded) (rest : List ℕ) → RecordedFits answer → recorded_in (recorded_bytes answer ++ rest) ≡ some (front_of answer rest)
unfolding recorded_in
recorded_written (replied reply) rest fits = rw (prefixed_written reply rest fits)
recorded_written (refusal number) rest fits = rw (ne_eqb number 0 (omega (arith, fits.0)))

pub entry_written : (e : LogEntry) (rest : List ℕ) → WellFormed e → entry_in (entry_bytes e ++ rest) ≡ some (front_of e rest)
unfolding entry_in
entry_written e rest fits =
    ap entry_in (append_assoc (received_bytes e.received) (recorded_bytes e.recorded) rest)
    ∙ rw (received_written e.received (recorded_bytes e.recorded ++ rest) fits.received_fits, recorded_written e.recorded rest fits.recorded_fits)

-- ---- Reading, then writing

pub bytes_behind : (xs ys : List ℕ) → Bytes (xs ++ ys) → Bytes ys
bytes_behind [] ys small i = small i
bytes_behind (x ∷ xs) ys small i = bytes_behind xs ys (λ j. small (suc j)) i

-- What was read is written as these bytes, which come in front of the rest.
record WrittenAs {A : Type 0} (write : A → List ℕ) (Fits : A → Type 0) (bytes : List ℕ) (r : Front A) : Type 0 where
  is : bytes ≡ write r.item ++ r.rest
  fits : Fits r.item
  small_rest : Bytes r.rest

written : {A : Type 0} (write : A → List ℕ) (Fits : A → Type 0) (bytes : List ℕ) (r : Front A) → Bytes bytes → bytes ≡ write r.item ++ r.rest → Fits r.item → WrittenAs write Fits bytes r
written write Fits bytes r small is fits = record { is = is; fits = fits; small_rest = bytes_behind (write r.item) r.rest (rw is at small) }

abbrev Short : List ℕ → Type 0
Short bytes = length bytes < 65_536

prefixed_again : (bytes : List ℕ) → Bytes bytes → 2 + length_in bytes ≤ length bytes → WrittenAs prefixed_bytes Short bytes (prefixed_front bytes)
prefixed_again bytes small h =
    let n = length_in bytes in
    let size = length-drop 2 bytes in
    let width : length (take n (drop 2 bytes)) ≡ n = length-take-le n (drop 2 bytes) (omega arith) in
    let two : length (take 2 bytes) ≡ 2 = length-take-le 2 bytes (omega arith) in
    let front_bytes : to_bytes 2 n ≡ take 2 bytes = ap (λ (k : ℕ). to_bytes k n) (sym two) ∙ to_bytes_from_bytes (take 2 bytes) (bytes_take 2 bytes small) in
    let whole : (take 2 bytes ++ take n (drop 2 bytes)) ++ drop (2 + n) bytes ≡ bytes = ap (λ (l : List ℕ). l ++ drop (2 + n) bytes) (sym (take-add 2 n bytes)) ∙ take-append-drop (2 + n) bytes in
    written prefixed_bytes Short bytes (prefixed_front bytes) small
    (sym (ap (λ (k : ℕ). (to_bytes 2 k ++ take n (drop 2 bytes)) ++ drop (2 + n) bytes) width ∙ ap (λ (l : List ℕ). (l ++ take n (drop 2 bytes)) ++ drop (2 + n) bytes) front_bytes ∙ whole))
    (omega (arith, width, length_below bytes small))

prefixed_reads : (bytes : List ℕ) → Bytes bytes → (r : Front (List ℕ)) → prefixed_in bytes ≡ some r → WrittenAs prefixed_bytes Short bytes r
prefixed_reads bytes small r e = let there = prefixed_found_lem bytes r e in rw (← there.1) (prefixed_again bytes small there.0)

module _ (b : ℕ) (bytes : List ℕ) (small : Bytes (b ∷ bytes)) where
  small_behind : Bytes bytes
  small_behind i = small (suc i)

  request_reads : (r : Front ReplicaEvent) → request_in bytes ≡ some r → b ≡ 0 → WrittenAs received_bytes ReceivedFits (b ∷ bytes) r
  unfolding request_in
  request_reads r e z =
      let m = then_some (prefixed_in bytes) _ r e in
      let v = then_some (prefixed_in m.0.rest) _ r m.2 in
      let same : front_of (request_handed m.0.item v.0.item) v.0.rest ≡ r = let e = v.2 in cc in
      let first = prefixed_reads bytes small_behind m.0 m.1 in
      let second = prefixed_reads m.0.rest first.small_rest v.0 v.1 in
      rw (← same)
      (written received_bytes ReceivedFits (b ∷ bytes) (front_of (request_handed m.0.item v.0.item) v.0.rest) small
      (ap (λ (x : ℕ). x ∷ bytes) z ∙ ap (λ (l : List ℕ). 0 ∷ l) (first.is ∙ ap (λ (l : List ℕ). prefixed_bytes m.0.item ++ l) second.is
      ∙ sym (append_assoc (prefixed_bytes m.0.item) (prefixed_bytes v.0.item) v.0.rest)))
      (first.fits, second.fits))

  order_reads : (r : Front ReplicaEvent) → order_in bytes ≡ some r → b ≡ 1 → WrittenAs received_bytes ReceivedFits (b ∷ bytes) r
  unfolding order_in
  order_reads r e one =
      let o = then_some (prefixed_in bytes) _ r e in
      let same : front_of (order_handed o.0.item) o.0.rest ≡ r = let e = o.2 in cc in
      let first = prefixed_reads bytes small_behind o.0 o.1 in
      rw (← same)
      (written received_bytes ReceivedFits (b ∷ bytes) (front_of (order_handed o.0.item) o.0.rest) small (ap (λ (x : ℕ). x ∷ bytes) one ∙ ap (λ (l : List ℕ). 1 ∷ l) first.is) first.fits)

  call_reads : (r : Front ReplicaEvent) → call_opened_by b bytes ≡ some r → WrittenAs received_bytes ReceivedFits (b ∷ bytes) r
  call_reads r e = go (eqb b 0) (eqb b 1) refl refl e
    where
      go : (s t : Bool) → eqb b 0 ≡ s → eqb b 1 ≡ t → cond s (request_in bytes) (cond t (order_in bytes) none) ≡ some r → WrittenAs received_bytes ReceivedFits (b ∷ bytes) r
      go true t z one e = request_reads r e (eqb-true b 0 z)
      go false true z one e = order_reads r e (eqb-true b 1 one)
      go false false z one e = apart (cc)

  answer_reads : (r : Front Recorded) → answer_opened_by b bytes ≡ some r → WrittenAs recorded_bytes RecordedFits (b ∷ bytes) r
  answer_reads r e = go (eqb b 0) refl e
    where
      go : (t : Bool) → eqb b 0 ≡ t → cond t (prefixed_in bytes then λ c. some (front_of (replied c.item) c.rest)) (some (front_of (refusal b) bytes)) ≡ some r
          → WrittenAs recorded_bytes RecordedFits (b ∷ bytes) r
      go true t e =
          let c = then_some (prefixed_in bytes) _ r e in
          let same : front_of (replied c.0.item) c.0.rest ≡ r = let e = c.2 in cc in
          let reads = prefixed_reads bytes small_behind c.0 c.1 in
          rw (← same)
          (written recorded_bytes RecordedFits (b ∷ bytes) (front_of (replied c.0.item) c.0.rest) small
          (ap (λ (x : ℕ). x ∷ bytes) (eqb-true b 0 t) ∙ ap (λ (l : List ℕ). 0 ∷ l) reads.is) reads.fits)
      go false t e =
          let same : front_of (refusal b) bytes ≡ r = cc in
          let other = eqb-false b 0 t in
          rw (← same) (written recorded_bytes RecordedFits (b ∷ bytes) (front_of (refusal b) bytes) small refl (omega arith, small 0))

received_reads : (bytes : List ℕ) → Bytes bytes → (r : Front ReplicaEvent) → received_in bytes ≡ some r → WrittenAs received_bytes ReceivedFits bytes r
unfolding received_in
received_reads [] small r e = apart (cc)
received_reads (b ∷ bytes) small r e = call_reads b bytes small r e

recorded_reads : (bytes : List ℕ) → Bytes bytes → (r : Front Recorded) → recorded_in bytes ≡ some r → WrittenAs recorded_bytes RecordedFits bytes r
unfolding recorded_in
recorded_reads [] small r e = apart (cc)
recorded_reads (b ∷ bytes) small r e = answer_reads b bytes small r e

pub entry_reads : (bytes : List ℕ) → Bytes bytes → (r : Front LogEntry) → entry_in bytes ≡ some r → (bytes ≡ entry_bytes r.item ++ r.rest) × WellFormed r.item
unfolding entry_in
entry_reads bytes small r e =
    let c = then_some (received_in bytes) _ r e in
    let a = then_some (recorded_in c.0.rest) _ r c.2 in
    let same : front_of (record { received = c.0.item; recorded = a.0.item }) a.0.rest ≡ r = let e = a.2 in cc in
    let first = received_reads bytes small c.0 c.1 in
    let second = recorded_reads c.0.rest first.small_rest a.0 a.1 in
    rw (← same) (
      first.is ∙ ap (λ (l : List ℕ). received_bytes c.0.item ++ l) second.is ∙ sym (append_assoc (received_bytes c.0.item) (recorded_bytes a.0.item) a.0.rest),
      record { received_fits = first.fits; recorded_fits = second.fits },
    )
