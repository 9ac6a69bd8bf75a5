-- What holds of each part that is read from the front of some bytes: of bytes and length-prefixed bytes, and so of all that is put together
-- from them. Assumes nothing.
use mathlib.Core.Path.{◌≡◌, refl, ap, ◌∙◌}
use mathlib.Core.Bool.{Bool, true, false, cond}
use mathlib.Core.List.{List, [], ◌∷◌, ◌++◌}
use mathlib.Core.Option.{Option, none, some}
use Prim.Native.Nat.{ℕ, zero, suc, ◌+◌, ◌-◌, ◌^◌, ◌≤◌, ◌<◌}
use native.Mathlib.Omega.{arith}
use borrow.Author.Tests.{leb-true, le-leb, lt-leb}
use lib.Dec.{leb}
use lib.ListN.{length, take, drop, length-append, length-take, length-drop}
use lib.Seq.{take-append-le, drop-append-le}
use Rattle.base.specs.BigEndian.{from_bytes, Bytes}
use Rattle.base.proofs.Apart.{apart}
use Rattle.base.proofs.BigEndian.{from_bytes_below, bytes_take, bytes_drop}
use Rattle.audit.specs.Log.{Front, front_of, ◌then◌, byte_in, length_in, prefixed_in}

-- One thing after another: both are there.
pub then_some : {A B : Type 0} (o : Option A) (next : A → Option B) (b : B) → (o then next) ≡ some b → (a : A) × (o ≡ some a) × (next a ≡ some b)
then_some none next b e = apart (cc)
then_some (some a) next b e = (a, refl, e)

-- The same with more bytes behind.
abbrev pub followed : {A : Type 0} → List ℕ → Front A → Front A
followed more r = front_of r.item (r.rest ++ more)

-- It is there, with at most so many bytes; or it never will be, whatever comes behind.
pub data Sure {A : Type 0} (read : List ℕ → Option (Front A)) (most : ℕ) (bytes : List ℕ) : Type 0 where
  found : (r : Front A) → read bytes ≡ some r → Bytes r.rest → length bytes ≤ length r.rest + most → Sure read most bytes
  never : ((more : List ℕ) → read (bytes ++ more) ≡ none) → Sure read most bytes

pub record Reader {A : Type 0} (read : List ℕ → Option (Front A)) (least most : ℕ) : Type 0 where
  -- What is there stays there, whatever comes behind,
  pub stays : (bytes more : List ℕ) (r : Front A) → read bytes ≡ some r → read (bytes ++ more) ≡ some (followed more r)
  -- it has at least so many bytes,
  pub uses : (bytes : List ℕ) (r : Front A) → read bytes ≡ some r → length r.rest + least ≤ length bytes
  -- and where there are so many it is known whether it is there.
  pub sure : (bytes : List ℕ) → Bytes bytes → most ≤ length bytes → Sure read most bytes

-- ---- A byte, and what needs none

pub byte_reader : Reader byte_in 1 1
byte_reader = record { stays = stays; uses = uses; sure = sure }
  where
    stays : (bytes more : List ℕ) (r : Front ℕ) → byte_in bytes ≡ some r → byte_in (bytes ++ more) ≡ some (followed more r)
    stays [] more r e = apart (cc)
    stays (b ∷ bytes) more r e = let same : front_of b bytes ≡ r = cc in ap (λ (r : Front ℕ). some (followed more r)) same

    uses : (bytes : List ℕ) (r : Front ℕ) → byte_in bytes ≡ some r → length r.rest + 1 ≤ length bytes
    uses [] r e = apart (cc)
    uses (b ∷ bytes) r e = let same : front_of b bytes ≡ r = cc in rw (← same) (omega arith)

    sure : (bytes : List ℕ) → Bytes bytes → 1 ≤ length bytes → Sure byte_in 1 bytes
    sure [] small long = absurd (omega arith)
    sure (b ∷ bytes) small long = found (front_of b bytes) refl (λ i. small (suc i)) (omega arith)

pub item_reader : {A : Type 0} (item : A) → Reader (λ bytes. some (front_of item bytes)) 0 0
item_reader {A} item =
    record {
      stays = λ bytes more r e. let same : front_of item bytes ≡ r = cc in ap (λ (r : Front A). some (followed more r)) same;
      uses = λ bytes r e. let same : front_of item bytes ≡ r = cc in rw (← same) (omega arith);
      sure = λ bytes small long. found (front_of item bytes) refl small (omega arith);
    }

pub none_reader : {A : Type 0} (least most : ℕ) → Reader {A = A} (λ bytes. none) least most
none_reader {A} least most = record { stays = λ bytes more r e. apart (cc); uses = λ bytes r e. apart (cc); sure = λ bytes small long. never (λ more. refl) }

-- ---- Length-prefixed bytes

module _ (bytes : List ℕ) where
  abbrev pub prefixed_front : Front (List ℕ)
  prefixed_front = front_of (take (length_in bytes) (drop 2 bytes)) (drop (2 + length_in bytes) bytes)

  pub prefixed_whole : 2 + length_in bytes ≤ length bytes → prefixed_in bytes ≡ some prefixed_front
  unfolding prefixed_in
  prefixed_whole h = rw (le-leb (2 + length_in bytes) (length bytes) h)

  pub prefixed_cut : length bytes < 2 + length_in bytes → prefixed_in bytes ≡ none
  unfolding prefixed_in
  prefixed_cut h = rw (lt-leb (2 + length_in bytes) (length bytes) h)

  pub prefixed_found_lem : (r : Front (List ℕ)) → prefixed_in bytes ≡ some r → (2 + length_in bytes ≤ length bytes) × (prefixed_front ≡ r)
  unfolding prefixed_in
  prefixed_found_lem r e = go (leb (2 + length_in bytes) (length bytes)) refl e
    where
      go : (b : Bool) → leb (2 + length_in bytes) (length bytes) ≡ b → cond b (some prefixed_front) none ≡ some r → (2 + length_in bytes ≤ length bytes) × (prefixed_front ≡ r)
      go true t e = (leb-true (2 + length_in bytes) (length bytes) t, cc)
      go false t e = apart (cc)

  -- Two bytes count at most 65,535.
  pub length_below : Bytes bytes → length_in bytes < 65_536
  length_below small =
      let below = from_bytes_below (take 2 bytes) (bytes_take 2 bytes small) in
      let size = length-take 2 bytes in
      go (length (take 2 bytes)) (omega arith) below
    where
      go : (n : ℕ) → n ≤ 2 → length_in bytes < 256 ^ n → length_in bytes < 65_536
      go zero h k = omega (arith, k)
      go (suc zero) h k = omega (arith, k)
      go (suc (suc zero)) h k = omega (arith, k)
      go (suc (suc (suc n))) h k = absurd (omega (arith, h))

pub prefixed_reader : Reader prefixed_in 2 65_537
prefixed_reader = record { stays = stays; uses = uses; sure = sure }
  where
    stays : (bytes more : List ℕ) (r : Front (List ℕ)) → prefixed_in bytes ≡ some r → prefixed_in (bytes ++ more) ≡ some (followed more r)
    stays bytes more r e =
        let there = prefixed_found_lem bytes r e in
        let n = length_in bytes in
        let same_length : length_in (bytes ++ more) ≡ n = ap from_bytes (take-append-le 2 bytes more (omega (arith, there.0))) in
        let longer : 2 + n ≤ length (bytes ++ more) = rw length-append (omega (arith, there.0)) in
        let whole = rw same_length at (prefixed_whole (bytes ++ more) (rw same_length longer)) in
        let size : length (drop 2 bytes) ≡ length bytes - 2 = length-drop 2 bytes in
        let item : take n (drop 2 (bytes ++ more)) ≡ take n (drop 2 bytes) =
        ap (take n) (drop-append-le 2 bytes more (omega (arith, there.0))) ∙ take-append-le n (drop 2 bytes) more (omega (arith, there.0)) in
        let rest : drop (2 + n) (bytes ++ more) ≡ drop (2 + n) bytes ++ more = drop-append-le (2 + n) bytes more there.0 in
        whole ∙ rw (item, rest) (ap (λ (r : Front (List ℕ)). some (followed more r)) there.1)

    uses : (bytes : List ℕ) (r : Front (List ℕ)) → prefixed_in bytes ≡ some r → length r.rest + 2 ≤ length bytes
    uses bytes r e =
        let there = prefixed_found_lem bytes r e in
        let size = length-drop (2 + length_in bytes) bytes in
        rw (← there.1) (omega (arith, there.0))

    sure : (bytes : List ℕ) → Bytes bytes → 65_537 ≤ length bytes → Sure prefixed_in 65_537 bytes
    sure bytes small long =
        let below = length_below bytes small in
        let size = length-drop (2 + length_in bytes) bytes in
        found (prefixed_front bytes) (prefixed_whole bytes (omega arith)) (bytes_drop (2 + length_in bytes) bytes small) (omega arith)

-- ---- Readers put together

-- One after the other,
module _ {A B : Type 0} {first : List ℕ → Option (Front A)} {second : A → List ℕ → Option (Front B)} {a b c d : ℕ} (one : Reader first a b) (two : (item : A) → Reader (second item) c d) where
  abbrev both : List ℕ → Option (Front B)
  both bytes = first bytes then λ r. second r.item r.rest

  behind_first : (bytes more : List ℕ) (r : Front A) → first bytes ≡ some r → both (bytes ++ more) ≡ second r.item (r.rest ++ more)
  behind_first bytes more r e = rw (one.stays bytes more r e)

  both_sure : (bytes : List ℕ) → Bytes bytes → b + d ≤ length bytes → Sure both (b + d) bytes
  both_sure bytes small long = go (one.sure bytes small (omega arith))
    where
      go : Sure first b bytes → Sure both (b + d) bytes
      go (never gone) = never (λ more. rw (gone more))
      go (found r e small_rest few) = next ((two r.item).sure r.rest small_rest (omega arith))
        where
          next : Sure (second r.item) d r.rest → Sure both (b + d) bytes
          next (never gone) = never (λ more. behind_first bytes more r e ∙ gone more)
          next (found s k small_end fewer) = found s (rw e k) small_end (omega arith)

  pub then_reader : Reader both (a + c) (b + d)
  then_reader =
      record {
        stays = λ bytes more r e. let s = then_some (first bytes) _ r e in behind_first bytes more s.0 s.1 ∙ (two s.0.item).stays s.0.rest more r s.2;
        uses = λ bytes r e. let s = then_some (first bytes) _ r e in omega (arith, one.uses bytes s.0 s.1, (two s.0.item).uses s.0.rest r s.2);
        sure = both_sure;
      }

-- one of two,
pub cond_reader : {A : Type 0} {yes_then no_then : List ℕ → Option (Front A)} {least most : ℕ} (test : Bool) → Reader yes_then least most → Reader no_then least most
    → Reader (λ bytes. cond test (yes_then bytes) (no_then bytes)) least most
cond_reader true h k = h
cond_reader false h k = k

-- and with wider bounds.
module _ {A : Type 0} {read : List ℕ → Option (Front A)} {least most : ℕ} (low high : ℕ) (reader : Reader read least most) where
  pub wider_reader : low ≤ least → most ≤ high → Reader read low high
  wider_reader l h =
      record {
        stays = reader.stays;
        uses = λ bytes r e. omega (arith, reader.uses bytes r e);
        sure = λ bytes small long. go bytes (reader.sure bytes small (omega arith));
      }
    where
      go : (bytes : List ℕ) → Sure read most bytes → Sure read high bytes
      go bytes (found r e small few) = found r e small (omega arith)
      go bytes (never gone) = never gone
