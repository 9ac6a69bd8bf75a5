-- The signers of entries in a slice, from an index on. Assumes nothing.
use Rattle.std.proofs.Common.{◌≡◌, ℕ, zero, suc, ◌+◌, ◌-◌, ◌*◌, ◌/◌, ◌%◌, ◌^◌, ◌<◌, ◌≤◌, Bool, true, false, ltb, leb, ◌⊎◌, List, ◌∷◌, get_or, drop, refl, ap, ◌∙◌, inl, inr, pow-suc, arith, get_or-drop, drop-drop, le-ltb, lt-ltb, le-leb, leb-false, leb-true}
use mathlib.Core.Bool.{and-false}
use native.Mathlib.Nat.{pow-le-pow_right}
use borrow.Author.Tests.{lt-leb}
use lib.Bits.{bit_or, or_block, or_lt}
use Rattle.base.specs.Outcome.{Outcome, accepted, refused, guard}
use Rattle.base.specs.ReplicaSet.{with, with_all}
use Rattle.base.specs.Rising.{rising}
use Rattle.base.specs.declared.party.ReplicaId.{ReplicaId}
use Rattle.base.specs.declared.replica_set.ReplicaSet.{ReplicaSet}
use Rattle.base.proofs.Range.{inside}
use Rattle.wire.specs.Proof.{signers, read_entries}

abbrev pub from : ℕ → List ℕ → ℕ → List ReplicaId
from count bytes i = signers (read_entries (count - i) (drop (65 * i) bytes))

pub from_start : (count : ℕ) (bytes : List ℕ) → from count bytes 0 ≡ signers (read_entries count bytes)
from_start count bytes = let all : count - 0 ≡ count = omega arith in rw all

-- 9 of signers, where these are left and the ones before them, the last of which is given, are in the set.
abbrev pub found : ReplicaSet → ℕ → ℕ → List ReplicaId → Outcome ReplicaSet
found set last n ids = guard 9 (rising last n ids) (accepted (with_all set ids))

pub found_all : (set : ReplicaSet) (last n count : ℕ) (bytes : List ℕ) (i : ℕ) → count ≤ i → found set last n (from count bytes i) ≡ accepted set
unfolding read_entries rising with_all guard
found_all set last n count bytes i h = let none : count - i ≡ 0 = omega arith in rw none

module _ (count : ℕ) (bytes : List ℕ) (i : ℕ) (h : i < count) where
  from_step : from count bytes i ≡ record { 0 = get_or bytes (65 * i) 0 } ∷ from count bytes (i + 1)
  unfolding read_entries
  from_step =
      let more : count - i ≡ suc (count - (i + 1)) = omega arith in
      let here : 65 * i + 0 ≡ 65 * i = omega arith in
      let behind : 65 * i + 65 ≡ 65 * (i + 1) = omega arith in
      rw (more, get_or-drop (65 * i) bytes 0 0, here, drop-drop 65 (65 * i) bytes, behind)

  -- What the signer at an index says of all from there on.
  module _ (n last : ℕ) (set : ReplicaSet) where
    pub falls : get_or bytes (65 * i) 0 ≤ last → found set last n (from count bytes i) ≡ refused 9
    unfolding rising guard
    falls k = rw (from_step, le-ltb last (get_or bytes (65 * i) 0) k)

    pub beyond : n < get_or bytes (65 * i) 0 → found set last n (from count bytes i) ≡ refused 9
    unfolding rising guard
    beyond k = rw (from_step, lt-leb (get_or bytes (65 * i) 0) n k, and-false (ltb last (get_or bytes (65 * i) 0)))

    pub rises : last < get_or bytes (65 * i) 0 → get_or bytes (65 * i) 0 ≤ n
        → found set last n (from count bytes i) ≡ found (with set (record { 0 = get_or bytes (65 * i) 0 })) (get_or bytes (65 * i) 0) n (from count bytes (i + 1))
    unfolding rising with_all
    rises k l = rw (from_step, lt-ltb last (get_or bytes (65 * i) 0) k, le-leb (get_or bytes (65 * i) 0) n l)

-- Bits that are gathered one place higher: replica r is bit r.
pub gathered : (bits signer : ℕ) (set : ReplicaSet) → bits ≡ 2 * set.0 → 0 < signer → signer ≤ 16 → bit_or bits (2 ^ signer) ≡ 2 * (with set (record { 0 = signer })).0
unfolding with
gathered bits zero set e h l = elim h [ ]
gathered bits (suc r) set e h l =
    let p = pow-suc 2 r in
    let own : set.0 * 2 ^ 1 + 0 ≡ bits = omega arith in
    let new : 2 ^ r * 2 ^ 1 + 0 ≡ 2 ^ suc r = omega arith in
    let both = or_block 1 set.0 (2 ^ r) 0 0 (omega arith) (omega arith) in
    let less : suc r - 1 ≡ r = omega arith in
    rw (inside 1 16 (suc r) (omega arith) l, less) (rw (own, new) at both ∙ omega arith)

either_side : (a b : ℕ) → (a ≤ b) ⊎ (b < a)
either_side a b = go (leb a b) refl
  where
    go : (t : Bool) → leb a b ≡ t → (a ≤ b) ⊎ (b < a)
    go true e = inl (leb-true a b e)
    go false e = inr (leb-false a b e)

abbrev members : ℕ → Outcome ReplicaSet
members bits = accepted (record { 0 = bits })

-- What the code has found before these signers: the ones before them in `bits`, or that the last of them is above n.
pub record Gathered (n : ℕ) (result : Outcome ReplicaSet) (bits last : ℕ) (ids : List ReplicaId) : Type 0 where
  pub set : ReplicaSet
  pub low : last ≤ n → (result ≡ found set last n ids) × (bits ≡ 2 * set.0) × (bits < 2 ^ 17)
  pub high : n < last → result ≡ refused 9

module _ {n : ℕ} {result : Outcome ReplicaSet} {bits last : ℕ} (count : ℕ) (bytes : List ℕ) (i : ℕ) (g : Gathered n result bits last (from count bytes i)) where
  pub gather_falls : i < count → get_or bytes (65 * i) 0 ≤ last → result ≡ refused 9
  gather_falls h k = go (either_side last n)
    where
      go : (last ≤ n) ⊎ (n < last) → result ≡ refused 9
      go (inl l) = (g.low l).0 ∙ falls count bytes i h n last g.set k
      go (inr m) = g.high m

  gather_beyond : i < count → n < get_or bytes (65 * i) 0 → result ≡ refused 9
  gather_beyond h k = go (either_side last n)
    where
      go : (last ≤ n) ⊎ (n < last) → result ≡ refused 9
      go (inl l) = (g.low l).0 ∙ beyond count bytes i h n last g.set k
      go (inr m) = g.high m

  gather_low : n ≤ 16 → i < count → last < get_or bytes (65 * i) 0 → get_or bytes (65 * i) 0 ≤ n
      → (result ≡ found (with g.set (record { 0 = get_or bytes (65 * i) 0 })) (get_or bytes (65 * i) 0) n (from count bytes (i + 1)))
      × (bit_or bits (2 ^ (get_or bytes (65 * i) 0 % 32)) ≡ 2 * (with g.set (record { 0 = get_or bytes (65 * i) 0 })).0)
      × (bit_or bits (2 ^ (get_or bytes (65 * i) 0 % 32)) < 2 ^ 17)
  gather_low few h k l =
      let x = get_or bytes (65 * i) 0 in
      let q = g.low (omega arith) in
      let whole : x % 32 ≡ x = omega arith in
      let most = pow-le-pow_right {n = 2} (omega arith) {i = x} {j = 16} (omega arith) in
      let room : bit_or bits (2 ^ x) < 2 ^ 17 = or_lt 17 bits (2 ^ x) q.2 (omega (arith, most)) in
      (q.0 ∙ rises count bytes i h n last g.set k l, rw whole (gathered bits x g.set q.1 (omega arith) (omega arith)), rw whole room)

  pub gather_next : {bits' : ℕ} → n ≤ 16 → i < count → last < get_or bytes (65 * i) 0 → bits' ≡ bit_or bits (2 ^ (get_or bytes (65 * i) 0 % 32))
      → Gathered n result bits' (get_or bytes (65 * i) 0) (from count bytes (i + 1))
  gather_next few h k e = record {
    set = with g.set (record { 0 = get_or bytes (65 * i) 0 });
    low = λ l. rw e (gather_low few h k l);
    high = λ m. gather_beyond h m;
  }

  pub gather_all : last ≤ n → count ≤ i → (result ≡ accepted (record { 0 = bits / 2 })) × (bits / 2 < 2 ^ 16)
  gather_all l h =
      let q = g.low l in
      let half : g.set.0 ≡ bits / 2 = omega (arith, q.1) in
      (q.0 ∙ found_all g.set last n count bytes i h ∙ ap members half, omega (arith, q.2))
