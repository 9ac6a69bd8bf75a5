-- The rows of the table of kinds: which one a message has. Assumes nothing.
use Rattle.std.proofs.Common.{◌≡◌, ℕ, ◌+◌, ◌-◌, ◌/◌, ◌^◌, ◌≤◌, Bool, true, false, cond, eqb, leb, ◌⊎◌, List, [], ◌∷◌, get_or, sym, refl, ap, ◌∙◌, subst, subst₂, inl, inr, arith, eqb-true, leb-false, leb-true}
use mathlib.Core.Option.{none, some}
use native.Mathlib.Nat.{div-eq_of_lt}
use Rattle.base.specs.BitMap.{bit, map_of}
use Rattle.base.specs.Outcome.{Outcome, accepted, refused, guard}
use Rattle.base.specs.declared.party.RegisterId.{RegisterId}
use Rattle.base.proofs.Booleans.{and_true_both}
use Rattle.base.proofs.Outcome.{guard_passes, guard_accepted}
use Rattle.base.proofs.Apart.{apart}
use Rattle.wire.specs.Decode.{Row, kinds, of_kind, same_party, suits, map_with, without, good_map, taker_of}
use Rattle.wire.specs.Message.{Message, READ-STAMP, PREPARE, WRITE, READ, STAMP, PREPARED, WRITTEN, CARD, kind_of, fields}
use Rattle.wire.specs.declared.message.Party.{Party}
use Rattle.wire.specs.declared.message.Party.TheVariants.{Replica, Client}

no_true : {A : Type 0} → ◌≡◌ {A = Bool} false true → A
no_true e = apart (cc)

-- The row of a kind.
abbrev no_row : Row
no_row = record { number = 0; taker = Replica; must = []; may = []; message = λ bytes. refused 5 }

unfoldable pub row : ℕ → Row
row k = get_or kinds (k - 1) no_row

-- The bits of a message are its row's, and its taker takes it.
pub own_row : {A : Type 0} (x : RegisterId) (m : Message) (next : Row → Outcome A) → of_kind (taker_of m) (map_of (fields x m)) (kind_of m) kinds next ≡ next (row (kind_of m))
unfolding of_kind kinds row fields guard
own_row x (READ-STAMP c n) next = refl
own_row x (PREPARE c t d none none) next = refl
own_row x (PREPARE c t d none (some w)) next = refl
own_row x (PREPARE c t d (some p) none) next = refl
own_row x (PREPARE c t d (some p) (some w)) next = refl
own_row x (WRITE c card proof) next = refl
own_row x (READ c n) next = refl
own_row x (STAMP r n none c) next = refl
own_row x (STAMP r n (some p) c) next = refl
own_row x (PREPARED r t d) next = refl
own_row x (WRITTEN r t) next = refl
own_row x (CARD r n card none c) next = refl
own_row x (CARD r n card (some p) c) next = refl

pub good_map_lem : (x : RegisterId) (m : Message) → good_map (map_of (fields x m)) ≡ true
unfolding fields
good_map_lem x (READ-STAMP c n) = refl
good_map_lem x (PREPARE c t d none none) = refl
good_map_lem x (PREPARE c t d none (some w)) = refl
good_map_lem x (PREPARE c t d (some p) none) = refl
good_map_lem x (PREPARE c t d (some p) (some w)) = refl
good_map_lem x (WRITE c card proof) = refl
good_map_lem x (READ c n) = refl
good_map_lem x (STAMP r n none c) = refl
good_map_lem x (STAMP r n (some p) c) = refl
good_map_lem x (PREPARED r t d) = refl
good_map_lem x (WRITTEN r t) = refl
good_map_lem x (CARD r n card none c) = refl
good_map_lem x (CARD r n card (some p) c) = refl

-- A bit that may be there: with it or without it.
bit_power : (map b : ℕ) → bit map b ≡ true → 2 ^ b ≤ map
bit_power map b set = go (leb (2 ^ b) map) refl
  where
    go : (t : Bool) → leb (2 ^ b) map ≡ t → 2 ^ b ≤ map
    go true e = leb-true (2 ^ b) map e
    go false e =
        let clear : map / 2 ^ b ≡ 0 = div-eq_of_lt (leb-false (2 ^ b) map e) in
        no_true (rw clear at set)

may_be : (P : ℕ → Type 0) (b map n : ℕ) → without (b ∷ []) map ≡ n → P n → P (n + 2 ^ b) → P map
may_be P b map n e clear set = go (bit map b) refl e
  where
    go : (t : Bool) → bit map b ≡ t → cond t (map - 2 ^ b) map ≡ n → P map
    go true there e = let more : n + 2 ^ b ≡ map = omega (arith, bit_power map b there) in subst P more set
    go false there e = subst P (sym e) clear

-- The bits 0 to 9.
abbrev pub bits : ℕ → List Bool
bits map = bit map 0 ∷ bit map 1 ∷ bit map 2 ∷ bit map 3 ∷ bit map 4 ∷ bit map 5 ∷ bit map 6 ∷ bit map 7 ∷ bit map 8 ∷ bit map 9 ∷ []

-- What the table lets through: the kinds with their bits, and who takes them.
pub data Taken (map : ℕ) : ℕ → Party → Type 0 where
  read_stamp : bits map ≡ true ∷ true ∷ true ∷ false ∷ false ∷ false ∷ false ∷ false ∷ false ∷ true ∷ [] → Taken map 1 Replica
  prepare : bits map ≡ true ∷ true ∷ false ∷ true ∷ true ∷ false ∷ bit map 6 ∷ bit map 7 ∷ false ∷ true ∷ [] → Taken map 2 Replica
  write : bits map ≡ true ∷ true ∷ false ∷ false ∷ false ∷ true ∷ true ∷ false ∷ false ∷ true ∷ [] → Taken map 3 Replica
  read : bits map ≡ true ∷ true ∷ true ∷ false ∷ false ∷ false ∷ false ∷ false ∷ false ∷ true ∷ [] → Taken map 4 Replica
  stamp : bits map ≡ true ∷ true ∷ true ∷ false ∷ false ∷ false ∷ bit map 6 ∷ false ∷ true ∷ true ∷ [] → Taken map 5 Client
  prepared : bits map ≡ true ∷ true ∷ false ∷ true ∷ true ∷ false ∷ false ∷ false ∷ false ∷ true ∷ [] → Taken map 6 Client
  written : bits map ≡ true ∷ true ∷ false ∷ true ∷ false ∷ false ∷ false ∷ false ∷ false ∷ true ∷ [] → Taken map 7 Client
  card : bits map ≡ true ∷ true ∷ true ∷ false ∷ false ∷ true ∷ bit map 6 ∷ false ∷ true ∷ true ∷ [] → Taken map 8 Client

-- Each has the register's bit.
pub has_register : {map kind : ℕ} {party : Party} → Taken map kind party → bit map 9 ≡ true
has_register (read_stamp e) = cc
has_register (prepare e) = cc
has_register (write e) = cc
has_register (read e) = cc
has_register (stamp e) = cc
has_register (prepared e) = cc
has_register (written e) = cc
has_register (card e) = cc

prepare_bits : (map : ℕ) → without (6 ∷ 7 ∷ []) map ≡ 539 → bits map ≡ true ∷ true ∷ false ∷ true ∷ true ∷ false ∷ bit map 6 ∷ bit map 7 ∷ false ∷ true ∷ []
prepare_bits map e =
    may_be (λ (n : ℕ). without (6 ∷ []) map ≡ n → P map) 7 (without (6 ∷ []) map) 539 e (λ e6. may_be P 6 map 539 e6 refl refl) (λ e6. may_be P 6 map 667 e6 refl refl) refl
  where
    P : ℕ → Type 0
    P map = bits map ≡ true ∷ true ∷ false ∷ true ∷ true ∷ false ∷ bit map 6 ∷ bit map 7 ∷ false ∷ true ∷ []

stamp_bits : (map : ℕ) → without (6 ∷ []) map ≡ 775 → bits map ≡ true ∷ true ∷ true ∷ false ∷ false ∷ false ∷ bit map 6 ∷ false ∷ true ∷ true ∷ []
stamp_bits map e = may_be (λ (map : ℕ). bits map ≡ true ∷ true ∷ true ∷ false ∷ false ∷ false ∷ bit map 6 ∷ false ∷ true ∷ true ∷ []) 6 map 775 e refl refl

card_bits : (map : ℕ) → without (6 ∷ []) map ≡ 807 → bits map ≡ true ∷ true ∷ true ∷ false ∷ false ∷ true ∷ bit map 6 ∷ false ∷ true ∷ true ∷ []
card_bits map e = may_be (λ (map : ℕ). bits map ≡ true ∷ true ∷ true ∷ false ∷ false ∷ true ∷ bit map 6 ∷ false ∷ true ∷ true ∷ []) 6 map 807 e refl refl

same_party_lem : (p q : Party) → same_party p q ≡ true → p ≡ q
same_party_lem Replica Replica e = refl
same_party_lem Replica Client e = no_true e
same_party_lem Client Replica e = no_true e
same_party_lem Client Client e = refl

-- Which row lets a kind and a map through.
module _ (party : Party) (map number : ℕ) where
  abbrev Among : List Row → Type 0
  Among [] = ⊥
  Among (r ∷ rows) = ((number ≡ r.number) × (suits party map r ≡ true)) ⊎ Among rows

  among : {A : Type 0} (rows : List Row) (next : Row → Outcome A) (a : A) → of_kind party map number rows next ≡ accepted a → Among rows
  unfolding of_kind
  among [] next a e = apart (cc)
  among (r ∷ rows) next a e = go (among rows next a) (eqb number r.number) refl e
    where
      go : (of_kind party map number rows next ≡ accepted a → Among rows) → (t : Bool) → eqb number r.number ≡ t
          → cond t (guard 5 (suits party map r) (next r)) (of_kind party map number rows next) ≡ accepted a → Among (r ∷ rows)
      go ih true same e = inl (eqb-true number r.number same, (guard_accepted 5 (suits party map r) (next r) a e).0)
      go ih false same e = inr (ih e)

  -- A row let through: the outcome is that row's.
  pub record HasRow : Type 1 where
    pub taken : Taken map number party
    pub passes : (A : Type 0) (next : Row → Outcome A) → of_kind party map number kinds next ≡ next (row number)

  pass : (k : ℕ) → (number ≡ k) × (suits party map (row k) ≡ true)
      → ((A : Type 0) (next : Row → Outcome A) → of_kind party map k kinds next ≡ guard 5 (suits party map (row k)) (next (row k)))
      → (without (row k).may map ≡ map_with (row k).must → Taken map k (row k).taker) → HasRow
  pass k h table take =
      let r = row k in
      let fit = and_true_both (same_party party r.taker) (eqb (without r.may map) (map_with r.must)) h.1 in
      record {
        taken = subst₂ (λ (n : ℕ) (p : Party). Taken map n p) (sym h.0) (sym (same_party_lem party r.taker fit.0)) (take (eqb-true (without r.may map) (map_with r.must) fit.1));
        passes = λ A next.
            ap (λ (n : ℕ). of_kind party map n kinds next) h.0 ∙ table A next ∙ guard_passes 5 (suits party map r) (next r) h.1 ∙ ap (λ (n : ℕ). next (row n)) (sym h.0);
      }

  passed : Among kinds → HasRow
  unfolding kinds row of_kind
  passed (inl h) = pass 1 h (λ A next. refl) (λ e. read_stamp (ap bits e))
  passed (inr (inl h)) = pass 2 h (λ A next. refl) (λ e. prepare (prepare_bits map e))
  passed (inr (inr (inl h))) = pass 3 h (λ A next. refl) (λ e. write (ap bits e))
  passed (inr (inr (inr (inl h)))) = pass 4 h (λ A next. refl) (λ e. read (ap bits e))
  passed (inr (inr (inr (inr (inl h))))) = pass 5 h (λ A next. refl) (λ e. stamp (stamp_bits map e))
  passed (inr (inr (inr (inr (inr (inl h)))))) = pass 6 h (λ A next. refl) (λ e. prepared (ap bits e))
  passed (inr (inr (inr (inr (inr (inr (inl h))))))) = pass 7 h (λ A next. refl) (λ e. written (ap bits e))
  passed (inr (inr (inr (inr (inr (inr (inr (inl h)))))))) = pass 8 h (λ A next. refl) (λ e. card (card_bits map e))
  passed (inr (inr (inr (inr (inr (inr (inr (inr h)))))))) = absurd h

  pub accepted_passed : {A : Type 0} (next : Row → Outcome A) (a : A) → of_kind party map number kinds next ≡ accepted a → HasRow
  accepted_passed next a e = passed (among kinds next a e)
