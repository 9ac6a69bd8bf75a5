-- The order of the refusals is that of their numbers. Assumes nothing.
use Rattle.std.proofs.Common.{◌≡◌, ℕ, Bool, true, false, cond, ltb, List, [], ◌∷◌, get_or, sym, refl, ap, ◌∙◌, arith, ltb-true, ltb-false, int_cmp, min}
use native.Mathlib.Nat.{min-eq_left, min-eq_right}
use lib.IntN.{ℤ, pos}
use denote.Enum.Declared.{tag_of}
use Rattle.std.specs.Ordering.{ord_min, is_lt}
use Rattle.std.specs.declared.cmp.Ordering.TheVariants.{Less, Equal, Greater}
use Rattle.base.specs.Refusal.{number_of}
use Rattle.base.specs.contracts.refusal.Refusal.{the_type}
use Rattle.base.specs.contracts.refusal.RefusalOrd.TheImpl.{cmp-value}
use Rattle.base.specs.declared.refusal.Refusal.{Refusal}
use Rattle.base.specs.declared.refusal.Refusal.TheVariants.{OutputTooShort, MessageLength, BitMap, FieldLengths, Kind, Sender, Verdicts, NotGenuine, NotAQuorum, EntryNotGenuine, NotIssued, NotSuccessor, BadCard, NotTaken, SetUp, Busy, NotAwaited, NotForViewers, Register, Order, OrderNotGenuine, Withdrawn}

-- The numbers in the order of the variants.
abbrev numbers : List ℤ
numbers = pos 1 ∷ pos 2 ∷ pos 3 ∷ pos 4 ∷ pos 5 ∷ pos 6 ∷ pos 7 ∷ pos 8 ∷ pos 9 ∷ pos 10 ∷ pos 11 ∷ pos 13 ∷ pos 14 ∷ pos 15 ∷ pos 16 ∷ pos 17 ∷ pos 18 ∷ pos 19 ∷ pos 20 ∷ pos 21 ∷ pos 22 ∷ pos 23 ∷ []

numbered : (r : Refusal) → get_or numbers (tag_of the_type r) (pos 0) ≡ pos (number_of r)
numbered OutputTooShort = refl
numbered MessageLength = refl
numbered BitMap = refl
numbered FieldLengths = refl
numbered Kind = refl
numbered Sender = refl
numbered Verdicts = refl
numbered NotGenuine = refl
numbered NotAQuorum = refl
numbered EntryNotGenuine = refl
numbered NotIssued = refl
numbered NotSuccessor = refl
numbered BadCard = refl
numbered NotTaken = refl
numbered SetUp = refl
numbered Busy = refl
numbered NotAwaited = refl
numbered NotForViewers = refl
numbered Register = refl
numbered Order = refl
numbered OrderNotGenuine = refl
numbered Withdrawn = refl

by_number : (m n : Refusal) → (cmp-value).it m n ≡ int_cmp (pos (number_of m)) (pos (number_of n))
by_number m n = ap (λ (x : ℤ). int_cmp x (get_or numbers (tag_of the_type n) (pos 0))) (numbered m) ∙ ap (λ (y : ℤ). int_cmp (pos (number_of m)) y) (numbered n)

less : (a b : ℕ) → is_lt (int_cmp (pos a) (pos b)) ≡ ltb a b
less a b = go (ltb a b) (ltb b a)
  where
    go : (p q : Bool) → is_lt (cond p Less (cond q Greater Equal)) ≡ p
    go true q = refl
    go false true = refl
    go false false = refl

pub smaller_number : (m n r : Refusal) → r ≡ ord_min (cmp-value).it m n → number_of r ≡ min (number_of m) (number_of n)
smaller_number m n r e = ap number_of e ∙ go (ltb (number_of n) (number_of m)) refl
  where
    test : is_lt ((cmp-value).it n m) ≡ ltb (number_of n) (number_of m)
    test = ap is_lt (by_number n m) ∙ less (number_of n) (number_of m)

    go : (b : Bool) → ltb (number_of n) (number_of m) ≡ b → number_of (cond (is_lt ((cmp-value).it n m)) n m) ≡ min (number_of m) (number_of n)
    go true t = let below = ltb-true (number_of n) (number_of m) t in rw (test ∙ t) (sym (min-eq_right (omega arith)))
    go false t = let above = ltb-false (number_of n) (number_of m) t in rw (test ∙ t) (sym (min-eq_left (omega arith)))
