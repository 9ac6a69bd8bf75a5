-- A line of 39 bytes or more is unread, so that cutting it there changes nothing. Assumes nothing.
use Rattle.std.proofs.Common.{Option, None, ◌^◌}
use mathlib.Core.Path.{◌≡◌, refl, ap}
use mathlib.Core.Bool.{Bool, true, false, cond, ◌&&◌, and-false}
use mathlib.Core.List.{List, [], ◌∷◌, ◌++◌, map}
use Prim.Native.Nat.{ℕ, ◌+◌, ◌-◌, ◌*◌, ◌≤◌}
use native.Mathlib.Omega.{arith}
use borrow.Author.Tests.{le-ltb, ne_eqb, eqb-false, leb-true, leb-false}
use lib.Dec.{eqb, ltb, leb}
use lib.ListN.{length, get_or, take, drop, length-drop}
use lib.Seq.{take_all, length-take-le}
use Rattle.base.specs.Range.{within}
use Rattle.base.proofs.Range.{above, bounds}
use Rattle.text.specs.Decimal.{with_digits, below}
use Rattle.play.specs.Grammar.{is_hex_card, message_number, asked, short, command}
use Rattle.play.specs.Output.{line}
use Rattle.play.specs.declared.grammar.Command.{Command}
use Rattle.play.specs.Player.{Turn, addressee, does, turn}
use Rattle.play.specs.Session.{printed_lines}
use Rattle.play.specs.declared.world.World.{World}

-- Digits behind a number lead to no smaller one.
past : (n : ℕ) (digits : List ℕ) → 1_000 ≤ n → below 1_000 (with_digits n digits) ≡ None
unfolding with_digits
past n [] h = rw (le-ltb n 1_000 h)
past n (digit ∷ digits) h = go (within 48 57 digit && ltb (n * 10 + (digit - 48)) (2 ^ 64)) (past (n * 10 + (digit - 48)) digits (omega arith))
  where
    go : (b : Bool) → below 1_000 (with_digits (n * 10 + (digit - 48)) digits) ≡ None → below 1_000 (cond b (with_digits (n * 10 + (digit - 48)) digits) None) ≡ None
    go true e = e
    go false e = refl

later : (n digit : ℕ) (digits : List ℕ) → ((m : ℕ) → n * 10 + (digit - 48) ≡ m → below 1_000 (with_digits m digits) ≡ None) → below 1_000 (with_digits n (digit ∷ digits)) ≡ None
unfolding with_digits
later n digit digits h = go (within 48 57 digit && ltb (n * 10 + (digit - 48)) (2 ^ 64))
  where
    go : (b : Bool) → below 1_000 (cond b (with_digits (n * 10 + (digit - 48)) digits) None) ≡ None
    go true = h _ refl
    go false = refl

-- A number of four digits or more is no message's.
long_number : (digits : List ℕ) → 4 ≤ length digits → message_number digits ≡ None
unfolding message_number with_digits
long_number [] h = absurd (omega arith)
long_number (a ∷ []) h = absurd (omega arith)
long_number (a ∷ b ∷ []) h = absurd (omega arith)
long_number (a ∷ b ∷ c ∷ []) h = absurd (omega arith)
long_number (a ∷ b ∷ c ∷ d ∷ digits) h = go (eqb a 48) refl
  where
    first : (a ≡ 48 → ⊥) → (t : Bool) → within 48 57 a ≡ t → below 1_000 (with_digits 0 (a ∷ b ∷ c ∷ d ∷ digits)) ≡ None
    first other true e =
        let digit = bounds 48 57 a e in
        later 0 a (b ∷ c ∷ d ∷ digits) (λ k e₁. later k b (c ∷ d ∷ digits) (λ m e₂. later m c (d ∷ digits) (λ n e₃. later n d digits (λ o e₄. past o digits (omega arith)))))
    first other false e = rw e

    go : (t : Bool) → eqb a 48 ≡ t → cond t None (below 1_000 (with_digits 0 (a ∷ b ∷ c ∷ d ∷ digits))) ≡ None
    go true e = refl
    go false e = first (eqb-false a 48 e) (within 48 57 a) refl

asked_long : (letter party : ℕ) (rest : List ℕ) → 35 ≤ length rest → asked letter party rest ≡ None
unfolding asked is_hex_card
asked_long letter party rest h =
    rw (long_number rest (omega arith), above 2 34 (length rest) (omega arith), and-false (eqb letter 119)) (go (eqb letter 104) (eqb letter 100))
  where
    go : (b c : Bool) → ◌≡◌ {A = Option Command} (cond b None (cond c None None)) None
    go true c = refl
    go false true = refl
    go false false = refl

long_unread : (text : List ℕ) → 39 ≤ length text → command text ≡ None
unfolding command short
long_unread text h = go (eqb (get_or text 1 0) 32 && within 49 52 (get_or text 2 0)) (eqb (get_or text 3 0) 32)
  where
    go : (b c : Bool) → cond b (cond c (asked (get_or text 0 0) (get_or text 2 0 - 48) (drop 4 text)) (short (get_or text 0 0) (get_or text 2 0 - 48) text)) None ≡ None
    go true true = asked_long (get_or text 0 0) (get_or text 2 0 - 48) (drop 4 text) (simp length-drop (omega arith))
    go true false = rw (ne_eqb (length text) 3 (λ e. omega arith))
    go false c = refl

-- A line that is cut to 39 bytes does what it does whole.
pub cut_turn : (world : World) (store text : List ℕ) → turn world store (take 39 text) ≡ turn world store text
unfolding turn does addressee
cut_turn world store text = go (leb (length text) 39) refl
  where
    go : (b : Bool) → leb (length text) 39 ≡ b → turn world store (take 39 text) ≡ turn world store text
    go true e = rw (take_all 39 text (leb-true (length text) 39 e))
    go false e =
        let h = leb-false (length text) 39 e in
        let whole : length (take 39 text) ≡ 39 = length-take-le 39 text (omega arith) in
        rw (long_unread (take 39 text) (omega arith), long_unread text (omega arith))

pub cut_lines : (world : World) (store : List ℕ) (number : ℕ) (texts : List (List ℕ)) → printed_lines world store number (map (take 39) texts) ≡ printed_lines world store number texts
unfolding printed_lines
cut_lines world store number [] = refl
cut_lines world store number (text ∷ texts) =
    let t : Turn = turn world store text in
    rw (cut_turn world store text) (ap (λ (l : List ℕ). line number t.said t.card ++ l) (cut_lines t.world t.store (number + 1) texts))
