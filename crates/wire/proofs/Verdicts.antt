-- One test over all of a list of verdicts. Assumes nothing.
use Rattle.std.proofs.Common.{◌≡◌, ℕ, ◌+◌, ◌<◌, ◌≤◌, max, Bool, true, false, ◌&&◌, eqb, leb, List, [], ◌∷◌, ◌++◌, length, get_or, take, drop, sym, refl, ap, ◌∙◌, add-one, arith, drop-cons, drop-drop, take-append-drop, eq-eqb, ne_eqb, eqb-true, le-leb, leb-false, leb-true}
use mathlib.Core.Bool.{and_assoc}
use borrow.Author.Tests.{eqb-false, lt-leb}
use Rattle.base.specs.BigEndian.{from_bytes}
use Rattle.wire.specs.Checks.{all, genuine}
use Rattle.wire.proofs.Windows.{front}

-- What is left from an index on is the element there and what is left behind it.
pub all_step : (test : ℕ → Bool) (xs : List ℕ) (i : ℕ) → i < length xs → all test (drop i xs) ≡ (test (get_or xs i 0) && all test (drop (i + 1) xs))
unfolding all
all_step test xs i h = rw (add-one, drop-cons xs i 0 h)

pub all_agree : (p q : ℕ → Bool) → ((x : ℕ) → p x ≡ q x) → (xs : List ℕ) → all p xs ≡ all q xs
unfolding all
all_agree p q h [] = refl
all_agree p q h (x ∷ xs) = rw (h x, all_agree p q h xs)

pub all_append : (test : ℕ → Bool) (xs ys : List ℕ) → all test (xs ++ ys) ≡ (all test xs && all test ys)
unfolding all
all_append test [] ys = refl
all_append test (x ∷ xs) ys = rw (all_append test xs ys) (sym (and_assoc (test x) (all test xs) (all test ys)))

-- No number is above one if the larger of two is not.
pub up_to_larger : (m x h : ℕ) (rest : Bool) → (leb m h && (leb x h && rest)) ≡ (leb (max m x) h && rest)
up_to_larger m x h rest = go (leb m h) (leb x h) refl refl
  where
    go : (p q : Bool) → leb m h ≡ p → leb x h ≡ q → (p && (q && rest)) ≡ (leb (max m x) h && rest)
    go true true em ex = rw (le-leb (max m x) h (omega (arith, leb-true m h em, leb-true x h ex)))
    go true false em ex = rw (lt-leb (max m x) h (omega (arith, leb-false x h ex)))
    go false q em ex = rw (lt-leb (max m x) h (omega (arith, leb-false m h em)))

-- Four bytes are 1 if the number that they write is.
ones : (a b c d : ℕ) → a < 256 → b < 256 → c < 256 → d < 256 → eqb (from_bytes (a ∷ b ∷ c ∷ d ∷ [])) 0x0101_0101 ≡ all (λ v. eqb v 1) (a ∷ b ∷ c ∷ d ∷ [])
unfolding all from_bytes
ones a b c d ha hb hc hd = go (eqb a 1) (eqb b 1) (eqb c 1) (eqb d 1) refl refl refl refl
  where
    go : (p q r s : Bool) → eqb a 1 ≡ p → eqb b 1 ≡ q → eqb c 1 ≡ r → eqb d 1 ≡ s → eqb (from_bytes (a ∷ b ∷ c ∷ d ∷ [])) 0x0101_0101 ≡ (p && (q && (r && (s && true))))
    go true true true true ea eb ec ed = eq-eqb (from_bytes (a ∷ b ∷ c ∷ d ∷ [])) 0x0101_0101 (omega (arith, eqb-true a 1 ea, eqb-true b 1 eb, eqb-true c 1 ec, eqb-true d 1 ed))
    go true true true false ea eb ec ed = ne_eqb (from_bytes (a ∷ b ∷ c ∷ d ∷ [])) 0x0101_0101 (λ e. eqb-false d 1 ed (omega (arith, e)))
    go true true false s ea eb ec ed = ne_eqb (from_bytes (a ∷ b ∷ c ∷ d ∷ [])) 0x0101_0101 (λ e. eqb-false c 1 ec (omega (arith, e)))
    go true false r s ea eb ec ed = ne_eqb (from_bytes (a ∷ b ∷ c ∷ d ∷ [])) 0x0101_0101 (λ e. eqb-false b 1 eb (omega (arith, e)))
    go false q r s ea eb ec ed = ne_eqb (from_bytes (a ∷ b ∷ c ∷ d ∷ [])) 0x0101_0101 (λ e. eqb-false a 1 ea (omega (arith, e)))

-- Four verdicts from a place on as one number, and what is left behind them.
module _ (s : List ℕ) (bytes : (i : ℕ) → get_or s i 0 < 256) (at : ℕ) (room : at + 4 ≤ length s) where
  abbrev four : ℕ
  four = from_bytes (take 4 (drop at s))

  genuine_front : genuine (drop at s) ≡ (eqb four 0x0101_0101 && genuine (drop (at + 4) s))
  genuine_front =
      ap genuine (sym (take-append-drop 4 (drop at s)))
      ∙ all_append (λ v. eqb v 1) (take 4 (drop at s)) (drop 4 (drop at s))
      ∙ rw (drop-drop 4 at s, front s at 3 room) (ap (λ (b : Bool). b && genuine (drop (at + 4) s)) (sym (ones (get_or s at 0) (get_or s (at + 1) 0) (get_or s (at + 2) 0) (get_or s (at + 3) 0) (bytes at) (bytes (at + 1)) (bytes (at + 2)) (bytes (at + 3)))))

  pub four_genuine : four ≡ 0x0101_0101 → genuine (drop at s) ≡ genuine (drop (at + 4) s)
  four_genuine e = genuine_front ∙ rw (eq-eqb four 0x0101_0101 e)

  pub four_forged : (four ≡ 0x0101_0101 → ⊥) → genuine (drop at s) ≡ false
  four_forged e = genuine_front ∙ rw (ne_eqb four 0x0101_0101 e)
