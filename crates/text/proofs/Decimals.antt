-- Decimal digits: the last one of a number, and the number that a word writes, digit by digit. Assumes nothing.
use mathlib.Core.Path.{◌≡◌, refl, ap}
use mathlib.Core.Bool.{Bool, true, false, cond, ◌&&◌}
use mathlib.Core.List.{List, [], ◌∷◌, ◌++◌}
use Rattle.std.specs.declared.option.Option.TheVariants.{Some, None}
use Prim.Native.Nat.{ℕ, zero, suc, ◌+◌, ◌-◌, ◌*◌, ◌/◌, ◌%◌, ◌^◌, ◌≤◌, ◌<◌}
use native.Mathlib.Nat.{pow-suc}
use native.Mathlib.Numerals.{add-one}
use native.Mathlib.Omega.{arith}
use borrow.Author.Tests.{lt-ltb, le-ltb}
use lib.Dec.{ltb}
use lib.ListN.{length, get_or, drop, drop_of_length-le}
use lib.Seq.{drop-cons}
use Rattle.base.specs.Range.{within}
use Rattle.base.proofs.Apart.{apart}
use Rattle.text.specs.Decimal.{digits_within, decimal, with_digits}

-- One digit more is not used by a number that has fewer.
spare : (more n : ℕ) → n < 10 ^ suc more → digits_within (suc more) n ≡ digits_within more n
unfolding digits_within
spare zero n small = let few : n < 10 = small in let last : n % 10 ≡ n = omega arith in rw (lt-ltb n 10 few, last)
spare (suc more) n small =
    let e = pow-suc 10 (suc more) in
    let rest = spare more (n / 10) (omega arith) in
    ap (λ (front : List ℕ). cond (ltb n 10) ((48 + n) ∷ []) (front ++ ((48 + n % 10) ∷ []))) rest

module _ (n : ℕ) where
  pub one_digit : n < 10 → decimal n ≡ (48 + n) ∷ []
  unfolding digits_within
  one_digit small = rw (lt-ltb n 10 small)

  -- The digits before the last are those of the number without it.
  pub last_digit : 10 ≤ n → n < 10 ^ 20 → decimal n ≡ decimal (n / 10) ++ ((48 + n % 10) ∷ [])
  unfolding digits_within
  last_digit large fits = rw (le-ltb n 10 large, spare 18 (n / 10) (omega arith))

-- The digit at a place of a word, and those behind it.
module _ (n : ℕ) (word : List ℕ) (i : ℕ) (inside : i < length word) where
  pub none_further : with_digits n (get_or word i 0 ∷ []) ≡ None → with_digits n (drop i word) ≡ None
  unfolding with_digits
  none_further e = rw (drop-cons word i 0 inside) (go (within 48 57 (get_or word i 0) && ltb (n * 10 + (get_or word i 0 - 48)) (2 ^ 64)) e)
    where
      go : (b : Bool) → cond b (Some (n * 10 + (get_or word i 0 - 48))) None ≡ None → cond b (with_digits (n * 10 + (get_or word i 0 - 48)) (drop (suc i) word)) None ≡ None
      go true e = apart (cc)
      go false e = refl

  pub further : (m : ℕ) → with_digits n (get_or word i 0 ∷ []) ≡ Some m → with_digits n (drop i word) ≡ with_digits m (drop (i + 1) word)
  unfolding with_digits
  further m e = rw (drop-cons word i 0 inside, add-one) (go (within 48 57 (get_or word i 0) && ltb (n * 10 + (get_or word i 0 - 48)) (2 ^ 64)) e)
    where
      go : (b : Bool) → cond b (Some (n * 10 + (get_or word i 0 - 48))) None ≡ Some m → cond b (with_digits (n * 10 + (get_or word i 0 - 48)) (drop (suc i) word)) None ≡ with_digits m (drop (suc i) word)
      go true e = let same : n * 10 + (get_or word i 0 - 48) ≡ m = cc in rw same
      go false e = apart (cc)

pub none_left : (n : ℕ) (word : List ℕ) (i : ℕ) → length word ≤ i → with_digits n (drop i word) ≡ Some n
unfolding with_digits
none_left n word i h = rw (drop_of_length-le word h)
