-- Deliveries in the digits of a number: the one at a place, and the others. Assumes nothing.
use mathlib.Core.Path.{◌≡◌, refl, ap, ap₂, ◌∙◌}
use mathlib.Core.List.{List, ◌∷◌, ◌++◌}
use Prim.Native.Nat.{ℕ, zero, suc, ◌+◌, ◌-◌, ◌*◌, ◌/◌, ◌%◌, ◌<◌}
use native.Mathlib.Omega.{arith}
use lib.ListN.{length, get_or, take, drop}
use Rattle.deliveries.specs.ShortRuns.{Delivery}
use Rattle.deliveries.specs.Writing.{delivery_of, deliveries_in, digit_at, without_digit, Takes}
use Rattle.deliveries.specs.declared.Taken.{Taken}

pub length_in_lem : (count n : ℕ) → length (deliveries_in count n) ≡ count
unfolding deliveries_in
length_in_lem zero n = refl
length_in_lem (suc count) n = ap suc (length_in_lem count (n / 8))

pub at_place : (d : Delivery) (count n place : ℕ) → place < count → get_or (deliveries_in count n) place d ≡ delivery_of (digit_at n place)
unfolding deliveries_in digit_at
at_place d zero n place h = absurd (omega arith)
at_place d (suc count) n zero h = refl
at_place d (suc count) n (suc place) h = at_place d count (n / 8) place (omega arith)

pub removed : (count n place : ℕ) → place < suc count
    → take place (deliveries_in (suc count) n) ++ drop (suc place) (deliveries_in (suc count) n) ≡ deliveries_in count (without_digit n place)
unfolding deliveries_in without_digit
removed count n zero h = refl
removed zero n (suc place) h = absurd (omega arith)
removed (suc count) n (suc place) h =
    let rest = without_digit (n / 8) place in
    let last : n % 8 ≡ (rest * 8 + n % 8) % 8 = omega arith in
    let front : rest ≡ (rest * 8 + n % 8) / 8 = omega arith in
    ap₂ (λ (digit : ℕ) (l : List Delivery). delivery_of digit ∷ l) last (removed count (n / 8) place (omega arith) ∙ ap (deliveries_in count) front)

-- ---- Digit by digit, as the code has it

pub takes_last : (n place : ℕ) → place ≡ 0 → Takes n place (record { number = n % 8; others = n / 8 })
unfolding digit_at without_digit
takes_last n place last = record { number_is = rw last; one_digit = omega arith; others_are = rw last; no_more = omega arith }

pub takes_earlier : {n place : ℕ} {taken : Taken} → 0 < place → Takes (n / 8) (place - 1) taken → Takes n place (record { number = taken.number; others = taken.others * 8 + n % 8 })
unfolding digit_at without_digit
takes_earlier {place = zero} some t = absurd (omega arith)
takes_earlier {n = n} {place = suc place} {taken = taken} some t =
    let less : suc place - 1 ≡ place = omega arith in
    record {
      number_is = rw less at t.number_is;
      one_digit = t.one_digit;
      others_are = ap (λ (front : ℕ). front * 8 + n % 8) (rw less at t.others_are);
      no_more = omega (arith, t.no_more);
    }
