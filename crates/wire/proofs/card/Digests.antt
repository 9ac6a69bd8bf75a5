-- What a card's check says of it, and that a good card is short. Assumes nothing.
use Rattle.std.proofs.Common.{◌≡◌, ℕ, ◌≤◌, Bool, true, false, List, length, refl, ap}
use mathlib.Core.Option.{Option, none, some}
use Rattle.std.specs.Result.{is_ok}
use Rattle.std.specs.declared.result.Result.{Result}
use Rattle.std.specs.declared.result.Result.TheVariants.{Ok, Err}
use Rattle.base.specs.Outcome.{accepted, guard}
use Rattle.base.specs.Refusal.{outcome}
use Rattle.base.specs.declared.refusal.Refusal.{Refusal}
use Rattle.base.specs.Same.{same}
use Rattle.base.proofs.Booleans.{and_true_both}
use Rattle.base.proofs.Apart.{apart}
use Rattle.wire.specs.Card.{Fields, read_card, is_some, is_card, check_card, stands_under}
use Rattle.wire.specs.Sha256.{sha256}
use Rattle.wire.proofs.card.RoundTrip.{at_most_17}

-- The check's answer is Ok for a card that keeps its table.
pub checked_is : (card : List ℕ) (check : Result (Unit {0}) Refusal) → outcome check ≡ check_card card → is_ok check ≡ is_card card
unfolding guard
checked_is card check e = go check (is_card card) e
  where
    go : (check : Result (Unit {0}) Refusal) (b : Bool) → outcome check ≡ guard {A = Unit {0}} 14 b (accepted tt) → is_ok check ≡ b
    go (Ok value) true k = refl
    go (Ok value) false k = apart (cc)
    go (Err refusal) true k = apart (cc)
    go (Err refusal) false k = refl

pub card_short : (card : List ℕ) → is_card card ≡ true → length card ≤ 17
card_short card h = go (read_card card) refl
  where
    go : (fields : Option Fields) → read_card card ≡ fields → length card ≤ 17
    go none e = apart (cc (ap is_some e))
    go (some fields) e = at_most_17 card fields e

pub standing_under_short : (card digest : List ℕ) → stands_under card digest ≡ true → length card ≤ 17
standing_under_short card digest e = card_short card (and_true_both (is_card card) (same (sha256 card) digest) e).0
