-- Document 01, "Messages": the card that a message carries, and of two messages the later one's.
use Rattle.std.specs.Prelude.{◌≡◌, ℕ, ◌+◌, Bool, false, cond, List, [], take, nat_lt}
use Rattle.std.proofs.Math.Option.{Option, none, some}
use Rattle.base.specs.BigEndian.{from_bytes}
use Rattle.base.specs.BitMap.{bit}
use Rattle.base.specs.Outcome.{Outcome, accepted, refused}
use Rattle.wire.specs.Decode.{framed, card_in}
use Rattle.wire.specs.Layout.{map_in, place, field}

-- A card with its prepared proof's timestamp.
pub record Carried : Type 0 where
  pub card : List ℕ
  pub timestamp : ℕ

-- "A missing prepared proof means stamp 0.0": the field is then empty, and its number 0.
abbrev pub carried_in : List ℕ → Option Carried
carried_in bytes = cond (bit (map_in bytes) 5) (some (record { card = card_in bytes; timestamp = from_bytes (take 5 (field bytes 6)) })) none

-- "A message that 2 to 4 below refuse, or without a card": nothing.
abbrev pub or_nothing : {A : Type 0} → Outcome (Option A) → Option A
or_nothing (accepted found) = found
or_nothing (refused number) = none

unfoldable pub carried : List ℕ → Option Carried
carried bytes = or_nothing (framed bytes (accepted (carried_in bytes)))

abbrev pub card_of : Option Carried → List ℕ
card_of none = []
card_of (some found) = found.card

-- "the very bytes of the message that carry it", or "an empty part"
unfoldable pub card_part : List ℕ → List ℕ
card_part bytes = card_of (carried bytes)

-- "of two messages with a card the one whose proof is later, the first on a tie"; "an empty part" if one has none.
abbrev pub later : Option Carried → Option Carried → List ℕ
later none second = []
later (some first) none = []
later (some first) (some second) = cond (nat_lt first.timestamp second.timestamp) second.card first.card

unfoldable pub later_card : List ℕ → List ℕ → List ℕ
later_card first second = later (carried first) (carried second)

-- "the very bytes of the message": a part starts so many bytes behind the start of the slice it is lent from. A pointer is a block and an offset.
pub record PartAt (whole : ℕ × ℕ) (start : ℕ) (part : ℕ × ℕ) : Type 0 where
  pub block : part.0 ≡ whole.0
  pub offset : part.1 ≡ whole.1 + start

-- Where the card part starts in its message: behind the length byte; at 0 where it is empty for want of a card.
abbrev pub start_of : Option Carried → ℕ → ℕ
start_of none start = 0
start_of (some found) start = start

unfoldable pub card_start : List ℕ → ℕ
card_start bytes = start_of (carried bytes) (place bytes 5 + 1)

-- Whether the later card is the second message's, by the test of `later`, and where it starts in its message; an empty part is the first's front.
abbrev pub is_second : Option Carried → Option Carried → Bool
is_second none second = false
is_second (some first) none = false
is_second (some first) (some second) = nat_lt first.timestamp second.timestamp

unfoldable pub second_later : List ℕ → List ℕ → Bool
second_later first second = is_second (carried first) (carried second)

abbrev pub start_of_both : Option Carried → Option Carried → ℕ → ℕ
start_of_both none second start = 0
start_of_both (some first) second start = start_of second start

unfoldable pub later_start : List ℕ → List ℕ → ℕ
later_start first second = start_of_both (carried first) (carried second) (cond (second_later first second) (card_start second) (card_start first))
