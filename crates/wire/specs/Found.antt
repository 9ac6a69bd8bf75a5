-- What the code finds of a message's card: where it starts and ends, and the timestamp of its proof.
use Rattle.std.specs.Prelude.{◌≡◌, ℕ, ◌+◌, ◌≤◌, List, length, Option, Some, None}
use Rattle.std.proofs.Math.Option.{none, some}
use Rattle.base.specs.Timestamp.{number}
use Rattle.wire.specs.CardPart.{carried}
use Rattle.wire.specs.Layout.{place}
use Rattle.wire.specs.declared.card_part.Card.{Card}
use Rattle.base.specs.Bytes.{between}

pub record Carries (bytes : List ℕ) (card : Card) : Type 0 where
  pub rises : card.start ≤ card.end
  pub inside : card.end ≤ length bytes
  pub starts : card.start ≡ place bytes 5 + 1
  pub carries : carried bytes ≡ some (record { card = between bytes card.start card.end; timestamp = number card.timestamp })

abbrev pub Finds : List ℕ → Option Card → Type 0
Finds bytes (Some card) = Carries bytes card
Finds bytes None = carried bytes ≡ none
