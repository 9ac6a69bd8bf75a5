-- The bytes of a card and of entries as a party keeps them. Assumes nothing.
use Rattle.std.proofs.Common.{◌≡◌, ℕ, ◌*◌, min, List, ◌∷◌, length, take, arith, length-take-le}
use Rattle.wire.specs.Proof.{counted_entries}
use Rattle.wire.specs.Putting.{sized_card}
use Rattle.wire.specs.Writing.{kept_card, kept_entries}
use Rattle.wire.proofs.ProofBytes.{length_read, bytes_read}

-- As the code stores them: a number, and so many bytes.
pub card_kept_lem : (n size : ℕ) (card : List ℕ) → length card ≡ 17 → n ≡ min size 17 → n ∷ take n card ≡ sized_card (kept_card size card)
card_kept_lem n size card whole e =
    let long : length (take (min size 17) card) ≡ min size 17 = length-take-le (min size 17) card (omega arith) in
    rw (e, long)

pub entries_kept_lem : (n count : ℕ) (entries : List ℕ) → length entries ≡ 715 → n ≡ min count 11 → n ∷ take (65 * n) entries ≡ counted_entries (kept_entries count entries)
entries_kept_lem n count entries whole e = rw (← e, length_read n entries, bytes_read n entries (omega arith))
