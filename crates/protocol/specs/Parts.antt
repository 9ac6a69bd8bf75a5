-- Cards and proofs as the records keep them: arrays with zeros behind what is kept.
use Rattle.std.specs.Prelude.{Bool, List, [], ◌∷◌, ℕ, eqb}
use Rattle.std.proofs.Math.Option.{Option, none, some}
use Rattle.base.specs.Same.{same}
use Rattle.wire.specs.Card.{stands_under}
use Rattle.wire.specs.Proof.{Entry, PreparedProof}
use Rattle.wire.specs.Writing.{kept_card, kept_entries, unless}

-- "The starting card is `00 00` hex."
abbrev pub start_card : List ℕ
start_card = 0 ∷ 0 ∷ []

-- The card in an array, and the entries in an array; a record of any value has at most 17 bytes and 11 entries there.
abbrev pub card_kept : List ℕ → ℕ → List ℕ
card_kept array kept = kept_card kept array

abbrev pub entries_kept : List ℕ → ℕ → List Entry
entries_kept array kept = kept_entries kept array

-- "A missing prepared proof means stamp 0.0."
abbrev pub if_issued : {A : Type 0} → ℕ → A → Option A
if_issued timestamp proof = unless (eqb timestamp 0) proof

-- 14: "A card breaks its table, its digest differs from the proof's, or it lacks a proof and is not `00 00`."
abbrev pub card_stands : List ℕ → Option PreparedProof → Bool
card_stands card none = same card start_card
card_stands card (some proof) = stands_under card proof.digest
