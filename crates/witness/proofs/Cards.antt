-- The known cards of a run with their digests: no two of them share one, by tests. Assumes nothing.
use mathlib.Core.Path.{◌≡◌, sym, ap, ◌∙◌}
use mathlib.Core.Logic.{◌⊎◌, inl, inr}
use mathlib.Core.Bool.{Bool, true, false, ◌&&◌, ◌||◌, not}
use mathlib.Core.List.{List, [], ◌∷◌}
use mathlib.Core.Option.{Option, none, some}
use Prim.Native.Nat.{ℕ}
use Rattle.base.proofs.Booleans.{and_true_both}
use Rattle.base.specs.Same.{same}
use Rattle.wire.specs.Sha256.{sha256}
use Rattle.base.proofs.Same.{same_equal, same_itself}
use Rattle.base.proofs.Booleans.{or_true}
use Rattle.witness.proofs.Answers.{no_test}

-- A card and its digest.
pub record Known : Type 0 where
  pub card : List ℕ
  pub digest : List ℕ

abbrev pub is_known : List Known → List ℕ → Bool
is_known [] card = false
is_known (known ∷ others) card = same known.card card || is_known others card

abbrev pub is_known_if_there : List Known → Option (List ℕ) → Bool
is_known_if_there cards none = true
is_known_if_there cards (some card) = is_known cards card

unfoldable pub each_known : (Known → Bool) → List Known → Bool
each_known test [] = true
each_known test (known ∷ others) = test known && each_known test others

-- One of the known cards, of which all tests hold that hold of each.
pub record IsOne (cards : List Known) (card : List ℕ) : Type 0 where
  pub known : Known
  pub is : known.card ≡ card
  pub passes : (test : Known → Bool) → each_known test cards ≡ true → test known ≡ true

pub is_one : (cards : List Known) (card : List ℕ) → is_known cards card ≡ true → IsOne cards card
unfolding each_known
is_one [] card h = no_test h
is_one (first ∷ others) card h = go (is_one others card) (or_true (same first.card card) (is_known others card) h)
  where
    go : (is_known others card ≡ true → IsOne others card) → (same first.card card ≡ true) ⊎ (is_known others card ≡ true) → IsOne (first ∷ others) card
    go behind (inl is) =
        record { known = first; is = same_equal first.card card is; passes = λ test all. (and_true_both (test first) (each_known test others) all).0 }
    go behind (inr is) =
        let one = behind is in
        record { known = one.known; is = one.is; passes = λ test all. one.passes test (and_true_both (test first) (each_known test others) all).1 }

differ : Known → Known → Bool
differ known known' = not (same known.digest known'.digest) || same known.card known'.card

-- The digests are those of the cards, and no two cards share one.
unfoldable pub right_digests : List Known → Bool
unfolding each_known
right_digests cards = each_known (λ known. same (sha256 known.card) known.digest) cards

unfoldable pub different_digests : List Known → Bool
unfolding differ each_known
different_digests cards = each_known (λ known. each_known (differ known) cards) cards

pub different : (cards : List Known) (card card' : List ℕ) → right_digests cards ≡ true → different_digests cards ≡ true → IsOne cards card → IsOne cards card' → sha256 card ≡ sha256 card' → card ≡ card'
unfolding right_digests different_digests
different cards card card' right all one one' e =
    let digest_of_lem : sha256 one.known.card ≡ one.known.digest = same_equal (sha256 one.known.card) one.known.digest (one.passes (λ known. same (sha256 known.card) known.digest) right) in
    let digest_of' : sha256 one'.known.card ≡ one'.known.digest = same_equal (sha256 one'.known.card) one'.known.digest (one'.passes (λ known. same (sha256 known.card) known.digest) right) in
    let digests : one.known.digest ≡ one'.known.digest = sym digest_of_lem ∙ ap sha256 one.is ∙ e ∙ sym (ap sha256 one'.is) ∙ digest_of' in
    let test : differ one.known one'.known ≡ true = one'.passes (differ one.known) (one.passes (λ known. each_known (differ known) cards) all) in
    let one_digest : same one.known.digest one'.known.digest ≡ true = rw digests (same_itself one'.known.digest) in
    sym one.is ∙ same_equal one.known.card one'.known.card (rw one_digest at test) ∙ one'.is
