-- Fields written by their bits are found at their places. Assumes nothing.
use Rattle.std.proofs.Common.{◌≡◌, ℕ, zero, suc, ◌+◌, ◌-◌, ◌*◌, ◌/◌, ◌%◌, ◌^◌, ◌<◌, Bool, true, false, cond, List, [], ◌∷◌, ◌++◌, length, get_or, take, drop, sym, refl, ap, ◌∙◌, append_assoc, append-nil, pow-suc, arith, length-append, take_at, drop_at, pow_pos, shr-shr}
use mathlib.Core.Option.{Option, none, some}
use native.Mathlib.Nat.{zero-div}
use Rattle.base.specs.BigEndian.{to_bytes}
use Rattle.base.specs.BitMap.{bit, map_of}
use Rattle.base.proofs.BigEndian.{length_to_bytes, from_bytes_to_bytes}
use Rattle.wire.specs.Layout.{Rule, fixed, extent, rules, map_in, place, field}
use Rattle.wire.specs.Message.{joined}

-- Whether a field is is_there, and its bytes.
abbrev pub is_there : {A : Type 0} → Option A → Bool
is_there none = false
is_there (some a) = true

abbrev pub content : Option (List ℕ) → List ℕ
content none = []
content (some bytes) = bytes

-- A field says its own length, whatever follows it.
abbrev pub Obeys : Rule → Option (List ℕ) → Type 0
Obeys rule none = Unit {0}
Obeys rule (some bytes) = (rest : List ℕ) → extent rule (bytes ++ rest) ≡ length bytes

abbrev pub AllObey : List Rule → List (Option (List ℕ)) → Type 0
AllObey rs [] = Unit {0}
AllObey [] (f ∷ fs) = ⊥
AllObey (r ∷ rs) (f ∷ fs) = Obeys r f × AllObey rs fs

obeys_at : (rs : List Rule) (fs : List (Option (List ℕ))) → AllObey rs fs → (b : ℕ) → Obeys (get_or rs b (fixed 0)) (get_or fs b none)
obeys_at rs [] all b = tt
obeys_at [] (f ∷ fs) all b = absurd all
obeys_at (r ∷ rs) (f ∷ fs) all zero = all.0
obeys_at (r ∷ rs) (f ∷ fs) all (suc b) = obeys_at rs fs all.1 b

-- The map of fields is below the power of their number.
map_below : (rs : List Rule) (fs : List (Option (List ℕ))) → AllObey rs fs → map_of fs < 2 ^ length rs
map_below rs [] all = pow_pos (length rs)
map_below [] (f ∷ fs) all = absurd all
map_below (r ∷ rs) (none ∷ fs) all = let ih = map_below rs fs all.1 in rw (pow-suc 2 (length rs)) (omega arith)
map_below (r ∷ rs) (some x ∷ fs) all = let ih = map_below rs fs all.1 in rw (pow-suc 2 (length rs)) (omega arith)

halved : (m b : ℕ) → m / 2 ^ suc b ≡ m / 2 / 2 ^ b
halved m b = ap (λ (k : ℕ). m / 2 ^ k) (omega arith) ∙ sym (shr-shr m 1 b)

pub bit_there : {A : Type 0} (fs : List (Option A)) (b : ℕ) → bit (map_of fs) b ≡ is_there (get_or fs b none)
bit_there [] b = rw (zero-div (2 ^ b))
bit_there (none ∷ fs) zero = let even : 2 * map_of fs / 1 % 2 ≡ 0 = omega arith in rw even
bit_there (some x ∷ fs) zero = let odd : (2 * map_of fs + 1) / 1 % 2 ≡ 1 = omega arith in rw odd
bit_there (none ∷ fs) (suc b) = let half : 2 * map_of fs / 2 ≡ map_of fs = omega arith in rw (halved (2 * map_of fs) b, half) (bit_there fs b)
bit_there (some x ∷ fs) (suc b) = let half : (2 * map_of fs + 1) / 2 ≡ map_of fs = omega arith in rw (halved (2 * map_of fs + 1) b, half) (bit_there fs b)

-- The fields up to a bit, the bit's field, and the fields behind it.
joined_next : (fs : List (Option (List ℕ))) (b : ℕ) → joined (take (suc b) fs) ≡ joined (take b fs) ++ content (get_or fs b none)
unfolding joined
joined_next [] zero = refl
joined_next [] (suc b) = refl
joined_next (none ∷ fs) zero = refl
joined_next (some x ∷ fs) zero = append-nil x
joined_next (none ∷ fs) (suc b) = joined_next fs b
joined_next (some x ∷ fs) (suc b) = rw (joined_next fs b) (sym (append_assoc x (joined (take b fs)) (content (get_or fs b none))))

joined_split : (fs : List (Option (List ℕ))) (b : ℕ) → joined fs ≡ joined (take b fs) ++ joined (drop b fs)
unfolding joined
joined_split fs zero = refl
joined_split [] (suc b) = refl
joined_split (none ∷ fs) (suc b) = joined_split fs b
joined_split (some x ∷ fs) (suc b) = rw (append_assoc x (joined (take b fs)) (joined (drop b fs)), ← joined_split fs b)

module _ (fs : List (Option (List ℕ))) (rest : List ℕ) where
  -- The bytes of the fields.
  abbrev pub written : List ℕ
  written = to_bytes 2 (map_of fs) ++ (joined fs ++ rest)

  before : ℕ → List ℕ
  before b = to_bytes 2 (map_of fs) ++ joined (take b fs)

  after : ℕ → List ℕ
  after b = joined (drop (suc b) fs) ++ rest

  around : (b : ℕ) → written ≡ before b ++ (content (get_or fs b none) ++ after b)
  unfolding before after
  around b = rw (joined_split fs (suc b), joined_next fs b) (simp append_assoc)

  length_before : (b : ℕ) → length (before b) ≡ 2 + length (joined (take b fs))
  unfolding before
  length_before b = rw (length-append, length_to_bytes)

module _ (fs : List (Option (List ℕ))) (rest : List ℕ) (all : AllObey rules fs) where
  pub map_written : map_in (written fs rest) ≡ map_of fs
  unfolding rules
  map_written =
      rw (take_at (to_bytes 2 (map_of fs)) (joined fs ++ rest) 2 (length_to_bytes 2 (map_of fs)))
      (from_bytes_to_bytes 2 (map_of fs) (omega (arith, map_below rules fs all)))

  pub bit_written : (b : ℕ) → bit (map_in (written fs rest)) b ≡ is_there (get_or fs b none)
  bit_written b = rw map_written (bit_there fs b)

  -- What is written from a field's place on.
  drop_written : (b at : ℕ) → at ≡ 2 + length (joined (take b fs)) → drop at (written fs rest) ≡ content (get_or fs b none) ++ after fs rest b
  drop_written b at e = rw (around fs rest b) (drop_at (before fs rest b) (content (get_or fs b none) ++ after fs rest b) at (length_before fs rest b ∙ sym e))

  extent_written : (b at : ℕ) → at ≡ 2 + length (joined (take b fs))
      → cond (bit (map_in (written fs rest)) b) (extent (get_or rules b (fixed 0)) (drop at (written fs rest))) 0 ≡ length (content (get_or fs b none))
  extent_written b at e = rw (drop_written b at e, bit_written b) (go (get_or fs b none) (obeys_at rules fs all b))
    where
      go : (f : Option (List ℕ)) → Obeys (get_or rules b (fixed 0)) f
          → cond (is_there f) (extent (get_or rules b (fixed 0)) (content f ++ after fs rest b)) 0 ≡ length (content f)
      go none obeys = refl
      go (some x) obeys = obeys (after fs rest b)

  pub place_written : (b : ℕ) → place (written fs rest) b ≡ 2 + length (joined (take b fs))
  unfolding place joined
  place_written zero = refl
  place_written (suc b) =
      let ih = place_written b in
      let here = extent_written b (place (written fs rest) b) ih in
      let more = length-append (joined (take b fs)) (content (get_or fs b none)) in
      rw (here, joined_next fs b) (omega arith)

  pub field_written : (b : ℕ) → field (written fs rest) b ≡ content (get_or fs b none)
  unfolding field
  field_written b =
      let here = place_written b in
      let next = place_written (suc b) in
      let more = ap length (joined_next fs b) ∙ length-append (joined (take b fs)) (content (get_or fs b none)) in
      rw (drop_written b (place (written fs rest) b) here)
      (take_at (content (get_or fs b none)) (after fs rest b) (place (written fs rest) (suc b) - place (written fs rest) b) (omega arith))
