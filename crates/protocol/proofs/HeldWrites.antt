-- What two WRITEs leave held: the larger timestamp's card and proof, and of one timestamp the first one's. Assumes nothing.
use mathlib.Core.Path.{◌≡◌, refl, sym, ap, ◌∙◌}
use mathlib.Core.Bool.{Bool, true, false}
use mathlib.Core.List.{List}
use Prim.Native.Nat.{ℕ, ◌≤◌, ◌<◌}
use native.Mathlib.Omega.{arith}
use borrow.Author.Tests.{ltb-true, ltb-false, lt-ltb, le-ltb}
use lib.Dec.{ltb}
use Rattle.base.specs.declared.timestamp.Timestamp.{Timestamp}
use Rattle.wire.specs.Proof.{PreparedProof}
use Rattle.protocol.specs.RegisterReplica.{held_timestamp, held_card, holding, is_later, after_write}
use Rattle.protocol.specs.declared.replica.Held.{Held}

module _ (proof : PreparedProof) (held : Held) where
  later : held_timestamp held < proof.timestamp → is_later proof held ≡ true
  later l = simp (lt-ltb (held_timestamp held) proof.timestamp l)

  not_later : proof.timestamp ≤ held_timestamp held → is_later proof held ≡ false
  not_later l = simp (le-ltb (held_timestamp held) proof.timestamp l)

module _ (card card' : List ℕ) (proof proof' : PreparedProof) (held : Held) where
  -- The first, then the second.
  abbrev both : Held
  both = after_write card' proof' (after_write card proof held)

  -- The held timestamp, and theirs.
  abbrev h : ℕ
  h = held_timestamp held

  abbrev t : ℕ
  t = proof.timestamp

  abbrev t' : ℕ
  t' = proof'.timestamp

  -- The first is stored, and the second is no later.
  pub first_stays : h < t → t' ≤ t → both ≡ holding card proof
  unfolding after_write
  first_stays l l' = simp (later proof held l, not_later proof' (holding card proof) (omega arith))

  -- Neither is stored.
  pub held_stays : t ≤ h → t' ≤ h → both ≡ held
  unfolding after_write
  held_stays l l' = simp (not_later proof held l, not_later proof' held l')

  -- The second is later: ahead of the first it is stored if it is stored behind it, and then the first is not.
  later_wins : t < t' → both ≡ after_write card proof (after_write card' proof' held)
  unfolding after_write
  later_wins l = go (ltb h t) (ltb h t') refl refl
    where
      go : (above above' : Bool) → ltb h t ≡ above → ltb h t' ≡ above' → both ≡ after_write card proof (after_write card' proof' held)
      go true false e e' = absurd (omega (arith, ltb-true h t e, ltb-false h t' e'))
      go false false e e' = simp (not_later proof held (ltb-false h t e), not_later proof' held (ltb-false h t' e'))
      go true true e e' =
          simp (later proof held (ltb-true h t e), later proof' held (ltb-true h t' e'), later proof' (holding card proof) (omega arith), not_later proof (holding card' proof') (omega arith))
      go false true e e' = simp (not_later proof held (ltb-false h t e), later proof' held (ltb-true h t' e'), not_later proof (holding card' proof') (omega arith))

-- A WRITE that comes again.
pub same_again : (card : List ℕ) (proof : PreparedProof) (held : Held) → both card card proof proof held ≡ after_write card proof held
unfolding after_write
same_again card proof held = go (ltb (held_timestamp held) proof.timestamp) refl
  where
    go : (above : Bool) → ltb (held_timestamp held) proof.timestamp ≡ above → both card card proof proof held ≡ after_write card proof held
    go true e = simp (later proof held (ltb-true _ _ e), not_later proof (holding card proof) (omega arith))
    go false e = simp (not_later proof held (ltb-false _ _ e))

-- Timestamp and card of what is held.
abbrev pub shown : Held → Timestamp × List ℕ
shown held = (held.timestamp, held_card held)

module _ (card card' : List ℕ) (proof proof' : PreparedProof) (held : Held) where
  -- Different timestamps.
  pub any_order : (proof.timestamp ≡ proof'.timestamp → ⊥) → both card card' proof proof' held ≡ both card' card proof' proof held
  any_order apart = go (ltb proof.timestamp proof'.timestamp) refl
    where
      go : (b : Bool) → ltb proof.timestamp proof'.timestamp ≡ b → both card card' proof proof' held ≡ both card' card proof' proof held
      go true e = later_wins card card' proof proof' held (ltb-true proof.timestamp proof'.timestamp e)
      go false e = let l = ltb-false proof.timestamp proof'.timestamp e in sym (later_wins card' card proof' proof held (omega arith))

  -- One timestamp, and one card.
  pub shown_alike : proof.timestamp ≡ proof'.timestamp → card ≡ card' → shown (both card card' proof proof' held) ≡ shown (both card' card proof' proof held)
  shown_alike same_timestamp same_card = go (ltb (held_timestamp held) proof.timestamp) refl
    where
      go : (b : Bool) → ltb (held_timestamp held) proof.timestamp ≡ b → shown (both card card' proof proof' held) ≡ shown (both card' card proof' proof held)
      go true e =
          let above = ltb-true (held_timestamp held) proof.timestamp e in
          ap shown (first_stays card card' proof proof' held above (omega arith)) ∙ rw (same_timestamp, same_card) refl ∙ sym (ap shown (first_stays card' card proof' proof held (omega arith) (omega arith)))
      go false e =
          let not_above = ltb-false (held_timestamp held) proof.timestamp e in
          ap shown (held_stays card card' proof proof' held not_above (omega arith)) ∙ sym (ap shown (held_stays card' card proof' proof held (omega arith) not_above))
