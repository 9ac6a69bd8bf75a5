-- What a PREPARE does to a client's slot, by whether the slot admits it. Assumes nothing.
use mathlib.Core.Path.{◌≡◌, refl, sym, ap, ◌∙◌}
use mathlib.Core.Bool.{Bool, true, false, ◌&&◌, ◌||◌}
use mathlib.Core.List.{List, ◌++◌}
use Prim.Native.Nat.{ℕ, ◌+◌, ◌-◌, ◌*◌, ◌/◌, ◌≤◌, ◌<◌}
use native.Mathlib.Omega.{arith}
use borrow.Author.Tests.{eqb-true}
use lib.Dec.{eqb}
use lib.ListN.{take, drop, take-append-drop}
use lib.Seq.{set-get_or, drop-drop}
use Rattle.base.specs.Outcome.{accepted, refused, guard}
use Rattle.base.specs.Same.{same}
use Rattle.base.specs.Timestamp.{number, of_number}
use Rattle.base.specs.declared.party.ClientId.{ClientId}
use Rattle.base.specs.declared.timestamp.Timestamp.{Timestamp}
use Rattle.base.proofs.Booleans.{and_true_both}
use Rattle.base.proofs.Same.{same_equal}
use Rattle.base.proofs.Timestamps.{of_number_number}
use Rattle.base.proofs.Apart.{apart}
use Rattle.protocol.specs.RegisterReplica.{slot_count, slot_digest, slot_timestamp, raised, slot_is, slot_takes, with_slot, with_written, after_prepare}
use Rattle.protocol.specs.declared.replica.Slots.{Slots}

-- A part of a list put back where it stands.
part_back : (at width next : ℕ) (l : List ℕ) → next ≡ at + width → take at l ++ (take width (drop at l) ++ drop next l) ≡ l
part_back at width next l e =
    let rest : drop next l ≡ drop width (drop at l) = rw e (sym (drop-drop width at l)) in
    rw (rest, take-append-drop, take-append-drop)

module _ (client : ClientId) (timestamp : ℕ) (digest : List ℕ) (slots : Slots) (first : 1 ≤ client.0) (small : client.0 < 256) where
  -- A slot that has the timestamp and digest stays as it is.
  slot_again : slot_is client timestamp digest slots ≡ true → with_slot client timestamp digest slots ≡ slots
  slot_again e =
      let both = and_true_both (eqb (slot_timestamp slots client) timestamp) (same (slot_digest slots client) digest) e in
      let is : slot_timestamp slots client ≡ timestamp = eqb-true _ _ both.0 in
      let count : timestamp / 256 ≡ slot_count slots client = omega (arith, is) in
      rw (count, ← same_equal _ _ both.1, set-get_or, part_back (32 * (client.0 - 1)) 32 (32 * client.0) slots.digests (omega arith))

  -- With a written proof of this timestamp, 0 for none.
  module _ (last : ℕ) where
    abbrev written : ℕ
    written = raised last slots

    pub admitted : (slot_is client timestamp digest slots || slot_takes client timestamp written slots) ≡ true
        → after_prepare client timestamp digest last slots ≡ accepted (with_written written (with_slot client timestamp digest slots))
    unfolding after_prepare guard
    admitted e = go (slot_is client timestamp digest slots) refl
      where
        go : (is : Bool) → slot_is client timestamp digest slots ≡ is → after_prepare client timestamp digest last slots ≡ accepted (with_written written (with_slot client timestamp digest slots))
        go true h = rw h (ap (λ (r : Slots). accepted (with_written written r)) (sym (slot_again h)))
        go false h = rw (h, rw h at e)

    pub not_admitted : (slot_is client timestamp digest slots || slot_takes client timestamp written slots) ≡ false → after_prepare client timestamp digest last slots ≡ refused 15
    unfolding after_prepare guard
    not_admitted e = go (slot_is client timestamp digest slots) refl
      where
        go : (is : Bool) → slot_is client timestamp digest slots ≡ is → after_prepare client timestamp digest last slots ≡ refused 15
        go true h = let z : true ≡ false = rw h at e in apart (cc)
        go false h = rw (h, rw h at e)

    -- A PREPARE again, with no later written proof, leaves the slots as they are.
    pub kept : slots.written.client.0 < 256 → (eqb (number slots.written) written && slot_is client timestamp digest slots) ≡ true
        → slots ≡ with_written written (with_slot client timestamp digest slots)
    kept fits e =
        let both = and_true_both (eqb (number slots.written) written) (slot_is client timestamp digest slots) e in
        let same : number slots.written ≡ written = eqb-true _ _ both.0 in
        let stays : slots.written ≡ of_number written = sym (of_number_number slots.written fits) ∙ ap of_number same in
        ap (λ (t : Timestamp). record { counts = slots.counts; digests = slots.digests; written = t }) stays ∙ ap (with_written written) (sym (slot_again both.1))
