-- The card that a message carries, as the code finds it. Assumes nothing.
use Rattle.std.proofs.Common.{◌≡◌, Some, None, Result, Ok, Err, ◌∙◌, ℕ, ◌+◌, ◌≤◌, Bool, true, false, List, take, sym, refl, ap, arith}
use mathlib.Core.Option.{none}
use Rattle.base.specs.BigEndian.{from_bytes}
use Rattle.base.specs.BitMap.{bit}
use Rattle.base.specs.Outcome.{accepted}
use Rattle.std.specs.Result.{result_ok}
use Rattle.base.specs.Refusal.{number_of, outcome}
use Rattle.base.specs.Timestamp.{number}
use Rattle.base.specs.declared.refusal.Refusal.{Refusal}
use Rattle.base.specs.declared.timestamp.Timestamp.{Timestamp}
use Rattle.base.proofs.Apart.{apart}
use Rattle.base.proofs.Timestamps.{number_of_number}
use Rattle.base.specs.Bytes.{between}
use Rattle.wire.specs.CardPart.{carried_in, carried}
use Rattle.wire.specs.Decode.{framed}
use Rattle.wire.specs.Found.{Carries}
use Rattle.wire.specs.Layout.{rules, map_in, place, field}
use Rattle.wire.specs.Parts.{timestamp_part}
use Rattle.wire.specs.Places.{places_in}
use Rattle.wire.specs.declared.frame.Places.{Places}
use Rattle.wire.proofs.FieldPlaces.{Framed, framed_passes, place_present, place_absent, place_rises, place_within, field_absent, length_field}
use Rattle.wire.proofs.FrameTests.{refuses, known}
use Rattle.wire.proofs.ProofBytes.{front_timestamp}
use Rattle.wire.proofs.Windows.{behind_first}

pub no_frame : (s : List ℕ) (answer : Result Places Refusal) → outcome answer ≡ framed s (accepted (places_in s)) → None ≡ result_ok answer → carried s ≡ none
unfolding carried
no_frame s (Ok p) e nothing = apart (cc)
no_frame s (Err refusal) e nothing = rw (refuses s (places_in s) (accepted (carried_in s)) (number_of refusal) (sym e))

pub framed_as : (s : List ℕ) (answer : Result Places Refusal) (p : Places) → outcome answer ≡ framed s (accepted (places_in s)) → Some p ≡ result_ok answer → Framed s × (p ≡ places_in s)
framed_as s (Ok q) p e found = let same : p ≡ q = cc in known s p (sym e ∙ rw same)
framed_as s (Err refusal) p e found = apart (cc)

-- A card field, if it is there, has its length byte at least.
card_there : (s : List ℕ) → (place s 5 ≡ place s 6 → ⊥) → (bit (map_in s) 5 ≡ true) × (place s 5 + 1 ≤ place s 6)
unfolding rules
card_there s apart = go (bit (map_in s) 5) refl
  where
    go : (there : Bool) → bit (map_in s) 5 ≡ there → (bit (map_in s) 5 ≡ true) × (place s 5 + 1 ≤ place s 6)
    go true e = (e, rw (place_present s 5 e) (omega arith))
    go false e = absurd (apart (sym (place_absent s 5 e)))

card_missing : (s : List ℕ) → place s 5 ≡ place s 6 → bit (map_in s) 5 ≡ false
unfolding rules
card_missing s same = go (bit (map_in s) 5) refl
  where
    go : (there : Bool) → bit (map_in s) 5 ≡ there → bit (map_in s) 5 ≡ false
    go true e = let next = place_present s 5 e in absurd (omega arith)
    go false e = e

-- The timestamp of the prepared proof; 0 where there is none.
proof_timestamp : (s : List ℕ) → Framed s → number (timestamp_part (field s 6)) ≡ from_bytes (take 5 (field s 6))
unfolding rules from_bytes timestamp_part
proof_timestamp s whole = go (bit (map_in s) 6) refl
  where
    go : (there : Bool) → bit (map_in s) 6 ≡ there → number (timestamp_part (field s 6)) ≡ from_bytes (take 5 (field s 6))
    go true e =
        let size = length_field s whole 6 (omega arith) in
        let next = place_present s 6 e in
        ap number (front_timestamp (field s 6) (omega arith)) ∙ number_of_number (from_bytes (take 5 (field s 6)))
    go false e = rw (field_absent s 6 e)

module _ (s : List ℕ) (p : Places) (whole : Framed s) (here : p ≡ places_in s) where
  pub card_near : p.card ≤ 1_580
  unfolding places_in
  card_near = let short = whole.short in rw here (omega (arith, place_within s whole 5 (omega arith)))

  pub no_card : p.card ≡ p.prepared → carried s ≡ none
  unfolding carried places_in
  no_card same = rw (framed_passes s (accepted (carried_in s)) whole, card_missing s (rw here at same))

  pub with_card_lem : (timestamp : Timestamp) → (p.card ≡ p.prepared → ⊥) → timestamp ≡ timestamp_part (between s p.prepared p.written)
      → Carries s (record { start = p.card + 1; end = p.prepared; timestamp = timestamp })
  unfolding carried places_in field
  with_card_lem timestamp differ t =
      let there = card_there s (rw here at differ) in
      let up = place_rises s 6 10 (omega arith) in
      let ends = whole.ends in
      rw (t, here)
      (record {
        rises = there.1;
        inside = omega arith;
        starts = refl;
        carries = rw (framed_passes s (accepted (carried_in s)) whole, there.0, proof_timestamp s whole, behind_first s (place s 5) (place s 6));
      })
