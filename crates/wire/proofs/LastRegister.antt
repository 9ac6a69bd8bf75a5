-- The register of a message that passed 2 to 5 is the byte last before its signature. Assumes nothing.
use Rattle.std.proofs.Common.{◌≡◌, ℕ, ◌+◌, ◌-◌, ◌<◌, List, length, get_or, take, drop, ap, ◌∙◌, ap₂, arith, drop-cons, le-ltb}
use Rattle.base.specs.BigEndian.{from_bytes}
use Rattle.base.specs.Outcome.{accepted}
use Rattle.base.specs.declared.party.RegisterId.{RegisterId}
use Rattle.wire.specs.Decode.{register_in, for_register, decode}
use Rattle.wire.specs.Layout.{rules, place, field}
use Rattle.wire.specs.Message.{Message}
use Rattle.wire.specs.Parts.{last_register}
use Rattle.wire.specs.declared.message.Party.{Party}
use Rattle.wire.proofs.FieldPlaces.{place_present}
use Rattle.wire.proofs.ReadingByKind.{decode_tested}
use Rattle.wire.proofs.Rows.{has_register}

one_byte : (bytes : List ℕ) (at : ℕ) → at < length bytes → from_bytes (take 1 (drop at bytes)) ≡ get_or bytes at 0
unfolding from_bytes
one_byte bytes at inside = rw (drop-cons bytes at 0 inside) (omega arith)

pub register_last : (party : Party) (bytes : List ℕ) (register : RegisterId) (message : Message) → decode party bytes ≡ accepted (for_register register message) → register_in bytes ≡ last_register bytes
unfolding rules field last_register
register_last party bytes register message e =
    let tested = decode_tested party bytes register message e in
    let ends = tested.framed.ends in
    let next : place bytes 10 ≡ place bytes 9 + 1 = place_present bytes 9 (has_register tested.passed.taken) in
    let wide : place bytes 10 - place bytes 9 ≡ 1 = omega arith in
    let at : place bytes 9 ≡ length bytes - 65 = omega arith in
    let inside : length bytes - 65 < length bytes = omega arith in
    rw (le-ltb (length bytes) 65 (omega arith))
    (ap {B = RegisterId} (λ (n : ℕ). record { 0 = n }) (ap₂ (λ (n p : ℕ). from_bytes (take n (drop p bytes))) wide at ∙ one_byte bytes (length bytes - 65) inside))
