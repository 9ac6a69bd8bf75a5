-- What the code finds of a message on the way through tests 2 to 4: where its fields end.
use Rattle.std.specs.Prelude.{◌≡◌, ℕ, ◌+◌, ◌<◌, ◌≤◌, List, length, Option, Some, None, Result, Ok, Err}
use Rattle.base.specs.declared.refusal.Refusal.{Refusal}
use Rattle.base.specs.declared.refusal.Refusal.TheVariants.{FieldLengths}
use Rattle.wire.specs.Layout.{map_in, place, signature_place}
use Rattle.wire.specs.declared.frame.Places.{Places}

-- A field from a place on that ends at another, which is not far; or the message ends before it does.
abbrev pub TakesField : List ℕ → ℕ → ℕ → Option ℕ → Type 0
TakesField bytes at end (Some next) = (next ≡ end) × (end ≤ at + 20_000)
TakesField bytes at end None = length bytes < end

unfoldable pub places_in : List ℕ → Places
places_in bytes =
    record {
      map = map_in bytes;
      nonce = place bytes 2;
      timestamp = place bytes 3;
      digest = place bytes 4;
      card = place bytes 5;
      prepared = place bytes 6;
      written = place bytes 7;
      addressed = place bytes 8;
      register = place bytes 9;
      signature = signature_place bytes;
    }

-- The places, if the signature ends where the message does; else refusal 4.
abbrev pub Lays : List ℕ → Result Places Refusal → Type 0
Lays bytes (Ok places) = (places ≡ places_in bytes) × (signature_place bytes + 64 ≡ length bytes)
Lays bytes (Err refusal) = (refusal ≡ FieldLengths) × (signature_place bytes + 64 ≡ length bytes → ⊥)
