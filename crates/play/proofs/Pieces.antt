-- From the pieces of an input to all that it prints: begun with nothing (`begun`), with one piece after another kept (`more`), and
-- left when no more is kept (`full`), the buffer holds a script that prints what the whole input prints (`prints`). Assumes nothing.
use mathlib.Core.Path.{◌≡◌, refl, sym, ap, ◌∙◌}
use mathlib.Core.Bool.{true}
use mathlib.Core.List.{List, [], ◌∷◌, ◌++◌, append_assoc}
use Prim.Native.Nat.{ℕ, ◌≤◌}
use native.Mathlib.Omega.{arith}
use lib.Dec.{leb}
use lib.ListN.{length, take}
use lib.Seq.{take_all}
use Rattle.text.specs.Put.{Puts}
use Rattle.text.proofs.Putting.{then, nothing, same_bytes, put_front}
use Rattle.play.specs.Input.{start_place, step, kept_byte, after, kept_of, Keeps}
use Rattle.play.specs.Session.{printed}
use Rattle.play.specs.declared.input.Kept.{Kept}
use Rattle.play.specs.declared.input.Place.{Place}
use Rattle.play.proofs.Cutting.{kept_prints}
use Rattle.play.proofs.Room.{script_room}

after_pieces : (place : Place) (piece later : List ℕ) → after place (piece ++ later) ≡ after (after place piece) later
unfolding after
after_pieces place [] later = refl
after_pieces place (byte ∷ piece) later = after_pieces (step place byte) piece later

kept_pieces : (place : Place) (piece later : List ℕ) → kept_of place (piece ++ later) ≡ kept_of place piece ++ kept_of (after place piece) later
unfolding kept_of after
kept_pieces place [] later = refl
kept_pieces place (byte ∷ piece) later =
    ap (λ (l : List ℕ). kept_byte place byte ++ l) (kept_pieces (step place byte) piece later) ∙ sym (append_assoc (kept_byte place byte) (kept_of (step place byte) piece) (kept_of (after (step place byte) piece) later))

-- The buffer when this much of an input was read, and what it held before.
pub record Read (old input : List ℕ) (kept : Kept) (new : List ℕ) : Type 0 where
  pub place_is : kept.place ≡ after start_place input
  pub puts : Puts old 0 (kept_of start_place input) kept.length new

pub begun : (old : List ℕ) → Read old [] (record { length = 0; place = start_place }) old
unfolding after kept_of
begun old = record { place_is = refl; puts = nothing old 0 }

pub more : {old input piece mid new : List ℕ} {kept next : Kept} → Read old input kept mid → Keeps kept piece mid next new → Read old (input ++ piece) next new
more {old} {input} {piece} r k =
    record {
      place_is = k.place_is ∙ (ap (λ (p : Place). after p piece) r.place_is ∙ sym (after_pieces start_place input piece));
      puts = same_bytes (ap (λ (p : Place). kept_of start_place input ++ kept_of p piece) r.place_is ∙ sym (kept_pieces start_place input piece)) (then r.puts k.puts);
    }

-- Behind the hundredth line nothing is kept.
module _ (place : Place) (done : leb 100 place.lines ≡ true) where
  stays : (bytes : List ℕ) → after place bytes ≡ place
  unfolding after step
  stays [] = refl
  stays (byte ∷ bytes) = rw done (stays bytes)

  no_more : (bytes : List ℕ) → kept_of place bytes ≡ []
  unfolding kept_of kept_byte step
  no_more [] = refl
  no_more (byte ∷ bytes) = rw done (no_more bytes)

pub full : {old input new : List ℕ} {kept : Kept} → leb 100 kept.place.lines ≡ true → Read old input kept new → (rest : List ℕ) → Read old (input ++ rest) kept new
full {old} {input} {new} {kept} done r rest =
    more r (record { place_is = sym (stays kept.place done rest); puts = same_bytes (sym (no_more kept.place done rest)) (nothing new kept.length) })

pub prints : {old input new : List ℕ} {kept : Kept} → 4_000 ≤ length old → Read old input kept new → printed (take kept.length new) ≡ printed input
prints {old} {input} {new} {kept} room r =
    let whole = take_all (length old) (kept_of start_place input) (omega (arith, script_room input)) in
    ap printed (put_front (kept_of start_place input) old kept.length new r.puts ∙ whole) ∙ kept_prints input
