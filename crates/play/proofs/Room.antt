-- How much room any input needs: for what is kept of it, and for what is printed. Assumes nothing.
use Rattle.std.proofs.Common.{Option, Some, None}
use mathlib.Core.Path.{◌≡◌, refl}
use mathlib.Core.Bool.{Bool, true, false, cond}
use mathlib.Core.List.{List, [], ◌∷◌, ◌++◌}
use Prim.Native.Nat.{ℕ, zero, suc, ◌+◌, ◌-◌, ◌*◌, ◌/◌, ◌%◌, ◌≤◌}
use native.Mathlib.Omega.{arith}
use borrow.Author.Tests.{leb-false}
use lib.Dec.{eqb, ltb, leb}
use lib.ListN.{length, take, length-append, length-take}
use Rattle.base.specs.BigEndian.{to_bytes}
use Rattle.base.specs.Outcome.{Outcome, accepted, refused}
use Rattle.base.specs.declared.replica_set.ReplicaSet.{ReplicaSet}
use Rattle.text.specs.Decimal.{digits_within}
use Rattle.text.specs.Hex.{hex}
use Rattle.text.specs.Line.{lines}
use Rattle.text.specs.Timestamp.{stamp}
use Rattle.play.specs.Grammar.{command}
use Rattle.play.specs.Output.{header, behind_card, said, line}
use Rattle.play.specs.Player.{Turn, addressee, does, client_turn, replica_turn, turn}
use Rattle.play.specs.Input.{start_place, step, kept_byte, kept_of}
use Rattle.play.specs.Session.{printed_lines, printed}
use Rattle.play.specs.Worlds.{fresh_world, empty_store}
use Rattle.play.specs.declared.output.Said.{Said}
use Rattle.play.specs.declared.output.Said.TheVariants.{Sent, Taken, Done, Ended, Unread}
use Rattle.play.specs.declared.input.Place.{Place}
use Rattle.play.specs.declared.turn.Addressee.{Addressee}
use Rattle.play.specs.declared.turn.Addressee.TheVariants.{Client as ToTheClient, Replica as ToTheReplica}
use Rattle.play.specs.declared.world.World.{World}

-- 100 lines of 39 bytes and a newline, less what is behind.
abbrev ahead : Place → ℕ
ahead place = (100 - place.lines) * 40 - place.column

kept_room : (bytes : List ℕ) (place : Place) → place.column ≤ 39 → length (kept_of place bytes) ≤ ahead place
unfolding kept_of kept_byte step
kept_room [] place h = omega arith
kept_room (byte ∷ bytes) place h = go (leb 100 place.lines) refl (eqb byte 10) (leb 39 place.column) refl (kept_room bytes)
  where
    go : (b : Bool) → leb 100 place.lines ≡ b → (c d : Bool) → leb 39 place.column ≡ d → ((next : Place) → next.column ≤ 39 → length (kept_of next bytes) ≤ ahead next)
        → length
        (cond b [] (cond c (byte ∷ []) (cond d [] (byte ∷ [])))
        ++ kept_of (cond b place (cond c (record { column = 0; lines = place.lines + 1 }) (cond d place (record { column = place.column + 1; lines = place.lines })))) bytes)
        ≤ ahead place
    go true e c d f later = later place h
    go false e true d f later = let not_full = leb-false 100 place.lines e in let m = later (record { column = 0; lines = place.lines + 1 }) (omega arith) in omega arith
    go false e false true f later = later place h
    go false e false false f later =
        let not_full = leb-false 100 place.lines e in
        let room = leb-false 39 place.column f in
        let m = later (record { column = place.column + 1; lines = place.lines }) (omega arith) in
        omega arith

-- What is kept of an input has at most 4,000 bytes.
pub script_room : (input : List ℕ) → length (kept_of start_place input) ≤ 4_000
unfolding start_place
script_room input = let m = kept_room input start_place (omega arith) in omega arith

digits_room : (more n : ℕ) → length (digits_within more n) ≤ more + 1
unfolding digits_within
digits_room zero n = omega arith
digits_room (suc more) n = go (ltb n 10) (digits_room more (n / 10))
  where
    go : (b : Bool) → length (digits_within more (n / 10)) ≤ more + 1 → length (cond b ((48 + n) ∷ []) (digits_within more (n / 10) ++ ((48 + n % 10) ∷ []))) ≤ suc more + 1
    go true h = omega arith
    go false h = simp length-append (omega arith)

hex_room : (bytes : List ℕ) → length (hex bytes) ≤ 2 * length bytes
unfolding hex
hex_room [] = omega arith
hex_room (byte ∷ bytes) = let m = hex_room bytes in omega arith

signers_room : (signers : ReplicaSet) → length (behind_card signers) ≤ 5
unfolding behind_card to_bytes
signers_room signers = let m = hex_room (to_bytes 2 signers.0) in simp length-append (omega arith)

said_room : (what : Outcome Said) (card : List ℕ) → length card ≤ 17 → length (said what card) ≤ 86
unfolding said stamp
said_room (accepted (Sent m)) card h = simp length-append (omega (arith, digits_room 19 m))
said_room (accepted Taken) card h = omega arith
said_room (accepted (Done t signers)) card h = simp length-append (omega (arith, digits_room 19 t.count, digits_room 19 t.client.0, hex_room card, signers_room signers))
said_room (accepted Ended) card h = omega arith
said_room (refused number) card h = simp length-append (omega (arith, digits_room 19 number))
said_room (accepted Unread) card h = omega arith

line_room : (number : ℕ) (what : Outcome Said) (card : List ℕ) → length card ≤ 17 → length (line number what card) ≤ 108
unfolding line
line_room number what card h = simp length-append (omega (arith, digits_room 19 number, said_room what card h))

-- A line shows a card of at most 17 bytes.
card_room_lem : (world : World) (store text : List ℕ) (party : Option Addressee) → length (does world store text party).card ≤ 17
unfolding does client_turn replica_turn
card_room_lem world store text (Some (ToTheClient id call)) = simp length-take (omega arith)
card_room_lem world store text (Some (ToTheReplica id m)) = omega arith
card_room_lem world store text None = omega arith

lines_room : (world : World) (store : List ℕ) (number : ℕ) (texts : List (List ℕ)) → length (printed_lines world store number texts) ≤ 108 * length texts
unfolding printed_lines turn
lines_room world store number [] = omega arith
lines_room world store number (text ∷ texts) =
    let t : Turn = turn world store text in
    let first = line_room number t.said t.card (card_room_lem world store text (addressee world.log.count (command text))) in
    let rest = lines_room t.world t.store (number + 1) texts in
    simp length-append (omega arith)

-- No script prints more than 10,818 bytes: a header of 18, and 100 lines of at most 108.
pub printed_room : (script : List ℕ) → length (printed script) ≤ 10_818
unfolding printed header
printed_room script =
    let texts = take 100 (lines script) in
    let m = lines_room fresh_world empty_store 1 texts in
    let few = length-take 100 (lines script) in
    simp length-append (omega arith)
