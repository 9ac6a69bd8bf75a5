-- `play::input::keep` meets its contract. Whoever keeps what is left has kept all.
use mathlib.Core.Path.{◌≡◌}
use mathlib.Core.List.{List}
use Prim.Native.Nat.{ℕ, ◌≤◌}
use lib.ListN.{length, drop}
use Rattle.text.specs.Put.{Puts}
use Rattle.play.specs.Input.{after, kept_of}
use Rattle.play.proofs.input.keep.Given as goal

abbrev pub invariant-loop-byte : goal.invariant-loop-byte
invariant-loop-byte l =
    (l.byte-index ≤ length l.piece)
    × (length l.script ≡ length l.initial.script)
    × (after l.next.place (drop l.byte-index l.piece) ≡ after l.initial.next.place l.piece)
    × ((f : ℕ) (new : List ℕ) → Puts l.script l.next.length (kept_of l.next.place (drop l.byte-index l.piece)) f new → Puts l.initial.script l.initial.next.length (kept_of l.initial.next.place l.piece) f new)
