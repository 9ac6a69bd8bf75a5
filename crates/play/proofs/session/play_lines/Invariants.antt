-- `play::session::play_lines` meets its contract. Whoever prints what is left has printed all.
use mathlib.Core.Path.{◌≡◌}
use mathlib.Core.List.{List}
use Prim.Native.Nat.{ℕ, ◌+◌, ◌-◌}
use lib.ListN.{length, take, drop}
use Rattle.text.specs.Line.{lines}
use Rattle.text.specs.Put.{Puts}
use Rattle.play.specs.Session.{printed_lines}
use Rattle.play.proofs.session.play_lines.Given as goal

abbrev pub invariant-loop-number : goal.invariant-loop-number
invariant-loop-number l =
    (length l.store ≡ length l.initial.store)
    × (length l.out ≡ length l.initial.out)
    × ((f : ℕ) (new : List ℕ) → Puts l.out l.played.end (printed_lines l.played.world l.store (l.number + 1) (take (100 - l.number) (lines (drop l.from l.script)))) f new
    → Puts l.initial.out l.initial.played.end (printed_lines l.initial.played.world l.initial.store 1 (take 100 (lines l.script))) f new)
