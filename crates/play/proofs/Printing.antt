-- What is printed, line by line. Assumes nothing.
use mathlib.Core.Path.{◌≡◌, ap, ap₂, ◌∙◌}
use mathlib.Core.List.{List, ◌++◌}
use Prim.Native.Nat.{ℕ, suc, ◌+◌, ◌-◌, ◌≤◌, ◌<◌}
use native.Mathlib.Omega.{arith}
use lib.ListN.{length, take, drop, length-drop, drop_of_length-le}
use lib.Seq.{drop-drop, take-nil}
use Rattle.text.specs.Line.{line_length, lines}
use Rattle.text.specs.Put.{Puts}
use Rattle.text.proofs.Putting.{then, nothing, same_bytes}
use Rattle.text.proofs.Lines.{first_line}
use Rattle.play.specs.Output.{line}
use Rattle.play.specs.Player.{Turn, turn}
use Rattle.play.specs.Session.{printed_lines, PlaysLine}
use Rattle.play.specs.declared.session.Played.{Played}
use Rattle.play.specs.declared.world.World.{World}

-- One line more.
module _ (world : World) (store script text : List ℕ) (from end number : ℕ) where
  abbrev t : Turn
  t = turn world store text

  one_more : from < length script → number < 100 → end ≡ from + line_length (drop from script) → text ≡ take (end - from) (drop from script)
      → line (number + 1) t.said t.card ++ printed_lines t.world t.store (number + 1 + 1) (take (100 - (number + 1)) (lines (drop (end + 1) script)))
      ≡ printed_lines world store (number + 1) (take (100 - number) (lines (drop from script)))
  unfolding printed_lines
  one_more h few stop same =
      let n = line_length (drop from script) in
      let left : 100 - number ≡ suc (100 - (number + 1)) = omega arith in
      let some : 0 < length (drop from script) = simp length-drop (omega arith) in
      let long : end - from ≡ n = omega arith in
      let past : from + suc n ≡ end + 1 = omega arith in
      let first : text ≡ take n (drop from script) = same ∙ ap (λ (k : ℕ). take k (drop from script)) long in
      let behind : drop (suc n) (drop from script) ≡ drop (end + 1) script = drop-drop (suc n) from script ∙ ap (λ (k : ℕ). drop k script) past in
      rw (left, first_line (drop from script) some, behind, ← first)

  -- Whoever prints the lines behind a line that was played has printed them all.
  pub with_line : {out new_out new new_store : List ℕ} {at f : ℕ} {played : Played} → PlaysLine t (number + 1) out at played new_store new_out → from < length script → number < 100
      → end ≡ from + line_length (drop from script) → text ≡ take (end - from) (drop from script)
      → Puts new_out played.end (printed_lines played.world new_store (number + 1 + 1) (take (100 - (number + 1)) (lines (drop (end + 1) script)))) f new
      → Puts out at (printed_lines world store (number + 1) (take (100 - number) (lines (drop from script)))) f new
  with_line p h few stop same later =
      let rest = take (100 - (number + 1)) (lines (drop (end + 1) script)) in
      same_bytes (one_more h few stop same) (then p.puts (same_bytes (ap₂ (λ (w : World) (s : List ℕ). printed_lines w s (number + 1 + 1) rest) p.world_is p.store_is) later))

-- Nothing is left to print.
module _ (world : World) (store out script : List ℕ) (next number from : ℕ) where
  pub none_left : number ≡ 100 → Puts out next (printed_lines world store (number + 1) (take (100 - number) (lines (drop from script)))) next out
  unfolding printed_lines
  none_left e = rw e (nothing out next)

  pub at_end : (left : ℕ) → length script ≤ from → Puts out next (printed_lines world store number (take left (lines (drop from script)))) next out
  unfolding printed_lines lines
  at_end left h = rw (drop_of_length-le script h, take-nil {A = List ℕ} left) (nothing out next)
