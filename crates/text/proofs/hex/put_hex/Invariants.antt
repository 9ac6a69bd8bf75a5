-- Whoever puts what is left has put all.
use Rattle.std.proofs.Common.{ℕ, List, drop}
use Rattle.text.specs.Hex.{hex}
use Rattle.text.specs.Put.{Puts}
use Rattle.text.proofs.hex.put_hex.Given as goal

abbrev pub invariant-loop-byte : goal.invariant-loop-byte
invariant-loop-byte l = (f : ℕ) (new : List ℕ) → Puts l.to l.next (hex (drop l.byte-index l.bytes)) f new → Puts l.initial.to l.at (hex l.bytes) f new
