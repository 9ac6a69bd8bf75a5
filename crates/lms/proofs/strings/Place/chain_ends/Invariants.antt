-- `lms::strings::Place::chain_ends` meets its contract: after i turns the ends of the first i chains are stored.
use mathlib.Core.Path.{◌≡◌}
use Prim.Native.Nat.{◌*◌}
use lib.ListN.{length, take}
use Rattle.lms.specs.LmOts.{zs}
use Rattle.lms.proofs.strings.Place.chain_ends.Given as goal

abbrev pub invariant-loop-i : goal.invariant-loop-i
invariant-loop-i l = (length l.ends ≡ 1088) × (take (32 * l.i) l.ends ≡ zs l.self.identifier l.self.number l.values l.signature l.i)
