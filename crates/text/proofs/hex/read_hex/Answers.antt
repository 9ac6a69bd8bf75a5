-- A turn reads a pair, or finds none.
use Rattle.std.proofs.Common.{arith, sym}
use Rattle.std.proofs.lemmas.List.{set-get_or}
use Rattle.text.proofs.Pairs.{one_read, line_ended}
use Rattle.text.proofs.hex.read_hex.Goals as goal

pub loop-n-preserved : goal.loop-n-preserved
loop-n-preserved c = one_read _ _ _ _ _ c.loop-n.invariant (omega arith) (sym c.in-Some.ensures)

pub returns-in_default : goal.returns-in_default
returns-in_default c = rw set-get_or (line_ended _ _ _ _ c.loop-n.invariant (omega arith) (sym c.in_default.ensures))
