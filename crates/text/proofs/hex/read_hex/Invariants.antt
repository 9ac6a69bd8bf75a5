-- So many pairs are read.
use Rattle.text.proofs.Pairs.{Reading}
use Rattle.text.proofs.hex.read_hex.Given as goal

abbrev pub invariant-loop-n : goal.invariant-loop-n
invariant-loop-n l = Reading l.line l.initial.out l.out l.n
