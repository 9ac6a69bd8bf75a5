-- What is left decides.
use Rattle.std.proofs.Common.{◌≡◌, drop}
use Rattle.text.specs.Decimal.{with_digits, numeral}
use Rattle.text.proofs.decimal.read_decimal.Given as goal

abbrev pub invariant-loop-byte : goal.invariant-loop-byte
invariant-loop-byte l = numeral l.word ≡ with_digits l.n (drop l.byte-index l.word)
