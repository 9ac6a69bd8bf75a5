-- `text::decimal::put_number`, which calls itself, meets its contract.
use Rattle.std.proofs.Common.{sym, arith}
use Rattle.text.proofs.Decimals.{one_digit, last_digit}
use Rattle.text.proofs.Putting.{then, same_bytes}
use Rattle.text.proofs.decimal.+put_number.Goals as goal

pub returns-then-n-lt10 : goal.returns-then-n-lt10
returns-then-n-lt10 t c = same_bytes (sym (one_digit c.args.n (omega arith))) c.put_digit.ensures

pub returns : goal.returns
returns t c = same_bytes (sym (last_digit c.args.n (omega arith) (omega arith))) (then c.put_number-last.ensures c.put_digit-2.ensures)
