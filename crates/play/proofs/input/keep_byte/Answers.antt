-- `play::input::keep_byte` meets its contract.
use native.Mathlib.Omega.{arith}
use borrow.Author.Tests.{le-leb, lt-leb, eq-eqb, ne_eqb}
use Rattle.text.proofs.Putting.{nothing}
use Rattle.play.specs.Input.{step, kept_byte, after, kept_of}
use Rattle.play.proofs.input.keep_byte.Goals as goal

pub returns-then-lines-ge-LINES : goal.returns-then-lines-ge-LINES
unfolding after step kept_of kept_byte
returns-then-lines-ge-LINES c =
    let kept = c.args.kept in
    let full = le-leb 100 kept.place.lines (omega arith) in
    record { place_is = rw full; puts = rw full (nothing _ _) }

pub returns-then-byte-eq-NEWLINE : goal.returns-then-byte-eq-NEWLINE
unfolding after step kept_of kept_byte
returns-then-byte-eq-NEWLINE c =
    let a = c.args in
    let not_full = lt-leb 100 a.kept.place.lines (omega arith) in
    let ends = eq-eqb a.byte 10 c.if-byte-eq-NEWLINE.true in
    record { place_is = rw (not_full, ends); puts = rw (not_full, ends) c.put.ensures }

pub returns-then-column-ge-COLUMNS : goal.returns-then-column-ge-COLUMNS
unfolding after step kept_of kept_byte
returns-then-column-ge-COLUMNS c =
    let a = c.args in
    let not_full = lt-leb 100 a.kept.place.lines (omega arith) in
    let goes_on = ne_eqb a.byte 10 c.if-byte-eq-NEWLINE.false in
    let long = le-leb 39 a.kept.place.column (omega arith) in
    record { place_is = rw (not_full, goes_on, long); puts = rw (not_full, goes_on, long) (nothing _ _) }

pub returns : goal.returns
unfolding after step kept_of kept_byte
returns c =
    let a = c.args in
    let not_full = lt-leb 100 a.kept.place.lines (omega arith) in
    let goes_on = ne_eqb a.byte 10 c.if-byte-eq-NEWLINE.false in
    let short = lt-leb 39 a.kept.place.column (omega arith) in
    record { place_is = rw (not_full, goes_on, short); puts = rw (not_full, goes_on, short) c.put-2.ensures }
