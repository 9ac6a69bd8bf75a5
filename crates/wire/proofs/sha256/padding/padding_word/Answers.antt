-- `padding_word`, by where the message ends.
use Rattle.std.proofs.Common.{◌∙◌, arith}
use Rattle.wire.proofs.sha256.padding.Padded.{word_zero, word_length_lem, word_mark_0, word_mark_1, word_mark_2, word_mark_3}
use Rattle.wire.proofs.sha256.padding.padding_word.Goals as goal

pub returns-then-at-total : goal.returns-then-at-total
returns-then-at-total c = let a = c.args in word_zero a.message.now (omega arith) a.at (omega arith) (omega arith) (omega arith) (omega arith)

pub returns-then-n-at : goal.returns-then-n-at
returns-then-n-at c = let a = c.args in word_length_lem a.message.now (omega arith) a.at (omega arith) (omega arith) (omega arith)

pub returns-then-n-at-2 : goal.returns-then-n-at-2
returns-then-n-at-2 c =
    let a = c.args in
    c.from_four.ensures ∙ word_mark_0 a.message.now (omega arith) a.at (omega arith) (omega arith) (omega arith)

pub returns-then-n-at-3 : goal.returns-then-n-at-3
returns-then-n-at-3 c =
    let a = c.args in
    c.from_four-then-n-at-3.ensures ∙ word_mark_1 a.message.now (omega arith) a.at (omega arith) (omega arith) (omega arith)

pub returns-then-n-at-4 : goal.returns-then-n-at-4
returns-then-n-at-4 c =
    let a = c.args in
    c.from_four-then-n-at-4.ensures ∙ word_mark_2 a.message.now (omega arith) a.at (omega arith) (omega arith) (omega arith)

pub returns : goal.returns
returns c =
    let a = c.args in
    c.from_four-2.ensures ∙ word_mark_3 a.message.now (omega arith) a.at (omega arith) (omega arith) (omega arith)
