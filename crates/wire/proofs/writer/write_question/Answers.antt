-- `wire::writer::write_question` meets its contract.
use Rattle.std.proofs.Common.{arith}
use Rattle.wire.specs.Kind.{kind_number}
use Rattle.wire.proofs.Stores.{then, wrote}
use Rattle.wire.proofs.WrittenParts.{question_parts}
use Rattle.wire.proofs.writer.write_question.Goals as goal

pub returns : goal.returns
returns c =
    let a = c.args in
    wrote (question_parts a.register a.client (kind_number a.kind) a.nonce) (omega arith)
    (then (then c.put_head-a.ensures c.put_nonce-b.ensures) c.put_end.ensures)
