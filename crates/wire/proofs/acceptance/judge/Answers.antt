-- `wire::acceptance::judge` meets its contract.
use Rattle.std.proofs.Common.{◌∙◌}
use Rattle.wire.proofs.Tests6To11.{judged_parts}
use Rattle.wire.proofs.acceptance.judge.Goals as goal

pub returns : goal.returns
returns c = λ party message e.
    c.first_refusal.ensures
    ∙ rw (c.check_if_there.ensures, c.check_if_there-2.ensures, c.issued_if_there.ensures, c.front.ensures, c.behind.ensures, c.behind-entries.ensures, c.from-first.ensures, c.entry_count.ensures, c.part-prepared.ensures, c.part-written.ensures)
    (judged_parts c.args.f c.args.bytes.now c.args.verdicts.now c.args.fields c.requires party message e)
