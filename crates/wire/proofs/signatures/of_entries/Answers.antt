-- `wire::signatures::of_entries` meets its contract.
use Rattle.std.proofs.Common.{ap, ◌∙◌, arith}
use Rattle.base.specs.Outcome.{accepted}
use Rattle.wire.proofs.MessageSignatures.{of_first, of_second, found_so}
use Rattle.wire.proofs.signatures.of_entries.Goals as goal

pub returns-then-i-first : goal.returns-then-i-first
returns-then-i-first c =
    let a = c.args in
    let first = c.from-first.ensures ∙ c.entry_count.ensures in
    found_so (ap accepted (of_first a.register a.prepared.now a.written.now a.i (omega arith))) c.of_prepared.ensures

pub returns : goal.returns
returns c =
    let a = c.args in
    let first = c.from-first.ensures ∙ c.entry_count.ensures in
    found_so (ap accepted (of_second a.register a.prepared.now a.written.now a.i (omega arith))) (rw first at c.of_written.ensures)
