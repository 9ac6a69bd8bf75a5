-- `wire::signatures::of_fields` meets its contract.
use Rattle.std.proofs.Common.{◌≡◌, suc, ◌-◌, sym, ◌∙◌, arith}
use Rattle.wire.proofs.ReadingByKind.{parsed}
use Rattle.wire.proofs.MessageSignatures.{own_at, entry_at, prepared_stand, written_stand, found_so}
use Rattle.wire.proofs.signatures.of_fields.Goals as goal

pub own-requires : goal.own-requires
own-requires c =
    let p = parsed c.args.party c.args.bytes.now c.args.fields c.requires.0 in
    let short = p.framed.short in
    let ends = p.framed.ends in
    (omega arith, omega (arith, c.requires.1))

pub returns-then-i-eq0 : goal.returns-then-i-eq0
returns-then-i-eq0 c =
    let first : c.args.i ≡ 0 = omega arith in
    found_so (sym (own_at c.args.party c.args.bytes.now c.args.fields c.requires.0) ∙ rw first) c.own.ensures

pub of_entries-requires : goal.of_entries-requires
of_entries-requires c =
    rw (c.part-prepared.ensures, c.part-written.ensures)
    (prepared_stand c.args.party c.args.bytes.now c.args.fields c.requires.0, written_stand c.args.party c.args.bytes.now c.args.fields c.requires.0, c.requires.1)

pub returns : goal.returns
returns c =
    let next : suc (c.args.i - 1) ≡ c.args.i = omega arith in
    found_so (sym (entry_at c.args.party c.args.bytes.now c.args.fields c.requires.0 (c.args.i - 1)) ∙ rw next)
    (rw (c.part-prepared.ensures, c.part-written.ensures) at c.of_entries.ensures)
