-- `wire::card::read_fields` meets its contract.
use Rattle.std.proofs.Common.{sym, ◌∙◌, arith}
use Rattle.wire.proofs.card.BitByBit.{begun, passed_missing, passed_present, refused_present, refused_longer, finished}
use Rattle.wire.proofs.card.read_fields.Goals as goal
use Rattle.wire.proofs.card.read_fields.Goals.{then-rest-eq1+in-Some, else-rest-eq1}

pub loop-bit-init : goal.loop-bit-init
loop-bit-init c = begun c.args.card.now c.args.map (omega arith)

pub returns-in_default : goal.returns-in_default
returns-in_default c =
    sym (refused_present c.loop-bit.invariant c.row_of-row.result c.row_of-row.ensures.0 (omega arith) c.if-rest-eq1.true (sym c.in_default.is ∙ c.read_field.ensures))

pub loop-bit-preserved : goal.loop-bit-preserved
loop-bit-preserved c =
    let reading = c.loop-bit.invariant in
    elim c.if-rest-eq1.branch [
      | then-rest-eq1+in-Some w ↦
          rw (w.fields-is, w.at-is) (passed_present reading w.row_of-row.result w.row_of-row.ensures.0 (omega arith) w.if-rest-eq1.true _ (sym w.in-Some.is ∙ w.read_field.ensures))
      | else-rest-eq1 w ↦ rw (w.fields-is, w.at-is) (passed_missing reading (omega arith) w.if-rest-eq1.false)
    ]

pub returns-then-at-card : goal.returns-then-at-card
returns-then-at-card c = sym (refused_longer c.loop-bit.invariant (omega arith) c.if-at-card.true)

pub returns : goal.returns
returns c = sym (finished c.loop-bit.invariant (omega arith) c.if-at-card.false)
