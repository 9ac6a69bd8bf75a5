-- `wire::card::read_field` meets its contract.
use Rattle.std.proofs.Common.{◌≡◌, ℕ, ◌+◌, ◌-◌, ◌≤◌, List, length, take, drop, sym, ap, arith, length-drop}
use Rattle.base.specs.BigEndian.{from_bytes}
use Rattle.base.proofs.Range.{inside, below, above}
use Rattle.wire.specs.Card.{shown}
use Rattle.wire.proofs.card.FieldsAndMap.{stands, stands_not}
use Rattle.wire.proofs.card.read_field.Goals as goal
use Rattle.wire.proofs.card.read_field.Goals.{then-value-row-via-then-value-row, then-value-row-via-else-value-row+then-row-value}

-- A value that was read stands at the front of what follows.
value_read : (card : List ℕ) (at width value : ℕ) → at + width ≤ length card → value ≡ from_bytes (take (at + width - at) (drop at card))
    → (width ≤ length (drop at card)) × (value ≡ from_bytes (take width (drop at card)))
value_read card at width value h e =
    let same : at + width - at ≡ width = omega arith in
    (rw length-drop (omega arith), rw same at e)

pub returns-then-value-row : goal.returns-then-value-row
returns-then-value-row c =
    let x = c.args in
    let e = value_read x.card.now x.at x.row.width _ (omega arith) c.number-value.ensures in
    sym (ap shown (stands_not x.row (drop x.at x.card.now) _ e.0 e.1 (
    elim c.then-value-row.branch [
      | then-value-row-via-then-value-row w ↦ below _ _ _ w.if-value-row.true
      | then-value-row-via-else-value-row+then-row-value w ↦ above _ _ _ w.if-row-value.true
    ]
    )))

pub returns : goal.returns
returns c =
    let x = c.args in
    let e = value_read x.card.now x.at x.row.width _ (omega arith) c.number-value.ensures in
    sym (ap shown (stands x.row (drop x.at x.card.now) _ e.0 e.1 (inside _ _ _ c.if-value-row.false c.if-row-value.false)))
