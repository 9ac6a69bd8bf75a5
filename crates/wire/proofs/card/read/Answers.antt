-- `wire::card::read` meets its contract.
use Rattle.std.proofs.Common.{sym, ap, ◌∙◌, arith}
use Rattle.wire.specs.Card.{read_answer}
use Rattle.wire.proofs.card.FieldsAndMap.{good_small, without_map, with_bad_map, with_good_map}
use Rattle.wire.proofs.card.read.Goals as goal

pub returns-then-card-lt-MAP_BYTES : goal.returns-then-card-lt-MAP_BYTES
returns-then-card-lt-MAP_BYTES c = sym (ap read_answer (without_map _ c.if-card-lt-MAP_BYTES.true))

pub returns-then-not-good_map : goal.returns-then-not-good_map
returns-then-not-good_map c = sym (ap read_answer (with_bad_map _ _ c.number-map.ensures (omega arith) (sym c.good_map.ensures ∙ c.if-not-good_map.true)))

pub read_fields-requires : goal.read_fields-requires
read_fields-requires c = (omega arith, good_small _ (sym c.good_map.ensures ∙ c.if-not-good_map.false))

pub returns : goal.returns
returns c =
    c.read_fields.ensures ∙ sym (ap read_answer (with_good_map _ _ c.number-map.ensures (omega arith) (sym c.good_map.ensures ∙ c.if-not-good_map.false)))
