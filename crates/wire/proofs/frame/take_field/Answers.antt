-- `wire::frame::take_field` meets its contract.
use Rattle.std.proofs.Common.{Some, ◌+◌, arith}
use Rattle.wire.specs.Layout.{fixed, repeated, prepared_rule, written_rule, rules}
use Rattle.wire.proofs.FieldEnds.{one_byte, field_missing, field_there}
use Rattle.wire.proofs.frame.take_field.Goals as goal

pub returns-then-map-bit-eq0 : goal.returns-then-map-bit-eq0
returns-then-map-bit-eq0 c = field_missing _ _ _ _ c.requires c.if-map-bit-eq0.true

pub returns-in-2 : goal.returns-in-2
unfolding rules
returns-in-2 c = field_there _ _ _ _ c.requires (fixed 8) (Some (c.args.at + 8)) c.if-map-bit-eq0.false (rw c.in-2.is) (omega arith)

pub returns-in-3 : goal.returns-in-3
unfolding rules
returns-in-3 c = field_there _ _ _ _ c.requires (fixed 5) (Some (c.args.at + 5)) c.if-map-bit-eq0.false (rw c.in-3.is) (omega arith)

pub returns-in-4 : goal.returns-in-4
unfolding rules
returns-in-4 c = field_there _ _ _ _ c.requires (fixed 32) (Some (c.args.at + 32)) c.if-map-bit-eq0.false (rw c.in-4.is) (omega arith)

pub returns-in-5 : goal.returns-in-5
unfolding rules
returns-in-5 c = field_there _ _ _ _ c.requires (repeated 1 1) c.take_repeated.result c.if-map-bit-eq0.false (rw c.in-5.is) c.take_repeated.ensures

pub returns-in-6 : goal.returns-in-6
unfolding rules
returns-in-6 c = field_there _ _ _ _ c.requires prepared_rule c.take_repeated-in-6.result c.if-map-bit-eq0.false (rw c.in-6.is) c.take_repeated-in-6.ensures

pub returns-in-7 : goal.returns-in-7
unfolding rules
returns-in-7 c = field_there _ _ _ _ c.requires written_rule c.take_repeated-in-7.result c.if-map-bit-eq0.false (rw c.in-7.is) c.take_repeated-in-7.ensures

pub returns-in_default : goal.returns-in_default
returns-in_default c =
    field_there _ _ _ _ c.requires (fixed 1) (Some (c.args.at + 1)) c.if-map-bit-eq0.false
    (one_byte _ c.requires.1 (λ e. omega arith) (λ e. omega arith) (λ e. omega arith) (λ e. omega arith) (λ e. omega arith) (λ e. omega arith)) (omega arith)
