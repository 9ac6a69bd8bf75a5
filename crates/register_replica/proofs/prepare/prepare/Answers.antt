-- `register_replica::prepare::prepare` meets its contract.
use mathlib.Core.Path.{◌≡◌, ap, ◌∙◌}
use Prim.Native.Nat.{◌/◌}
use native.Mathlib.Omega.{arith}
use Rattle.base.specs.Timestamp.{number, of_number}
use Rattle.base.specs.declared.refusal.Refusal.TheVariants.{NotSuccessor, NotTaken}
use Rattle.base.proofs.Timestamps.{of_number_number}
use Rattle.protocol.specs.RegisterReplica.{raised, with_slots}
use Rattle.register_replica.proofs.Replies.{sends, sends_keeping, refuses, not_successor, not_taken, is_taken, stays}
use Rattle.register_replica.proofs.prepare.prepare.Goals as goal

pub returns-then-not-is_successor : goal.returns-then-not-is_successor
returns-then-not-is_successor c =
    let a = c.args in
    refuses a.register a.replica a.out.now _ NotSuccessor _
    (not_successor a.replica a.client.id a.timestamp a.digest.now (number a.shown) (number a.last) c.is_successor.ensures c.if-not-is_successor.true) c.refuse.ensures

pub returns-then-not-slot_admits : goal.returns-then-not-slot_admits
returns-then-not-slot_admits c =
    let a = c.args in
    refuses a.register a.replica a.out.now _ NotTaken _
    (not_taken a.replica a.client.id a.timestamp a.digest.now (number a.shown) (number a.last) c.is_successor.ensures c.if-not-is_successor.false (omega arith) (omega arith)
    c.later-written.result c.later-written.ensures (rw c.slot-held.ensures at c.slot_is-again.ensures) (rw c.slot-held.ensures at c.slot_admits.ensures) c.if-not-slot_admits.true)
    c.refuse-then-not-slot_admits.ensures

-- Nothing is stored.
pub returns-then-is_kept : goal.returns-then-is_kept
returns-then-is_kept c =
    let a = c.args in
    sends_keeping a.register a.replica a.out.now _ _ _ _ _ _
    (is_taken a.replica a.client.id a.timestamp a.digest.now (number a.shown) (number a.last) c.is_successor.ensures c.if-not-is_successor.false (omega arith) (omega arith)
    c.later-written.result c.later-written.ensures (rw c.slot-held.ensures at c.slot_is-again.ensures) (rw c.slot-held.ensures at c.slot_admits.ensures) c.if-not-slot_admits.false)
    c.requires c.write_prepared-answer.ensures
    (stays a.replica a.client.id a.timestamp a.digest.now (number a.shown) (number a.last) c.is_successor.ensures c.if-not-is_successor.false (omega arith) (omega arith)
    c.later-written.result c.later-written.ensures (rw c.slot-held.ensures at c.slot_is-again.ensures) (rw c.slot-held.ensures at c.slot_admits.ensures) (omega arith) c.is_kept.ensures c.if-is_kept.true)
    c.keep.ensures

-- The slot is put, and the written timestamp.
pub returns : goal.returns
returns c =
    let a = c.args in
    let next = c.put_slot-next.ensures in
    let count : number a.timestamp / 256 ≡ a.timestamp.count = omega arith in
    let written : of_number (raised (number a.last) a.replica.register.slots) ≡ c.later-written.result = rw (← c.later-written.ensures) (of_number_number c.later-written.result (omega (arith, c.later-written.type_inv))) in
    sends a.register a.replica a.out.now _ _ _ _ _
    (is_taken a.replica a.client.id a.timestamp a.digest.now (number a.shown) (number a.last) c.is_successor.ensures c.if-not-is_successor.false (omega arith) (omega arith)
    c.later-written.result c.later-written.ensures (rw c.slot-held.ensures at c.slot_is-again.ensures) (rw c.slot-held.ensures at c.slot_admits.ensures) c.if-not-slot_admits.false)
    c.requires c.write_prepared-answer.ensures
    (c.with_slots.ensures ∙ rw (next, written, count))
    (record { only = c.with_slots.ensures ∙ ap (with_slots a.replica) next })
