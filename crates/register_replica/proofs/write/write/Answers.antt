-- `register_replica::write::write` meets its contract.
use mathlib.Core.Path.{refl, ap, ◌∙◌}
use Rattle.base.specs.declared.refusal.Refusal.TheVariants.{BadCard}
use Rattle.protocol.specs.RegisterReplica.{with_held}
use Rattle.register_replica.proofs.Replies.{sends, sends_keeping, refuses, wrong_card, right_card, is_short, not_later, is_later}
use Rattle.register_replica.proofs.write.write.Goals as goal

pub returns-then-not-stands_under : goal.returns-then-not-stands_under
returns-then-not-stands_under c =
    let a = c.args in
    refuses a.register a.replica a.out.now _ BadCard _
    (wrong_card a.replica a.card.now a.proof.now c.requires.0 c.stands_under.ensures c.digest.ensures c.if-not-stands_under.true) c.refuse.ensures

pub returns-then-not-is_before : goal.returns-then-not-is_before
returns-then-not-is_before c =
    let a = c.args in
    sends_keeping a.register a.replica a.out.now _ _ _ _ _ _
    (right_card a.replica a.card.now a.proof.now c.requires.0 c.stands_under.ensures c.digest.ensures c.if-not-stands_under.false c.timestamp-timestamp.ensures)
    c.requires.2 c.write_written-answer.ensures
    (not_later a.replica a.card.now a.proof.now c.requires.0 c.is_before.ensures.by_number c.timestamp-timestamp.ensures c.if-not-is_before.true) c.keep.ensures

pub holding-held-requires : goal.holding-held-requires
holding-held-requires c =
    let a = c.args in
    (c.requires.0, c.requires.1, is_short a.replica a.card.now a.proof.now c.requires.0 c.stands_under.ensures c.digest.ensures c.if-not-stands_under.false)

pub returns : goal.returns
returns c =
    let a = c.args in
    sends a.register a.replica a.out.now _ _ _ _ _
    (right_card a.replica a.card.now a.proof.now c.requires.0 c.stands_under.ensures c.digest.ensures c.if-not-stands_under.false c.timestamp-timestamp.ensures)
    c.requires.2 c.write_written-answer.ensures
    (c.with_held.ensures ∙ ap (with_held a.replica) (c.holding-held.ensures ∙ is_later a.replica a.card.now a.proof.now c.requires.0 c.is_before.ensures.by_number c.timestamp-timestamp.ensures c.if-not-is_before.false))
    (record { only = c.with_held.ensures })
