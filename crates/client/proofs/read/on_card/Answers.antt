-- `client::read::on_card` meets its contract.
use mathlib.Core.Path.{sym, ◌∙◌}
use Rattle.base.proofs.Outcome.{guard_passes, guard_refuses}
use Rattle.protocol.proofs.ClientReplies.{standing_short}
use Rattle.wire.specs.Parts.{part_at, card_at, prepared_part}
use Rattle.client.proofs.Parting.{card_step}
use Rattle.client.proofs.Phases.{no_cards, card_refused, card_taken}
use Rattle.client.proofs.read.on_card.Goals as goal

pub returns-then-not-card_stands : goal.returns-then-not-card_stands
returns-then-not-card_stands c =
    rw (card_step c.args.client c.args.reply.passed c.args.role c.requires.1, guard_refuses 14 _ _ (sym c.card_stands.ensures ∙ c.if-not-card_stands.true))

pub returns-in_default : goal.returns-in_default
returns-in_default c =
    rw (
      card_step c.args.client c.args.reply.passed c.args.role c.requires.1,
      guard_passes 14 _ _ (sym c.card_stands.ensures ∙ c.if-not-card_stands.false),
      ← c.meets.ensures,
      no_cards _ _ _ _ _ _ _ c.meets.result c.in_default.not-Cards,
    )

pub returns-then-not-is_awaited : goal.returns-then-not-is_awaited
returns-then-not-is_awaited c =
    rw (
      card_step c.args.client c.args.reply.passed c.args.role c.requires.1,
      guard_passes 14 _ _ (sym c.card_stands.ensures ∙ c.if-not-card_stands.false),
      ← c.meets.ensures,
      card_refused _ _ _ _ _ _ _ c.in-Cards.is (sym c.is_awaited.ensures ∙ c.if-not-is_awaited.true),
    )

pub keep_better_card-requires : goal.keep_better_card-requires
keep_better_card-requires c =
    let r = c.args.reply in
    rw c.card.ensures (standing_short (card_at r.message.now r.fields.card) (prepared_part (part_at r.message.now r.fields.prepared)) (sym c.card_stands.ensures ∙ c.if-not-card_stands.false))

pub returns : goal.returns
returns c =
    rw (
      card_step c.args.client c.args.reply.passed c.args.role c.requires.1,
      guard_passes 14 _ _ (sym c.card_stands.ensures ∙ c.if-not-card_stands.false),
      ← c.meets.ensures,
      card_taken _ _ _ _ _ _ _ c.in-Cards.is (sym c.is_awaited.ensures ∙ c.if-not-is_awaited.false),
    )
    (rw (c.keep_better_card.ensures, c.best_of.ensures, c.showed_by.ensures, c.with.ensures, c.sender-sender.ensures, c.card.ensures, c.shown-shown.ensures) at (c.count_card.ensures c.args.client))
