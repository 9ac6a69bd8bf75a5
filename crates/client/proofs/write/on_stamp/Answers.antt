-- `client::write::on_stamp` meets its contract.
use mathlib.Core.Path.{sym, ◌∙◌}
use Rattle.client.proofs.Parting.{stamp_step}
use Rattle.client.proofs.Phases.{no_stamps, stamp_refused, stamp_taken}
use Rattle.client.proofs.write.on_stamp.Goals as goal

pub returns-in_default : goal.returns-in_default
returns-in_default c =
    rw (
      stamp_step c.args.client c.args.reply.passed c.requires.1,
      ← c.meets.ensures,
      no_stamps _ _ _ _ _ c.meets.result c.in_default.not-Stamps,
    )

pub returns-then-not-is_awaited : goal.returns-then-not-is_awaited
returns-then-not-is_awaited c =
    rw (
      stamp_step c.args.client c.args.reply.passed c.requires.1,
      ← c.meets.ensures,
      stamp_refused _ _ _ _ _ c.in-Stamps.is (sym c.is_awaited.ensures ∙ c.if-not-is_awaited.true),
    )

pub returns : goal.returns
returns c =
    rw (
      stamp_step c.args.client c.args.reply.passed c.requires.1,
      ← c.meets.ensures,
      stamp_taken _ _ _ _ _ c.in-Stamps.is (sym c.is_awaited.ensures ∙ c.if-not-is_awaited.false),
    )
    (rw (c.keep_better.ensures, c.best_of.ensures, c.with.ensures, c.sender.ensures, c.shown-shown.ensures) at (c.after_stamp.ensures c.args.client))
