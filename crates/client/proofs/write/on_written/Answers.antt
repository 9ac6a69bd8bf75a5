-- `client::write::on_written` meets its contract.
use mathlib.Core.Path.{sym, ◌∙◌}
use Rattle.client.proofs.Parting.{written_step}
use Rattle.client.proofs.Phases.{no_writtens, written_refused, written_taken, back_refused, back_taken}
use Rattle.client.proofs.write.on_written.Goals as goal

pub returns-then-not-is_awaited_written : goal.returns-then-not-is_awaited_written
returns-then-not-is_awaited_written c =
    λ old. rw (
      written_step c.args.client c.args.reply.passed c.requires,
      ← c.meets.ensures,
      written_refused _ _ _ _ c.in-Writtens.is (sym c.is_awaited_written.ensures ∙ c.if-not-is_awaited_written.true),
    )

pub returns-then-not-is_awaited_written-2 : goal.returns-then-not-is_awaited_written-2
returns-then-not-is_awaited_written-2 c =
    λ old. rw (
      written_step c.args.client c.args.reply.passed c.requires,
      ← c.meets.ensures,
      back_refused _ _ _ _ c.in-WriteBack.is (sym c.is_awaited_written-in-WriteBack.ensures ∙ c.if-not-is_awaited_written-2.true),
    )

pub returns-else-not-is_awaited_written : goal.returns-else-not-is_awaited_written
returns-else-not-is_awaited_written c =
    λ old. rw (
      written_step c.args.client c.args.reply.passed c.requires,
      ← c.meets.ensures,
      written_taken _ _ _ _ c.in-Writtens.is (sym c.is_awaited_written.ensures ∙ c.if-not-is_awaited_written.false),
    )
    (c.count_written.ensures old c.args.client)

pub returns-else-not-is_awaited_written-2 : goal.returns-else-not-is_awaited_written-2
returns-else-not-is_awaited_written-2 c =
    λ old. rw (
      written_step c.args.client c.args.reply.passed c.requires,
      ← c.meets.ensures,
      back_taken _ _ _ _ c.in-WriteBack.is (sym c.is_awaited_written-in-WriteBack.ensures ∙ c.if-not-is_awaited_written-2.false),
    )
    (rw (c.with.ensures, c.sender.ensures) at (c.after_write_back.ensures old c.args.client))

pub returns-in_default : goal.returns-in_default
returns-in_default c =
    λ old. rw (
      written_step c.args.client c.args.reply.passed c.requires,
      ← c.meets.ensures,
      no_writtens _ _ _ _ c.meets.result c.in_default.not-Writtens c.in_default.not-WriteBack,
    )
