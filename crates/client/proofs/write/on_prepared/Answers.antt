-- `client::write::on_prepared` meets its contract.
use mathlib.Core.Path.{sym, ◌∙◌}
use Rattle.client.proofs.Parting.{prepared_step, prepared_sender, own_length}
use Rattle.client.proofs.Phases.{no_prepareds, prepared_refused, prepared_taken}
use Rattle.client.proofs.write.on_prepared.Goals as goal

pub returns-in_default : goal.returns-in_default
returns-in_default c =
    rw (
      prepared_step c.args.client c.args.reply.passed c.requires.1,
      ← c.meets.ensures,
      no_prepareds _ _ _ _ _ c.meets.result c.in_default.not-Prepareds,
    )

pub returns-then-not-is_awaited_prepared : goal.returns-then-not-is_awaited_prepared
returns-then-not-is_awaited_prepared c =
    rw (
      prepared_step c.args.client c.args.reply.passed c.requires.1,
      ← c.meets.ensures,
      prepared_refused c.args.client _ _ _ _ c.in-Prepareds.is (sym c.is_awaited_prepared.ensures ∙ c.if-not-is_awaited_prepared.true),
    )

pub keep_signature-requires : goal.keep_signature-requires
keep_signature-requires c =
    let r = c.args.reply in
    let range = prepared_sender r.passed c.requires.1 in
    rw (c.sender-sender.ensures, c.signature.ensures) (range.0, range.1, own_length r.passed)

pub returns : goal.returns
returns c =
    rw (
      prepared_step c.args.client c.args.reply.passed c.requires.1,
      ← c.meets.ensures,
      prepared_taken c.args.client _ _ _ _ c.in-Prepareds.is (sym c.is_awaited_prepared.ensures ∙ c.if-not-is_awaited_prepared.false),
    )
    (rw (c.keep_signature.ensures, c.with.ensures, c.sender-sender.ensures, c.signature.ensures) at (c.after_prepared.ensures c.args.client))
