-- `wire::card::check` meets its contract.
use Rattle.std.proofs.Common.{sym}
use Rattle.std.proofs.lemmas.Result.{err_from_is_err_and}
use Rattle.wire.specs.Card.{read_card}
use Rattle.wire.proofs.card.FieldsAndMap.{checked_read, refused_read}
use Rattle.wire.proofs.card.check.Goals as goal

pub returns-in_err-read : goal.returns-in_err-read
returns-in_err-read c =
    let p = err_from_is_err_and c.from_residual.result c.from_residual.ensures.1 in
    rw (p.1, p.2) (sym (refused_read (read_card c.args.card.now) _ c.in_err-read.ensures))

pub returns : goal.returns
returns c = sym (checked_read (read_card c.args.card.now) _ c.in_ok-read.ensures)
