-- `client::begin::begin_write` meets its contract.
use mathlib.Core.Path.{sym, ◌∙◌}
use Rattle.client.proofs.Begins.{unbarred, good_card}
use Rattle.client.proofs.begin.begin_write.Goals as goal

pub ask_stamps-requires : goal.ask_stamps-requires
ask_stamps-requires c =
    let a = c.args in
    let free = unbarred a.client _ a.register _ _ c.in_ok-barred_by.ensures in
    (free.0, good_card a.card.now (sym c.check.ensures ∙ free.1), free.2)
