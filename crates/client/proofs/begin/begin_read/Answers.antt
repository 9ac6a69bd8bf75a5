-- `client::begin::begin_read` meets its contract.
use Rattle.base.specs.Outcome.{accepted}
use Rattle.client.proofs.Begins.{unbarred}
use Rattle.client.proofs.begin.begin_read.Goals as goal

pub ask_cards-requires : goal.ask_cards-requires
ask_cards-requires c =
    let a = c.args in
    let free = unbarred a.client _ a.register (accepted tt) _ c.in_ok-barred_by.ensures in
    (free.0, free.2)
