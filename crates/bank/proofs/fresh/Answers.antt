-- `bank::fresh` meets its contract.
use mathlib.Core.Path.{sym, ap, ◌∙◌}
use mathlib.Core.List.{List}
use Prim.Native.Nat.{ℕ}
use Rattle.base.specs.Outcome.{accepted}
use Rattle.base.proofs.Filling.{filled_whole}
use Rattle.protocol.specs.Bank.{fresh_bank}
use Rattle.protocol.proofs.SetUp.{made_fresh, set_up_key}
use Rattle.bank.proofs.fresh.Goals as goal

pub returns : goal.returns
returns c =
    let a = c.args in
    let good = sym c.in_ok-bank_setup.ensures in
    rw (good, c.fresh_bank.ensures) (ap (λ (key : List ℕ). accepted (fresh_bank a.f a.id key)) (c.array.ensures ∙ filled_whole 56 a.key.now (set_up_key a.f a.id a.key.now good)))
    ∙ sym (made_fresh a.f a.id a.key.now)
