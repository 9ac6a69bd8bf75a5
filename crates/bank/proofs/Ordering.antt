-- What an order leaves of a bank, from who is withdrawn afterwards. Assumes nothing.
use mathlib.Core.Path.{◌≡◌, refl}
use mathlib.Core.List.{List}
use Prim.Native.Nat.{ℕ}
use Rattle.base.specs.ClientSet.{with}
use Rattle.base.specs.Outcome.{Outcome, accepted, refused}
use Rattle.base.specs.declared.client_set.ClientSet.{ClientSet}
use Rattle.base.specs.declared.party.ClientId.{ClientId}
use Rattle.base.proofs.Apart.{apart}
use Rattle.protocol.specs.Order.{ordered, with_withdrawn, take_order, order_call}
use Rattle.protocol.specs.declared.replica.Bank.{Bank}
use Rattle.bank.specs.Ordering.{withdrawal, OrderSteps}

module _ (bank : Bank) (order : List ℕ) where
  pub order_taken : (set : ClientSet) → accepted set ≡ withdrawal bank.withdrawn (ordered bank.key order) → OrderSteps bank order (accepted tt) (with_withdrawn set bank)
  unfolding order_call take_order
  order_taken set e = go (ordered bank.key order) refl e
    where
      go : (o : Outcome ClientId) → ordered bank.key order ≡ o → accepted set ≡ withdrawal bank.withdrawn o → OrderSteps bank order (accepted tt) (with_withdrawn set bank)
      go (accepted client) d k =
          let same : set ≡ with bank.withdrawn client = cc in
          rw same (record { answer = rw d; outcome = rw d; next = rw d })
      go (refused n) d k = apart (cc)

  pub order_refused : (number : ℕ) → refused number ≡ withdrawal bank.withdrawn (ordered bank.key order) → OrderSteps bank order (refused number) bank
  unfolding order_call take_order
  order_refused number e = go (ordered bank.key order) refl e
    where
      go : (o : Outcome ClientId) → ordered bank.key order ≡ o → refused number ≡ withdrawal bank.withdrawn o → OrderSteps bank order (refused number) bank
      go (accepted client) d k = apart (cc)
      go (refused n) d k =
          let same : number ≡ n = cc in
          rw same (record { answer = rw d; outcome = rw d; next = rw d })
