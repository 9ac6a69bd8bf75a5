-- What an order does to a bank, and what becomes of a withdrawn client's requests. Assumes nothing.
use mathlib.Core.Path.{◌≡◌, refl, sym, ap, subst, ◌∙◌}
use mathlib.Core.Bool.{true, false, ◌&&◌, ◌||◌}
use mathlib.Core.List.{List, [], ◌∷◌}
use Prim.Native.Nat.{ℕ}
use borrow.Author.Tests.{eqb-true}
use lib.Dec.{eqb}
use lib.ListN.{length, take}
use Rattle.base.specs.ClientSet.{has, with}
use Rattle.base.specs.Outcome.{Outcome, accepted, refused, guard, ◌>>=◌}
use Rattle.base.specs.Party.{is_client, is_register}
use Rattle.base.specs.Same.{same}
use Rattle.base.specs.declared.party.ClientId.{ClientId}
use Rattle.base.specs.declared.party.RegisterId.{RegisterId}
use Rattle.base.proofs.Apart.{apart}
use Rattle.base.proofs.Booleans.{and_true_both}
use Rattle.base.proofs.ClientSet.{has_with, has_put, with_again}
use Rattle.base.proofs.Outcome.{guard_accepted}
use Rattle.wire.specs.Acceptance.{sender_of, in_its_range, may_send, is_served}
use Rattle.wire.specs.Checks.{one_verdict_each, own_genuine}
use Rattle.wire.specs.Decode.{for_register, decode}
use Rattle.wire.specs.Message.{Message, kind_of}
use Rattle.wire.specs.Order.{client_named, is_order}
use Rattle.wire.specs.declared.message.Party.TheVariants.{Replica as AtReplica}
use Rattle.wire.proofs.WithdrawnSender.{withdrawn_refused as not_admitted, forged_refused as forged_not_admitted}
use Rattle.protocol.specs.Bank.{bank_part, place_in, bank_step}
use Rattle.protocol.specs.Order.{is_signed, ordered, withdrawing, take_order, order_answers, order_call}
use Rattle.protocol.specs.declared.replica.Bank.{Bank}
use Rattle.protocol.proofs.BankFacts.{refused_alike}

-- ---- What is taken

-- An order that is good under a key has 1,299 bytes, names a client, and is signed.
pub record GoodOrder (key order : List ℕ) : Type 0 where
  pub long : length order ≡ 1299
  pub in_range_lem : is_client (client_named order) ≡ true
  pub signed : is_signed key order ≡ true

ordered_good : (key order : List ℕ) (client : ClientId) → ordered key order ≡ accepted client → GoodOrder key order × (client_named order ≡ client)
unfolding ordered is_order
ordered_good key order client e =
    let named : Outcome ClientId = accepted (client_named order) in
    let mapped = same (take 2 order) (0x00 ∷ 0x03 ∷ []) in
    let shaped = guard_accepted 21 (eqb (length order) 1299 && (mapped && is_client (client_named order))) (guard 22 (is_signed key order) named) client e in
    let signed = guard_accepted 22 (is_signed key order) named client shaped.1 in
    let tests = and_true_both (eqb (length order) 1299) (mapped && is_client (client_named order)) shaped.0 in
    let is = signed.1 in
    (record { long = eqb-true (length order) 1299 tests.0; in_range_lem = (and_true_both mapped (is_client (client_named order)) tests.1).1; signed = signed.0 }, cc)

module _ (bank : Bank) (order : List ℕ) where
  -- A bank that takes an order withdraws the client that it names.
  pub record Took (next : Bank) : Type 0 where
    pub good : GoodOrder bank.key order
    pub next_is : next ≡ withdrawing (client_named order) bank

  pub took : (next : Bank) → take_order bank order ≡ accepted next → Took next
  unfolding take_order
  took next e = go (ordered bank.key order) refl e
    where
      go : (o : Outcome ClientId) → ordered bank.key order ≡ o → (o >>= λ client. accepted (withdrawing client bank)) ≡ accepted next → Took next
      go (accepted client) d e =
          let (good, named) = ordered_good bank.key order client d in
          let is : next ≡ withdrawing client bank = cc in
          record { good = good; next_is = is ∙ ap (λ (c : ClientId). withdrawing c bank) (sym named) }
      go (refused n) d e = apart (cc)

  -- ---- What an order leaves

  -- All but the withdrawn clients: f, number, key, and all registers.
  pub record OrderLeaves (left : Bank) : Type 0 where
    pub same_f : left.f ≡ bank.f
    pub same_id : left.id ≡ bank.id
    pub same_registers : left.registers ≡ bank.registers
    pub same_key : left.key ≡ bank.key

  -- Taken or refused.
  pub order_leaves : OrderLeaves (order_call bank order).bank
  unfolding order_call take_order
  order_leaves = go (ordered bank.key order)
    where
      go : (o : Outcome ClientId) → OrderLeaves (order_answers bank (o >>= λ client. accepted (withdrawing client bank))).bank
      go (accepted client) = record { same_f = refl; same_id = refl; same_registers = refl; same_key = refl }
      go (refused n) = record { same_f = refl; same_id = refl; same_registers = refl; same_key = refl }

  -- Refused, nothing changes.
  pub order_refused : (n : ℕ) → take_order bank order ≡ refused n → order_call bank order ≡ record { answer = refused n; bank = bank }
  unfolding order_call
  order_refused n e = rw e

  -- Taken, it withdraws just the client that it names,
  pub order_withdraws : (next : Bank) → take_order bank order ≡ accepted next
      → (c : ClientId) → has next.withdrawn c ≡ (eqb c.0 (client_named order).0 || has bank.withdrawn c)
  order_withdraws next e c =
      let it = took next e in
      ap (λ (left : Bank). has left.withdrawn c) it.next_is ∙ has_with bank.withdrawn (client_named order) c it.good.in_range_lem

  -- and handed again it changes nothing.
  pub order_again : (next : Bank) → take_order bank order ≡ accepted next → take_order next order ≡ accepted next
  unfolding take_order
  order_again next e = go (ordered bank.key order) refl e
    where
      go : (o : Outcome ClientId) → ordered bank.key order ≡ o → (o >>= λ client. accepted (withdrawing client bank)) ≡ accepted next → take_order next order ≡ accepted next
      go (accepted client) d e =
          let (good, named) = ordered_good bank.key order client d in
          let is : next ≡ withdrawing client bank = cc in
          let known : is_client client ≡ true = ap is_client (sym named) ∙ good.in_range_lem in
          let again = with_again (with bank.withdrawn client) client (has_put bank.withdrawn client known) in
          subst (λ (left : Bank). take_order left order ≡ accepted left) (sym is) (rw (d, again))
      go (refused n) d e = apart (cc)

-- ---- Requests

module _ (bank : Bank) (bytes verdicts : List ℕ) (register : RegisterId) (message : Message)
    (decoded : decode AtReplica bytes ≡ accepted (for_register register message)) (ranged : in_its_range bank.f (sender_of message) ≡ true)
    (may : may_send (kind_of message) (sender_of message) ≡ true) (registered : is_register register ≡ true) (each : one_verdict_each message verdicts ≡ true) where
  -- One that passes 2 to 8 is refused with 23 where its sender is withdrawn,
  pub withdrawn_refused : own_genuine verdicts ≡ true → is_served bank.withdrawn (sender_of message) ≡ false → bank_step bank bytes verdicts ≡ refused 23
  unfolding bank_step
  withdrawn_refused own gone =
      refused_alike bytes verdicts (bank_part (place_in bytes) bank) 23 (not_admitted AtReplica bank.f bank.withdrawn bytes verdicts register message decoded ranged may registered each own gone)

  -- and one that 8 refuses with 8, whoever is withdrawn.
  pub forged_refused : own_genuine verdicts ≡ false → bank_step bank bytes verdicts ≡ refused 8
  unfolding bank_step
  forged_refused own =
      refused_alike bytes verdicts (bank_part (place_in bytes) bank) 8 (forged_not_admitted AtReplica bank.f bank.withdrawn bytes verdicts register message decoded ranged may registered each own)
