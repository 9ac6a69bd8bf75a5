-- A bank whose arrays have their lengths and hold bytes, and what an event keeps of it. Assumes nothing.
use mathlib.Core.Path.{◌≡◌, refl, sym, ap, subst, ◌∙◌}
use mathlib.Core.Bool.{Bool, true, false}
use mathlib.Core.List.{List}
use Prim.Native.Nat.{ℕ, ◌<◌}
use native.Mathlib.Omega.{arith}
use borrow.Author.Tests.{eqb-true, eqb-false}
use lib.Dec.{eqb}
use lib.ListN.{length, length-replicate, length-set}
use Rattle.base.specs.BigEndian.{Bytes}
use Rattle.base.specs.Outcome.{Outcome, accepted, refused}
use Rattle.base.specs.Party.{is_register}
use Rattle.base.specs.declared.client_set.ClientSet.{ClientSet}
use Rattle.base.specs.declared.party.RegisterId.{RegisterId}
use Rattle.base.specs.declared.party.ReplicaId.{ReplicaId}
use Rattle.base.proofs.Registers.{place_below}
use Rattle.wire.specs.Decode.{register_in}
use Rattle.wire.specs.Message.{Message}
use Rattle.wire.specs.declared.message.Party.TheVariants.{Replica as AtReplica}
use Rattle.wire.proofs.AdmittedMessage.{Admitted, admitted_then}
use Rattle.wire.proofs.OneForm.{found_register, decoded_fits}
use Rattle.protocol.specs.Bank.{bank_part, with_bank_part, fresh_bank, place_in, bank_step}
use Rattle.protocol.specs.Events.{ReplicaEvent, request_handed, order_handed, HandsBytes, bank_turn, order_turn, next_bank, bank_after}
use Rattle.protocol.specs.Order.{with_withdrawn, take_order}
use Rattle.protocol.specs.RegisterReplica.{Reply, fresh_register, on_request, register_step}
use Rattle.protocol.specs.declared.replica.Bank.{Bank}
use Rattle.protocol.specs.declared.replica.Register.{Register}
use Rattle.protocol.proofs.BankFacts.{fresh_part, part_elsewhere, part_there}
use Rattle.protocol.proofs.Fit.{SlotsFit, HeldFits, RegisterReplicaFits}
use Rattle.protocol.proofs.FreshRecords.{fresh_replica_fits}
use Rattle.protocol.proofs.OrderFacts.{took}
use Rattle.protocol.proofs.RegisterFacts.{RegisterFacts, register_facts}

-- Sixteen registers that fit.
pub record GoodBank (bank : Bank) : Type 0 where
  pub long : length bank.registers ≡ 16
  pub fit : (at : ℕ) → at < 16 → RegisterReplicaFits (bank_part at bank)

pub fresh_good : (f : ℕ) (id : ReplicaId) (key : List ℕ) → id.0 < 256 → GoodBank (fresh_bank f id key)
fresh_good f id key low =
    record { long = length-replicate 16 fresh_register; fit = λ at inside. subst RegisterReplicaFits (sym (fresh_part f id key at inside)) (fresh_replica_fits f id low) }

-- ---- A message

-- What a bank takes: 2 to 11 let it through, and its register steps.
pub bank_parts : (before : Bank) (bytes verdicts : List ℕ) (reply : Reply) → bank_step before bytes verdicts ≡ accepted reply
    → (register : RegisterId) × (message : Message) × Admitted AtReplica before.f before.withdrawn bytes verdicts register message × (on_request (bank_part (place_in bytes) before) message ≡ accepted reply)
unfolding bank_step register_step
bank_parts before bytes verdicts reply e = admitted_then AtReplica before.f before.withdrawn bytes verdicts (λ sent. on_request (bank_part (place_in bytes) before) sent.1) reply e

-- It is for a register.
pub taken_register : (before : Bank) (bytes verdicts : List ℕ) (reply : Reply) → bank_step before bytes verdicts ≡ accepted reply → is_register (register_in bytes) ≡ true
taken_register before bytes verdicts reply e =
    let (register, message, passed, taken) = bank_parts before bytes verdicts reply e in
    ap is_register (found_register AtReplica bytes register message passed.decodes) ∙ passed.registered

-- The same of a good bank, with the facts of the step.
pub record MessageTaken (bank : Bank) (bytes verdicts : List ℕ) (reply : Reply) : Type 0 where
  pub message : Message
  pub admitted : Admitted AtReplica bank.f bank.withdrawn bytes verdicts (register_in bytes) message
  pub stepped : on_request (bank_part (place_in bytes) bank) message ≡ accepted reply
  pub facts : RegisterFacts (bank_part (place_in bytes) bank) verdicts message reply

module _ (bank : Bank) (good : GoodBank bank) where
  module _ (bytes verdicts : List ℕ) (reply : Reply) where
    pub message_taken : Bytes bytes → bank_step bank bytes verdicts ≡ accepted reply → MessageTaken bank bytes verdicts reply
    message_taken small e =
        let (register, message, passed, taken) = bank_parts bank bytes verdicts reply e in
        let is = found_register AtReplica bytes register message passed.decodes in
        record {
          message = message;
          admitted = subst (λ (x : RegisterId). Admitted AtReplica bank.f bank.withdrawn bytes verdicts x message) (sym is) passed;
          stepped = taken;
          facts = register_facts (bank_part (place_in bytes) bank) verdicts message reply (good.fit (place_in bytes) (place_below _))
              (decoded_fits AtReplica bytes register message passed.decodes small) passed.may_send_lem passed.passed taken;
        }

    -- The part that stepped fits, and so do the others.
    pub message_keeps : MessageTaken bank bytes verdicts reply → GoodBank (with_bank_part (place_in bytes) reply.next bank)
    message_keeps s = record { long = length-set bank.registers (place_in bytes) reply.next.register ∙ good.long; fit = λ at inside. go at inside (eqb at (place_in bytes)) refl }
      where
        stepped : RegisterReplicaFits (bank_part (place_in bytes) (with_bank_part (place_in bytes) reply.next bank))
        stepped =
            let fits = s.facts.fits in
            let below : place_in bytes < 16 = place_below _ in
            let is = part_there bank (place_in bytes) reply.next (omega (arith, good.long)) in
            record {
              id_fits = subst (λ (i : ReplicaId). i.0 < 256) s.facts.same_id fits.id_fits;
              slots_fit = subst (λ (register : Register). SlotsFit register.slots) (sym is) fits.slots_fit;
              held_fits = subst (λ (register : Register). HeldFits register.held) (sym is) fits.held_fits;
            }

        go : (at : ℕ) → at < 16 → (b : Bool) → eqb at (place_in bytes) ≡ b → RegisterReplicaFits (bank_part at (with_bank_part (place_in bytes) reply.next bank))
        go at inside true e = subst (λ (p : ℕ). RegisterReplicaFits (bank_part p (with_bank_part (place_in bytes) reply.next bank))) (sym (eqb-true at (place_in bytes) e)) stepped
        go at inside false e = subst RegisterReplicaFits (sym (part_elsewhere bank (place_in bytes) reply.next at (eqb-false at (place_in bytes) e))) (good.fit at inside)

  -- ---- An order changes the withdrawn clients alone

  pub order_keeps : (withdrawn : ClientSet) → GoodBank (with_withdrawn withdrawn bank)
  order_keeps withdrawn =
      record {
        long = good.long;
        fit = λ at inside. let fits = good.fit at inside in record { id_fits = fits.id_fits; slots_fit = fits.slots_fit; held_fits = fits.held_fits };
      }

  -- ---- Any event, refused or not

  pub event_keeps : (e : ReplicaEvent) → HandsBytes e → GoodBank (bank_after bank e)
  event_keeps (request_handed bytes verdicts) small = go (bank_step bank bytes verdicts) refl
    where
      go : (o : Outcome Reply) → bank_step bank bytes verdicts ≡ o → GoodBank (next_bank bank (bank_turn (place_in bytes) bank o))
      go (accepted reply) e = message_keeps bytes verdicts reply (message_taken bytes verdicts reply small e)
      go (refused n) e = good
  event_keeps (order_handed order) small = go (take_order bank order) refl
    where
      go : (o : Outcome Bank) → take_order bank order ≡ o → GoodBank (next_bank bank (order_turn o))
      go (accepted next) e = subst GoodBank (sym (took bank order next e).next_is) (order_keeps _)
      go (refused n) e = good
