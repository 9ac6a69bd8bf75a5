-- What a call of the bank answers and leaves is what is expected of an entry's. Assumes nothing.
use mathlib.Core.Path.{◌≡◌, refl, sym, ap, ◌∙◌}
use mathlib.Core.List.{List}
use Prim.Native.Nat.{ℕ, ◌≤◌}
use borrow.Author.Tests.{le-leb}
use lib.ListN.{length, drop}
use lib.Seq.{take-append_seam}
use Rattle.base.specs.Refusal.{outcome}
use Rattle.base.specs.Outcome.{Outcome, accepted, refused, ◌>>=◌}
use Rattle.base.specs.declared.party.RegisterId.{RegisterId}
use Rattle.base.proofs.Outcome.{guard_passes}
use Rattle.wire.specs.Decode.{register_in}
use Rattle.wire.specs.Message.{longest}
use Rattle.wire.specs.Writing.{unsigned, roomy}
use Rattle.protocol.specs.Bank.{bank_part, with_bank_part, place_in, bank_step, BankCall, put_back, bank_call}
use Rattle.protocol.specs.Events.{ReplicaEvent, request_handed, order_handed, replica_event_register, BankTurn, bank_turn, order_turn, on_replica_event, next_bank, bank_answer, sent_for, expected, answered_by}
use Rattle.protocol.specs.Order.{take_order, order_answers, order_call}
use Rattle.protocol.specs.RegisterReplica.{Reply, register_answers, register_step, register_call}
use Rattle.protocol.specs.declared.replica.Bank.{Bank}
use Rattle.protocol.proofs.BankFacts.{part_itself}
use Rattle.bank.specs.Ordering.{OrderSteps}
use Rattle.bank.specs.Stepping.{BankSteps}
use Rattle.audit.specs.Calling.{MakesCall}
use Rattle.audit.specs.declared.calling.Called.{Called}

-- The bytes that a turn sends.
abbrev sent_by : RegisterId → Outcome BankTurn → Outcome (List ℕ)
sent_by register (accepted turn) = accepted (sent_for register turn.answer)
sent_by register (refused number) = refused number

-- ---- A message

-- By its step's outcome.
module _ (bank : Bank) (register : RegisterId) (at : ℕ) (old : List ℕ) where
  answers : (o : Outcome Reply)
      → answered_by (register_answers register (bank_part at bank) old o).answer (register_answers register (bank_part at bank) old o).output ≡ sent_by register (bank_turn at bank o)
  answers (accepted reply) = ap accepted (take-append_seam (unsigned register reply.message) (drop (length (unsigned register reply.message)) old))
  answers (refused number) = refl

  leaves : (o : Outcome Reply) → with_bank_part at (register_answers register (bank_part at bank) old o).replica bank ≡ next_bank bank (bank_turn at bank o)
  leaves (accepted reply) = refl
  leaves (refused number) = part_itself bank at

expected_is : (bank : Bank) (event : ReplicaEvent) → expected bank event ≡ sent_by (replica_event_register event) (on_replica_event event bank)
unfolding expected
expected_is bank event = go (on_replica_event event bank)
  where
    go : (o : Outcome BankTurn) → (bank_answer o >>= λ answer. accepted (sent_for (replica_event_register event) answer)) ≡ sent_by (replica_event_register event) o
    go (accepted turn) = refl
    go (refused number) = refl

module _ (bank : Bank) (bytes verdicts old : List ℕ) (room : longest ≤ length old) where
  call_is : bank_call bank bytes verdicts old ≡ put_back (place_in bytes) bank (register_answers (register_in bytes) (bank_part (place_in bytes) bank) old (bank_step bank bytes verdicts))
  unfolding bank_call bank_step register_call
  call_is =
      ap (λ (o : Outcome Reply). put_back (place_in bytes) bank (register_answers (register_in bytes) (bank_part (place_in bytes) bank) old o))
      (guard_passes 1 (roomy old) (register_step (bank_part (place_in bytes) bank) bytes verdicts) (le-leb longest (length old) room))

  pub calls_message : (r : Called) → BankSteps bank bytes verdicts old (outcome r.answer) r.bank r.out → MakesCall bank (request_handed bytes verdicts) r
  calls_message r steps =
      record {
        answers = rw (steps.answer, steps.output)
            (ap (λ (call : BankCall). answered_by call.answer call.output) call_is ∙ answers bank (register_in bytes) (place_in bytes) old (bank_step bank bytes verdicts)
            ∙ sym (expected_is bank (request_handed bytes verdicts)));
        leaves = steps.next ∙ ap (λ (call : BankCall). call.bank) call_is ∙ leaves bank (register_in bytes) (place_in bytes) old (bank_step bank bytes verdicts);
      }

-- ---- An order

-- The answer to an order as a reply: "length 0 for "taken"".
abbrev pub as_reply : Outcome (Unit {0}) → Outcome ℕ
as_reply (accepted taken) = accepted 0
as_reply (refused number) = refused number

pub calls_order : (bank : Bank) (order : List ℕ) (answer : Outcome (Unit {0})) (r : Called) → OrderSteps bank order answer r.bank → outcome r.answer ≡ as_reply answer
    → MakesCall bank (order_handed order) r
unfolding order_call
calls_order bank order answer r steps is =
    record {
      answers = rw (is, steps.answer) (taken (take_order bank order) ∙ sym (expected_is bank (order_handed order)));
      leaves = steps.next ∙ kept (take_order bank order);
    }
  where
    taken : (o : Outcome Bank) → answered_by (as_reply (order_answers bank o).answer) r.out ≡ sent_by (record { 0 = 0 }) (order_turn o)
    taken (accepted next) = refl
    taken (refused number) = refl

    kept : (o : Outcome Bank) → (order_answers bank o).bank ≡ next_bank bank (order_turn o)
    kept (accepted next) = refl
    kept (refused number) = refl
