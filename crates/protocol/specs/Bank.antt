-- Document 02, #103: "A holder keeps 16 registers, each with its own record, as a second part above the single one." What a replica makes
-- of a message with all of them: the step of the register that the message is for, the others as they were.
use Rattle.std.specs.Prelude.{List, [], ℕ, get_or, set, replicate}
use Rattle.base.specs.ClientSet.{nobody}
use Rattle.base.specs.Outcome.{Outcome, accepted, refused, guard, ◌>>=◌}
use Rattle.base.specs.Party.{register_place, replica_setup}
use Rattle.base.specs.ReplicaSet.{empty}
use Rattle.base.specs.Timestamp.{start}
use Rattle.base.specs.declared.party.RegisterId.{RegisterId}
use Rattle.base.specs.declared.party.ReplicaId.{ReplicaId}
use Rattle.lms.specs.Lms.{is_public_key}
use Rattle.wire.specs.Decode.{register_in}
use Rattle.protocol.specs.RegisterReplica.{Reply, fresh_register, register_step, RegisterCall, register_call}
use Rattle.protocol.specs.declared.replica.Bank.{Bank}
use Rattle.protocol.specs.declared.replica.Held.{Held}
use Rattle.protocol.specs.declared.replica.Register.{Register}
use Rattle.protocol.specs.declared.replica.RegisterReplica.{RegisterReplica}

-- What stands past the end of a bank's registers, where nothing is read: numbers are 0 and arrays have no elements, as in the code's view.
unfoldable pub no_register : Register
no_register =
    record {
      slots = record { counts = []; digests = []; written = start };
      held = record { timestamp = start; card_length = 0; card = []; digest = []; signers = empty; entry_count = 0; entries = [] };
    }

-- One register's part of a bank, by its place, and the bank with another part there.
abbrev pub bank_part : ℕ → Bank → RegisterReplica
bank_part at bank = record { f = bank.f; id = bank.id; register = get_or bank.registers at no_register; withdrawn = bank.withdrawn }

abbrev pub with_bank_part : ℕ → RegisterReplica → Bank → Bank
with_bank_part at part bank = record { f = bank.f; id = bank.id; registers = set bank.registers at part.register; withdrawn = bank.withdrawn; key = bank.key }

-- What a register holds: timestamp, card, and proof with its signers.
abbrev pub held_at : RegisterId → Bank → Held
held_at x bank = (bank_part (register_place x) bank).register.held

-- Sixteen fresh registers, nobody withdrawn, and the office's key.
abbrev pub fresh_bank : ℕ → ReplicaId → List ℕ → Bank
fresh_bank f id key = record { f = f; id = id; registers = replicate 16 fresh_register; withdrawn = nobody; key = key }

-- Where setting up is refused there is no replica: this record stands in its place.
abbrev pub no_bank : Bank
no_bank = fresh_bank 0 (record { 0 = 0 }) (replicate 56 0)

abbrev pub bank_if_set_up : Outcome (Unit {0}) → Bank → Bank
bank_if_set_up (accepted done) bank = bank
bank_if_set_up (refused number) bank = no_bank

-- 16: "A party is set up with f, number or first nonce (0) out of range", or with a key of "another length or other type codes" (#105).
abbrev pub bank_setup : ℕ → ReplicaId → List ℕ → Outcome (Unit {0})
bank_setup f id key = replica_setup f id >>= λ ready. guard 16 (is_public_key key) (accepted tt)

unfoldable pub made_bank : ℕ → ReplicaId → List ℕ → Bank
made_bank f id key = bank_if_set_up (bank_setup f id key) (fresh_bank f id key)

-- Where the register stands that a message is for. A message for none is judged at place 0, and refused there by a test that looks at no
-- register: 20, or one before it.
abbrev pub place_in : List ℕ → ℕ
place_in bytes = register_place (register_in bytes)

-- A replica is handed bytes with verdicts.
unfoldable pub bank_step : Bank → List ℕ → List ℕ → Outcome Reply
bank_step bank bytes verdicts = register_step (bank_part (place_in bytes) bank) bytes verdicts

-- ---- The call

-- What a call of a replica leaves: answer, bank, and the output buffer.
pub record BankCall : Type 0 where
  pub answer : Outcome ℕ
  pub bank : Bank
  pub output : List ℕ

-- The call of one register's part, put back at its place.
abbrev pub put_back : ℕ → Bank → RegisterCall → BankCall
put_back at bank call = record { answer = call.answer; bank = with_bank_part at call.replica bank; output = call.output }

abbrev pub bank_call_at : ℕ → Bank → List ℕ → List ℕ → List ℕ → BankCall
bank_call_at at bank bytes verdicts old = put_back at bank (register_call (bank_part at bank) bytes verdicts old)

unfoldable pub bank_call : Bank → List ℕ → List ℕ → List ℕ → BankCall
bank_call bank bytes verdicts old = bank_call_at (place_in bytes) bank bytes verdicts old
