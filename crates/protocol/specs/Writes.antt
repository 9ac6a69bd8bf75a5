-- Document 02, #111: "After a line comes back, WRITEs come in a heap." What two of them do to one bank, in either order, and one twice.
use Rattle.std.specs.Prelude.{◌≡◌, List, ℕ, ◌≤◌, ◌<◌, length}
use Rattle.base.specs.Outcome.{Outcome, accepted}
use Rattle.base.specs.Party.{register_place}
use Rattle.base.specs.declared.party.ClientId.{ClientId}
use Rattle.base.specs.declared.party.RegisterId.{RegisterId}
use Rattle.wire.specs.Decode.{for_register, decode}
use Rattle.wire.specs.Message.{WRITE, WRITTEN}
use Rattle.wire.specs.Proof.{PreparedProof}
use Rattle.wire.specs.Writing.{unsigned}
use Rattle.wire.specs.declared.message.Party.TheVariants.{Replica as AtReplica}
use Rattle.protocol.specs.Bank.{held_at, bank_step, BankCall, bank_call}
use Rattle.protocol.specs.Events.{request_handed, expected, bank_after, answered_by}
use Rattle.protocol.specs.RegisterReplica.{Reply, held_timestamp, held_card, holding}
use Rattle.protocol.specs.declared.replica.Bank.{Bank}

-- "acceptable": the bytes are a WRITE for register x, and the replica, with this record, does not refuse it.
pub record AcceptableWrite (bank : Bank) (x : RegisterId) (bytes verdicts : List ℕ) : Type 0 where
  pub client : ClientId
  pub card : List ℕ
  pub proof : PreparedProof
  pub reads : decode AtReplica bytes ≡ accepted (for_register x (WRITE client card proof))
  pub reply : Reply
  pub answered : bank_step bank bytes verdicts ≡ accepted reply

-- ---- Deliveries

-- What a delivery gives: the bytes to send, or a refusal, and the bank afterwards.
pub record Delivered : Type 0 where
  pub reply : Outcome (List ℕ)
  pub left : Bank

-- How bytes with verdicts are delivered to a bank:
abbrev pub Delivering : Type 0
Delivering = Bank → List ℕ → List ℕ → Delivered

-- the step by itself,
abbrev pub by_step : Delivering
by_step bank bytes verdicts = record { reply = expected bank (request_handed bytes verdicts); left = bank_after bank (request_handed bytes verdicts) }

-- or a call, which is lent an output of its own.
abbrev pub after_call : BankCall → Delivered
after_call call = record { reply = answered_by call.answer call.output; left = call.bank }

abbrev pub by_call : List ℕ → Delivering
by_call old bank bytes verdicts = after_call (bank_call bank bytes verdicts old)

-- ---- A WRITE twice

module _ {bank : Bank} {x : RegisterId} {bytes verdicts : List ℕ} (write : AcceptableWrite bank x bytes verdicts) where
  -- Its reply: WRITTEN with its own timestamp, for its register.
  abbrev pub its_written : List ℕ
  its_written = unsigned x (WRITTEN bank.id write.proof.timestamp)

  module _ (d₁ d₂ : Delivering) where
    abbrev once : Delivered
    once = d₁ bank bytes verdicts

    abbrev again : Delivered
    again = d₂ once.left bytes verdicts

    -- "A WRITE delivered twice running leaves what one delivery leaves."
    pub record Twice : Type 0 where
      pub replies : (once.reply ≡ accepted its_written) × (again.reply ≡ accepted its_written)
      pub same_record : again.left ≡ once.left

-- ---- Two WRITEs for one register

module _ {bank : Bank} {x : RegisterId} {bytes verdicts bytes' verdicts' : List ℕ} (first : AcceptableWrite bank x bytes verdicts) (second : AcceptableWrite bank x bytes' verdicts') where
  -- The held timestamp, and theirs.
  abbrev h : ℕ
  h = held_timestamp (held_at x bank)

  abbrev t : ℕ
  t = first.proof.timestamp

  abbrev t' : ℕ
  t' = second.proof.timestamp

  -- Delivered by 1 and 2 in the one order, by 3 and 4 in the other.
  module _ (d₁ d₂ d₃ d₄ : Delivering) where
    -- The first ahead of the second,
    abbrev first_ahead : Delivered
    first_ahead = d₁ bank bytes verdicts

    abbrev second_behind : Delivered
    second_behind = d₂ first_ahead.left bytes' verdicts'

    abbrev left : Bank
    left = second_behind.left

    -- and the second ahead of the first.
    abbrev second_ahead : Delivered
    second_ahead = d₃ bank bytes' verdicts'

    abbrev first_behind : Delivered
    first_behind = d₄ second_ahead.left bytes verdicts

    abbrev left' : Bank
    left' = first_behind.left

    pub record EitherOrder : Type 0 where
      -- "in either order, each get the same reply"
      pub replies : ((first_ahead.reply ≡ accepted (its_written first)) × (first_behind.reply ≡ accepted (its_written first)))
          × ((second_ahead.reply ≡ accepted (its_written second)) × (second_behind.reply ≡ accepted (its_written second)))
      -- "and, if their stamps differ, leave the same record": the whole bank.
      pub same_record : (t ≡ t' → ⊥) → left ≡ left'
      -- "If the two stamps, digests and cards are equal, held stamp and card agree in both orders". By 14 digests are equal where cards are.
      pub same_held : t ≡ t' → first.card ≡ second.card → ((held_at x left).timestamp ≡ (held_at x left').timestamp) × (held_card (held_at x left) ≡ held_card (held_at x left'))
      -- "while the kept seals and holder set, if either WRITE is stored, are those of the first": so is all that is held, whatever the second
      -- carries at that timestamp. A WRITE is stored if the held timestamp is below its own and its register is there, as in every bank of the code.
      pub first_kept : t ≡ t' → h < t → register_place x < length bank.registers
          → (held_at x left ≡ holding first.card first.proof) × (held_at x left' ≡ holding second.card second.proof)
      -- If neither is stored, the bank is as it was.
      pub not_stored : t ≤ h → t' ≤ h → (left ≡ bank) × (left' ≡ bank)

-- ---- Two requests for two registers: of any kind and content, refused or not

module _ (bank : Bank) (bytes verdicts bytes' verdicts' : List ℕ) (d d' : Delivering) where
  pub record Commute : Type 0 where
    pub first_reply : (d (d' bank bytes' verdicts').left bytes verdicts).reply ≡ (d bank bytes verdicts).reply
    pub second_reply : (d' (d bank bytes verdicts).left bytes' verdicts').reply ≡ (d' bank bytes' verdicts').reply
    pub same_record : (d' (d bank bytes verdicts).left bytes' verdicts').left ≡ (d (d' bank bytes' verdicts').left bytes verdicts).left
