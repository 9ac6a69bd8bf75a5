-- Whole logs as data: what an accepted log and a wrong one are.
use Rattle.std.specs.Prelude.{◌≡◌, true, ◌⊎◌, List, [], ◌∷◌, ◌++◌, ℕ, ◌≤◌, ◌<◌, length}
use Rattle.base.specs.BigEndian.{to_bytes}
use Rattle.base.specs.Outcome.{accepted, refused}
use Rattle.base.specs.declared.party.ReplicaId.{ReplicaId}
use Rattle.protocol.specs.Bank.{fresh_bank, bank_setup}
use Rattle.protocol.specs.Events.{ReplicaEvent, request_handed, order_handed, expected, bank_after}
use Rattle.protocol.specs.declared.replica.Bank.{Bank}
use Rattle.audit.specs.Log.{Recorded, replied, refusal, LogEntry, agrees, head_length, set_up_in}

-- ---- The bytes of an entry, and of a log

abbrev pub prefixed_bytes : List ℕ → List ℕ
prefixed_bytes bytes = to_bytes 2 (length bytes) ++ bytes

abbrev pub received_bytes : ReplicaEvent → List ℕ
received_bytes (request_handed bytes verdicts) = 0 ∷ (prefixed_bytes bytes ++ prefixed_bytes verdicts)
received_bytes (order_handed order) = 1 ∷ prefixed_bytes order

abbrev pub recorded_bytes : Recorded → List ℕ
recorded_bytes (replied reply) = 0 ∷ prefixed_bytes reply
recorded_bytes (refusal number) = number ∷ []

abbrev pub entry_bytes : LogEntry → List ℕ
entry_bytes e = received_bytes e.received ++ recorded_bytes e.recorded

unfoldable pub log_bytes : List LogEntry → List ℕ
log_bytes [] = []
log_bytes (e ∷ entries) = entry_bytes e ++ log_bytes entries

abbrev pub head_bytes : ℕ → ReplicaId → List ℕ → List ℕ
head_bytes f id key = f ∷ id.0 ∷ key

-- Lengths have two bytes, and a refusal is one byte but 0.
abbrev pub ReceivedFits : ReplicaEvent → Type 0
ReceivedFits (request_handed bytes verdicts) = (length bytes < 65_536) × (length verdicts < 65_536)
ReceivedFits (order_handed order) = length order < 65_536

abbrev pub RecordedFits : Recorded → Type 0
RecordedFits (replied reply) = length reply < 65_536
RecordedFits (refusal number) = (1 ≤ number) × (number < 256)

pub record WellFormed (e : LogEntry) : Type 0 where
  pub received_fits : ReceivedFits e.received
  pub recorded_fits : RecordedFits e.recorded

-- ---- Entries that agree

-- A well-formed entry with what the bank answers.
pub record Agrees (bank : Bank) (e : LogEntry) : Type 0 where
  pub well_formed : WellFormed e
  pub same_answer : agrees (expected bank e.received) e.recorded ≡ true

-- "a fresh holder so set up would have given each of these replies": each entry agrees at the bank that the calls before left.
unfoldable pub AllAgree : Bank → List LogEntry → Type 0
AllAgree bank [] = Unit {0}
AllAgree bank (e ∷ entries) = Agrees bank e × AllAgree (bank_after bank e.received) entries

-- The bank that the calls of some entries leave.
unfoldable pub bank_after_all : Bank → List LogEntry → Bank
bank_after_all bank [] = bank
bank_after_all bank (e ∷ entries) = bank_after_all (bank_after bank e.received) entries

-- ---- Accepted logs and wrong ones

-- The log is the head of a set-up that is not refused, and the bytes of entries that all agree.
pub record Replays (log : List ℕ) : Type 0 where
  pub f : ℕ
  pub id : ReplicaId
  pub key : List ℕ
  pub entries : List LogEntry
  pub set_up : bank_setup f id key ≡ accepted tt
  pub agree : AllAgree (fresh_bank f id key) entries
  pub written : log ≡ head_bytes f id key ++ log_bytes entries

-- So it is for n entries, and then something follows that starts with no entry that agrees.
pub record Stops (log : List ℕ) (n : ℕ) : Type 0 where
  pub f : ℕ
  pub id : ReplicaId
  pub key : List ℕ
  pub entries : List LogEntry
  pub rest : List ℕ
  pub set_up : bank_setup f id key ≡ accepted tt
  pub agree : AllAgree (fresh_bank f id key) entries
  pub many : length entries ≡ n
  pub written : log ≡ head_bytes f id key ++ (log_bytes entries ++ rest)
  pub more : rest ≡ [] → ⊥
  pub stops : (e : LogEntry) (behind : List ℕ) → rest ≡ entry_bytes e ++ behind → Agrees (bank_after_all (fresh_bank f id key) entries) e → ⊥

-- "0 for a short or refused head"
abbrev pub HeadFails : List ℕ → Type 0
HeadFails log = (length log < head_length) ⊎ (set_up_in log ≡ refused 16)
