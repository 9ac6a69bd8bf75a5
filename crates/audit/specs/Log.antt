-- Document 02, #110, "Judging another maker's holder": a replica's log, and what is made of it. What is said of whole logs is in `Replaying`.
use Rattle.std.specs.Prelude.{Bool, false, ◌&&◌, cond, List, [], ◌∷◌, ℕ, zero, suc, ◌+◌, ◌-◌, eqb, leb, length, get_or, take, drop}
use Rattle.std.proofs.Math.Option.{Option, none, some}
use Rattle.base.specs.BigEndian.{from_bytes}
use Rattle.base.specs.Bytes.{between}
use Rattle.base.specs.Outcome.{Outcome, accepted, refused, guard}
use Rattle.base.specs.Same.{same}
use Rattle.base.specs.declared.party.ReplicaId.{ReplicaId}
use Rattle.protocol.specs.Bank.{fresh_bank, bank_setup}
use Rattle.protocol.specs.Events.{ReplicaEvent, request_handed, order_handed, expected, bank_after}
use Rattle.protocol.specs.declared.replica.Bank.{Bank}

-- ---- Entries

-- What the log says was answered: a reply, which has no bytes for "taken", or a refusal by its number.
pub data Recorded : Type 0 where
  replied : List ℕ → Recorded
  refusal : ℕ → Recorded

-- What the replica received, which is an event as in a run, and what the log says it answered.
pub record LogEntry : Type 0 where
  pub received : ReplicaEvent
  pub recorded : Recorded

-- ---- Whether a recorded answer agrees with what a correct replica answers (`expected` in protocol/specs/Events)

-- "comparing lengths and all bytes but the last 64, the maker's seal"
abbrev pub before_signature : List ℕ → List ℕ
before_signature bytes = take (length bytes - 64) bytes

unfoldable pub same_but_signature : List ℕ → List ℕ → Bool
same_but_signature sent reply = eqb (length sent) (length reply) && same (before_signature sent) (before_signature reply)

abbrev pub agrees : Outcome (List ℕ) → Recorded → Bool
agrees (accepted sent) (replied reply) = same_but_signature sent reply
agrees (accepted sent) (refusal number) = false
agrees (refused number) (replied reply) = false
agrees (refused number) (refusal other) = eqb number other

-- ---- Bytes read

-- What stands in front of some bytes, and the bytes behind it.
pub record Front (A : Type 0) : Type 0 where
  pub item : A
  pub rest : List ℕ

abbrev pub front_of : {A : Type 0} → A → List ℕ → Front A
front_of item rest = record { item = item; rest = rest }

-- One thing after another: none if either is missing.
infixl 20 ◌then◌
abbrev pub ◌then◌ : {A B : Type 0} → Option A → (A → Option B) → Option B
none then next = none
some a then next = next a

abbrev pub byte_in : List ℕ → Option (Front ℕ)
byte_in [] = none
byte_in (b ∷ bytes) = some (front_of b bytes)

-- "a length (2 bytes) and the bytes": none where they are "cut short".
abbrev pub length_in : List ℕ → ℕ
length_in bytes = from_bytes (take 2 bytes)

unfoldable pub prefixed_in : List ℕ → Option (Front (List ℕ))
prefixed_in bytes = cond (leb (2 + length_in bytes) (length bytes)) (some (front_of (take (length_in bytes) (drop 2 bytes)) (drop (2 + length_in bytes) bytes))) none

-- "a length (2 bytes) and the bytes received, a length (2) and the marks (neither for an order)"
unfoldable pub request_in : List ℕ → Option (Front ReplicaEvent)
request_in bytes = prefixed_in bytes then λ message. prefixed_in message.rest then λ verdicts. some (front_of (request_handed message.item verdicts.item) verdicts.rest)

unfoldable pub order_in : List ℕ → Option (Front ReplicaEvent)
order_in bytes = prefixed_in bytes then λ order. some (front_of (order_handed order.item) order.rest)

-- "a byte (0 message, 1 order)": none where it "opens with another byte".
abbrev pub call_opened_by : ℕ → List ℕ → Option (Front ReplicaEvent)
call_opened_by b bytes = cond (eqb b 0) (request_in bytes) (cond (eqb b 1) (order_in bytes) none)

unfoldable pub received_in : List ℕ → Option (Front ReplicaEvent)
received_in bytes = byte_in bytes then λ opening. call_opened_by opening.item opening.rest

-- "then a byte 0, a length (2) and the reply (length 0 for "taken"), or the refusal number as one byte"
abbrev pub answer_opened_by : ℕ → List ℕ → Option (Front Recorded)
answer_opened_by b bytes = cond (eqb b 0) (prefixed_in bytes then λ reply. some (front_of (replied reply.item) reply.rest)) (some (front_of (refusal b) bytes))

unfoldable pub recorded_in : List ℕ → Option (Front Recorded)
recorded_in bytes = byte_in bytes then λ opening. answer_opened_by opening.item opening.rest

unfoldable pub entry_in : List ℕ → Option (Front LogEntry)
entry_in bytes = received_in bytes then λ call. recorded_in call.rest then λ answer. some (front_of (record { received = call.item; recorded = answer.item }) answer.rest)

-- ---- The judgement

pub data Judgement : Type 0 where
  right : Judgement
  wrong : ℕ → Judgement

-- The entry of that number, if there is one, against what the bank answers; the next ones decide if it agrees.
abbrev pub judged_by : Bank → ℕ → Option (Front LogEntry) → (Bank → List ℕ → Judgement) → Judgement
judged_by bank number none next = wrong number
judged_by bank number (some e) next =
    cond (agrees (expected bank e.item.received) e.item.recorded) (next (bank_after bank e.item.received) e.rest) (wrong number)

-- At most so many entries. Where the bound is the number of bytes it is never reached: an entry has at least one.
unfoldable pub judged_within : ℕ → Bank → ℕ → List ℕ → Judgement
judged_within zero bank number bytes = right
judged_within (suc more) bank number [] = right
judged_within (suc more) bank number (b ∷ bytes) = judged_by bank number (entry_in (b ∷ bytes)) (λ next rest. judged_within more next (suc number) rest)

-- The entries from one of that number on, at the bank that the calls before left.
unfoldable pub judged_from : Bank → ℕ → List ℕ → Judgement
judged_from bank number bytes = judged_within (length bytes) bank number bytes

-- "Its log has a head, f (1 byte), number (1) and office key", which has 56.
abbrev pub head_length : ℕ
head_length = 58

abbrev pub fault_bound_in : List ℕ → ℕ
fault_bound_in log = get_or log 0 0

abbrev pub replica_id_in : List ℕ → ReplicaId
replica_id_in log = record { 0 = get_or log 1 0 }

abbrev pub key_in : List ℕ → List ℕ
key_in log = between log 2 head_length

abbrev pub set_up_in : List ℕ → Outcome (Unit {0})
set_up_in log = bank_setup (fault_bound_in log) (replica_id_in log) (key_in log)

abbrev pub fresh_in : List ℕ → Bank
fresh_in log = fresh_bank (fault_bound_in log) (replica_id_in log) (key_in log)

-- "0 for a short or refused head": a short one is refused with 16 here, as any other.
abbrev pub head_outcome : List ℕ → Outcome (Unit {0})
head_outcome log = guard 16 (leb head_length (length log)) (set_up_in log)

abbrev pub judged_if_set_up : Outcome (Unit {0}) → Judgement → Judgement
judged_if_set_up (accepted ready) judgement = judgement
judged_if_set_up (refused number) judgement = wrong 0

-- "the number, from 1, of the first entry that differs, is cut short or opens with another byte"
unfoldable pub judged : List ℕ → Judgement
judged log = judged_if_set_up (head_outcome log) (judged_from (fresh_in log) 1 (drop head_length log))
