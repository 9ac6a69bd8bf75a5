-- Document 02, #110: "Every log that a rule-following holder writes is accepted; calls of over 65,535 bytes or marks are not logged." What such
-- a replica writes.
use Rattle.std.specs.Prelude.{Bool, ◌&&◌, cond, List, [], ◌∷◌, ◌++◌, ℕ, suc, eqb, ltb, length}
use Rattle.std.proofs.Math.Option.{some}
use Rattle.base.specs.Bytes.{filled}
use Rattle.base.specs.Outcome.{Outcome, accepted, refused, ◌>>=◌}
use Rattle.base.specs.declared.party.ReplicaId.{ReplicaId}
use Rattle.protocol.specs.Bank.{fresh_bank}
use Rattle.protocol.specs.Events.{ReplicaEvent, request_handed, order_handed, HandsBytes, replica_event_register, sent_for, expected, bank_after}
use Rattle.protocol.specs.declared.replica.Bank.{Bank}
use Rattle.run.specs.Run.{Event, at_replica, at_client, Run, answer_to}
use Rattle.audit.specs.Log.{Recorded, replied, refusal, LogEntry, before_signature}
use Rattle.audit.specs.Replaying.{log_bytes, head_bytes}

-- A reply with its signature, cut or filled to 64 bytes; a taken order's answer has neither.
abbrev pub signed_with : List ℕ → List ℕ → List ℕ
signed_with signature [] = []
signed_with signature (b ∷ sent) = before_signature (b ∷ sent) ++ filled 64 signature

abbrev pub recorded_for : List ℕ → Outcome (List ℕ) → Recorded
recorded_for signature (accepted sent) = replied (signed_with signature sent)
recorded_for signature (refused number) = refusal number

abbrev pub entry_for : Bank → ReplicaEvent → List ℕ → LogEntry
entry_for bank call signature = record { received = call; recorded = recorded_for signature (expected bank call) }

-- "calls of over 65,535 bytes or marks are not logged"
abbrev pub is_logged : ReplicaEvent → Bool
is_logged (request_handed bytes verdicts) = ltb (length bytes) 65_536 && ltb (length verdicts) 65_536
is_logged (order_handed order) = ltb (length order) 65_536

-- An entry for each call that is logged; all calls are made. `signatures` has a signature for each call, by its place.
unfoldable pub entries_for : Bank → List ReplicaEvent → (ℕ → List ℕ) → ℕ → List LogEntry
entries_for bank [] signatures at = []
entries_for bank (call ∷ calls) signatures at =
    let later = entries_for (bank_after bank call) calls signatures (suc at) in
    cond (is_logged call) (entry_for bank call (signatures at) ∷ later) later

abbrev pub log_of : ℕ → ReplicaId → List ℕ → List ReplicaEvent → (ℕ → List ℕ) → List ℕ
log_of f id key calls signatures = head_bytes f id key ++ log_bytes (entries_for (fresh_bank f id key) calls signatures 0)

-- Messages and orders are bytes; verdicts may be any numbers.
abbrev pub AllHandBytes : List ReplicaEvent → Type 0
AllHandBytes [] = Unit {0}
AllHandBytes (call ∷ calls) = HandsBytes call × AllHandBytes calls

-- ---- In a run

module _ (R : Run) (id : ReplicaId) (signatures : ℕ → List ℕ) where
  -- The run's answer to an event, as it is logged.
  abbrev pub entry_in_run : ℕ → ReplicaEvent → LogEntry
  entry_in_run t e = record { received = e; recorded = recorded_for (signatures t) (answer_to R t (some (at_replica id e)) >>= λ answer. accepted (sent_for (replica_event_register e) answer)) }

  -- What the replica logs of these events, of which the first is event t of the run.
  unfoldable pub entries_in_run : ℕ → List Event → List LogEntry
  entries_in_run t [] = []
  entries_in_run t (at_client at e ∷ events) = entries_in_run (suc t) events
  entries_in_run t (at_replica at e ∷ events) = cond (eqb at.0 id.0 && is_logged e) (entry_in_run t e ∷ entries_in_run (suc t) events) (entries_in_run (suc t) events)

  abbrev pub log_in_run : List ℕ
  log_in_run = head_bytes R.f id (R.office_key id) ++ log_bytes (entries_in_run 0 R.events)
