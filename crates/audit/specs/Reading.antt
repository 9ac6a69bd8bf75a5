-- The contracts of the functions that read an entry: what their answers stand for.
use Rattle.std.specs.Prelude.{◌≡◌, List, ℕ, ◌≤◌, length, drop}
use Rattle.std.proofs.Math.Option.{Option, none, some}
use Rattle.std.specs.declared.option.Option.{Option as CodeOption}
use Rattle.std.specs.declared.option.Option.TheVariants.{Some, None}
use Rattle.std.specs.declared.result.Result.{Result}
use Rattle.std.specs.declared.result.Result.TheVariants.{Ok, Err}
use Rattle.wire.specs.Parts.{part_at}
use Rattle.wire.specs.declared.message.Span.{Span}
use Rattle.protocol.specs.Events.{ReplicaEvent, request_handed, order_handed}
use Rattle.audit.specs.Log.{Recorded, replied, refusal, LogEntry, Front, front_of, prefixed_in, request_in, order_in, received_in, recorded_in, entry_in}
use Rattle.audit.specs.declared.reading.CallPlaces.{CallPlaces}
use Rattle.audit.specs.declared.reading.CallPlaces.TheVariants.{Message, Order}
use Rattle.audit.specs.declared.reading.EntryPlaces.{EntryPlaces}

-- What was found in the bytes, and what is left of them; and where it ends.
abbrev pub prefixed_found : List ℕ → CodeOption Span → Option (Front (List ℕ))
prefixed_found bytes (Some span) = some (front_of (part_at bytes span) (drop span.end bytes))
prefixed_found bytes None = none

abbrev pub prefixed_end : CodeOption Span → ℕ
prefixed_end (Some span) = span.end
prefixed_end None = 0

pub record FindsPrefixed (bytes : List ℕ) (at : ℕ) (r : CodeOption Span) : Type 0 where
  pub is : prefixed_found bytes r ≡ prefixed_in (drop at bytes)
  pub inside : prefixed_end r ≤ length bytes

-- A call at its places, and where it ends.
abbrev pub call_by : List ℕ → CallPlaces → ReplicaEvent
call_by bytes (Message message verdicts) = request_handed (part_at bytes message) (part_at bytes verdicts)
call_by bytes (Order order) = order_handed (part_at bytes order)

abbrev pub call_end : CallPlaces → ℕ
call_end (Message message verdicts) = verdicts.end
call_end (Order order) = order.end

abbrev pub call_found : List ℕ → CodeOption CallPlaces → Option (Front ReplicaEvent)
call_found bytes (Some p) = some (front_of (call_by bytes p) (drop (call_end p) bytes))
call_found bytes None = none

-- Behind its opening byte, which tells which it is.
abbrev pub FindsRequest : List ℕ → CodeOption CallPlaces → Type 0
FindsRequest bytes r = call_found bytes r ≡ request_in (drop 1 bytes)

abbrev pub FindsOrder : List ℕ → CodeOption CallPlaces → Type 0
FindsOrder bytes r = call_found bytes r ≡ order_in (drop 1 bytes)

abbrev pub FindsCall : List ℕ → CodeOption CallPlaces → Type 0
FindsCall bytes r = call_found bytes r ≡ received_in bytes

-- A reply at its place, or a refusal.
abbrev pub recorded_by : List ℕ → Result Span ℕ → Recorded
recorded_by bytes (Ok reply) = replied (part_at bytes reply)
recorded_by bytes (Err number) = refusal number

abbrev pub answer_found : List ℕ → CodeOption (Result Span ℕ × ℕ) → Option (Front Recorded)
answer_found bytes (Some (recorded, end)) = some (front_of (recorded_by bytes recorded) (drop end bytes))
answer_found bytes None = none

abbrev pub answer_end : CodeOption (Result Span ℕ × ℕ) → ℕ
answer_end (Some (recorded, end)) = end
answer_end None = 0

pub record FindsAnswer (bytes : List ℕ) (at : ℕ) (r : CodeOption (Result Span ℕ × ℕ)) : Type 0 where
  pub is : answer_found bytes r ≡ recorded_in (drop at bytes)
  pub inside : answer_end r ≤ length bytes

abbrev pub entry_by : List ℕ → EntryPlaces → LogEntry
entry_by bytes p = record { received = call_by bytes p.call; recorded = recorded_by bytes p.answer }

abbrev pub entry_found : List ℕ → CodeOption EntryPlaces → Option (Front LogEntry)
entry_found bytes (Some p) = some (front_of (entry_by bytes p) (drop p.end bytes))
entry_found bytes None = none

abbrev pub entry_end : CodeOption EntryPlaces → ℕ
entry_end (Some p) = p.end
entry_end None = 0

pub record FindsEntry (bytes : List ℕ) (r : CodeOption EntryPlaces) : Type 0 where
  pub is : entry_found bytes r ≡ entry_in bytes
  pub inside : entry_end r ≤ length bytes
