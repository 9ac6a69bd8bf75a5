-- What the client's private functions leave, as a call.
use Rattle.std.specs.Prelude.{◌≡◌, List, ℕ, length, replicate, Result, Ok, Err}
use Rattle.base.specs.Bytes.{filled}
use Rattle.base.specs.Outcome.{Outcome, refused}
use Rattle.base.specs.Refusal.{number_of}
use Rattle.base.specs.declared.refusal.Refusal.{Refusal}
use Rattle.base.specs.declared.replica_set.ReplicaSet.{ReplicaSet}
use Rattle.base.specs.declared.timestamp.Timestamp.{Timestamp}
use Rattle.protocol.specs.Client.{Turn, ClientCall, answer_outcome, client_answers}
use Rattle.wire.specs.Layout.{card_room}
use Rattle.protocol.specs.declared.client.Client.{Client}
use Rattle.protocol.specs.declared.client.ClientAnswer.{ClientAnswer}
use Rattle.protocol.specs.declared.client.ClientAnswer.TheVariants.{Send, Done, Refused}
use Rattle.client.specs.declared.Stepped.{Stepped}
use Rattle.client.specs.declared.answers.Taken.{Taken}

-- What a function returns and leaves in the output, as a call on this record: a refusal leaves the record as it was.
abbrev pub call_of : Client → Result Taken Refusal → List ℕ → ClientCall
call_of client (Ok taken) output =
    record { answer = answer_outcome taken.answer; card_length = taken.card_length; card = taken.card; client = taken.client; output = output }
call_of client (Err refusal) output =
    record { answer = refused (number_of refusal); card_length = 0; card = replicate card_room 0; client = client; output = output }

-- What a caller is handed of it. A refusal leaves the record as it was.
abbrev pub stepped : Client → Result Taken Refusal → Stepped
stepped client (Ok taken) = record { answer = taken.answer; card_length = taken.card_length; card = taken.card; client = taken.client }
stepped client (Err refusal) = record { answer = Refused refusal; card_length = 0; card = replicate card_room 0; client = client }

-- An answer with no card beside it.
abbrev pub plain : ClientAnswer → Client → Taken
plain answer client = record { answer = answer; card_length = 0; card = replicate card_room 0; client = client }

abbrev pub done_with : Timestamp → List ℕ → ReplicaSet → Client → Taken
done_with timestamp card signers client = record { answer = Done timestamp signers; card_length = length card; card = filled card_room card; client = client }

abbrev pub sent_as : Result ℕ Refusal → Client → Result Taken Refusal
sent_as (Ok n) client = Ok (plain (Send n) client)
sent_as (Err refusal) client = Err refusal

-- A step that refuses nothing, so that it does not matter which record it would leave then.
abbrev pub Takes : List ℕ → Outcome Turn → Result Taken Refusal → List ℕ → Type 0
Takes old step result new = (before : Client) → call_of before result new ≡ client_answers before old step

-- The same of a function that is lent no output, for any.
abbrev pub TakesAny : Outcome Turn → Taken → Type 0
TakesAny step taken = (old : List ℕ) → Takes old step (Ok taken) old
