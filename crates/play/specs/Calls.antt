-- Document 01, "The run player": the calls that a line asks for.
use Rattle.std.specs.Prelude.{◌≡◌, List, ◌++◌, ℕ, ◌-◌, length, take, drop, replicate}
use Rattle.base.specs.Refusal.{outcome}
use Rattle.base.specs.declared.party.RegisterId.{RegisterId}
use Rattle.wire.specs.Message.{longest}
use Rattle.wire.specs.Signatures.{signatures_to}
use Rattle.wire.specs.declared.message.Party.{Party}
use Rattle.wire.specs.declared.message.Party.TheVariants.{Replica as AtReplica, Client as AtClient}
use Rattle.text.specs.Hex.{hex_pairs}
use Rattle.protocol.specs.RegisterReplica.{RegisterCall, register_call}
use Rattle.protocol.specs.Client.{ClientCall, answer_outcome, begin_write_call, begin_read_call, client_call}
use Rattle.protocol.specs.declared.replica.RegisterReplica.{RegisterReplica}
use Rattle.protocol.specs.declared.client.Client.{Client}
use Rattle.client.specs.declared.Stepped.{Stepped as ClientStepped}
use Rattle.register_replica.specs.declared.Stepped.{Stepped as ReplicaStepped}
use Rattle.play.specs.Log.{start, message}
use Rattle.play.specs.declared.calls.Call.{Call}
use Rattle.play.specs.declared.calls.Call.TheVariants.{Write, Read, Deliver}
use Rattle.play.specs.declared.log.Log.{Log}

-- Document 02, #103: "The player works on set 1."
abbrev pub the_register : RegisterId
the_register = record { 0 = 1 }

-- "all marks 1"
unfoldable pub verdicts : Party → List ℕ → List ℕ
verdicts party bytes = replicate (length (signatures_to party bytes)) 1

-- The store behind the messages sent is the output of the next call.
unfoldable pub sent_before : Log → List ℕ → List ℕ
sent_before log store = take (start log.count (length store)) store

unfoldable pub free : Log → List ℕ → List ℕ
free log store = drop (start log.count (length store)) store

unfoldable pub message_at : Log → List ℕ → ℕ → List ℕ
message_at log store m = take longest (message log store (m - 1))

-- "`w D HEX` begins a write, `r D` a read", and `d D M` delivers message M "to desk D".
unfoldable pub client_does : Client → Log → List ℕ → List ℕ → Call → ClientCall
client_does client log store text Write = begin_write_call client the_register (hex_pairs 17 (drop 4 text)) (free log store)
client_does client log store text Read = begin_read_call client the_register (free log store)
client_does client log store text (Deliver m) = client_call client (message_at log store m) (verdicts AtClient (message_at log store m)) (free log store)

-- "`h H M` delivers message M to holder H"
unfoldable pub replica_does : RegisterReplica → Log → List ℕ → ℕ → RegisterCall
replica_does replica log store m = register_call replica (message_at log store m) (verdicts AtReplica (message_at log store m)) (free log store)

-- What a call leaves, with its output behind some bytes of the store.
pub record ClientLeaves (call : ClientCall) (sent : List ℕ) (stepped : ClientStepped) (store : List ℕ) : Type 0 where
  pub answer : answer_outcome stepped.answer ≡ call.answer
  pub card_length : stepped.card_length ≡ call.card_length
  pub card : stepped.card ≡ call.card
  pub client : stepped.client ≡ call.client
  pub store_is : store ≡ sent ++ call.output

pub record ReplicaLeaves (call : RegisterCall) (sent : List ℕ) (stepped : ReplicaStepped) (store : List ℕ) : Type 0 where
  pub answer : outcome stepped.answer ≡ call.answer
  pub replica : stepped.replica ≡ call.replica
  pub store_is : store ≡ sent ++ call.output
