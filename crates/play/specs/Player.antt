-- Document 01, "The run player": what a line of the input does.
use Rattle.std.specs.Prelude.{◌≡◌, cond, Option, Some, None, List, [], ◌++◌, ℕ, ◌+◌, get_or, set}
use Rattle.base.specs.Outcome.{Outcome, accepted, refused}
use Rattle.base.specs.Range.{within}
use Rattle.base.specs.Refusal.{outcome}
use Rattle.base.specs.declared.party.ClientId.{ClientId}
use Rattle.base.specs.declared.party.ReplicaId.{ReplicaId}
use Rattle.protocol.specs.Parts.{card_kept}
use Rattle.protocol.specs.RegisterReplica.{no_register_replica, RegisterCall}
use Rattle.protocol.specs.Client.{no_client, Response, Send, Counted, Done, Ended, ClientCall}
use Rattle.protocol.specs.Events.{as_client_answer}
use Rattle.play.specs.Calls.{sent_before, client_does, replica_does}
use Rattle.play.specs.Grammar.{command}
use Rattle.play.specs.Log.{logged}
use Rattle.play.specs.Worlds.{seat}
use Rattle.play.specs.declared.calls.Call.{Call}
use Rattle.play.specs.declared.calls.Call.TheVariants.{Write as BeginWrite, Read as BeginRead, Deliver}
use Rattle.play.specs.declared.grammar.Command.{Command}
use Rattle.play.specs.declared.grammar.Command.TheVariants.{Write, Read, ToReplica, ToClient}
use Rattle.play.specs.declared.log.Log.{Log}
use Rattle.play.specs.declared.output.Said.{Said}
use Rattle.play.specs.declared.output.Saying.{Saying}
use Rattle.play.specs.declared.output.Said.TheVariants.{Sent, Taken, Done as Finished, Ended as NoSuccessor, Unread}
use Rattle.play.specs.declared.turn.Addressee.{Addressee}
use Rattle.play.specs.declared.turn.Addressee.TheVariants.{Client as ToTheClient, Replica as ToTheReplica}
use Rattle.play.specs.declared.turn.Turned.{Turned}
use Rattle.play.specs.declared.world.World.{World}

-- "`sent M`, `taken` (counted), `done STAMP HEX`, `ended` or `refused N`", where "Messages are numbered from 1 as sent".
unfoldable pub said_of : ℕ → Outcome Response → Outcome Said
said_of count (accepted (Send size)) = accepted (Sent (count + 1))
said_of count (accepted Counted) = accepted Taken
said_of count (accepted (Done timestamp signers)) = accepted (Finished timestamp signers)
said_of count (accepted Ended) = accepted NoSuccessor
said_of count (refused number) = refused number

-- A message to send takes the next number; no other answer takes one.
unfoldable pub logged_by : Outcome Response → Log → Log
logged_by (accepted (Send size)) log = logged size log
logged_by (accepted Counted) log = log
logged_by (accepted (Done timestamp signers)) log = log
logged_by (accepted Ended) log = log
logged_by (refused number) log = log

-- What a line leaves: the parties, the messages sent and the store that holds them; and what is said of it, with the card that `done` shows.
pub record Turn : Type 0 where
  pub world : World
  pub store : List ℕ
  pub said : Outcome Said
  pub card : List ℕ

abbrev pub after_client : World → List ℕ → ClientId → ClientCall → Turn
after_client world store id call =
    record {
      world =
          record {
            replicas = world.replicas;
            clients = set world.clients (seat id.0) call.client;
            log = logged_by call.answer world.log;
          };
      store = sent_before world.log store ++ call.output;
      said = said_of world.log.count call.answer;
      card = card_kept call.card call.card_length;
    }

abbrev pub after_replica : World → List ℕ → ReplicaId → RegisterCall → Turn
after_replica world store id call =
    record {
      world =
          record {
            replicas = set world.replicas (seat id.0) call.replica;
            clients = world.clients;
            log = logged_by (as_client_answer call.answer) world.log;
          };
      store = sent_before world.log store ++ call.output;
      said = said_of world.log.count (as_client_answer call.answer);
      card = [];
    }

unfoldable pub client_turn : World → List ℕ → ClientId → Call → List ℕ → Turn
client_turn world store id call text = after_client world store id (client_does (get_or world.clients (seat id.0) no_client) world.log store text call)

unfoldable pub replica_turn : World → List ℕ → ReplicaId → ℕ → Turn
replica_turn world store id m = after_replica world store id (replica_does (get_or world.replicas (seat id.0) no_register_replica) world.log store m)

abbrev pub if_sent : ℕ → ℕ → Addressee → Option Addressee
if_sent count m party = cond (within 1 count m) (Some party) None

-- "a line of another form, or with an unsent M, `unread`": it is addressed to nobody.
unfoldable pub addressee : ℕ → Option Command → Option Addressee
addressee count (Some (Write id)) = Some (ToTheClient id BeginWrite)
addressee count (Some (Read id)) = Some (ToTheClient id BeginRead)
addressee count (Some (ToReplica id m)) = if_sent count m (ToTheReplica id m)
addressee count (Some (ToClient id m)) = if_sent count m (ToTheClient id (Deliver m))
addressee count None = None

unfoldable pub does : World → List ℕ → List ℕ → Option Addressee → Turn
does world store text (Some (ToTheClient id call)) = client_turn world store id call text
does world store text (Some (ToTheReplica id m)) = replica_turn world store id m
does world store text None = record { world = world; store = store; said = accepted Unread; card = [] }

-- One line of the input.
unfoldable pub turn : World → List ℕ → List ℕ → Turn
turn world store text = does world store text (addressee world.log.count (command text))

-- ---- What the code keeps to

-- The code has the card in an array, with its length.
pub record Says (said : Outcome Said) (card : List ℕ) (saying : Saying) : Type 0 where
  pub what_is : outcome saying.what ≡ said
  pub card_is : card_kept saying.card saying.card_length ≡ card

pub record Plays (turn : Turn) (turned : Turned) (store : List ℕ) : Type 0 where
  pub world_is : turned.world ≡ turn.world
  pub says : Says turn.said turn.card turned.saying
  pub store_is : store ≡ turn.store
