-- Document 01, "Turned down", 2 to 11 in their order, with 19, 20 and 23 of document 02: the message that a party is handed and its register, or
-- its refusal. The steps of replica and client begin with it.
use Rattle.std.specs.Prelude.{ℕ, Bool, true, not, ◌||◌, List, ◌==◌}
use Rattle.base.specs.ClientSet.{has}
use Rattle.base.specs.Outcome.{Outcome, accepted, guard, ◌>>=◌}
use Rattle.base.specs.Party.{is_client, is_writer, is_replica, is_register}
use Rattle.base.specs.declared.client_set.ClientSet.{ClientSet}
use Rattle.base.specs.declared.party.ClientId.{ClientId}
use Rattle.base.specs.declared.party.RegisterId.{RegisterId}
use Rattle.base.specs.declared.party.ReplicaId.{ReplicaId}
use Rattle.base.specs.declared.replica_set.ReplicaSet.{ReplicaSet}
use Rattle.wire.specs.Checks.{prepared_of, checked}
use Rattle.wire.specs.Decode.{decode, fields_in}
use Rattle.wire.specs.Message.{Message, kind_of, READ-STAMP, PREPARE, WRITE, READ, STAMP, PREPARED, WRITTEN, CARD}
use Rattle.wire.specs.Parts.{prepared_signers}
use Rattle.wire.specs.declared.message.Fields.{Fields}
use Rattle.wire.specs.declared.message.Party.{Party}
use Rattle.wire.specs.declared.message.Party.TheVariants.{Replica, Client}

-- Who sends: "one may never be passed where the other is meant".
pub data Sender : Type 0 where
  replica : ReplicaId → Sender
  client : ClientId → Sender

abbrev pub sender_of : Message → Sender
sender_of (READ-STAMP id nonce) = client id
sender_of (PREPARE id timestamp digest proof last) = client id
sender_of (WRITE id card proof) = client id
sender_of (READ id nonce) = client id
sender_of (STAMP id nonce proof addressed) = replica id
sender_of (PREPARED id timestamp digest) = replica id
sender_of (WRITTEN id timestamp) = replica id
sender_of (CARD id nonce card proof addressed) = replica id

-- The sender with a number, of a message that this party takes: a replica takes those of clients.
abbrev pub numbered : Party → ℕ → Sender
numbered Replica number = client (record { 0 = number })
numbered Client number = replica (record { 0 = number })

-- 6: "The sender's number is outside its range."
abbrev pub in_its_range : ℕ → Sender → Bool
in_its_range f (client id) = is_client id
in_its_range f (replica id) = is_replica f id

-- 19: "a viewing desk sends a kind other than READ; tested right after 6". The other kinds are a writer's to send.
abbrev pub may_send : ℕ → Sender → Bool
may_send kind (client id) = kind == 4 || is_writer id
may_send kind (replica id) = true

-- 23: "a request comes from a withdrawn desk". A replica is never withdrawn.
abbrev pub is_served : ClientSet → Sender → Bool
is_served withdrawn (client id) = not (has withdrawn id)
is_served withdrawn (replica id) = true

-- 6 to 11 of a message for a register, with its verdicts (marks), where these clients are withdrawn: at a client nobody is. 20: "the set
-- is not 1 to 16; tested right after 6 (and 19)".
unfoldable pub admits : ℕ → ClientSet → List ℕ → RegisterId × Message → Outcome (RegisterId × Message)
admits f withdrawn verdicts (register, message) =
    guard 6 (in_its_range f (sender_of message))
    (guard 19 (may_send (kind_of message) (sender_of message))
    (guard 20 (is_register register)
    (checked f (is_served withdrawn (sender_of message)) message verdicts
    (accepted (register, message)))))

-- 2 to 11 of bytes.
unfoldable pub admitted : Party → ℕ → ClientSet → List ℕ → List ℕ → Outcome (RegisterId × Message)
admitted party f withdrawn bytes verdicts = decode party bytes >>= admits f withdrawn verdicts

-- The same as the code answers it: the fields of the bytes, and who signed the message's prepared proof (document 02, #102).
abbrev pub found_in : List ℕ → RegisterId × Message → Fields × ReplicaSet
found_in bytes sent = (fields_in bytes, prepared_signers (prepared_of sent.1))

unfoldable pub acceptance : Party → ℕ → ClientSet → List ℕ → List ℕ → Outcome (Fields × ReplicaSet)
acceptance party f withdrawn bytes verdicts = admitted party f withdrawn bytes verdicts >>= λ sent. accepted (found_in bytes sent)
