-- Document 02, #103: "The player works on set 1." So it keeps of each replica one register's part. That this is enough: every message sent
-- is for that register, and with whole replicas, of sixteen registers each, the player would print the same.
use Rattle.std.specs.Prelude.{◌≡◌, Option, Some, None, List, [], ◌∷◌, ◌++◌, ℕ, ◌+◌, ◌≤◌, get_or, take, set, replicate}
use Rattle.base.specs.Counting.{replica}
use Rattle.base.specs.declared.party.ReplicaId.{ReplicaId}
use Rattle.wire.specs.Decode.{register_in}
use Rattle.wire.specs.declared.message.Party.TheVariants.{Replica as AtReplica}
use Rattle.text.specs.Line.{lines}
use Rattle.protocol.specs.Bank.{fresh_bank, no_bank, BankCall, bank_call}
use Rattle.protocol.specs.RegisterReplica.{no_register_replica}
use Rattle.protocol.specs.declared.replica.Bank.{Bank}
use Rattle.play.specs.Calls.{the_register, verdicts, free, message_at}
use Rattle.play.specs.Grammar.{command}
use Rattle.play.specs.Output.{header, line}
use Rattle.play.specs.Player.{Turn, after_replica, client_turn, addressee, does, turn}
use Rattle.play.specs.Session.{printed}
use Rattle.play.specs.Worlds.{fresh_world, seat, empty_store}
use Rattle.play.specs.declared.log.Log.{Log}
use Rattle.play.specs.declared.turn.Addressee.{Addressee}
use Rattle.play.specs.declared.turn.Addressee.TheVariants.{Client as ToTheClient, Replica as ToTheReplica}
use Rattle.play.specs.declared.world.World.{World}

-- ---- Every message is for the register

-- What a session comes to, line by line, whatever the lines.
pub data Reached : World → List ℕ → Type 0 where
  begun : Reached fresh_world empty_store
  played : {world : World} {store : List ℕ} → Reached world store → (text : List ℕ) → Reached (turn world store text).world (turn world store text).store

abbrev pub ForRegister : Type 0
ForRegister = (world : World) (store : List ℕ) → Reached world store → (m : ℕ) → 1 ≤ m → m ≤ world.log.count → register_in (message_at world.log store m) ≡ the_register

-- ---- The player with whole replicas

-- No session hands a replica an order (#105), so any key does: the two type codes, and zeros.
abbrev pub zero_key : List ℕ
zero_key = 0x00 ∷ 0x00 ∷ 0x00 ∷ 0x05 ∷ 0x00 ∷ 0x00 ∷ 0x00 ∷ 0x04 ∷ replicate 48 0

-- Four banks, in place of the world's replicas.
unfoldable pub fresh_banks : List Bank
fresh_banks = fresh_bank 1 (replica 1) zero_key ∷ fresh_bank 1 (replica 2) zero_key ∷ fresh_bank 1 (replica 3) zero_key ∷ fresh_bank 1 (replica 4) zero_key ∷ []

unfoldable pub no_replicas : World
no_replicas = record { replicas = []; clients = fresh_world.clients; log = fresh_world.log }

-- What a line leaves: the banks, and all else as a turn has it.
pub record BanksTurn : Type 0 where
  pub banks : List Bank
  pub turn : Turn

-- "`h H M` delivers message M to holder H", which here is a bank.
unfoldable pub bank_does : Bank → Log → List ℕ → ℕ → BankCall
bank_does bank log store m = bank_call bank (message_at log store m) (verdicts AtReplica (message_at log store m)) (free log store)

-- The world has no replica to put back.
abbrev pub after_bank : List Bank → World → List ℕ → ReplicaId → BankCall → BanksTurn
after_bank banks world store id call =
    record {
      banks = set banks (seat id.0) call.bank;
      turn = after_replica world store id (record { answer = call.answer; replica = no_register_replica; output = call.output });
    }

-- Only a message to a replica is another thing than in `Player.does`.
unfoldable pub banks_do : List Bank → World → List ℕ → List ℕ → Option Addressee → BanksTurn
banks_do banks world store text (Some (ToTheClient id call)) = record { banks = banks; turn = client_turn world store id call text }
banks_do banks world store text (Some (ToTheReplica id m)) = after_bank banks world store id (bank_does (get_or banks (seat id.0) no_bank) world.log store m)
banks_do banks world store text None = record { banks = banks; turn = does world store text None }

unfoldable pub printed_lines_by_banks : List Bank → World → List ℕ → ℕ → List (List ℕ) → List ℕ
printed_lines_by_banks banks world store number [] = []
printed_lines_by_banks banks world store number (text ∷ later) =
    let t = banks_do banks world store text (addressee world.log.count (command text)) in
    line number t.turn.said t.turn.card ++ printed_lines_by_banks t.banks t.turn.world t.turn.store (number + 1) later

unfoldable pub printed_by_banks : List ℕ → List ℕ
printed_by_banks script = header ++ printed_lines_by_banks fresh_banks no_replicas empty_store 1 (take 100 (lines script))

abbrev pub PrintedAlike : Type 0
PrintedAlike = (script : List ℕ) → printed_by_banks script ≡ printed script
