-- What the player starts with: four replicas with one register each (`Calls.the_register`; `ForRegister` has why one is enough), and four clients.
use Rattle.std.specs.Prelude.{List, [], ◌∷◌, ℕ, ◌+◌, ◌%◌, replicate}
use Rattle.base.specs.Counting.{replica}
use Rattle.base.specs.declared.party.ClientId.{ClientId}
use Rattle.protocol.specs.RegisterReplica.{fresh_register_replica}
use Rattle.protocol.specs.Client.{made_client}
use Rattle.play.specs.Log.{empty_log}
use Rattle.play.specs.declared.world.World.{World}

abbrev client : ℕ → ClientId
client i = record { 0 = i }

-- "f = 1, four holders, desks 1 to 4, first nonce 1"
unfoldable pub fresh_world : World
fresh_world =
    record {
      replicas = fresh_register_replica 1 (replica 1) ∷ fresh_register_replica 1 (replica 2) ∷ fresh_register_replica 1 (replica 3) ∷ fresh_register_replica 1 (replica 4) ∷ [];
      clients = made_client 1 (client 1) 1 ∷ made_client 1 (client 2) 1 ∷ made_client 1 (client 3) 1 ∷ made_client 1 (client 4) 1 ∷ [];
      log = empty_log;
    }

-- A party's place among the four of its kind, by its number: 1 to 4 stand at 0 to 3, and the grammar lets no other number through.
unfoldable pub seat : ℕ → ℕ
seat number = (number + 3) % 4

-- The store before the first line: room for 100 messages.
unfoldable pub empty_store : List ℕ
empty_store = replicate 158_000 0
