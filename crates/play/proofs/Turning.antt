-- A turn from what its call left. Assumes nothing.
use Rattle.std.proofs.Common.{Option, None, Result}
use mathlib.Core.Path.{◌≡◌, refl, ap, ap₂, subst, ◌∙◌}
use mathlib.Core.List.{List, [], ◌∷◌}
use Prim.Native.Nat.{ℕ, zero, suc, ◌<◌}
use native.Mathlib.Omega.{arith}
use lib.ListN.{length, get_or, set}
use Rattle.base.specs.Outcome.{Outcome, accepted}
use Rattle.base.specs.Refusal.{outcome}
use Rattle.base.specs.declared.refusal.Refusal.{Refusal}
use Rattle.base.specs.declared.party.ClientId.{ClientId}
use Rattle.base.specs.declared.party.ReplicaId.{ReplicaId}
use Rattle.protocol.specs.Parts.{card_kept}
use Rattle.protocol.specs.RegisterReplica.{no_register_replica}
use Rattle.protocol.specs.declared.replica.RegisterReplica.{RegisterReplica}
use Rattle.protocol.specs.declared.client.Client.{Client}
use Rattle.protocol.specs.Client.{Response, answer_outcome, no_client}
use Rattle.client.specs.declared.Stepped.{Stepped as ClientStepped}
use Rattle.register_replica.specs.declared.Stepped.{Stepped as ReplicaStepped}
use Rattle.play.specs.Calls.{sent_before, client_does, replica_does, ClientLeaves, ReplicaLeaves}
use Rattle.play.specs.Grammar.{command}
use Rattle.protocol.specs.Events.{as_client_answer}
use Rattle.play.specs.Player.{said_of, logged_by, client_turn, replica_turn, addressee, does, turn, Says, Plays}
use Rattle.play.specs.Worlds.{seat}
use Rattle.play.specs.declared.calls.Call.{Call}
use Rattle.play.specs.declared.log.Log.{Log}
use Rattle.play.specs.declared.output.Said.{Said}
use Rattle.play.specs.declared.output.Said.TheVariants.{Unread}
use Rattle.play.specs.declared.output.Saying.{Saying}
use Rattle.play.specs.declared.turn.Addressee.{Addressee}
use Rattle.play.specs.declared.turn.Turned.{Turned}
use Rattle.play.specs.declared.world.World.{World}

module _ (world : World) (store : List ℕ) (answer : Outcome Response) (next : Log) (what : Result Said Refusal) (old : List ℕ) (kept : next ≡ logged_by answer world.log)
    (says : outcome what ≡ said_of world.log.count answer) where
  module _ (id : ReplicaId) (m i : ℕ) (one : RegisterReplica) (stepped : ReplicaStepped) (saying : Saying) (at : i ≡ seat id.0) (first : one ≡ get_or world.replicas i no_register_replica)
      (given : answer ≡ as_client_answer (outcome stepped.answer)) (does : ReplicaLeaves (replica_does one world.log store m) (sent_before world.log store) stepped old)
      (shown : Says (outcome what) [] saying) where
    pub replica_plays : Plays (replica_turn world store id m)
        (record { world = record { replicas = set world.replicas i stepped.replica; clients = world.clients; log = next }; saying = saying }) old
    unfolding replica_turn
    replica_plays =
        let party : one ≡ get_or world.replicas (seat id.0) no_register_replica = first ∙ ap (λ (k : ℕ). get_or world.replicas k no_register_replica) at in
        let d = subst (λ (r : RegisterReplica). ReplicaLeaves (replica_does r world.log store m) (sent_before world.log store) stepped old) party does in
        let said = given ∙ ap as_client_answer d.answer in
        let log = kept ∙ ap (λ (a : Outcome Response). logged_by a world.log) said in
        let replicas = ap₂ (λ (k : ℕ) (r : RegisterReplica). set world.replicas k r) at d.replica in
        record {
          world_is = ap₂ (λ (rs : List RegisterReplica) (l : Log). record { replicas = rs; clients = world.clients; log = l }) replicas log;
          says = record { what_is = shown.what_is ∙ (says ∙ ap (said_of world.log.count) said); card_is = shown.card_is };
          store_is = d.store_is;
        }

  module _ (id : ClientId) (call : Call) (asked : List ℕ) (i : ℕ) (one : Client) (stepped : ClientStepped) (at : i ≡ seat id.0) (first : one ≡ get_or world.clients i no_client)
      (given : answer ≡ answer_outcome stepped.answer) (does : ClientLeaves (client_does one world.log store asked call) (sent_before world.log store) stepped old) where
    abbrev turned : Turned
    turned =
        record {
          world = record { replicas = world.replicas; clients = set world.clients i stepped.client; log = next };
          saying = record { what = what; card = stepped.card; card_length = stepped.card_length };
        }

    pub client_plays : Plays (client_turn world store id call asked) turned old
    unfolding client_turn
    client_plays =
        let party : one ≡ get_or world.clients (seat id.0) no_client = first ∙ ap (λ (k : ℕ). get_or world.clients k no_client) at in
        let d = subst (λ (r : Client). ClientLeaves (client_does r world.log store asked call) (sent_before world.log store) stepped old) party does in
        let said = given ∙ d.answer in
        let log = kept ∙ ap (λ (a : Outcome Response). logged_by a world.log) said in
        let clients = ap₂ (λ (k : ℕ) (r : Client). set world.clients k r) at d.client in
        record {
          world_is = ap₂ (λ (cs : List Client) (l : Log). record { replicas = world.replicas; clients = cs; log = l }) clients log;
          says = record { what_is = says ∙ ap (said_of world.log.count) said; card_is = ap₂ (λ (k : ℕ) (l : List ℕ). card_kept l k) d.card_length d.card };
          store_is = d.store_is;
        }

-- What `get_or` gives past the end does not matter inside.
pub default_free : {A : Type 0} (l : List A) (i : ℕ) (d e : A) → i < length l → get_or l i d ≡ get_or l i e
default_free [] i d e h = absurd (omega arith)
default_free (x ∷ l) zero d e h = refl
default_free (x ∷ l) (suc i) d e h = default_free l i d e (omega arith)

module _ (world : World) (store text : List ℕ) (party : Option Addressee) (old : List ℕ) (finds : party ≡ addressee world.log.count (command text)) where
  pub turn_plays : (turned : Turned) (known : Option Addressee) → party ≡ known → Plays (does world store text known) turned old → Plays (turn world store text) turned old
  unfolding turn
  turn_plays turned known e p = rw (← finds, e) p

  pub nobody_plays : (saying : Saying) → Says (accepted Unread) [] saying → old ≡ store → Plays (does world store text None) (record { world = world; saying = saying }) old
  unfolding does
  nobody_plays saying s same = record { world_is = refl; says = s; store_is = same }
