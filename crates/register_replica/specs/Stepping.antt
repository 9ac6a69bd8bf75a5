-- The contract of a step: what a call leaves, and what of the record it says that it changed.
use Rattle.std.specs.Prelude.{◌≡◌, List, ◌++◌, ℕ, ◌-◌, ◌*◌, take, drop, set}
use Rattle.base.specs.Outcome.{Outcome}
use Rattle.base.specs.declared.client_set.ClientSet.{ClientSet}
use Rattle.base.specs.declared.party.ReplicaId.{ReplicaId}
use Rattle.wire.specs.Decode.{register_in}
use Rattle.protocol.specs.RegisterReplica.{register_step, sent_length, with_output, with_slots, with_held, register_call}
use Rattle.protocol.specs.declared.replica.Register.{Register}
use Rattle.protocol.specs.declared.replica.RegisterReplica.{RegisterReplica}
use Rattle.protocol.specs.declared.replica.Slots.{Slots}
use Rattle.register_replica.specs.declared.Change.{Change}
use Rattle.register_replica.specs.declared.Change.TheVariants.{Nothing, Prepares, Holds}
use Rattle.register_replica.specs.declared.Prepared.{Prepared}
use Rattle.register_replica.specs.declared.Stepped.{Stepped}

-- The slots with what a PREPARE puts: its client's slot, and the written timestamp.
abbrev pub putting_count : Prepared → List ℕ → List ℕ
putting_count prepared counts = set counts (prepared.client.id.0 - 1) prepared.count

abbrev pub putting_digest : Prepared → List ℕ → List ℕ
putting_digest prepared digests = take (32 * (prepared.client.id.0 - 1)) digests ++ (prepared.digest ++ drop (32 * prepared.client.id.0) digests)

abbrev pub putting : Prepared → Slots → Slots
putting prepared slots = record { counts = putting_count prepared slots.counts; digests = putting_digest prepared slots.digests; written = prepared.written }

-- A record with what a step says that it changed: the slots, what is held, or nothing.
abbrev pub changed : Change → RegisterReplica → RegisterReplica
changed Nothing replica = replica
changed (Prepares prepared) replica = with_slots replica (putting prepared replica.register.slots)
changed (Holds held) replica = with_held replica held

-- That, and nothing else, has changed. That a slot which is put is one of the 64 is an invariant of its `Writer`.
pub record Changes (replica : RegisterReplica) (stepped : Stepped) : Type 0 where
  pub only : stepped.replica ≡ changed stepped.change replica

-- One register's part of a replica, made of its numbers, the withdrawn clients and the register.
abbrev pub register_replica : ℕ → ReplicaId → ClientSet → Register → RegisterReplica
register_replica f id withdrawn register = record { f = f; id = id; register = register; withdrawn = withdrawn }

-- The contract of a step, by value and on a lent register alike: its answer, and the record and the output afterwards.
-- `outcome` says the answer by document 01's numbers: the length of the message to send, or the refusal.
pub record Steps (replica : RegisterReplica) (bytes verdicts old : List ℕ) (answered : Outcome ℕ) (left : RegisterReplica) (new : List ℕ) : Type 0 where
  pub answer : answered ≡ (register_call replica bytes verdicts old).answer
  pub outcome : answered ≡ sent_length (register_in bytes) (with_output old (register_step replica bytes verdicts))
  pub next : left ≡ (register_call replica bytes verdicts old).replica
  pub output : new ≡ (register_call replica bytes verdicts old).output
