-- What the replica's private functions leave, and what they know of a message.
use Rattle.std.specs.Prelude.{◌≡◌, List, ℕ}
use Rattle.std.specs.declared.result.Result.{Result}
use Rattle.base.specs.Outcome.{accepted}
use Rattle.base.specs.Refusal.{outcome}
use Rattle.base.specs.declared.refusal.Refusal.{Refusal}
use Rattle.base.specs.declared.replica_set.ReplicaSet.{ReplicaSet}
use Rattle.wire.specs.Acceptance.{acceptance}
use Rattle.wire.specs.Decode.{register_in}
use Rattle.wire.specs.declared.message.Fields.{Fields}
use Rattle.wire.specs.declared.message.Party.TheVariants.{Replica as AtReplica}
use Rattle.protocol.specs.RegisterReplica.{register_step, RegisterCall, register_answers}
use Rattle.protocol.specs.declared.replica.RegisterReplica.{RegisterReplica}
use Rattle.register_replica.specs.Stepping.{Changes}
use Rattle.register_replica.specs.declared.Change.TheVariants.{Nothing}
use Rattle.register_replica.specs.declared.Stepped.{Stepped}

-- An answer that leaves the record as it was.
abbrev pub keeping : Result ℕ Refusal → RegisterReplica → Stepped
keeping answer replica = record { answer = answer; replica = replica; change = Nothing }

-- What a call leaves: its answer and record, and the output.
pub record Leaves (replica : RegisterReplica) (call : RegisterCall) (stepped : Stepped) (new : List ℕ) : Type 0 where
  pub answer : outcome stepped.answer ≡ call.answer
  pub next : stepped.replica ≡ call.replica
  pub output : new ≡ call.output
  pub changes : Changes replica stepped

-- A message that tests 2 to 11 let through, with some verdicts; these signed its prepared proof.
pub record Passes (replica : RegisterReplica) (bytes : List ℕ) (fields : Fields) (signers : ReplicaSet) : Type 0 where
  pub verdicts : List ℕ
  pub passes : acceptance AtReplica replica.f replica.withdrawn bytes verdicts ≡ accepted (fields, signers)

-- What a call on such a message leaves, whichever verdicts let it through.
pub record Answers (replica : RegisterReplica) (bytes : List ℕ) (fields : Fields) (old : List ℕ) (stepped : Stepped) (new : List ℕ) : Type 0 where
  pub leaves : (verdicts : List ℕ) (signers : ReplicaSet) → acceptance AtReplica replica.f replica.withdrawn bytes verdicts ≡ accepted (fields, signers)
      → Leaves replica (register_answers (register_in bytes) replica old (register_step replica bytes verdicts)) stepped new
