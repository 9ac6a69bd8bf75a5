-- A replica as it is set up.
use Rattle.std.specs.Prelude.{List, ℕ}
use Rattle.base.specs.Outcome.{Outcome, accepted, ◌>>=◌}
use Rattle.base.specs.declared.party.ReplicaId.{ReplicaId}
use Rattle.protocol.specs.Bank.{bank_setup, made_bank}
use Rattle.protocol.specs.declared.replica.Bank.{Bank}

-- The bank that is made where setting up is not refused, or refusal 16.
abbrev pub new_bank : ℕ → ReplicaId → List ℕ → Outcome Bank
new_bank f id key = bank_setup f id key >>= λ ready. accepted (made_bank f id key)
