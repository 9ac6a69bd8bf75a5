-- Replicas counted: how many of 1 to n pass a test.
use Rattle.std.specs.Prelude.{Bool, true, false, ℕ, zero, suc, ◌+◌}
use Rattle.base.specs.declared.party.ReplicaId.{ReplicaId}

-- The replica of that number.
abbrev pub replica : ℕ → ReplicaId
replica i = record { 0 = i }

abbrev pub one : Bool → ℕ
one true = 1
one false = 0

unfoldable pub count : ℕ → (ReplicaId → Bool) → ℕ
count zero test = 0
count (suc n) test = one (test (replica (suc n))) + count n test
