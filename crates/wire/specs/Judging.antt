-- Document 01, "Turned down", 9 to 11, as the code finds them: entries in a slice, and of several refusals the smallest.
use Rattle.std.specs.Prelude.{ℕ, ◌/◌, min, Bool, List, length}
use Rattle.std.proofs.Math.Option.{Option, none, some}
use Rattle.base.specs.Outcome.{Outcome, accepted, refused, guard}
use Rattle.base.specs.ReplicaSet.{empty}
use Rattle.base.specs.Rising.{rising}
use Rattle.base.specs.declared.replica_set.ReplicaSet.{ReplicaSet}
use Rattle.wire.specs.Checks.{shaped, genuine, proof_outcome}
use Rattle.wire.specs.Proof.{Entry, Proof, signers, signer_set, read_entries}

-- The entries that fill some bytes; what is left over after the last whole one does not count.
abbrev pub entries_in : List ℕ → List Entry
entries_in bytes = read_entries (length bytes / 65) bytes

-- 9 of entries: that their signers rise, and that they are a quorum too.
abbrev pub rising_signers : ℕ → List Entry → Outcome ReplicaSet
rising_signers n entries = guard 9 (rising 0 n (signers entries)) (accepted (signer_set entries))

abbrev pub shaped_signers : ℕ → List Entry → Outcome ReplicaSet
shaped_signers f entries = guard 9 (shaped f entries) (accepted (signer_set entries))

-- "The refusal is its number alone": of two, the smaller one; where there is none, what the first accepts.
abbrev pub smallest : {A : Type 0} → Outcome A → Outcome A → Outcome A
smallest (accepted a) (accepted b) = accepted a
smallest (accepted a) (refused n) = refused n
smallest (refused m) (accepted b) = refused m
smallest (refused m) (refused n) = refused (min m n)

-- 9 to 11 of a message: of its two proofs, and 11 of its timestamp field, which nobody signs by itself.
abbrev pub first_refusal : Outcome ReplicaSet → Outcome ReplicaSet → Bool → Outcome ReplicaSet
first_refusal prepared written issued = smallest (smallest prepared written) (guard 11 issued (accepted empty))

-- 9 to 11 of a proof with its entries' verdicts; a missing one has none.
abbrev pub outcome_if_there : {d : ℕ} → ℕ → List ℕ → Option (Proof d) → Outcome ReplicaSet
outcome_if_there f verdicts none = guard 10 (genuine verdicts) (accepted empty)
outcome_if_there f verdicts (some proof) = proof_outcome f proof.entries verdicts proof.timestamp
