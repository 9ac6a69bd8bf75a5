-- Document 02, #106: a written proof by itself, which a client is handed for a register, with its verdicts (marks).
use Rattle.std.specs.Prelude.{ℕ, List, length}
use Rattle.base.specs.Outcome.{Outcome, accepted, guard, ◌>>=◌}
use Rattle.base.specs.Party.{is_register}
use Rattle.base.specs.declared.party.RegisterId.{RegisterId}
use Rattle.base.specs.declared.replica_set.ReplicaSet.{ReplicaSet}
use Rattle.wire.specs.Checks.{verdicts_fit, shaped, genuine, issued}
use Rattle.wire.specs.Proof.{WrittenProof, signer_set, read_proof}

-- "it goes through 4, 20, 7 and 9 to 11". The bytes are the proof and nothing else, so 4 is the first test that they can fail: there is no
-- message around them whose length, fields, kind or sender 2, 3, 5 and 6 would test, and no signature of its own, so that the verdicts are
-- those of the entries.
unfoldable pub admitted_proof : ℕ → RegisterId → List ℕ → List ℕ → Outcome WrittenProof
admitted_proof f register bytes verdicts =
    read_proof 0 bytes >>= λ proof.
    guard 20 (is_register register)
    (guard 7 (verdicts_fit (length proof.entries) verdicts)
    (guard 9 (shaped f proof.entries)
    (guard 10 (genuine verdicts)
    (guard 11 (issued proof.timestamp)
    (accepted proof)))))

-- The same as the code answers it: who signed the proof.
abbrev pub handed_signers : ℕ → RegisterId → List ℕ → List ℕ → Outcome ReplicaSet
handed_signers f register bytes verdicts = admitted_proof f register bytes verdicts >>= λ proof. accepted (signer_set proof.entries)
