-- Who vouches for a card by its good proof (document 02, #102): exactly q, all of them replicas. Assumes nothing.
use Rattle.std.proofs.Common.{◌≡◌, ℕ, true, eqb, List, length, sym, ◌∙◌, subst, arith, eqb-true}
use lib.ListN.{length-map}
use Rattle.base.specs.Outcome.{accepted, guard}
use Rattle.base.specs.Counting.{count}
use Rattle.base.specs.Party.{replica_count, quorum_size}
use Rattle.base.specs.ReplicaSet.{has, Quorate}
use Rattle.base.specs.Rising.{rising}
use Rattle.base.specs.declared.replica_set.ReplicaSet.{ReplicaSet}
use Rattle.base.proofs.Booleans.{and_true_both}
use Rattle.base.proofs.Listed.{member_listed, count_members, rising_size, rising_within}
use Rattle.base.proofs.Outcome.{guard_accepted}
use Rattle.base.proofs.Quorum.{rising_count}
use Rattle.base.proofs.Range.{inside}
use Rattle.wire.specs.Checks.{shaped, genuine, issued, proof_outcome}
use Rattle.wire.specs.Proof.{Entry, signers, signer_set}

-- Entries that pass 9.
module _ (f : ℕ) (entries : List Entry) (shape : shaped f entries ≡ true) where
  rise : rising 0 (replica_count f) (signers entries) ≡ true
  unfolding shaped
  rise = (and_true_both (eqb (length entries) (quorum_size f)) (rising 0 (replica_count f) (signers entries)) shape).1

  many : length (signers entries) ≡ quorum_size f
  unfolding shaped
  many =
      length-map entries (λ (entry : Entry). entry.signer)
      ∙ eqb-true (length entries) (quorum_size f) (and_true_both (eqb (length entries) (quorum_size f)) (rising 0 (replica_count f) (signers entries)) shape).0

  pub shaped_signers_lem : Quorate f (signer_set entries)
  shaped_signers_lem = record {
    exactly = rising_size (replica_count f) (signers entries) (omega arith) rise ∙ many;
    replicas = λ id there.
        let at = rising_within 0 (replica_count f) (signers entries) id rise (member_listed (signers entries) id there) in
        inside 1 (replica_count f) id.0 (omega arith) at.1;
  }

  -- Counted among 1 to n they are as many.
  pub shaped_count : count (replica_count f) (has (signer_set entries)) ≡ quorum_size f
  shaped_count = count_members (replica_count f) (signers entries) (omega arith) ∙ rising_count 0 (replica_count f) (signers entries) rise ∙ many

-- "Let the proof check .. yield for a good proof the set of holders whose entries it found genuine, exactly q of them"
pub good_signers : (f : ℕ) (entries : List Entry) (verdicts : List ℕ) (timestamp : ℕ) (set : ReplicaSet) → proof_outcome f entries verdicts timestamp ≡ accepted set
    → (set ≡ signer_set entries) × Quorate f set
unfolding proof_outcome
good_signers f entries verdicts timestamp set e =
    let ninth = guard_accepted 9 (shaped f entries) (guard 10 (genuine verdicts) (guard 11 (issued timestamp) (accepted (signer_set entries)))) set e in
    let tenth = guard_accepted 10 (genuine verdicts) (guard 11 (issued timestamp) (accepted (signer_set entries))) set ninth.1 in
    let eleventh = guard_accepted 11 (issued timestamp) (accepted (signer_set entries)) set tenth.1 in
    let same : signer_set entries ≡ set = cc eleventh.1 in
    (sym same, subst (Quorate f) same (shaped_signers_lem f entries ninth.0))
