-- A written proof by itself: what is known of one that 4, 20, 7 and 9 to 11 let through, and how the code's parts of it tell. Assumes nothing.
use Rattle.std.proofs.Common.{◌≡◌, ℕ, ◌+◌, ◌*◌, ◌/◌, true, false, eqb, List, length, get_or, drop, sym, refl, ap, ◌∙◌, arith, length-drop, le-ltb, eqb-true}
use Rattle.base.specs.Outcome.{Outcome, accepted, refused, guard, ◌>>=◌}
use Rattle.base.specs.Party.{is_register}
use Rattle.base.specs.Timestamp.{number}
use Rattle.base.specs.declared.party.RegisterId.{RegisterId}
use Rattle.base.specs.declared.replica_set.ReplicaSet.{ReplicaSet}
use Rattle.base.proofs.Apart.{apart}
use Rattle.base.proofs.Outcome.{guard_accepted, guard_passes, guard_refuses, guard_then}
use Rattle.base.proofs.Timestamps.{number_of_number}
use Rattle.wire.specs.Checks.{verdicts_fit, shaped, genuine, issued, proof_outcome}
use Rattle.wire.specs.HandedProof.{admitted_proof, handed_signers}
use Rattle.wire.specs.Judging.{entries_in}
use Rattle.wire.specs.Layout.{extent, written_rule}
use Rattle.wire.specs.Parts.{timestamp_part, count_part, entries_part}
use Rattle.wire.specs.Proof.{WrittenProof, signer_set, read_entries, proof_from, read_proof}
use Rattle.wire.proofs.ProofBytes.{length_read, accepts_proof, proof_accepted}

-- 9 to 11 of a proof with what follows are 9 to 11 of its parts.
tests_then : (f : ℕ) (proof : WrittenProof) (verdicts : List ℕ)
    → (guard 9 (shaped f proof.entries) (guard 10 (genuine verdicts) (guard 11 (issued proof.timestamp) (accepted proof))) >>= λ p. accepted (signer_set p.entries))
    ≡ proof_outcome f proof.entries verdicts proof.timestamp
unfolding proof_outcome
tests_then f proof verdicts =
    guard_then 9 (shaped f proof.entries) _ _
    ∙ ap (guard 9 (shaped f proof.entries)) (guard_then 10 (genuine verdicts) _ _ ∙ ap (guard 10 (genuine verdicts)) (guard_then 11 (issued proof.timestamp) _ _))

module _ (bytes : List ℕ) (whole : eqb (extent written_rule bytes) (length bytes) ≡ true) where
  ends : 6 + 65 * get_or bytes 5 0 ≡ length bytes
  ends = eqb-true (extent written_rule bytes) (length bytes) whole

  pub is_proof : read_proof 0 bytes ≡ accepted (proof_from 0 bytes)
  is_proof = accepts_proof 0 bytes ends

  pub its_count : count_part 0 bytes ≡ length (proof_from 0 bytes).entries
  unfolding count_part
  its_count = sym (length_read (get_or bytes 5 0) (drop 6 bytes))

  pub its_entries : entries_in (entries_part 0 bytes) ≡ (proof_from 0 bytes).entries
  unfolding entries_part
  its_entries =
      let e = ends in
      let many : length (drop 6 bytes) / 65 ≡ get_or bytes 5 0 = rw (length-drop) (omega arith) in
      ap (λ (n : ℕ). read_entries n (drop 6 bytes)) many

  pub its_timestamp : number (timestamp_part bytes) ≡ (proof_from 0 bytes).timestamp
  unfolding timestamp_part
  its_timestamp = let e = ends in rw (le-ltb (length bytes) 5 (omega arith)) (number_of_number _)

module _ (f : ℕ) (register : RegisterId) (bytes verdicts : List ℕ) where
  pub not_whole : eqb (extent written_rule bytes) (length bytes) ≡ false → handed_signers f register bytes verdicts ≡ refused 4
  unfolding admitted_proof read_proof
  not_whole e = rw (guard_refuses 4 (eqb (extent written_rule bytes) (length bytes)) (accepted (proof_from 0 bytes)) e)

  module _ (whole : eqb (extent written_rule bytes) (length bytes) ≡ true) where
    pub not_registered : is_register register ≡ false → handed_signers f register bytes verdicts ≡ refused 20
    unfolding admitted_proof guard
    not_registered e = rw (is_proof bytes whole, e)

    module _ (registered : is_register register ≡ true) where
      pub not_fitting : verdicts_fit (count_part 0 bytes) verdicts ≡ false → handed_signers f register bytes verdicts ≡ refused 7
      unfolding admitted_proof
      not_fitting e =
          let fits : verdicts_fit (length (proof_from 0 bytes).entries) verdicts ≡ false = ap (λ (n : ℕ). verdicts_fit n verdicts) (sym (its_count bytes whole)) ∙ e in
          rw (is_proof bytes whole, guard_passes 20 (is_register register) _ registered, guard_refuses 7 _ _ fits)

      pub judged : verdicts_fit (count_part 0 bytes) verdicts ≡ true
          → proof_outcome f (entries_in (entries_part 0 bytes)) verdicts (number (timestamp_part bytes)) ≡ handed_signers f register bytes verdicts
      unfolding admitted_proof
      judged e =
          let fits : verdicts_fit (length (proof_from 0 bytes).entries) verdicts ≡ true = ap (λ (n : ℕ). verdicts_fit n verdicts) (sym (its_count bytes whole)) ∙ e in
          rw (its_entries bytes whole, its_timestamp bytes whole, is_proof bytes whole, guard_passes 20 (is_register register) _ registered, guard_passes 7 _ _ fits)
          (sym (tests_then f (proof_from 0 bytes) verdicts))

-- The bytes are this proof, the register is one, and the proof passed 7 and 9 to 11.
pub record AdmittedProof (f : ℕ) (register : RegisterId) (bytes verdicts : List ℕ) (proof : WrittenProof) : Type 0 where
  pub reads : read_proof 0 bytes ≡ accepted proof
  pub registered : is_register register ≡ true
  pub one_each : verdicts_fit (length proof.entries) verdicts ≡ true
  pub is_shaped : shaped f proof.entries ≡ true
  pub all_genuine : genuine verdicts ≡ true
  pub is_issued_lem : issued proof.timestamp ≡ true

module _ (f : ℕ) (register : RegisterId) (bytes verdicts : List ℕ) where
  pub proof_passed : (proof : WrittenProof) → admitted_proof f register bytes verdicts ≡ accepted proof → AdmittedProof f register bytes verdicts proof
  unfolding admitted_proof
  proof_passed proof e = go (read_proof 0 bytes) refl e
    where
      tests : WrittenProof → Outcome WrittenProof
      tests p = guard 20 (is_register register) (guard 7 (verdicts_fit (length p.entries) verdicts) (guard 9 (shaped f p.entries) (guard 10 (genuine verdicts) (guard 11 (issued p.timestamp) (accepted p)))))

      go : (o : Outcome WrittenProof) → read_proof 0 bytes ≡ o → (o >>= tests) ≡ accepted proof → AdmittedProof f register bytes verdicts proof
      go (refused n) d e = apart (cc)
      go (accepted p) d e =
          let first = guard_accepted 20 (is_register register) _ proof e in
          let second = guard_accepted 7 (verdicts_fit (length p.entries) verdicts) _ proof first.1 in
          let third = guard_accepted 9 (shaped f p.entries) _ proof second.1 in
          let fourth = guard_accepted 10 (genuine verdicts) _ proof third.1 in
          let fifth = guard_accepted 11 (issued p.timestamp) _ proof fourth.1 in
          let last = fifth.1 in
          let same : p ≡ proof = cc in
          rw (← same) (record { reads = d; registered = first.0; one_each = second.0; is_shaped = third.0; all_genuine = fourth.0; is_issued_lem = fifth.0 })

  -- What the code accepts or refuses is admitted or refused.
  pub signers_accepted : (signers : ReplicaSet) → handed_signers f register bytes verdicts ≡ accepted signers
      → (6 + 65 * get_or bytes 5 0 ≡ length bytes) × (admitted_proof f register bytes verdicts ≡ accepted (proof_from 0 bytes))
  signers_accepted signers e = go (admitted_proof f register bytes verdicts) refl e
    where
      go : (o : Outcome WrittenProof) → admitted_proof f register bytes verdicts ≡ o → (o >>= λ p. accepted (signer_set p.entries)) ≡ accepted signers
          → (6 + 65 * get_or bytes 5 0 ≡ length bytes) × (admitted_proof f register bytes verdicts ≡ accepted (proof_from 0 bytes))
      go (accepted p) d e = let both = proof_accepted bytes p (proof_passed p d).reads in (both.0, d ∙ ap accepted (sym both.1))
      go (refused n) d e = apart (cc)

  pub signers_refused : (n : ℕ) → handed_signers f register bytes verdicts ≡ refused n → admitted_proof f register bytes verdicts ≡ refused n
  signers_refused n e = go (admitted_proof f register bytes verdicts) e
    where
      go : (o : Outcome WrittenProof) → (o >>= λ p. accepted (signer_set p.entries)) ≡ refused n → o ≡ refused n
      go (accepted p) e = apart (cc)
      go (refused k) e = cc
