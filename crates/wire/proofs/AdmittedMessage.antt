-- What is known of a message that 2 to 11 let through: a law for all engines and for runs. Assumes nothing.
use Rattle.std.proofs.Common.{◌≡◌, ℕ, true, List, sym, refl, ap, ◌∙◌, subst}
use Rattle.base.specs.Outcome.{Outcome, accepted, refused, guard, ◌>>=◌}
use Rattle.base.specs.Party.{is_register}
use Rattle.base.specs.declared.client_set.ClientSet.{ClientSet}
use Rattle.base.specs.declared.party.RegisterId.{RegisterId}
use Rattle.base.specs.declared.replica_set.ReplicaSet.{ReplicaSet}
use Rattle.base.proofs.Outcome.{guard_accepted, guard_passes}
use Rattle.base.proofs.Apart.{apart}
use Rattle.wire.specs.Acceptance.{sender_of, in_its_range, may_send, is_served, admits, admitted, found_in, acceptance}
use Rattle.wire.specs.Checks.{prepared_of, checked}
use Rattle.wire.specs.Decode.{for_register, decode, register_in, reading, fields_in}
use Rattle.wire.specs.Message.{Message, kind_of}
use Rattle.wire.specs.Parts.{prepared_signers}
use Rattle.wire.specs.declared.message.Fields.{Fields}
use Rattle.wire.specs.declared.message.Party.{Party}
use Rattle.wire.proofs.ReadingByKind.{message_reads, decode_splits}
use Rattle.wire.proofs.Tests7To11.{Passed, checked_passed, passed_checked}

-- The bytes are this message for this register, its sender is in range, may send its kind and is not withdrawn, the register is one,
-- and the message passed 7 to 11.
pub record Admitted (party : Party) (f : ℕ) (withdrawn : ClientSet) (bytes verdicts : List ℕ) (register : RegisterId) (message : Message) : Type 0 where
  pub decodes : decode party bytes ≡ accepted (for_register register message)
  pub ranged : in_its_range f (sender_of message) ≡ true
  pub may_send_lem : may_send (kind_of message) (sender_of message) ≡ true
  pub registered : is_register register ≡ true
  pub served : is_served withdrawn (sender_of message) ≡ true
  pub passed : Passed f message verdicts

-- A message that meets 6 to 11 is let through.
pub passed_admits : (f : ℕ) (withdrawn : ClientSet) (verdicts : List ℕ) (register : RegisterId) (message : Message) → in_its_range f (sender_of message) ≡ true → may_send (kind_of message) (sender_of message) ≡ true
    → is_register register ≡ true → is_served withdrawn (sender_of message) ≡ true → Passed f message verdicts → admits f withdrawn verdicts (for_register register message) ≡ accepted (for_register register message)
unfolding admits
passed_admits f withdrawn verdicts register message ranged may registered served passed =
    guard_passes 6 (in_its_range f (sender_of message)) _ ranged ∙ guard_passes 19 (may_send (kind_of message) (sender_of message)) _ may ∙ guard_passes 20 (is_register register) _ registered
    ∙ passed_checked f (is_served withdrawn (sender_of message)) message verdicts (accepted (for_register register message)) passed served

module _ (party : Party) (f : ℕ) (withdrawn : ClientSet) (bytes verdicts : List ℕ) where
  pub admitted_passed : (register : RegisterId) (message : Message) → admitted party f withdrawn bytes verdicts ≡ accepted (for_register register message)
      → Admitted party f withdrawn bytes verdicts register message
  unfolding admitted admits
  admitted_passed register message e = go (decode party bytes) refl e
    where
      go : (o : Outcome (RegisterId × Message)) → decode party bytes ≡ o → (o >>= admits f withdrawn verdicts) ≡ accepted (for_register register message)
          → Admitted party f withdrawn bytes verdicts register message
      go (refused n) d e = apart (cc)
      go (accepted (x, m)) d e =
          let served = is_served withdrawn (sender_of m) in
          let behind = checked f served m verdicts (accepted (for_register x m)) in
          let pair = for_register register message in
          let sixth = guard_accepted 6 (in_its_range f (sender_of m)) (guard 19 (may_send (kind_of m) (sender_of m)) (guard 20 (is_register x) behind)) pair e in
          let may = guard_accepted 19 (may_send (kind_of m) (sender_of m)) (guard 20 (is_register x) behind) pair sixth.1 in
          let one = guard_accepted 20 (is_register x) behind pair may.1 in
          let others = checked_passed f served m verdicts (accepted (for_register x m)) pair one.1 in
          let last = others.2 in
          let same : for_register x m ≡ pair = cc in
          subst (λ (pair : RegisterId × Message). Admitted party f withdrawn bytes verdicts pair.0 pair.1) same
          (record { decodes = d; ranged = sixth.0; may_send_lem = may.0; registered = one.0; served = others.1; passed = others.0 })

  -- What is accepted behind 2 to 11 is what follows for a message that they let through.
  pub admitted_then : {A : Type 0} (next : RegisterId × Message → Outcome A) (a : A) → (admitted party f withdrawn bytes verdicts >>= next) ≡ accepted a
      → (register : RegisterId) × (message : Message) × Admitted party f withdrawn bytes verdicts register message × (next (for_register register message) ≡ accepted a)
  admitted_then next a e = go (admitted party f withdrawn bytes verdicts) refl e
    where
      go : (o : Outcome (RegisterId × Message)) → admitted party f withdrawn bytes verdicts ≡ o → (o >>= next) ≡ accepted a
          → (register : RegisterId) × (message : Message) × Admitted party f withdrawn bytes verdicts register message × (next (for_register register message) ≡ accepted a)
      go (accepted (x, m)) d e = (x, m, admitted_passed x m d, e)
      go (refused n) d e = apart (cc)

  -- What the code accepts or refuses is admitted or refused.
  pub acceptance_accepted : (fields : Fields) (signers : ReplicaSet) → acceptance party f withdrawn bytes verdicts ≡ accepted (fields, signers)
      → (message : Message) × (admitted party f withdrawn bytes verdicts ≡ accepted (for_register (register_in bytes) message)) × (reading party bytes ≡ accepted fields) × (signers ≡ prepared_signers (prepared_of message))
  unfolding acceptance
  acceptance_accepted fields signers e = go (admitted party f withdrawn bytes verdicts) refl e
    where
      go : (o : Outcome (RegisterId × Message)) → admitted party f withdrawn bytes verdicts ≡ o → (o >>= λ sent. accepted (found_in bytes sent)) ≡ accepted (fields, signers)
          → (message : Message) × (admitted party f withdrawn bytes verdicts ≡ accepted (for_register (register_in bytes) message)) × (reading party bytes ≡ accepted fields) × (signers ≡ prepared_signers (prepared_of message))
      go (accepted (x, m)) d e =
          let both : ◌≡◌ {A = Fields × ReplicaSet} (found_in bytes (for_register x m)) (fields, signers) = cc in
          let read : accepted (fields_in bytes) ≡ accepted fields = ap (λ (pair : Fields × ReplicaSet). accepted pair.0) both in
          let split = decode_splits party bytes x m (admitted_passed x m d).decodes in
          (m, d ∙ ap (λ (y : RegisterId). accepted (for_register y m)) (sym split.0), message_reads party bytes m split.1 ∙ read, ap (λ (pair : Fields × ReplicaSet). pair.1) (sym both))
      go (refused n) d e = apart (cc)

  pub acceptance_refused : (n : ℕ) → acceptance party f withdrawn bytes verdicts ≡ refused n → admitted party f withdrawn bytes verdicts ≡ refused n
  unfolding acceptance
  acceptance_refused n e = go (admitted party f withdrawn bytes verdicts) e
    where
      go : (o : Outcome (RegisterId × Message)) → (o >>= λ sent. accepted (found_in bytes sent)) ≡ refused n → o ≡ refused n
      go (accepted sent) e = apart (cc)
      go (refused k) e = cc
