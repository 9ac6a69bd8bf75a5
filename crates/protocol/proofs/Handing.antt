-- Document 02, #106: what making a client again leaves, and what a written proof that is taken changes. Assumes nothing.
use mathlib.Core.Path.{◌≡◌, refl, ap, ◌∙◌}
use mathlib.Core.Bool.{true, false, not}
use mathlib.Core.List.{List, []}
use mathlib.Core.Option.{some}
use Prim.Native.Nat.{ℕ, ◌≤◌}
use native.Mathlib.Omega.{arith}
use borrow.Author.Tests.{leb-true, not-true}
use lib.ListN.{length}
use Rattle.base.specs.BigEndian.{Bytes}
use Rattle.base.specs.Party.{is_writer, register_place}
use Rattle.base.specs.Timestamp.{of_number}
use Rattle.base.specs.declared.party.ClientId.{ClientId}
use Rattle.base.specs.declared.party.RegisterId.{RegisterId}
use Rattle.base.proofs.Booleans.{and_true_both}
use Rattle.base.proofs.Timestamps.{number_of_number}
use Rattle.wire.specs.Checks.{shaped, issued}
use Rattle.wire.specs.Message.{ProofFits}
use Rattle.wire.specs.Proof.{WrittenProof}
use Rattle.wire.proofs.AdmittedProof.{AdmittedProof, proof_passed}
use Rattle.wire.proofs.ProofBytes.{proof_accepted, proof_rewritten}
use Rattle.wire.proofs.Tests7To11.{shaped_few, issued_positive}
use Rattle.protocol.specs.Client.{written_in_place, written_kept, fresh_client, keeping, is_idle}
use Rattle.protocol.specs.Handing.{making, with_handed, may_take, take_proof, ProofTaken, TakesProof}
use Rattle.protocol.specs.declared.client.Client.{Client}
use Rattle.protocol.specs.declared.client.Written.{Written}
use Rattle.protocol.proofs.Accepts.{Accepts, by_value, by_guard, by_next}
use Rattle.protocol.proofs.ClientFacts.{idle_phase}
use Rattle.protocol.proofs.ClientKept.{there_written, elsewhere_written, written_fits, keeping_fits}
use Rattle.protocol.proofs.Fit.{ClientFits}
use Rattle.protocol.proofs.LastWritten.{keeping_shown}

-- Only an ordinary client is made again, with a nonce above 0.
pub making_accepted : (f : ℕ) (id : ClientId) (nonce : ℕ) → Accepts (λ (next : Client). (is_writer id ≡ true) × (1 ≤ nonce) × (next ≡ fresh_client f id nonce)) (making f id nonce)
making_accepted f id nonce =
    by_next {Q = λ ready. (is_writer id ≡ true) × (1 ≤ nonce)} (by_guard 16 (λ bound. by_guard 16 (λ writer. by_guard 16 (λ first. by_value (writer, leb-true 1 nonce first)))))
    (λ ready both. by_value (both.0, both.1, refl))

module _ (before : Client) (register : RegisterId) (proof : WrittenProof) where
  abbrev new : Written
  new = keeping false (of_number proof.timestamp) proof.entries

  is_shown : (f : ℕ) → shaped f proof.entries ≡ true → issued proof.timestamp ≡ true → ProofFits proof → [] ≡ proof.digest → written_kept new ≡ some proof
  is_shown f shape is fits none =
      let low = issued_positive proof.timestamp is in
      keeping_shown false (of_number proof.timestamp) proof.entries (omega arith) fits.2.1 (shaped_few f proof.entries shape)
      ∙ rw (number_of_number proof.timestamp, none)

  taken : (bytes verdicts : List ℕ) → length before.written ≡ 16 → ProofFits proof → AdmittedProof before.f register bytes verdicts proof → may_take register before ≡ true
      → ProofTaken before register bytes (with_handed register proof before)
  taken bytes verdicts long fits admitted may =
      let both = and_true_both (is_idle before.phase) (not (written_in_place (register_place register) before).own) may in
      record {
        proof = proof;
        reads = admitted.reads;
        was_idle = idle_phase before.phase both.0;
        not_own = not-true (written_in_place (register_place register) before).own both.1;
        after_is = refl;
        others_kept = elsewhere_written register new before;
        shown = λ nonce phase card. ap written_kept (there_written register new before long) ∙ is_shown before.f admitted.is_shaped admitted.is_issued_lem fits (ap (λ (p : WrittenProof). p.digest) (proof_accepted bytes proof admitted.reads).1);
      }

pub takes_proof : TakesProof
unfolding take_proof
takes_proof before register bytes verdicts after long small e =
    (by_next {P = ProofTaken before register bytes} {Q = AdmittedProof before.f register bytes verdicts} (record { holds = proof_passed before.f register bytes verdicts }) (λ proof admitted.
    by_guard 17 (λ may. by_value (taken before register proof bytes verdicts long (proof_rewritten bytes proof small admitted.reads).1 admitted may)))).holds after e

-- The record still fits.
pub taken_fits : (before : Client) (register : RegisterId) (bytes : List ℕ) (after : Client) → ClientFits before → Bytes bytes → ProofTaken before register bytes after → ClientFits after
taken_fits before register bytes after fits small it =
    let proof = it.proof in
    let proof_fits = (proof_rewritten bytes proof small it.reads).1 in
    let t = proof_fits.0 in
    rw it.after_is (written_fits register (new before register proof) before (keeping_fits false (of_number proof.timestamp) proof.entries (omega arith, omega arith) proof_fits.2.1) fits)
