-- Document 02, #106: "the last handed for a set is shown until the laptop has its own".
use Rattle.std.specs.Prelude.{◌≡◌, List, ℕ, ◌<◌}
use Rattle.std.proofs.Math.Option.{Option, some}
use Rattle.base.specs.Outcome.{accepted}
use Rattle.base.specs.Party.{register_place}
use Rattle.base.specs.declared.party.ClientId.{ClientId}
use Rattle.base.specs.declared.party.RegisterId.{RegisterId}
use Rattle.wire.specs.Acceptance.{client}
use Rattle.wire.specs.Message.{PREPARE}
use Rattle.wire.specs.Proof.{PreparedProof, WrittenProof, read_proof}
use Rattle.protocol.specs.Client.{send}
use Rattle.run.specs.Premises.{Accepted}
use Rattle.run.specs.Run.{makes, proof_to, register_of, Run, event, answer_at, At}

module _ (R : Run) (id : ClientId) (x : RegisterId) where
  -- At event t the client is not made again, takes no other proof for the register, and sends no PREPARE for it. Registers are told by their places.
  pub record Undisturbed (t : ℕ) : Type 0 where
    pub not_made : (nonce : ℕ) → event R t ≡ some (makes id nonce) → Accepted R t → ⊥
    pub no_proof : (y : RegisterId) (bytes verdicts : List ℕ) → event R t ≡ some (proof_to id y bytes verdicts) → register_place y ≡ register_place x → Accepted R t → ⊥
    pub no_prepare : (at : At R t (client id)) → register_place (register_of at.0) ≡ register_place x
        → (s : ℕ) (d : List ℕ) (shown : Option PreparedProof) (last : Option WrittenProof) → answer_at R t ≡ accepted (send (PREPARE id s d shown last)) → ⊥

-- A client takes a proof for a register, and later sends its next PREPARE for it: that shows the proof. Reads, and operations of other registers, may
-- lie between.
abbrev pub NextShows : Run → RegisterId → Type 0
NextShows R x =
    (id : ClientId) (t₀ : ℕ) (bytes verdicts : List ℕ) (proof : WrittenProof) → event R t₀ ≡ some (proof_to id x bytes verdicts) → Accepted R t₀ → read_proof 0 bytes ≡ accepted proof
    → (t : ℕ) → t₀ < t → ((u : ℕ) → t₀ < u → u < t → Undisturbed R id x u)
    → (s : ℕ) (d : List ℕ) (shown : Option PreparedProof) (last : Option WrittenProof) (at : At R t (client id)) → register_of at.0 ≡ x
    → answer_at R t ≡ accepted (send (PREPARE id s d shown last)) → last ≡ some proof
