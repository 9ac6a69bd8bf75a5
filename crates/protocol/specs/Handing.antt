-- Document 02, #106: a client made again ("a new laptop"), and a written proof handed to it "by a desk that has written since".
use Rattle.std.specs.Prelude.{◌≡◌, Bool, false, ◌&&◌, not, List, ℕ, length}
use Rattle.std.proofs.Math.Option.{some}
use Rattle.base.specs.BigEndian.{Bytes}
use Rattle.base.specs.Outcome.{Outcome, accepted, refused, guard, ◌>>=◌}
use Rattle.base.specs.Party.{register_place, client_setup}
use Rattle.base.specs.Timestamp.{of_number}
use Rattle.base.specs.declared.party.ClientId.{ClientId}
use Rattle.base.specs.declared.party.RegisterId.{RegisterId}
use Rattle.wire.specs.HandedProof.{admitted_proof}
use Rattle.wire.specs.Proof.{WrittenProof, read_proof}
use Rattle.protocol.specs.Client.{fresh_client, made_client, written_in_place, last_written, keeping, with_written_for, beginning, is_idle}
use Rattle.protocol.specs.declared.client.Client.{Client}
use Rattle.protocol.specs.declared.client.Phase.{Phase}
use Rattle.protocol.specs.declared.client.Phase.TheVariants.{Idle}

-- "It is made with the old number, the run's f and a first nonce", as a client is set up (16); "its record takes the place of the old one".
abbrev pub making : ℕ → ClientId → ℕ → Outcome Client
making f id first_nonce = client_setup f id first_nonce >>= λ ready. accepted (fresh_client f id first_nonce)

-- A register's written proof is the one that was handed over, and not the client's own.
abbrev pub with_handed : RegisterId → WrittenProof → Client → Client
with_handed register proof client = with_written_for register (keeping false (of_number proof.timestamp) proof.entries) client

-- "then 17 on a busy desk or one with its own for that set": busy with any register. A used-up nonce is no matter: nothing is begun.
abbrev pub may_take : RegisterId → Client → Bool
may_take register client = is_idle client.phase && not (written_in_place (register_place register) client).own

-- A client is handed a written proof for a register, with verdicts. Any may be: a record cannot tell whether it was made again.
unfoldable pub take_proof : Client → RegisterId → List ℕ → List ℕ → Outcome Client
take_proof client register bytes verdicts =
    admitted_proof client.f register bytes verdicts >>= λ proof.
    guard 17 (may_take register client)
    (accepted (with_handed register proof client))

-- ---- The calls: no output is lent

-- What a call leaves that sends nothing.
pub record TakingCall : Type 0 where
  pub answer : Outcome (Unit {0})
  pub client : Client

-- "A good one is answered "taken"", and a refusal leaves the record as it was.
abbrev pub taking_answers : Client → Outcome Client → TakingCall
taking_answers client (accepted next) = record { answer = accepted tt; client = next }
taking_answers client (refused number) = record { answer = refused number; client = client }

unfoldable pub hand_call : Client → RegisterId → List ℕ → List ℕ → TakingCall
hand_call client register bytes verdicts = taking_answers client (take_proof client register bytes verdicts)

-- A making is the call that sets a client up; who makes it puts the new record in the old one's place, unless it is refused.
unfoldable pub making_call : ℕ → ClientId → ℕ → Client → TakingCall
making_call f id first_nonce old = taking_answers old (client_setup f id first_nonce >>= λ ready. accepted (made_client f id first_nonce))

-- ---- What taking a proof changes

-- From the record `before` a proof of these bytes was taken for a register, which leaves `after`.
pub record ProofTaken (before : Client) (register : RegisterId) (bytes : List ℕ) (after : Client) : Type 0 where
  pub proof : WrittenProof
  pub reads : read_proof 0 bytes ≡ accepted proof
  pub was_idle : before.phase ≡ Idle
  -- That register's written proof is another one, where there was none or one that was handed over too; nothing else changes.
  pub not_own : (written_in_place (register_place register) before).own ≡ false
  pub after_is : after ≡ with_handed register proof before
  pub others_kept : (at : ℕ) → (at ≡ register_place register → ⊥) → written_in_place at after ≡ written_in_place at before
  -- An operation that is begun for the register has it to show.
  pub shown : (nonce : ℕ) (phase : Phase) (card : List ℕ) → last_written (beginning register nonce phase card after) ≡ some proof

-- Of every client, register, bytes and verdicts; a record of the code has sixteen written proofs.
abbrev pub TakesProof : Type 0
TakesProof = (before : Client) (register : RegisterId) (bytes verdicts : List ℕ) (after : Client) → length before.written ≡ 16 → Bytes bytes
    → take_proof before register bytes verdicts ≡ accepted after → ProofTaken before register bytes after
