-- A client's last written proofs, one for each register: a new one is shown for its own register, and the others' are as they were.
-- Assumes nothing.
use mathlib.Core.Path.{◌≡◌, refl, ap, ◌∙◌}
use mathlib.Core.Bool.{Bool, true}
use mathlib.Core.List.{List, []}
use mathlib.Core.Option.{some}
use Prim.Native.Nat.{ℕ, ◌≤◌}
use native.Mathlib.Omega.{arith}
use borrow.Author.Tests.{ne_eqb}
use lib.ListN.{length}
use Rattle.base.specs.Party.{is_register, register_place}
use Rattle.base.specs.Timestamp.{number}
use Rattle.base.specs.declared.party.RegisterId.{RegisterId}
use Rattle.base.specs.declared.timestamp.Timestamp.{Timestamp}
use Rattle.base.proofs.Registers.{place_injective}
use Rattle.wire.specs.Message.{EachFits}
use Rattle.wire.specs.Proof.{Entry}
use Rattle.protocol.specs.Client.{written_kept, last_written, keeping, beginning, with_last_written}
use Rattle.protocol.specs.declared.client.Client.{Client}
use Rattle.protocol.specs.declared.client.Phase.{Phase}
use Rattle.protocol.proofs.ArrayLaws.{entries_kept_lem}
use Rattle.protocol.proofs.ClientKept.{there_written, elsewhere_written}

-- A proof that is kept, of a timestamp that was issued, is shown as it is.
pub keeping_shown : (own : Bool) (timestamp : Timestamp) (entries : List Entry) → 1 ≤ number timestamp → EachFits entries → length entries ≤ 11
    → written_kept (keeping own timestamp entries) ≡ some (record { timestamp = number timestamp; digest = []; entries = entries })
keeping_shown own timestamp entries issued fit few = rw (ne_eqb (number timestamp) 0 (omega arith), entries_kept_lem entries fit few) refl

module _ (client : Client) (timestamp : Timestamp) (entries : List Entry) where
  abbrev after : Client
  after = with_last_written timestamp entries client

  -- The proof that a write ends with is the last written one of its register,
  pub own_written : length client.written ≡ 16 → 1 ≤ number timestamp → EachFits entries → length entries ≤ 11
      → last_written after ≡ some (record { timestamp = number timestamp; digest = []; entries = entries })
  own_written long issued fit few = ap written_kept (there_written client.register (keeping true timestamp entries) client long) ∙ keeping_shown true timestamp entries issued fit few

  -- and what the next operation of another register shows is as if it had not been.
  pub other_written : (register : RegisterId) (nonce : ℕ) (phase : Phase) (card : List ℕ) → is_register register ≡ true → is_register client.register ≡ true
      → (register ≡ client.register → ⊥) → last_written (beginning register nonce phase card after) ≡ last_written (beginning register nonce phase card client)
  other_written register nonce phase card registered own other =
      ap written_kept (elsewhere_written client.register (keeping true timestamp entries) client (register_place register) (λ e. other (place_injective register client.register registered own e)))
