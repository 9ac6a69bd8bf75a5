-- What the parts of a writer leave in the output.
use Rattle.std.specs.Prelude.{◌≡◌, ℕ, ◌+◌, ◌≤◌, Bool, cond, List, [], ◌∷◌, ◌++◌, length, take, drop}
use Rattle.base.specs.BigEndian.{to_bytes}
use Rattle.base.specs.declared.party.ClientId.{ClientId}
use Rattle.base.specs.declared.party.RegisterId.{RegisterId}
use Rattle.wire.specs.Writing.{blank_signature}

-- A step of a writer: the bytes, at most so many, stand from a place on, and the next place is the one behind them.
pub record Put (old : List ℕ) (at : ℕ) (bytes : List ℕ) (most : ℕ) (next : ℕ) (new : List ℕ) : Type 0 where
  pub behind : next ≡ at + length bytes
  pub short : length bytes ≤ most
  pub room : next ≤ length old
  pub holds : new ≡ take at old ++ bytes ++ drop (at + length bytes) old

-- A READ-STAMP or READ, by its kind.
unfoldable pub question : RegisterId → ℕ → ClientId → ℕ → List ℕ
question register kind client nonce =
    to_bytes 2 519 ++ (to_bytes 1 kind ++ (to_bytes 1 client.0 ++ (to_bytes 8 nonce ++ to_bytes 1 register.0))) ++ blank_signature

-- A card behind its length.
abbrev pub sized_card : List ℕ → List ℕ
sized_card card = length card ∷ card

-- The bytes of what may be missing.
abbrev pub bytes_unless : Bool → List ℕ → List ℕ
bytes_unless absent bytes = cond absent [] bytes
