-- What the client's code keeps in arrays: the proofs that it builds.
use Rattle.std.specs.Prelude.{◌≡◌, List, ◌∷◌, ◌++◌, ℕ, ◌+◌, ◌*◌, length, take, drop}
use Rattle.base.specs.Bytes.{filled}
use Rattle.base.specs.ReplicaSet.{with}
use Rattle.base.specs.declared.party.ReplicaId.{ReplicaId}
use Rattle.wire.specs.Proof.{Entry, signer_set, entries_bytes}
use Rattle.wire.specs.Layout.{entries_room}
use Rattle.client.specs.declared.signatures.Built.{Built}

-- An entry more, at the place behind so many: signer and signature.
pub record Added (id : ReplicaId) (signature : List ℕ) (old new : Built) : Type 0 where
  pub many : new.count ≡ old.count + 1
  pub who : new.signers ≡ with old.signers id
  pub holds : new.entries ≡ take (65 * old.count) old.entries ++ ((id.0 ∷ signature) ++ drop (65 * old.count + 65) old.entries)

-- Entries in an array, how many they are, and who signed them.
pub record Keeps (entries : List Entry) (built : Built) : Type 0 where
  pub many : built.count ≡ length entries
  pub who : built.signers ≡ signer_set entries
  pub holds : built.entries ≡ filled entries_room (entries_bytes entries)
