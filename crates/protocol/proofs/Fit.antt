-- Records whose arrays have their lengths and hold bytes: what the code's types say of them. Assumes nothing.
use mathlib.Core.Path.{◌≡◌}
use mathlib.Core.List.{List}
use Prim.Native.Nat.{ℕ, ◌^◌, ◌<◌}
use lib.ListN.{length, get_or}
use Rattle.base.specs.BigEndian.{Bytes}
use Rattle.base.specs.declared.party.RegisterId.{RegisterId}
use Rattle.base.specs.declared.timestamp.Timestamp.{Timestamp}
use Rattle.wire.specs.Message.{Message, IsDigest, Legal}
use Rattle.protocol.specs.Client.{written_in_place}
use Rattle.protocol.specs.declared.client.Client.{Client}
use Rattle.protocol.specs.declared.client.Written.{Written}
use Rattle.protocol.specs.declared.replica.Held.{Held}
use Rattle.protocol.specs.declared.replica.RegisterReplica.{RegisterReplica}
use Rattle.protocol.specs.declared.replica.Slots.{Slots}

abbrev pub TimestampFits : Timestamp → Type 0
TimestampFits t = (t.count < 2 ^ 32) × (t.client.0 < 256)

-- So many bytes.
abbrev pub Array : ℕ → List ℕ → Type 0
Array width bytes = (length bytes ≡ width) × Bytes bytes

pub record SlotsFit (slots : Slots) : Type 0 where
  pub counts_long : length slots.counts ≡ 64
  pub counts_fit : (i : ℕ) → get_or slots.counts i 0 < 2 ^ 32
  pub digests_fit : Array 2048 slots.digests
  pub written_fits : TimestampFits slots.written

pub record HeldFits (held : Held) : Type 0 where
  pub timestamp_fits : TimestampFits held.timestamp
  pub card_fits : Array 17 held.card
  pub digest_fits : IsDigest held.digest
  pub entries_fit : Array 715 held.entries

pub record RegisterReplicaFits (replica : RegisterReplica) : Type 0 where
  pub id_fits : replica.id.0 < 256
  pub slots_fit : SlotsFit replica.register.slots
  pub held_fits : HeldFits replica.register.held

-- A written proof as it is kept.
pub record WrittenKeptFits (written : Written) : Type 0 where
  pub timestamp_fits : TimestampFits written.timestamp
  pub entries_fit : Array 715 written.entries

pub record ClientFits (client : Client) : Type 0 where
  pub id_fits : client.id.0 < 256
  pub nonce_fits : client.last_nonce < 2 ^ 64
  pub card_fits : Array 17 client.card
  pub digest_fits : IsDigest client.digest
  pub entries_fit : Array 715 client.entries
  pub signatures_fit : Array 1024 client.signatures
  pub written_long : length client.written ≡ 16
  pub written_fit : (at : ℕ) → at < 16 → WrittenKeptFits (written_in_place at client)

-- A message that is legal whatever register it is for.
abbrev pub LegalMessage : Message → Type 0
LegalMessage message = (register : RegisterId) → register.0 < 256 → Legal register message
