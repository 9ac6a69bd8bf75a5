-- Who takes part in the runs of this crate, their signatures, verdicts and cards. Assumes nothing.
use mathlib.Core.Path.{◌≡◌, refl, sym, subst}
use mathlib.Core.Bool.{true}
use mathlib.Core.List.{List, [], ◌∷◌, ◌++◌}
use mathlib.Core.Option.{none}
use Prim.Native.Nat.{ℕ, zero, suc, ◌+◌, ◌≤◌}
use native.Mathlib.Omega.{arith}
use lib.ListN.{replicate}
use Rattle.base.specs.declared.party.ClientId.{ClientId}
use Rattle.base.specs.declared.party.RegisterId.{RegisterId}
use Rattle.base.specs.declared.party.ReplicaId.{ReplicaId}
use Rattle.base.specs.declared.replica_set.ReplicaSet.{ReplicaSet}
use Rattle.base.specs.declared.timestamp.Timestamp.{Timestamp}
use Rattle.protocol.specs.Parts.{start_card}
use Rattle.run.proofs.Turns.{same_replica}
use Rattle.wire.specs.Message.{Message, CARD, encode}
use Rattle.wire.specs.Proof.{Entry}
use Rattle.witness.proofs.Cards.{Known, right_digests, different_digests}
use Rattle.witness.proofs.Computing.{messages, digests}

abbrev pub replica_1 : ReplicaId
replica_1 = record { 0 = 1 }

abbrev pub replica_2 : ReplicaId
replica_2 = record { 0 = 2 }

abbrev pub replica_3 : ReplicaId
replica_3 = record { 0 = 3 }

abbrev pub replica_4 : ReplicaId
replica_4 = record { 0 = 4 }

-- One of three.
pub of_three : (P : ReplicaId → Type 0) (id : ReplicaId) → 1 ≤ id.0 → id.0 ≤ 3 → P replica_1 → P replica_2 → P replica_3 → P id
of_three P id low high a b c = go id.0 refl low high
  where
    go : (n : ℕ) → id.0 ≡ n → 1 ≤ n → n ≤ 3 → P id
    go zero e l h = absurd (omega arith)
    go (suc zero) e l h = subst P (sym (same_replica id replica_1 e)) a
    go (suc (suc zero)) e l h = subst P (sym (same_replica id replica_2 e)) b
    go (suc (suc (suc zero))) e l h = subst P (sym (same_replica id replica_3 e)) c
    go (suc (suc (suc (suc n)))) e l h = absurd (omega arith)

abbrev pub register_1 : RegisterId
register_1 = record { 0 = 1 }

abbrev pub register_2 : RegisterId
register_2 = record { 0 = 2 }

abbrev pub client_1 : ClientId
client_1 = record { 0 = 1 }

abbrev pub client_2 : ClientId
client_2 = record { 0 = 2 }

abbrev pub client_3 : ClientId
client_3 = record { 0 = 3 }

abbrev pub client_4 : ClientId
client_4 = record { 0 = 4 }

abbrev pub client_5 : ClientId
client_5 = record { 0 = 5 }

-- A viewing client.
abbrev pub viewer_65 : ClientId
viewer_65 = record { 0 = 65 }

-- The numbers of timestamps: 1·1 is that of 1.1.
abbrev pub 1·1 : ℕ
1·1 = 257

abbrev pub 1·4 : ℕ
1·4 = 260

abbrev pub 2·2 : ℕ
2·2 = 514

abbrev pub 2·4 : ℕ
2·4 = 516

abbrev pub 2·5 : ℕ
2·5 = 517

abbrev pub 3·1 : ℕ
3·1 = 769

abbrev pub at-1·1 : Timestamp
at-1·1 = record { count = 1; client = client_1 }

abbrev pub at-1·4 : Timestamp
at-1·4 = record { count = 1; client = client_4 }

abbrev pub at-2·4 : Timestamp
at-2·4 = record { count = 2; client = client_4 }

-- Sets of replicas as 16 bits, replica 1 lowest: 1, 2 and 3, and 1, 2 and 4.
abbrev pub by_1_2_3 : ReplicaSet
by_1_2_3 = record { 0 = 0x0007 }

abbrev pub by_1_2_4 : ReplicaSet
by_1_2_4 = record { 0 = 0x000B }

-- Signatures are made up: 64 times the same byte.
abbrev pub signature : ReplicaId → List ℕ
signature id = replicate 64 id.0

-- A message for a register; most runs are about the first.
abbrev pub from_replica_for : RegisterId → ReplicaId → (ReplicaId → Message) → List ℕ
from_replica_for x id message = encode x (message id) (signature id)

abbrev pub from_client_for : RegisterId → ClientId → Message → List ℕ
from_client_for x id message = encode x message (replicate 64 (100 + id.0))

abbrev pub from_replica : ReplicaId → (ReplicaId → Message) → List ℕ
from_replica = from_replica_for register_1

abbrev pub from_client : ClientId → Message → List ℕ
from_client = from_client_for register_1

abbrev pub entry : ReplicaId → Entry
entry id = record { signer = id; signature = signature id }

-- A CARD that shows 0.0, as if nothing had been written.
abbrev pub stale : ℕ → ClientId → ReplicaId → Message
stale nonce to id = CARD id nonce start_card none to

-- So many verdicts 1: on a message's own signature, or on a proof's three entries, or on both; and one verdict 0.
abbrev pub one : List ℕ
one = 1 ∷ []

abbrev pub three : List ℕ
three = 1 ∷ 1 ∷ 1 ∷ []

abbrev pub four : List ℕ
four = 1 ∷ three

abbrev pub seven : List ℕ
seven = four ++ three

abbrev pub not_genuine : List ℕ
not_genuine = 0 ∷ []

-- ---- Cards and their digests

-- In service.
abbrev pub service : List ℕ
service = 0x00 ∷ 0x20 ∷ 0x01 ∷ []

-- In the lathe.
abbrev pub lathe : List ℕ
lathe = 0x00 ∷ 0x20 ∷ 0x03 ∷ []

-- No run's: only a refused event carries it.
abbrev pub scrapped : List ℕ
scrapped = 0x00 ∷ 0x20 ∷ 0x04 ∷ []

abbrev pub service_digest : List ℕ
service_digest =
    0x1d ∷ 0x4b ∷ 0x39 ∷ 0x52 ∷ 0x65 ∷ 0x2a ∷ 0x10 ∷ 0xa6 ∷ 0x93 ∷ 0x81 ∷ 0x85 ∷ 0x05 ∷ 0xcc ∷ 0x5d ∷ 0xe8 ∷ 0x08 ∷
    0xc1 ∷ 0x11 ∷ 0x3a ∷ 0xdd ∷ 0x08 ∷ 0xbb ∷ 0xfc ∷ 0xd6 ∷ 0xc3 ∷ 0x4d ∷ 0xcf ∷ 0x57 ∷ 0xcf ∷ 0xe0 ∷ 0x06 ∷ 0x77 ∷ []

abbrev pub lathe_digest : List ℕ
lathe_digest =
    0x49 ∷ 0x8f ∷ 0x0c ∷ 0x84 ∷ 0x4b ∷ 0x62 ∷ 0xd5 ∷ 0xa7 ∷ 0x98 ∷ 0xf0 ∷ 0xcd ∷ 0x46 ∷ 0x31 ∷ 0xf4 ∷ 0x09 ∷ 0xca ∷
    0x02 ∷ 0x95 ∷ 0x10 ∷ 0xa0 ∷ 0x70 ∷ 0x73 ∷ 0x16 ∷ 0xae ∷ 0xda ∷ 0x9b ∷ 0x7c ∷ 0x87 ∷ 0x4b ∷ 0xff ∷ 0xf4 ∷ 0x95 ∷ []

abbrev pub start_digest : List ℕ
start_digest =
    0x96 ∷ 0xa2 ∷ 0x96 ∷ 0xd2 ∷ 0x24 ∷ 0xf2 ∷ 0x85 ∷ 0xc6 ∷ 0x7b ∷ 0xee ∷ 0x93 ∷ 0xc3 ∷ 0x0f ∷ 0x8a ∷ 0x30 ∷ 0x91 ∷
    0x57 ∷ 0xf0 ∷ 0xda ∷ 0xa3 ∷ 0x5d ∷ 0xc5 ∷ 0xb8 ∷ 0x7e ∷ 0x41 ∷ 0x0b ∷ 0x78 ∷ 0x63 ∷ 0x0a ∷ 0x09 ∷ 0xcf ∷ 0xc7 ∷ []

-- The cards of the runs, and no others: their digests are right, and differ.
unfoldable pub cards : List Known
cards =
    record { card = start_card; digest = start_digest } ∷ record { card = service; digest = service_digest } ∷ record { card = lathe; digest = lathe_digest } ∷ []

pub right_digests_lem : right_digests cards ≡ true
unfolding messages digests cards right_digests
right_digests_lem = refl

pub different_cards : different_digests cards ≡ true
unfolding messages cards different_digests
different_cards = refl
