-- A first write of a register: client 1 writes a card at 1.1. Its lines in two parts; two stories begin with that of `service` to register 1.
-- Assumes nothing.
use mathlib.Core.List.{List, [], ◌∷◌, ◌++◌}
use mathlib.Core.Option.{none, some}
use Prim.Native.Nat.{ℕ}
use Rattle.base.specs.declared.party.ClientId.{ClientId}
use Rattle.base.specs.declared.party.RegisterId.{RegisterId}
use Rattle.base.specs.declared.party.ReplicaId.{ReplicaId}
use Rattle.wire.specs.Message.{Message, CARD}
use Rattle.wire.specs.Proof.{PreparedProof}
use Rattle.witness.proofs.AnyWrite.{Writing, prepared as prepared_in, prepared_proof, stores, written as written_in, asking, preparing, storing_at, ending}
use Rattle.witness.proofs.Cast.{replica_1, replica_2, register_1, client_1, at-1·1, service, service_digest}
use Rattle.witness.proofs.Story.{Line}

-- ---- Of any card, to a register, with the client's next nonce

module _ (x : RegisterId) (nonce : ℕ) (card digest : List ℕ) where
  abbrev pub first : Writing
  first = record { register = x; id = client_1; nonce = nonce; card = card; digest = digest; timestamp = at-1·1; held = none; last = none }

  -- 0 to 5 to its PREPARE, 6 to 10 to its WRITE, which reaches replica 1 with 11.
  unfoldable pub under_way : List Line
  under_way = asking first ++ (preparing first ++ (storing_at first replica_1 ∷ []))

  -- It reaches replica 2, and is done.
  unfoldable pub finishing : List Line
  finishing = storing_at first replica_2 ∷ ending first

-- Its prepared proof, in which register, nonce and card are not.
abbrev pub proof_of : List ℕ → PreparedProof
proof_of digest = prepared_proof (first register_1 1 [] digest)

-- ---- Of `service`, to register 1

abbrev service_write : Writing
service_write = first register_1 1 service service_digest

abbrev pub proof : PreparedProof
proof = prepared_proof service_write

abbrev pub prepared : ReplicaId → Message
prepared = prepared_in service_write

abbrev pub written : ReplicaId → Message
written = written_in service_write

abbrev pub write : Message
write = stores service_write

-- A CARD that shows it.
abbrev pub shows : ℕ → ClientId → ReplicaId → Message
shows nonce to id = CARD id nonce service (some proof) to

unfoldable pub write_under_way : List Line
unfolding under_way
write_under_way = under_way register_1 1 service service_digest

unfoldable pub write_done : List Line
unfolding finishing
write_done = finishing register_1 1 service service_digest
