-- A write from its beginning to its done, with replicas 1 and 2, and replica 4, whose replies make the quorums: its messages, and its lines in
-- parts. Assumes nothing.
use mathlib.Core.List.{List, [], ◌∷◌, ◌++◌}
use mathlib.Core.Option.{Option, none, some}
use Prim.Native.Nat.{ℕ}
use Rattle.base.specs.Timestamp.{number}
use Rattle.base.specs.declared.party.ClientId.{ClientId}
use Rattle.base.specs.declared.party.RegisterId.{RegisterId}
use Rattle.base.specs.declared.party.ReplicaId.{ReplicaId}
use Rattle.base.specs.declared.timestamp.Timestamp.{Timestamp}
use Rattle.protocol.specs.Client.{send, waits, done}
use Rattle.run.specs.Run.{begins_write, to_replica, to_client}
use Rattle.wire.specs.Message.{Message, READ-STAMP, PREPARE, WRITE, STAMP, PREPARED, WRITTEN}
use Rattle.wire.specs.Proof.{Proof, PreparedProof, WrittenProof}
use Rattle.witness.proofs.Cast.{replica_1, replica_2, replica_4, by_1_2_4, entry, from_replica_for, from_client_for, one, three, four}
use Rattle.witness.proofs.Story.{Line, ◌↝◌}

-- Who writes what, where and when; the prepared proof that the replicas hold before, and the written proof that the client shows.
pub record Writing : Type 0 where
  pub register : RegisterId
  pub id : ClientId
  pub nonce : ℕ
  pub card : List ℕ
  pub digest : List ℕ
  pub timestamp : Timestamp
  pub held : Option PreparedProof
  pub last : Option WrittenProof

-- The verdicts on the entries of a proof that may be missing.
abbrev on_entries : {d : ℕ} → Option (Proof d) → List ℕ
on_entries none = []
on_entries (some proof) = three

module _ (w : Writing) where
  abbrev asks : Message
  asks = READ-STAMP w.id w.nonce

  abbrev stamp : ReplicaId → Message
  stamp r = STAMP r w.nonce w.held w.id

  abbrev pub prepare : Message
  prepare = PREPARE w.id (number w.timestamp) w.digest w.held w.last

  abbrev pub prepared : ReplicaId → Message
  prepared r = PREPARED r (number w.timestamp) w.digest

  -- Replica 4's signature counts in the proofs.
  abbrev pub prepared_proof : PreparedProof
  prepared_proof = record { timestamp = number w.timestamp; digest = w.digest; entries = entry replica_1 ∷ entry replica_2 ∷ entry replica_4 ∷ [] }

  abbrev pub stores : Message
  stores = WRITE w.id w.card prepared_proof

  abbrev pub written : ReplicaId → Message
  written r = WRITTEN r (number w.timestamp)

  -- The WRITTENs that end it.
  abbrev pub written_proof : WrittenProof
  written_proof = record { timestamp = number w.timestamp; digest = []; entries = entry replica_1 ∷ entry replica_2 ∷ entry replica_4 ∷ [] }

  abbrev asked : Message → List ℕ
  asked message = from_client_for w.register w.id message

  abbrev hears : ReplicaId → (ReplicaId → Message) → List ℕ → Line
  hears r message verdicts = to_client w.id (from_replica_for w.register r message) verdicts ↝ waits

  abbrev prepare_verdicts : List ℕ
  prepare_verdicts = one ++ (on_entries w.held ++ on_entries w.last)

  -- Six lines: it begins, gets the STAMPs of replicas 1 and 2 and one of replica 4, and sends its PREPARE.
  abbrev pub asking : List Line
  asking =
      begins_write w.id w.register w.card ↝ send asks
      ∷ to_replica replica_1 (asked asks) one ↝ send (stamp replica_1)
      ∷ to_replica replica_2 (asked asks) one ↝ send (stamp replica_2)
      ∷ hears replica_1 stamp (one ++ on_entries w.held)
      ∷ hears replica_2 stamp (one ++ on_entries w.held)
      ∷ to_client w.id (from_replica_for w.register replica_4 stamp) (one ++ on_entries w.held) ↝ send prepare
      ∷ []

  -- The PREPARE at a replica that takes it.
  abbrev pub preparing_at : ReplicaId → Line
  preparing_at r = to_replica r (asked prepare) prepare_verdicts ↝ send (prepared r)

  -- Its bytes, for a replica that does not.
  abbrev pub prepare_bytes : List ℕ
  prepare_bytes = asked prepare

  -- Five lines: the PREPAREDs of replicas 1 and 2, and of replica 4. They are the proof, and it sends its WRITE.
  abbrev pub preparing : List Line
  preparing =
      preparing_at replica_1
      ∷ preparing_at replica_2
      ∷ hears replica_1 prepared one
      ∷ hears replica_2 prepared one
      ∷ to_client w.id (from_replica_for w.register replica_4 prepared) one ↝ send stores
      ∷ []

  -- The WRITE at a replica.
  abbrev pub storing_at : ReplicaId → Line
  storing_at r = to_replica r (asked stores) four ↝ send (written r)

  -- Three lines: the WRITTENs of replicas 1 and 2, and of replica 4: it is done.
  abbrev pub ending : List Line
  ending =
      hears replica_1 written one
      ∷ hears replica_2 written one
      ∷ to_client w.id (from_replica_for w.register replica_4 written) one ↝ done w.timestamp w.card by_1_2_4
      ∷ []

  -- All sixteen.
  abbrev pub whole_write : List Line
  whole_write = asking ++ (preparing ++ (storing_at replica_1 ∷ storing_at replica_2 ∷ ending))
