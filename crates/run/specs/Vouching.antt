-- Document 02, #102: who vouched for the card that a done shows, and the set that a replica keeps with its held proof; of each register.
use Rattle.std.specs.Prelude.{◌≡◌, ◌⊎◌, true, List, ℕ, suc, ◌≤◌}
use Rattle.base.specs.ReplicaSet.{empty, has, Quorate}
use Rattle.base.specs.Timestamp.{number}
use Rattle.base.specs.declared.party.RegisterId.{RegisterId}
use Rattle.base.specs.declared.party.ReplicaId.{ReplicaId}
use Rattle.base.specs.declared.replica_set.ReplicaSet.{ReplicaSet}
use Rattle.base.specs.declared.timestamp.Timestamp.{Timestamp}
use Rattle.protocol.specs.RegisterReplica.{held_proof}
use Rattle.wire.specs.Acceptance.{replica}
use Rattle.wire.specs.Message.{PREPARED}
use Rattle.wire.specs.Parts.{prepared_signers}
use Rattle.wire.specs.Sha256.{sha256}
use Rattle.run.specs.Claims.{Finished, Viewed}
use Rattle.run.specs.Run.{Run, register_at, Said}

module _ (R : Run) (x : RegisterId) where
  -- "for 0.0, no holders"; else "exactly q of them", and each correct one said PREPARED of this timestamp and card, for this register, before event t.
  abbrev pub VouchedFor : Timestamp → List ℕ → ReplicaSet → ℕ → Type 0
  VouchedFor timestamp card signers t =
      ((number timestamp ≡ 0) × (signers ≡ empty))
      ⊎ ((1 ≤ number timestamp) × Quorate R.f signers
      × ((id : ReplicaId) → has signers id ≡ true → R.correct_replica id ≡ true → Said R x (replica id) (PREPARED id (number timestamp) (sha256 card)) t))

  -- "done shows its card's": every finished operation's, and every view's.
  pub record Vouching : Type 0 where
    pub operations : (o : Finished R x) → VouchedFor o.timestamp o.card o.signers (suc o.finished)
    pub views : (v : Viewed R x) → VouchedFor v.timestamp v.card v.signers (suc v.finished)

  -- "Holders keep that set with the held proof": at every time it is the set of that proof's entries, and empty at 0.0.
  abbrev pub SignersOfHeld : Type 0
  SignersOfHeld =
      (id : ReplicaId) → R.correct_replica id ≡ true → (t : ℕ) → (register_at R x id t).held.signers ≡ prepared_signers (held_proof (register_at R x id t).held)
