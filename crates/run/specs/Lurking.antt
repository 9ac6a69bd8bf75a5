-- Document 02, #108: what a withdrawn client can leave behind in a register, for others to write when it is gone. The paper calls these
-- lurking writes, and bounds them in part 2 of its Lemma 1.
use Rattle.std.specs.Prelude.{◌≡◌, true, cond, List, [], ◌∷◌, ℕ, zero, suc, ◌<◌, get_or}
use Rattle.base.specs.Counting.{replica}
use Rattle.base.specs.Falling.{falling}
use Rattle.base.specs.Party.{replica_count, is_register}
use Rattle.base.specs.Timestamp.{client_of}
use Rattle.base.specs.declared.party.ClientId.{ClientId}
use Rattle.base.specs.declared.party.RegisterId.{RegisterId}
use Rattle.base.specs.declared.party.ReplicaId.{ReplicaId}
use Rattle.wire.specs.Proof.{PreparedProof}
use Rattle.run.specs.Claims.{Genuine}
use Rattle.run.specs.Run.{Run, held}
use Rattle.run.specs.Withdrawals.{OrderTaken}

-- "a point where every rule-following holder has carried out the order against desk D": before event t each has taken one, at a time of its own
-- and maybe another one than the next.
abbrev pub WithdrawnEverywhere : Run → ClientId → ℕ → Type 0
WithdrawnEverywhere R c t = (id : ReplicaId) → R.correct_replica id ≡ true → OrderTaken R id c t

module _ (R : Run) (x : RegisterId) where
  -- What the correct replicas among 1 to n hold before event t.
  unfoldable pub held_among : ℕ → ℕ → List ℕ
  held_among zero t = []
  held_among (suc n) t = cond (R.correct_replica (replica (suc n))) (held R x (replica (suc n)) t ∷ held_among n t) (held_among n t)

  -- "write their held stamps for one set in falling order, equal ones each time"
  abbrev pub held_falling : ℕ → List ℕ
  held_falling t = falling (held_among (replica_count R.f) t)

  -- "Let S be the (f + 1)th.": the one behind f others.
  abbrev pub bar : ℕ → ℕ
  bar t = get_or (held_falling t) R.f 0

  -- "stamp of D later than S"
  abbrev pub LeftBehind : ClientId → ℕ → ℕ → Type 0
  LeftBehind c t timestamp = (client_of timestamp ≡ c) × (bar t < timestamp)

  -- "over the rest of that run at most one stamp of D later than S ever has a genuine prepared proof for that set, whoever gathers the seals":
  -- a proof is judged at the end of the list, where all is sent that was ever sent.
  abbrev pub AtMostOne : Type 0
  AtMostOne =
      (c : ClientId) (t : ℕ) → WithdrawnEverywhere R c t → (proof proof' : PreparedProof) → Genuine R x proof → Genuine R x proof'
      → LeftBehind c t proof.timestamp → LeftBehind c t proof'.timestamp → proof.timestamp ≡ proof'.timestamp

  -- Of each register: messages carry the last byte of a number, while what is no register's has register 1's record.
  abbrev pub Lurking : Type 0
  Lurking = is_register x ≡ true → AtMostOne
