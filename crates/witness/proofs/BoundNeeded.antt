-- With two faulty replicas at f = 1 claim 1 fails: two genuine prepared proofs, one timestamp, two digests. Assumes nothing.
use mathlib.Core.Path.{◌≡◌, refl, ap}
use mathlib.Core.Bool.{true, not}
use mathlib.Core.List.{List, [], ◌∷◌}
use mathlib.Core.Option.{none}
use Prim.Native.Nat.{ℕ}
use native.Mathlib.Omega.{arith}
use lib.Dec.{lit≤}
use lib.ListN.{get_or, replicate}
use Rattle.base.specs.Counting.{count}
use Rattle.base.specs.Party.{replica_count}
use Rattle.base.specs.Range.{within}
use Rattle.base.specs.declared.party.ReplicaId.{ReplicaId}
use Rattle.protocol.specs.Client.{send}
use Rattle.run.specs.Claims.{Genuine, Claims}
use Rattle.run.specs.Premises.{TrueAt, CardOfRun, NewNonces}
use Rattle.run.specs.Run.{to_replica, Run, event}
use Rattle.wire.specs.Message.{Message, PREPARE, PREPARED}
use Rattle.wire.specs.Proof.{PreparedProof}
use Rattle.wire.specs.Sha256.{sha256}
use Rattle.witness.proofs.Cards.{right_digests, different_digests}
use Rattle.witness.proofs.Cast.{replica_1, replica_2, replica_3, replica_4, register_1, client_1, 1·1, entry, from_client, one, three}
use Rattle.witness.proofs.Computing.{messages, steps}
use Rattle.witness.proofs.Replay.{plays, fresh_store, played}
use Rattle.witness.proofs.Story.{Line, ◌↝◌, each, well_told, told, Told, has_bytes, all_bytes, AllTrue, true_verdicts, true_verdicts_lem, new_nonces, new_nonces_lem, NoOtherCards, different_digests_lem, genuine_told}

-- The bound of `Premises` gives way, the other premises stand, and so do two proofs that contradict claim 1.
pub record BoundNeeded : Type 0 where
  pub run : Run
  pub f_is_1 : run.f ≡ 1
  pub two_faulty : count (replica_count run.f) (λ id. not (run.correct_replica id)) ≡ 2
  pub true_verdicts_lem : (t : ℕ) → TrueAt run t (event run t)
  pub new_nonces_lem : NewNonces run
  pub different_digests_lem : (card card' : List ℕ) → CardOfRun run card → CardOfRun run card' → sha256 card ≡ sha256 card' → card ≡ card'
  pub proof : PreparedProof
  pub proof' : PreparedProof
  pub genuine : Genuine run register_1 proof
  pub genuine' : Genuine run register_1 proof'
  pub one_timestamp : proof.timestamp ≡ proof'.timestamp
  pub two_digests : proof.digest ≡ proof'.digest → ⊥

-- ---- Who takes part: replicas 1 and 2 are correct; replicas 3 and 4 and the clients are faulty

abbrev digest_a : List ℕ
digest_a = replicate 32 0xaa

abbrev digest_b : List ℕ
digest_b = replicate 32 0xbb

abbrev prepare : List ℕ → Message
prepare digest = PREPARE client_1 1·1 digest none none

-- A correct replica's signature, and those of the faulty ones, who sign both.
abbrev proof_of : List ℕ → ReplicaId → PreparedProof
proof_of digest id = record { timestamp = 1·1; digest = digest; entries = entry id ∷ entry replica_3 ∷ entry replica_4 ∷ [] }

-- ---- What happens: client 1 has replica 1 prepare one digest at 1.1, and replica 2 another

abbrev prepares : ReplicaId → List ℕ → Line
prepares id digest = to_replica id (from_client client_1 (prepare digest)) one ↝ send (PREPARED id 1·1 digest)

story : List Line
story = prepares replica_1 digest_a ∷ prepares replica_2 digest_b ∷ []

well_told_lem : each (well_told 2 0) 0 story ≡ true
unfolding story messages has_bytes
well_told_lem = refl

run : Run
run = told 2 0 (lit≤ tt) (lit≤ tt) story well_told_lem

answers_as_told : plays (fresh_store run 0) story ≡ true
unfolding run story steps plays
answers_as_told = refl

as_told : Told run story
unfolding run
as_told = played run 0 story refl answers_as_told

verdicts_true : AllTrue run story
unfolding run story messages true_verdicts
verdicts_true = refl

no_makings : new_nonces story ≡ true
unfolding story new_nonces
no_makings = refl

no_cards : NoOtherCards run story []
unfolding story messages
no_cards = refl

genuine_a : Genuine run register_1 (proof_of digest_a replica_1)
unfolding run story steps all_bytes true_verdicts
genuine_a = genuine_told run story as_told register_1 (proof_of digest_a replica_1) three refl refl refl refl refl

genuine_b : Genuine run register_1 (proof_of digest_b replica_2)
unfolding run story steps all_bytes true_verdicts
genuine_b = genuine_told run story as_told register_1 (proof_of digest_b replica_2) three refl refl refl refl refl

pub bound_needed : BoundNeeded
unfolding run count within right_digests different_digests
bound_needed =
    record {
      run = run;
      f_is_1 = refl;
      two_faulty = refl;
      true_verdicts_lem = true_verdicts_lem run story as_told verdicts_true;
      new_nonces_lem = new_nonces_lem run story as_told no_makings;
      different_digests_lem = different_digests_lem run story as_told [] no_cards refl refl;
      proof = proof_of digest_a replica_1;
      proof' = proof_of digest_b replica_2;
      genuine = genuine_a;
      genuine' = genuine_b;
      one_timestamp = refl;
      two_digests = λ e. let first : ◌≡◌ {A = ℕ} 0xaa 0xbb = ap (λ (d : List ℕ). get_or d 0 0) e in omega arith;
    }

-- The theorem about runs does not hold without its bound.
pub claims_fail : (needed : BoundNeeded) → Claims needed.run register_1 → ⊥
claims_fail needed claims = needed.two_digests (claims.one_digest needed.proof needed.proof' needed.genuine needed.genuine' needed.one_timestamp)
