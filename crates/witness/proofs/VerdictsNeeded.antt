-- With verdicts that are not true the order fails: all replicas are correct, and sent none of the CARDs that two reads are handed. Assumes nothing.
use mathlib.Core.Path.{◌≡◌, refl}
use mathlib.Core.Logic.{inl}
use mathlib.Core.Bool.{true, false, not}
use mathlib.Core.List.{List, [], ◌∷◌}
use mathlib.Core.Option.{some}
use Prim.Native.Nat.{ℕ, ◌≤◌}
use lib.Dec.{lit<, lit≤}
use Rattle.base.specs.Counting.{count}
use Rattle.base.specs.Party.{replica_count}
use Rattle.base.specs.Range.{within}
use Rattle.base.specs.ReplicaSet.{empty}
use Rattle.base.specs.Timestamp.{start}
use Rattle.base.specs.declared.party.ReplicaId.{ReplicaId}
use Rattle.protocol.specs.Client.{send, waits, done}
use Rattle.protocol.specs.Parts.{start_card}
use Rattle.run.proofs.Demand3.{demand_3}
use Rattle.run.specs.Claims.{Finished, Claims}
use Rattle.run.specs.Premises.{TrueAt, CardOfRun, NewNonces}
use Rattle.run.specs.Run.{begins_read, to_client, Run, event}
use Rattle.wire.specs.Message.{Message, READ, CARD}
use Rattle.wire.specs.Proof.{PreparedProof}
use Rattle.wire.specs.Sha256.{sha256}
use Rattle.witness.proofs.Answers.{code}
use Rattle.witness.proofs.Cast.{replica_1, replica_2, replica_3, register_1, client_1, client_2, 1·1, at-1·1, by_1_2_3, entry, from_replica, stale, one, four, service, service_digest, cards, right_digests_lem, different_cards}
use Rattle.witness.proofs.Computing.{messages, steps, digests}
use Rattle.witness.proofs.Replay.{plays, fresh_store, played}
use Rattle.witness.proofs.Story.{Line, ◌↝◌, each, well_told, told, Told, has_bytes, new_nonces, new_nonces_lem, NoOtherCards, different_digests_lem, finished_told}

-- The premise of true verdicts gives way, the others stand, and a claim fails.
pub record VerdictsNeeded : Type 0 where
  pub run : Run
  pub few_faulty : count (replica_count run.f) (λ id. not (run.correct_replica id)) ≤ run.f
  pub new_nonces_lem : NewNonces run
  pub different_digests_lem : (card card' : List ℕ) → CardOfRun run card → CardOfRun run card' → sha256 card ≡ sha256 card' → card ≡ card'
  pub claims_fail : Claims run register_1 → ⊥

-- ---- What happens: client 1 reads 1.1 and then client 2 reads 0.0, although nobody wrote

abbrev proof : PreparedProof
proof = record { timestamp = 1·1; digest = service_digest; entries = entry replica_1 ∷ entry replica_2 ∷ entry replica_3 ∷ [] }

abbrev later : ReplicaId → Message
later id = CARD id 1 service (some proof) client_1

story : List Line
story =
    begins_read client_1 register_1 ↝ send (READ client_1 1)
    ∷ to_client client_1 (from_replica replica_1 later) four ↝ waits
    ∷ to_client client_1 (from_replica replica_2 later) four ↝ waits
    ∷ to_client client_1 (from_replica replica_3 later) four ↝ done at-1·1 service by_1_2_3
    ∷ begins_read client_2 register_1 ↝ send (READ client_2 1)
    ∷ to_client client_2 (from_replica replica_1 (stale 1 client_2)) one ↝ waits
    ∷ to_client client_2 (from_replica replica_2 (stale 1 client_2)) one ↝ waits
    ∷ to_client client_2 (from_replica replica_3 (stale 1 client_2)) one ↝ done start start_card empty
    ∷ []

well_told_lem : each (well_told 4 2) 0 story ≡ true
unfolding story messages has_bytes
well_told_lem = refl

run : Run
run = told 4 2 (lit≤ tt) (lit≤ tt) story well_told_lem

answers_as_told : plays (fresh_store run 2) story ≡ true
unfolding run story steps digests plays
answers_as_told = refl

as_told : Told run story
unfolding run
as_told = played run 2 story refl answers_as_told

no_makings : new_nonces story ≡ true
unfolding story new_nonces
no_makings = refl

no_other_cards : NoOtherCards run story cards
unfolding story messages cards
no_other_cards = refl

finished_later : Finished run register_1
unfolding story code messages
finished_later = finished_told run story as_told register_1 client_1 0 3 _ _ _ at-1·1 service by_1_2_3 refl (lit< tt) refl refl refl false refl refl

finished_stale : Finished run register_1
unfolding story code messages
finished_stale = finished_told run story as_told register_1 client_2 4 7 _ _ _ start start_card empty refl (lit< tt) refl refl refl false refl refl

pub verdicts_needed : VerdictsNeeded
unfolding run count within finished_told finished_later finished_stale
verdicts_needed =
    record {
      run = run;
      few_faulty = lit≤ tt;
      new_nonces_lem = new_nonces_lem run story as_told no_makings;
      different_digests_lem = different_digests_lem run story as_told cards no_other_cards right_digests_lem different_cards;
      -- The second read began after the first one finished, and lies before it.
      claims_fail = λ claims. claims.in_order finished_later finished_stale (lit< tt) (inl (lit< tt));
    }

-- So it is the verdicts that are at fault: were they true, the theorem would hold of the run.
pub not_all_true : (needed : VerdictsNeeded) → ((t : ℕ) → TrueAt needed.run t (event needed.run t)) → ⊥
not_all_true needed true_verdicts_lem =
    needed.claims_fail
    (demand_3 needed.run (record { few_faulty = needed.few_faulty; true_verdicts_lem = true_verdicts_lem; new_nonces_lem = needed.new_nonces_lem; different_digests_lem = needed.different_digests_lem }) register_1)
