-- A client that is made again with a nonce that was used: all other premises stand, and the order fails. Old CARDs, asked for before a write, end a read that was begun
-- after it. Assumes nothing.
use mathlib.Core.Path.{◌≡◌, refl}
use mathlib.Core.Logic.{inl}
use mathlib.Core.Bool.{true, false}
use mathlib.Core.List.{List, [], ◌∷◌, ◌++◌}
use Prim.Native.Nat.{ℕ}
use lib.Dec.{lit<, lit≤}
use Rattle.base.specs.Counting.{count}
use Rattle.base.specs.Range.{within}
use Rattle.base.specs.ReplicaSet.{empty}
use Rattle.base.specs.Timestamp.{start}
use Rattle.protocol.specs.Client.{send, waits, done}
use Rattle.protocol.specs.Parts.{start_card}
use Rattle.run.proofs.Demand3.{demand_3}
use Rattle.run.specs.Claims.{Finished, Claims}
use Rattle.run.specs.Premises.{TrueAt, CardOfRun, FewFaulty, NewNonces}
use Rattle.run.specs.Run.{begins_read, to_replica, to_client, makes, Run, event}
use Rattle.wire.specs.Message.{READ}
use Rattle.wire.specs.Sha256.{sha256}
use Rattle.witness.proofs.Answers.{code}
use Rattle.witness.proofs.AnyWrite.{whole_write}
use Rattle.witness.proofs.Cast.{replica_1, replica_2, replica_4, register_1, client_1, client_2, by_1_2_4, from_replica, from_client, stale, one, service, cards, right_digests_lem, different_cards}
use Rattle.witness.proofs.Computing.{messages, steps, digests}
use Rattle.witness.proofs.NewLaptop.{at-1·2, other}
use Rattle.witness.proofs.Replay.{plays, fresh_store, played}
use Rattle.witness.proofs.Story.{Line, ◌↝◌, each, well_told, told, Told, has_bytes, NoOtherCards, AllTrue, true_verdicts, true_verdicts_lem, different_digests_lem, finished_told}

-- The premise of new nonces gives way, the others stand, and a claim fails.
pub record NoncesNeeded : Type 0 where
  pub run : Run
  pub few_faulty : FewFaulty run
  pub true_verdicts_lem : (t : ℕ) → TrueAt run t (event run t)
  pub different_digests_lem : (card card' : List ℕ) → CardOfRun run card → CardOfRun run card' → sha256 card ≡ sha256 card' → card ≡ card'
  pub claims_fail : Claims run register_1 → ⊥

story : List Line
story =
    -- 0 to 2: client 1 asks for CARDs with nonce 1; two replicas show 0.0.
    begins_read client_1 register_1 ↝ send (READ client_1 1)
    ∷ to_replica replica_1 (from_client client_1 (READ client_1 1)) one ↝ send (stale 1 client_1 replica_1)
    ∷ to_replica replica_2 (from_client client_1 (READ client_1 1)) one ↝ send (stale 1 client_1 replica_2)
    -- 3 to 18: client 2 writes `service` at 1.2.
    ∷ whole_write other
    -- 19 to 23: client 1 is made again with nonce 1, and reads: the old CARDs end it.
    ++ (makes client_1 1 ↝ waits
    ∷ begins_read client_1 register_1 ↝ send (READ client_1 1)
    ∷ to_client client_1 (from_replica replica_1 (stale 1 client_1)) one ↝ waits
    ∷ to_client client_1 (from_replica replica_2 (stale 1 client_1)) one ↝ waits
    ∷ to_client client_1 (from_replica replica_4 (stale 1 client_1)) one ↝ done start start_card empty
    ∷ [])

well_told_lem : each (well_told 3 2) 0 story ≡ true
unfolding story messages has_bytes
well_told_lem = refl

run : Run
run = told 3 2 (lit≤ tt) (lit≤ tt) story well_told_lem

answers_as_told : plays (fresh_store run 2) story ≡ true
unfolding run story steps digests plays
answers_as_told = refl

as_told : Told run story
unfolding run
as_told = played run 2 story refl answers_as_told

verdicts_true : AllTrue run story
unfolding run story messages true_verdicts
verdicts_true = refl

no_other_cards : NoOtherCards run story cards
unfolding story messages cards
no_other_cards = refl

write : Finished run register_1
unfolding story code messages
write = finished_told run story as_told register_1 client_2 3 18 _ _ _ at-1·2 service by_1_2_4 refl (lit< tt) refl refl refl true (service, refl) refl

read : Finished run register_1
unfolding story code messages
read = finished_told run story as_told register_1 client_1 20 23 _ _ _ start start_card empty refl (lit< tt) refl refl refl false refl refl

pub nonces_needed : NoncesNeeded
unfolding run count within finished_told write read
nonces_needed =
    record {
      run = run;
      few_faulty = lit≤ tt;
      true_verdicts_lem = true_verdicts_lem run story as_told verdicts_true;
      different_digests_lem = different_digests_lem run story as_told cards no_other_cards right_digests_lem different_cards;
      -- The read began after the write finished, and lies before it.
      claims_fail = λ claims. claims.in_order write read (lit< tt) (inl (lit< tt));
    }

-- So it is the nonce that is at fault: were it new, the theorem would hold of the run.
pub not_new : (needed : NoncesNeeded) → NewNonces needed.run → ⊥
not_new needed new_nonces_lem =
    needed.claims_fail
    (demand_3 needed.run (record { few_faulty = needed.few_faulty; true_verdicts_lem = needed.true_verdicts_lem; new_nonces_lem = new_nonces_lem; different_digests_lem = needed.different_digests_lem }) register_1)
