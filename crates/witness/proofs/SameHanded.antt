-- Two different runs in which a replica is handed the same messages for register 2, in one order with the same verdicts, and the same
-- withdrawal order between them: it answers alike, with a reply and refusals, although one of them has messages for register 1 besides.
-- Assumes nothing.
use mathlib.Core.Path.{◌≡◌, refl, ap}
use mathlib.Core.Bool.{true}
use mathlib.Core.List.{List, [], ◌∷◌}
use mathlib.Core.Option.{none}
use Prim.Native.Nat.{ℕ}
use native.Mathlib.Omega.{arith}
use lib.Dec.{lit≤}
use lib.ListN.{length}
use Rattle.base.specs.Outcome.{accepted, refused}
use Rattle.base.specs.Range.{within}
use Rattle.base.specs.declared.party.RegisterId.{RegisterId}
use Rattle.protocol.specs.Client.{send}
use Rattle.run.proofs.SameReplies.{same_replies}
use Rattle.run.specs.Replies.{handed_for, answers_for}
use Rattle.run.specs.Run.{Event, to_replica, order_to, Run}
use Rattle.wire.specs.Message.{Message, PREPARE, PREPARED}
use Rattle.witness.proofs.Cast.{replica_1, register_1, register_2, client_4, 1·4, from_client_for, one, service_digest, lathe_digest}
use Rattle.witness.proofs.Computing.{messages, steps}
use Rattle.witness.proofs.Story.{Line, ◌↝◌, ◌↛◌, each, well_told, told, has_bytes}

pub record SameHanded : Type 0 where
  pub run : Run
  pub run' : Run
  pub different_runs : run.events ≡ run'.events → ⊥
  pub same_handed : handed_for run replica_1 register_2 ≡ handed_for run' replica_1 register_2
  pub answers : answers_for run replica_1 register_2 ≡ accepted (send (PREPARED replica_1 1·4 service_digest)) ∷ refused 21 ∷ refused 15 ∷ []
  pub same_answers : answers_for run replica_1 register_2 ≡ answers_for run' replica_1 register_2

-- ---- What happens: client 4, which is faulty, asks replica 1 for 1.4 with two digests

abbrev asks : RegisterId → List ℕ → Event
asks x digest = to_replica replica_1 (from_client_for x client_4 (PREPARE client_4 1·4 digest none none)) one

abbrev gets : List ℕ → Message
gets digest = PREPARED replica_1 1·4 digest

-- An order that ends before its number.
abbrev bad_order : Event
bad_order = order_to replica_1 (0x00 ∷ 0x03 ∷ 4 ∷ [])

story : List Line
story = asks register_2 service_digest ↝ send (gets service_digest) ∷ bad_order ↛ 21 ∷ asks register_2 lathe_digest ↛ 15 ∷ []

-- The second digest goes to register 1 first, which takes it.
story' : List Line
story' =
    asks register_1 lathe_digest ↝ send (gets lathe_digest)
    ∷ asks register_2 service_digest ↝ send (gets service_digest)
    ∷ bad_order ↛ 21
    ∷ asks register_1 lathe_digest ↝ send (gets lathe_digest)
    ∷ asks register_2 lathe_digest ↛ 15
    ∷ []

well_told_lem : each (well_told 3 3) 0 story ≡ true
unfolding story messages has_bytes
well_told_lem = refl

well_told' : each (well_told 3 3) 0 story' ≡ true
unfolding story' messages has_bytes
well_told' = refl

run : Run
run = told 3 3 (lit≤ tt) (lit≤ tt) story well_told_lem

run' : Run
run' = told 3 3 (lit≤ tt) (lit≤ tt) story' well_told'

same_handed : handed_for run replica_1 register_2 ≡ handed_for run' replica_1 register_2
unfolding run run' story story' messages
same_handed = refl

answers : answers_for run replica_1 register_2 ≡ accepted (send (gets service_digest)) ∷ refused 21 ∷ refused 15 ∷ []
unfolding run story steps
answers = refl

pub same_handed_runs : SameHanded
unfolding run run' story story' within
same_handed_runs =
    record {
      run = run;
      run' = run';
      different_runs = λ e. let two : ◌≡◌ {A = ℕ} 3 5 = ap length e in omega arith;
      same_handed = same_handed;
      answers = answers;
      same_answers = same_replies run run' refl replica_1 refl refl refl register_2 same_handed;
    }
