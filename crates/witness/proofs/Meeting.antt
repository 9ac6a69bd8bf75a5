-- One run in which everything meets, that of `TwoRegisters`: a faulty replica, writes of two registers, a view that follows a finished write, a
-- refused beginning and refused messages. Assumes nothing.
use mathlib.Core.Path.{◌≡◌, refl}
use mathlib.Core.Bool.{false}
use mathlib.Core.Option.{some}
use Prim.Native.Nat.{ℕ, ◌<◌, ◌≤◌}
use lib.Dec.{lit<}
use lib.ListN.{get_elem?}
use Rattle.base.specs.Outcome.{refused}
use Rattle.base.specs.Timestamp.{number}
use Rattle.run.proofs.Demand3.{demand_3}
use Rattle.run.specs.Claims.{Finished, Viewed}
use Rattle.run.specs.Premises.{Premises}
use Rattle.run.specs.Run.{Event, begins_read, to_replica, to_client, Run, event, answer_at}
use Rattle.witness.proofs.Answers.{code}
use Rattle.witness.proofs.Cast.{replica_1, replica_4, register_1, register_2, client_1, viewer_65, at-1·1, by_1_2_4, from_replica, one, not_genuine, lathe}
use Rattle.witness.proofs.Computing.{messages}
use Rattle.witness.proofs.FirstWrite.{written}
use Rattle.witness.proofs.Story.{◌↛◌, event_told, refused_told, finished_told, viewed_told}
use Rattle.witness.proofs.TwoRegisters.{register_17, asks_stamp, story, run, as_told, premises, faulty, first_write, second_write}

-- Some event is this one, and refused with that number.
abbrev pub Refuses : Run → Event → ℕ → Type 0
Refuses R e refusal = (t : ℕ) × (event R t ≡ some e) × (answer_at R t ≡ refused refusal)

pub record Meeting (R : Run) : Type 0 where
  pub premises : Premises R
  pub faulty : R.correct_replica replica_4 ≡ false
  pub other_write : Finished R register_1
  pub write : Finished R register_2
  -- The view began when the write of its register was done: what `view_after` says of the two.
  pub view : Viewed R register_2
  pub follows : write.finished < view.begun
  pub not_earlier : number write.timestamp ≤ number view.timestamp
  -- A beginning, a reply for the register that is not awaited, and a request that no viewing client makes.
  pub refused_beginning : Refuses R (begins_read viewer_65 register_17) 20
  pub refused_reply : Refuses R (to_client client_1 (from_replica replica_1 written) one) 18
  pub refused_request : Refuses R (to_replica replica_1 asks_stamp not_genuine) 19

the_view : Viewed run register_2
unfolding story code messages
the_view = viewed_told run story as_told register_2 viewer_65 34 40 _ _ _ at-1·1 lathe by_1_2_4 refl (lit< tt) refl refl refl refl refl

shows_no_earlier : number second_write.timestamp ≤ number the_view.timestamp
unfolding finished_told viewed_told second_write the_view
shows_no_earlier = (demand_3 run premises register_2).view_after second_write the_view (lit< tt)

refuses : (t : ℕ) (e : Event) (refusal : ℕ) → get_elem? story t ≡ some (e ↛ refusal) → Refuses run e refusal
refuses t e refusal at = (t, event_told run story as_told t (e ↛ refusal) at, refused_told run story as_told t e refusal at)

pub meeting : Meeting run
unfolding story finished_told viewed_told second_write the_view
meeting =
    record {
      premises = premises;
      faulty = faulty;
      other_write = first_write;
      write = second_write;
      view = the_view;
      follows = lit< tt;
      not_earlier = shows_no_earlier;
      refused_beginning = refuses 33 _ 20 refl;
      refused_reply = refuses 28 _ 18 refl;
      refused_request = refuses 35 _ 19 refl;
    }
