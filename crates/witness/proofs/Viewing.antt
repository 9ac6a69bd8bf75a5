-- A run at f = 1 that meets the premises, with one write and three views: they fall back while the write is under way, and show it when it is done. Assumes nothing.
use mathlib.Core.Path.{◌≡◌, refl}
use mathlib.Core.Bool.{true, false≢true}
use mathlib.Core.List.{List, [], ◌∷◌, ◌++◌}
use mathlib.Core.Option.{some}
use Prim.Native.Nat.{ℕ, suc, ◌≤◌, ◌<◌}
use lib.Dec.{lit<, lit≤}
use Rattle.base.specs.Range.{within}
use Rattle.base.specs.ReplicaSet.{empty}
use Rattle.base.specs.Timestamp.{number, start}
use Rattle.base.specs.declared.party.ClientId.{ClientId}
use Rattle.base.specs.declared.party.ReplicaId.{ReplicaId}
use Rattle.protocol.specs.Client.{Answer, send, waits, done}
use Rattle.protocol.specs.Parts.{start_card}
use Rattle.run.proofs.Demand3.{demand_3, vouching}
use Rattle.run.specs.Claims.{Finished, Viewed}
use Rattle.run.specs.Premises.{Premises}
use Rattle.run.specs.Vouching.{VouchedFor}
use Rattle.run.specs.Run.{begins_read, to_replica, to_client, Run, event, Correct}
use Rattle.wire.specs.Acceptance.{replica}
use Rattle.wire.specs.Message.{Message, READ}
use Rattle.witness.proofs.Answers.{code}
use Rattle.witness.proofs.Cast.{replica_1, replica_2, replica_3, replica_4, register_1, client_1, viewer_65, at-1·1, by_1_2_4, from_replica, from_client, stale, one, four, service}
use Rattle.witness.proofs.Computing.{messages}
use Rattle.witness.proofs.FirstWrite.{shows, write_under_way, write_done}
use Rattle.witness.proofs.Checked.{tests, Checked, run_of, goes_as_told, meets_premises}
use Rattle.witness.proofs.Story.{Line, ◌↝◌, Told, finished_told, viewed_told}

-- A view begun after a write was done shows that write and its signers, although the CARD that makes its quorum is a faulty replica's and shows 0.0.
pub record ShowsWrite (R : Run) : Type 0 where
  pub write : Finished R register_1
  pub write_is : (write.is_write_lem ≡ true) × (write.timestamp ≡ at-1·1) × (write.card ≡ service) × (write.signers ≡ by_1_2_4)
  pub view : Viewed R register_1
  pub begun_after : write.finished < view.begun
  pub faulty : ReplicaId
  pub is_faulty : Correct R (replica faulty) → ⊥
  pub nonce : ℕ
  pub last_card : event R view.finished ≡ some (to_client view.id (from_replica faulty (stale nonce view.id)) one)
  pub view_shows : (view.timestamp ≡ at-1·1) × (view.card ≡ service) × (view.signers ≡ write.signers)

-- While a write is under way a view shows its timestamp, and the viewing client's next view an earlier one. In an order by
-- timestamps the second view would lie before the first, which was done before it began.
pub record FallsBack (R : Run) : Type 0 where
  pub write : Finished R register_1
  pub is_write_lem : write.is_write_lem ≡ true
  pub first : Viewed R register_1
  pub second : Viewed R register_1
  pub one_client : first.id ≡ second.id
  pub under_way : (write.begun < first.begun) × (second.finished < write.finished)
  pub same_timestamp : first.timestamp ≡ write.timestamp
  pub begun_after : first.finished < second.begun
  pub earlier : number second.timestamp < number first.timestamp
  -- "for 0.0, no holders"
  pub nobody : second.signers ≡ empty

-- ---- What happens: replicas 1 to 3 and clients 1 to 65 are correct

-- A view, of six events: replicas a and b are asked, and b shows 0.0. So does replica 4, which is faulty and makes the quorum.
abbrev view : ℕ → ReplicaId → (ℕ → ClientId → ReplicaId → Message) → List ℕ → ReplicaId → Answer → List Line
view nonce a card verdicts b shown =
    begins_read viewer_65 register_1 ↝ send (READ viewer_65 nonce)
    ∷ to_replica a (from_client viewer_65 (READ viewer_65 nonce)) one ↝ send (card nonce viewer_65 a)
    ∷ to_replica b (from_client viewer_65 (READ viewer_65 nonce)) one ↝ send (stale nonce viewer_65 b)
    ∷ to_client viewer_65 (from_replica a (card nonce viewer_65)) verdicts ↝ waits
    ∷ to_client viewer_65 (from_replica b (stale nonce viewer_65)) one ↝ waits
    ∷ to_client viewer_65 (from_replica replica_4 (stale nonce viewer_65)) one ↝ shown
    ∷ []

story : List Line
unfolding write_under_way write_done
story =
    -- 0 to 11: client 1 writes 1.1, and its WRITE has reached replica 1.
    write_under_way
    -- 12 to 17: replica 1 shows 1.1.
    ++ view 1 replica_1 shows four replica_2 (done at-1·1 service by_1_2_4)
    -- 18 to 23: replicas 2 and 3 show 0.0.
    ++ view 2 replica_2 stale one replica_3 (done start start_card empty)
    -- 24 to 27: the WRITE reaches replica 2, and the write is done.
    ++ write_done
    -- 28 to 33: replica 2 shows 1.1, and replica 3 still 0.0.
    ++ view 3 replica_2 shows four replica_3 (done at-1·1 service by_1_2_4)

checked : Checked 3 65 story
unfolding story tests
checked = record { at_most_four = lit≤ tt; at_most_96 = lit≤ tt; well_told_lem = refl; answers = refl; few_faulty = lit≤ tt; verdicts_true = refl; new_nonces_lem = refl; no_other_cards = refl }

pub run : Run
run = run_of checked

as_told : Told run story
unfolding run
as_told = goes_as_told checked

pub premises : Premises run
unfolding run
premises = meets_premises checked

-- ---- The write and the views

write : Finished run register_1
unfolding story code messages
write = finished_told run story as_told register_1 client_1 0 27 _ _ _ at-1·1 service by_1_2_4 refl (lit< tt) refl refl refl true (service, refl) refl

first_view : Viewed run register_1
unfolding story code messages
first_view = viewed_told run story as_told register_1 viewer_65 12 17 _ _ _ at-1·1 service by_1_2_4 refl (lit< tt) refl refl refl refl refl

second_view : Viewed run register_1
unfolding story code messages
second_view = viewed_told run story as_told register_1 viewer_65 18 23 _ _ _ start start_card empty refl (lit< tt) refl refl refl refl refl

third_view : Viewed run register_1
unfolding story code messages
third_view = viewed_told run story as_told register_1 viewer_65 28 33 _ _ _ at-1·1 service by_1_2_4 refl (lit< tt) refl refl refl refl refl

pub shows_write : ShowsWrite run
unfolding run story within finished_told viewed_told write third_view
shows_write =
    record {
      write = write;
      write_is = (refl, refl, refl, refl);
      view = third_view;
      begun_after = lit< tt;
      faulty = replica_4;
      is_faulty = λ correct. false≢true correct;
      nonce = 3;
      last_card = refl;
      view_shows = (refl, refl, refl);
    }

-- The claim about views, at this one.
pub not_earlier : number shows_write.write.timestamp ≤ number shows_write.view.timestamp
not_earlier = (demand_3 run premises register_1).view_after shows_write.write shows_write.view shows_write.begun_after

-- The theorem about signers, at this one.
pub view_vouched : VouchedFor run register_1 shows_write.view.timestamp shows_write.view.card shows_write.view.signers (suc shows_write.view.finished)
view_vouched = (vouching run premises register_1).views shows_write.view

pub falls_back : FallsBack run
unfolding finished_told viewed_told write first_view second_view
falls_back =
    record {
      write = write;
      is_write_lem = refl;
      first = first_view;
      second = second_view;
      one_client = refl;
      under_way = (lit< tt, lit< tt);
      same_timestamp = refl;
      begun_after = lit< tt;
      earlier = lit< tt;
      nobody = refl;
    }
