-- Document 02, #105, is not empty: a run that meets the premises where each correct replica takes an order that withdraws client 4, refuses
-- its READ and PREPARE with 23, and takes client 5's WRITE of client 4's timestamp and its PREPARE on client 4's prepared proof; client 1,
-- which is correct, then reads client 4's card. The run is played for any key under which the order is good; `GoodOrder` has one. Assumes nothing.
use mathlib.Core.Path.{◌≡◌, refl}
use mathlib.Core.Bool.{true}
use mathlib.Core.List.{List, [], ◌∷◌}
use mathlib.Core.Option.{none, some}
use Prim.Native.Nat.{ℕ, ◌+◌, ◌≤◌, ◌<◌}
use native.Mathlib.Omega.{arith}
use lib.Dec.{lit<, lit≤}
use lib.ListN.{get_elem?}
use Rattle.base.proofs.Range.{bounds}
use Rattle.base.specs.Outcome.{accepted, refused}
use Rattle.base.specs.declared.party.ReplicaId.{ReplicaId}
use Rattle.protocol.specs.Client.{send, waits, done}
use Rattle.run.specs.Premises.{Premises}
use Rattle.run.specs.Run.{Event, to_replica, order_to, begins_read, to_client, Run, event, answer_at}
use Rattle.run.specs.Withdrawals.{OrderTaken}
use Rattle.wire.specs.Decode.{register_in}
use Rattle.wire.specs.Message.{Message, PREPARE, WRITE, READ, PREPARED, WRITTEN, CARD}
use Rattle.wire.specs.Proof.{PreparedProof}
use Rattle.witness.proofs.Cast.{of_three, replica_1, replica_2, replica_3, register_1, client_1, client_4, client_5, 1·4, 2·5, at-1·4, by_1_2_3, entry, from_replica, from_client, one, four, service, service_digest, lathe_digest}
use Rattle.witness.proofs.Computing.{messages}
use Rattle.witness.proofs.GoodOrder.{order}
use Rattle.witness.proofs.Checked.{tests}
use Rattle.witness.proofs.Ordered.{Ordered, run_of, goes_as_told, meets_premises, takes_order}
use Rattle.witness.proofs.Replay.{plays_by}
use Rattle.witness.proofs.Story.{Line, ◌↝◌, ◌↛◌, Told, Sends, event_told, sends_told, done_told, refused_told}

-- ---- What happens: replicas 1 to 3 and client 1 are correct; clients 4 and 5 are faulty, and so bound to no rule

abbrev proof : PreparedProof
proof = record { timestamp = 1·4; digest = service_digest; entries = entry replica_1 ∷ entry replica_2 ∷ entry replica_3 ∷ [] }

abbrev prepare_4 : List ℕ
prepare_4 = from_client client_4 (PREPARE client_4 1·4 service_digest none none)

abbrev read_4 : List ℕ
read_4 = from_client client_4 (READ client_4 1)

abbrev write_5 : List ℕ
write_5 = from_client client_5 (WRITE client_5 service proof)

abbrev prepare_5 : List ℕ
prepare_5 = from_client client_5 (PREPARE client_5 2·5 lathe_digest (some proof) none)

abbrev read_1 : Message
read_1 = READ client_1 1

abbrev shows : ReplicaId → Message
shows id = CARD id 1 service (some proof) client_1

-- Each line for the three.
abbrev at_each : (ReplicaId → Line) → List Line → List Line
at_each line lines = line replica_1 ∷ line replica_2 ∷ line replica_3 ∷ lines

unfoldable pub story : List Line
story =
    -- 0 to 2: client 4 has 1.4 prepared.
    at_each (λ id. to_replica id prepare_4 one ↝ send (PREPARED id 1·4 service_digest))
    -- 3 to 5: the order is taken.
    (at_each (λ id. order_to id order ↝ waits)
    -- 6 to 11: client 4's READ and PREPARE are refused.
    (at_each (λ id. to_replica id read_4 one ↛ 23)
    (at_each (λ id. to_replica id prepare_4 one ↛ 23)
    -- 12 to 17: client 5's WRITE of 1.4 is taken, and its PREPARE of 2.5 on the proof of 1.4.
    (at_each (λ id. to_replica id write_5 four ↝ send (WRITTEN id 1·4))
    (at_each (λ id. to_replica id prepare_5 four ↝ send (PREPARED id 2·5 lathe_digest))
    -- 18 to 24: client 1 reads 1.4.
    (begins_read client_1 register_1 ↝ send read_1
    ∷ at_each (λ id. to_replica id (from_client client_1 read_1) one ↝ send (shows id))
    (to_client client_1 (from_replica replica_1 shows) four ↝ waits
    ∷ to_client client_1 (from_replica replica_2 shows) four ↝ waits
    ∷ to_client client_1 (from_replica replica_3 shows) four ↝ done at-1·4 service by_1_2_3
    ∷ [])))))))

checked : Ordered 3 3 story
unfolding story order tests plays_by
checked = record { at_most_four = lit≤ tt; at_most_96 = lit≤ tt; well_told_lem = refl; all_are = refl; answers = refl; few_faulty = lit≤ tt; verdicts_true = refl; new_nonces_lem = refl; no_other_cards = refl }

pub run : Run
run = run_of checked

as_told : Told run story
unfolding run
as_told = goes_as_told checked

pub premises : Premises run
unfolding run
premises = meets_premises checked

pub read_done : answer_at run 24 ≡ accepted (done at-1·4 service by_1_2_3)
unfolding story
read_done = done_told run story as_told 24 _ at-1·4 service by_1_2_3 refl

-- ---- What is seen at a replica

-- Some event behind the orders is this one, and so answered.
abbrev pub Later : Event → (ℕ → Type 0) → Type 0
Later e answered = (t : ℕ) × (6 ≤ t) × (event run t ≡ some e) × answered t

pub record SeenAt (id : ReplicaId) : Type 0 where
  pub order_taken : OrderTaken run id client_4 6
  pub read_refused : Later (to_replica id read_4 one) (λ t. answer_at run t ≡ refused 23)
  pub prepare_refused : Later (to_replica id prepare_4 one) (λ t. answer_at run t ≡ refused 23)
  pub write_taken : Later (to_replica id write_5 four) (λ t. Sends run register_1 t (WRITTEN id 1·4))
  pub prepare_taken : Later (to_replica id prepare_5 four) (λ t. Sends run register_1 t (PREPARED id 2·5 lathe_digest))

refuses : (t : ℕ) (e : Event) → 6 ≤ t → get_elem? story t ≡ some (e ↛ 23) → Later e (λ s. answer_at run s ≡ refused 23)
refuses t e behind at = (t, behind, event_told run story as_told t (e ↛ 23) at, refused_told run story as_told t e 23 at)

sends : (t : ℕ) (id : ReplicaId) (bytes verdicts : List ℕ) (message : Message) → 6 ≤ t → get_elem? story t ≡ some (to_replica id bytes verdicts ↝ send message)
    → Later (to_replica id bytes verdicts) (λ s. Sends run (register_in bytes) s message)
sends t id bytes verdicts message behind at =
    let line = to_replica id bytes verdicts ↝ send message in
    (t, behind, event_told run story as_told t line at, sends_told run story as_told t (to_replica id bytes verdicts) message at)

-- The lines of the i-th of the three.
seen_in_lem : (i : ℕ) (id : ReplicaId) → i < 3
    → get_elem? story (3 + i) ≡ some (order_to id order ↝ waits)
    → get_elem? story (6 + i) ≡ some (to_replica id read_4 one ↛ 23)
    → get_elem? story (9 + i) ≡ some (to_replica id prepare_4 one ↛ 23)
    → get_elem? story (12 + i) ≡ some (to_replica id write_5 four ↝ send (WRITTEN id 1·4))
    → get_elem? story (15 + i) ≡ some (to_replica id prepare_5 four ↝ send (PREPARED id 2·5 lathe_digest))
    → SeenAt id
unfolding messages run
seen_in_lem i id few taken read prepare write after =
    record {
      order_taken = takes_order checked (3 + i) 6 id (omega arith) taken;
      read_refused = refuses (6 + i) _ (omega arith) read;
      prepare_refused = refuses (9 + i) _ (omega arith) prepare;
      write_taken = sends (12 + i) id write_5 four _ (omega arith) write;
      prepare_taken = sends (15 + i) id prepare_5 four _ (omega arith) after;
    }

pub seen : (id : ReplicaId) → run.correct_replica id ≡ true → SeenAt id
unfolding run story
seen id c =
    let range = bounds 1 3 id.0 c in
    of_three SeenAt id range.0 range.1 (seen_in_lem 0 replica_1 (lit< tt) refl refl refl refl refl)
    (seen_in_lem 1 replica_2 (lit< tt) refl refl refl refl refl) (seen_in_lem 2 replica_3 (lit< tt) refl refl refl refl refl)
