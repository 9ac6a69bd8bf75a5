-- A run at f = 1 that meets the premises, so that the theorem says something of it: three writes, two reads, replica 4 and client 4 faulty. Assumes nothing.
use mathlib.Core.Path.{◌≡◌, refl, subst}
use mathlib.Core.Logic.{⊎_elim}
use mathlib.Core.Bool.{true, false, false≢true}
use mathlib.Core.List.{List, [], ◌∷◌, ◌++◌}
use mathlib.Core.Option.{none, some}
use Prim.Native.Nat.{ℕ, ◌<◌}
use native.Mathlib.Omega.{arith}
use lib.Dec.{lit<, lit≤}
use Rattle.base.specs.Counting.{count}
use Rattle.base.specs.Outcome.{accepted, refused}
use Rattle.base.specs.Range.{within}
use Rattle.base.specs.ReplicaSet.{has}
use Rattle.base.specs.declared.party.ClientId.{ClientId}
use Rattle.base.specs.declared.party.RegisterId.{RegisterId}
use Rattle.base.specs.declared.party.ReplicaId.{ReplicaId}
use Rattle.base.specs.declared.timestamp.Timestamp.{Timestamp}
use Rattle.protocol.specs.Client.{send, waits, done}
use Rattle.run.proofs.Demand3.{demand_3, vouching}
use Rattle.run.specs.Claims.{Finished, Genuine, Claims}
use Rattle.run.specs.Premises.{Premises}
use Rattle.run.specs.Vouching.{Vouching}
use Rattle.run.specs.Run.{begins_write, begins_read, to_replica, to_client, Run, event, answer_at, At, Correct, Said, Sent}
use Rattle.wire.specs.Acceptance.{replica, client}
use Rattle.wire.specs.Message.{Message, READ-STAMP, PREPARE, WRITE, READ, STAMP, PREPARED, WRITTEN, encode}
use Rattle.wire.specs.Proof.{PreparedProof, WrittenProof}
use Rattle.wire.specs.Sha256.{sha256}
use Rattle.witness.proofs.Answers.{code}
use Rattle.witness.proofs.Cast.{replica_1, replica_2, replica_3, replica_4, register_1, client_1, client_2, client_3, client_4, 1·1, 1·4, 2·2, 3·1, at-1·1, by_1_2_4, signature, entry, from_replica, from_client, stale, one, three, four, seven, not_genuine, service, lathe, scrapped, service_digest, lathe_digest}
use Rattle.witness.proofs.Computing.{messages, steps}
use Rattle.witness.proofs.FirstWrite.{proof, prepared, write, written, shows, write_under_way, write_done}
use Rattle.witness.proofs.Checked.{tests, Checked, run_of, goes_as_told, meets_premises}
use Rattle.witness.proofs.Story.{Line, ◌↝◌, ◌↛◌, Told, true_verdicts, only_counted, Sends, sends_told, done_told, refused_told, finished_told, all_bytes, genuine_told}

-- ---- What is said

-- After the first write, the reads of clients 2 and 3.

abbrev asks_card : ClientId → Message
asks_card id = READ id 1

abbrev write_back : Message
write_back = WRITE client_3 service proof

-- Client 4 asks for 1.4 with any digest, and shows the proof of 1.1 with another card.

abbrev asks-1·4 : List ℕ → Message
asks-1·4 digest = PREPARE client_4 1·4 digest none none

abbrev other_card : Message
other_card = WRITE client_4 scrapped proof

-- The second write: client 2 writes `lathe` at 2.2, and shows the proof of 1.1.

abbrev at-2·2 : Timestamp
at-2·2 = record { count = 2; client = client_2 }

abbrev proof_2 : PreparedProof
proof_2 = record { timestamp = 2·2; digest = lathe_digest; entries = entry replica_1 ∷ entry replica_2 ∷ entry replica_4 ∷ [] }

abbrev asks_stamp_2 : Message
asks_stamp_2 = READ-STAMP client_2 2

abbrev stamp_2 : ReplicaId → Message
stamp_2 id = STAMP id 2 (some proof) client_2

abbrev prepare_2 : Message
prepare_2 = PREPARE client_2 2·2 lathe_digest (some proof) none

abbrev prepared_2 : ReplicaId → Message
prepared_2 id = PREPARED id 2·2 lathe_digest

abbrev write_2 : Message
write_2 = WRITE client_2 lathe proof_2

abbrev written_2 : ReplicaId → Message
written_2 id = WRITTEN id 2·2

-- The third write: client 1 writes `service` again at 3.1, and shows the proof of 2.2 and its own written proof of 1.1.

abbrev at-3·1 : Timestamp
at-3·1 = record { count = 3; client = client_1 }

abbrev own_written : WrittenProof
own_written = record { timestamp = 1·1; digest = []; entries = entry replica_1 ∷ entry replica_2 ∷ entry replica_4 ∷ [] }

abbrev proof_3 : PreparedProof
proof_3 = record { timestamp = 3·1; digest = service_digest; entries = entry replica_1 ∷ entry replica_2 ∷ entry replica_4 ∷ [] }

abbrev asks_stamp_3 : Message
asks_stamp_3 = READ-STAMP client_1 2

abbrev stamp_3 : ReplicaId → Message
stamp_3 id = STAMP id 2 (some proof_2) client_1

abbrev prepare_3 : Message
prepare_3 = PREPARE client_1 3·1 service_digest (some proof_2) (some own_written)

abbrev prepared_3 : ReplicaId → Message
prepared_3 id = PREPARED id 3·1 service_digest

abbrev write_3 : Message
write_3 = WRITE client_1 service proof_3

abbrev written_3 : ReplicaId → Message
written_3 id = WRITTEN id 3·1

-- ---- What happens: replicas 1 to 3 and clients 1 to 3 are correct

unfoldable pub story : List Line
unfolding write_under_way write_done
story =
    -- 0 to 15: the first write.
    write_under_way
    ++ write_done
    -- 16 to 21: client 2 reads. Replicas 1, 2 and 4 show 1.1: it is done in one phase.
    ++ begins_read client_2 register_1 ↝ send (asks_card client_2)
    ∷ to_replica replica_1 (from_client client_2 (asks_card client_2)) one ↝ send (shows 1 client_2 replica_1)
    ∷ to_replica replica_2 (from_client client_2 (asks_card client_2)) one ↝ send (shows 1 client_2 replica_2)
    ∷ to_client client_2 (from_replica replica_1 (shows 1 client_2)) four ↝ waits
    ∷ to_client client_2 (from_replica replica_2 (shows 1 client_2)) four ↝ waits
    ∷ to_client client_2 (from_replica replica_4 (shows 1 client_2)) four ↝ done at-1·1 service by_1_2_4
    -- 22 and 23: client 4 asks replica 3 for 1.4 with one digest, and then with another.
    ∷ to_replica replica_3 (from_client client_4 (asks-1·4 service_digest)) one ↝ send (PREPARED replica_3 1·4 service_digest)
    ∷ to_replica replica_3 (from_client client_4 (asks-1·4 lathe_digest)) one ↛ 15
    -- 24 to 29: client 3 reads. Replica 4 shows 0.0, so that only two show 1.1: it is written back.
    ∷ begins_read client_3 register_1 ↝ send (asks_card client_3)
    ∷ to_replica replica_1 (from_client client_3 (asks_card client_3)) one ↝ send (shows 1 client_3 replica_1)
    ∷ to_replica replica_2 (from_client client_3 (asks_card client_3)) one ↝ send (shows 1 client_3 replica_2)
    ∷ to_client client_3 (from_replica replica_1 (shows 1 client_3)) four ↝ waits
    ∷ to_client client_3 (from_replica replica_2 (shows 1 client_3)) four ↝ waits
    ∷ to_client client_3 (from_replica replica_4 (stale 1 client_3)) one ↝ send write_back
    -- 30 to 35: before that is done client 2 begins a write. All show 1.1, so it asks for 2.2.
    ∷ begins_write client_2 register_1 lathe ↝ send asks_stamp_2
    ∷ to_replica replica_1 (from_client client_2 asks_stamp_2) one ↝ send (stamp_2 replica_1)
    ∷ to_replica replica_2 (from_client client_2 asks_stamp_2) one ↝ send (stamp_2 replica_2)
    ∷ to_client client_2 (from_replica replica_1 stamp_2) four ↝ waits
    ∷ to_client client_2 (from_replica replica_2 stamp_2) four ↝ waits
    ∷ to_client client_2 (from_replica replica_4 stamp_2) four ↝ send prepare_2
    -- 36 and 37: replica 3, which held 0.0, takes what client 3 writes back: the read is done, while the write goes on.
    ∷ to_replica replica_3 (from_client client_3 write_back) four ↝ send (written replica_3)
    ∷ to_client client_3 (from_replica replica_3 written) one ↝ done at-1·1 service by_1_2_4
    -- 38 to 42: the PREPAREDs of 2.2.
    ∷ to_replica replica_1 (from_client client_2 prepare_2) four ↝ send (prepared_2 replica_1)
    ∷ to_replica replica_2 (from_client client_2 prepare_2) four ↝ send (prepared_2 replica_2)
    ∷ to_client client_2 (from_replica replica_1 prepared_2) one ↝ waits
    ∷ to_client client_2 (from_replica replica_2 prepared_2) one ↝ waits
    ∷ to_client client_2 (from_replica replica_4 prepared_2) one ↝ send write_2
    -- 43 to 47: the WRITTENs of 2.2: the second write is done.
    ∷ to_replica replica_1 (from_client client_2 write_2) four ↝ send (written_2 replica_1)
    ∷ to_replica replica_2 (from_client client_2 write_2) four ↝ send (written_2 replica_2)
    ∷ to_client client_2 (from_replica replica_1 written_2) one ↝ waits
    ∷ to_client client_2 (from_replica replica_2 written_2) one ↝ waits
    ∷ to_client client_2 (from_replica replica_4 written_2) one ↝ done at-2·2 lathe by_1_2_4
    -- 48 to 54: client 1 begins its second write, and is busy then. It asks for 3.1.
    ∷ begins_write client_1 register_1 service ↝ send asks_stamp_3
    ∷ begins_read client_1 register_1 ↛ 17
    ∷ to_replica replica_1 (from_client client_1 asks_stamp_3) one ↝ send (stamp_3 replica_1)
    ∷ to_replica replica_2 (from_client client_1 asks_stamp_3) one ↝ send (stamp_3 replica_2)
    ∷ to_client client_1 (from_replica replica_1 stamp_3) four ↝ waits
    ∷ to_client client_1 (from_replica replica_2 stamp_3) four ↝ waits
    ∷ to_client client_1 (from_replica replica_4 stamp_3) four ↝ send prepare_3
    -- 55 to 59: its slots at 1.1 are closed by its written proof, and take 3.1.
    ∷ to_replica replica_1 (from_client client_1 prepare_3) seven ↝ send (prepared_3 replica_1)
    ∷ to_replica replica_2 (from_client client_1 prepare_3) seven ↝ send (prepared_3 replica_2)
    ∷ to_client client_1 (from_replica replica_1 prepared_3) one ↝ waits
    ∷ to_client client_1 (from_replica replica_2 prepared_3) one ↝ waits
    ∷ to_client client_1 (from_replica replica_4 prepared_3) one ↝ send write_3
    -- 60 to 65: a WRITTEN in replica 2's name, with a signature that its box did not make, has the verdict 0. Then the right ones come: the third
    -- write is done.
    ∷ to_replica replica_1 (from_client client_1 write_3) four ↝ send (written_3 replica_1)
    ∷ to_client client_1 (encode register_1 (written_3 replica_2) (signature replica_4)) not_genuine ↛ 8
    ∷ to_replica replica_2 (from_client client_1 write_3) four ↝ send (written_3 replica_2)
    ∷ to_client client_1 (from_replica replica_1 written_3) one ↝ waits
    ∷ to_client client_1 (from_replica replica_2 written_3) one ↝ waits
    ∷ to_client client_1 (from_replica replica_4 written_3) one ↝ done at-3·1 service by_1_2_4
    -- 66: client 4 shows the proof of 1.1 with another card.
    ∷ to_replica replica_3 (from_client client_4 other_card) four ↛ 14
    ∷ []

checked : Checked 3 3 story
unfolding story tests
checked = record { at_most_four = lit≤ tt; at_most_96 = lit≤ tt; well_told_lem = refl; answers = refl; few_faulty = lit≤ tt; verdicts_true = refl; new_nonces_lem = refl; no_other_cards = refl }

pub run : Run
run = run_of checked

pub as_told : Told run story
unfolding run
as_told = goes_as_told checked

-- ---- The run meets the premises, and the theorem is applied to it

pub premises : Premises run
unfolding run
premises = meets_premises checked

pub claims : (x : RegisterId) → Claims run x
claims = demand_3 run premises

-- ---- Its finished operations

unfoldable pub first_write : Finished run register_1
unfolding story code messages
first_write = finished_told run story as_told register_1 client_1 0 15 _ _ _ at-1·1 service by_1_2_4 refl (lit< tt) refl refl refl true (service, refl) refl

unfoldable pub read : Finished run register_1
unfolding story code messages
read = finished_told run story as_told register_1 client_2 16 21 _ _ _ at-1·1 service by_1_2_4 refl (lit< tt) refl refl refl false refl refl

-- Client 2 sends nothing after its READ.
pub in_one_phase : (t : ℕ) → 16 < t → t < 21 → At run t (client client_2) → answer_at run t ≡ accepted waits
unfolding story code messages
in_one_phase = only_counted run story as_told client_2 16 21 refl

unfoldable pub read_with_write_back : Finished run register_1
unfolding story code messages
read_with_write_back = finished_told run story as_told register_1 client_3 24 37 _ _ _ at-1·1 service by_1_2_4 refl (lit< tt) refl refl refl false refl refl

pub second_write : Finished run register_1
unfolding story code messages
second_write = finished_told run story as_told register_1 client_2 30 47 _ _ _ at-2·2 lathe by_1_2_4 refl (lit< tt) refl refl refl true (lathe, refl) refl

pub third_write : Finished run register_1
unfolding story code messages
third_write = finished_told run story as_told register_1 client_1 48 65 _ _ _ at-3·1 service by_1_2_4 refl (lit< tt) refl refl refl true (service, refl) refl

-- ---- Who vouched for the cards

pub vouched : Vouching run register_1
vouched = vouching run premises register_1

-- All show replicas 1, 2 and 4, whose PREPAREDs made the proofs: the faulty replica's bit among them.
pub signers : (first_write.signers ≡ by_1_2_4) × (read.signers ≡ by_1_2_4) × (read_with_write_back.signers ≡ by_1_2_4) × (second_write.signers ≡ by_1_2_4) × (third_write.signers ≡ by_1_2_4)
unfolding finished_told first_write read read_with_write_back second_write third_write
signers = (refl, refl, refl, refl, refl)

-- They are not the replicas that showed a read its card: to this one replica 4 showed 0.0, and replica 3, which took the
-- write-back and made it done, is not among them.
pub signers_are_not_those_who_showed :
    (has read_with_write_back.signers replica_4 ≡ true) × (event run 29 ≡ some (to_client client_3 (from_replica replica_4 (stale 1 client_3)) one))
    × (has read_with_write_back.signers replica_3 ≡ false) × (event run 37 ≡ some (to_client client_3 (from_replica replica_3 written) one))
unfolding run story finished_told read_with_write_back has within
signers_are_not_those_who_showed = (refl, refl, refl, refl)

-- What the theorem says of that read: replica 2, which is correct, said PREPARED for its card.
pub replica_2_vouched : Said run register_1 (replica replica_2) (PREPARED replica_2 1·1 (sha256 service)) 38
unfolding run finished_told read_with_write_back has within
replica_2_vouched = ⊎_elim (λ nobody. let z = nobody.0 in absurd (omega arith)) (λ set. set.2 replica_2 refl refl) (vouched.operations read_with_write_back)

-- A read and a write overlap: each began before the other finished.
pub overlap : (read_with_write_back.begun < second_write.finished) × (second_write.begun < read_with_write_back.finished)
unfolding finished_told read_with_write_back second_write
overlap = (lit< tt, lit< tt)

-- The second write shows the proof of 1.1, the third one that of 2.2 and the client's own written proof of 1.1.
pub second_shows : Sends run register_1 35 (PREPARE client_2 2·2 lathe_digest (some proof) none)
unfolding story messages
second_shows = sends_told run story as_told 35 _ prepare_2 refl

pub third_shows : Sends run register_1 54 (PREPARE client_1 3·1 service_digest (some proof_2) (some own_written))
unfolding story messages
third_shows = sends_told run story as_told 54 _ prepare_3 refl

-- ---- What is refused

-- A faulty client's second digest for one timestamp; a beginning of a busy client; a signature with the verdict 0; a card that is not the proof's.
pub refusals : (answer_at run 23 ≡ refused 15) × (answer_at run 49 ≡ refused 17) × (answer_at run 61 ≡ refused 8) × (answer_at run 66 ≡ refused 14)
unfolding story
refusals = (
  refused_told run story as_told 23 _ 15 refl,
  refused_told run story as_told 49 _ 17 refl,
  refused_told run story as_told 61 _ 8 refl,
  refused_told run story as_told 66 _ 14 refl,
)

-- ---- The faulty client and replica take part

pub client_4_is_faulty : Correct run (client client_4) → ⊥
unfolding run within
client_4_is_faulty correct = false≢true correct

pub replica_4_is_faulty : Correct run (replica replica_4) → ⊥
unfolding run within
replica_4_is_faulty correct = false≢true correct

-- No event made its signatures.
pub replica_4_sent_nothing : (bytes : List ℕ) (t : ℕ) → Sent run (replica replica_4) bytes t → ⊥
replica_4_sent_nothing bytes t sent = let at = sent.said.by in replica_4_is_faulty (subst (Correct run) at.2 (run.at_correct sent.said.time at.0 at.1))

-- Its PREPARED, with verdict 1, makes the quorum: the WRITE's proof has its signature.
pub its_prepared_counts : (event run 10 ≡ some (to_client client_1 (from_replica replica_4 prepared) (1 ∷ []))) × Sends run register_1 10 (WRITE client_1 service proof)
unfolding run story messages
its_prepared_counts = (refl, sends_told run story as_told 10 _ write refl)

-- So does its WRITTEN.
pub its_written_counts : (event run 15 ≡ some (to_client client_1 (from_replica replica_4 written) (1 ∷ []))) × (answer_at run 15 ≡ accepted (done at-1·1 service by_1_2_4))
unfolding run story
its_written_counts = (refl, done_told run story as_told 15 _ at-1·1 service by_1_2_4 refl)

-- Its CARD of 0.0 forces the write-back.
pub its_stale_card_forces_write_back : (event run 29 ≡ some (to_client client_3 (from_replica replica_4 (stale 1 client_3)) (1 ∷ []))) × Sends run register_1 29 (WRITE client_3 service proof)
unfolding run story messages
its_stale_card_forces_write_back = (refl, sends_told run story as_told 29 _ write_back refl)

-- ---- Claims read off

genuine_proof : Genuine run register_1 proof
unfolding run story steps all_bytes true_verdicts
genuine_proof = genuine_told run story as_told register_1 proof three refl refl refl refl refl

-- Whoever gathers a prepared proof of 1.1 for register 1 has this digest in it.
pub one-digest-at-1·1 : (other : PreparedProof) → Genuine run register_1 other → other.timestamp ≡ 1·1 → other.digest ≡ service_digest
one-digest-at-1·1 other genuine at = (claims register_1).one_digest other proof genuine genuine_proof at
