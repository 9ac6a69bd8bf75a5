-- Document 02, #108, is not empty, and tight: a run that meets the premises where client 4, which is faulty as replica 4 is, has 1.4 written at two
-- correct replicas and 2.4 prepared before it is withdrawn everywhere. S is 1.4, and the only timestamp of client 4's above it that can be proved
-- is 2.4, which client 5 then writes and client 1 reads. Above the (f + 2)th there are two. Assumes nothing.
use mathlib.Core.Path.{◌≡◌, refl, ap}
use mathlib.Core.List.{List, [], ◌∷◌}
use mathlib.Core.Option.{none, some}
use Prim.Native.Nat.{ℕ, ◌<◌}
use native.Mathlib.Omega.{arith}
use lib.Dec.{lit<, lit≤}
use lib.ListN.{get_or}
use Rattle.base.proofs.Range.{bounds}
use Rattle.base.specs.Falling.{insert, falling}
use Rattle.base.specs.Outcome.{accepted}
use Rattle.base.specs.Range.{within}
use Rattle.base.specs.declared.party.RegisterId.{RegisterId}
use Rattle.base.specs.declared.party.ReplicaId.{ReplicaId}
use Rattle.protocol.specs.Client.{send, waits, done}
use Rattle.run.proofs.Lurking.{lurking}
use Rattle.run.specs.Claims.{Genuine}
use Rattle.run.specs.Lurking.{held_falling, bar, WithdrawnEverywhere, LeftBehind, AtMostOne}
use Rattle.run.specs.Premises.{Premises}
use Rattle.run.specs.Run.{to_replica, order_to, begins_read, to_client, Run, answer_at}
use Rattle.run.specs.Withdrawals.{OrderTaken}
use Rattle.wire.specs.Message.{Message, PREPARE, WRITE, READ, PREPARED, WRITTEN, CARD}
use Rattle.wire.specs.Proof.{PreparedProof, WrittenProof}
use Rattle.witness.proofs.Cast.{of_three, replica_1, replica_2, replica_3, replica_4, register_2, client_1, client_4, client_5, 1·4, 2·4, at-2·4, by_1_2_4, entry, from_replica_for, from_client_for, one, three, four, seven, service, lathe, service_digest, lathe_digest}
use Rattle.witness.proofs.Checked.{tests}
use Rattle.witness.proofs.Computing.{steps, digests}
use Rattle.witness.proofs.GoodOrder.{order}
use Rattle.witness.proofs.Ordered.{Ordered, run_of, goes_as_told, meets_premises, takes_order, falls_told}
use Rattle.witness.proofs.Replay.{store_after, plays_by}
use Rattle.witness.proofs.Story.{Line, ◌↝◌, Told, true_verdicts, all_bytes, done_told, genuine_told}

-- ---- What happens: replicas 1 to 3 and client 1 are correct; replica 4 signs all that client 4 likes

abbrev pub proof_1 : PreparedProof
proof_1 = record { timestamp = 1·4; digest = service_digest; entries = entry replica_1 ∷ entry replica_2 ∷ entry replica_4 ∷ [] }

abbrev proof_2 : PreparedProof
proof_2 = record { timestamp = 2·4; digest = lathe_digest; entries = entry replica_1 ∷ entry replica_2 ∷ entry replica_4 ∷ [] }

abbrev written_1 : WrittenProof
written_1 = record { timestamp = 1·4; digest = []; entries = entry replica_1 ∷ entry replica_2 ∷ entry replica_4 ∷ [] }

abbrev pub prepare_1 : List ℕ
prepare_1 = from_client_for register_2 client_4 (PREPARE client_4 1·4 service_digest none none)

abbrev write_1 : List ℕ
write_1 = from_client_for register_2 client_4 (WRITE client_4 service proof_1)

abbrev pub prepare_2 : List ℕ
prepare_2 = from_client_for register_2 client_4 (PREPARE client_4 2·4 lathe_digest (some proof_1) (some written_1))

abbrev write_2 : List ℕ
write_2 = from_client_for register_2 client_5 (WRITE client_5 lathe proof_2)

abbrev read : Message
read = READ client_1 1

abbrev shows : ReplicaId → Message
shows id = CARD id 1 lathe (some proof_2) client_1

unfoldable story : List Line
story =
    -- 0 to 3: client 4 has 1.4 prepared and written at replicas 1 and 2.
    to_replica replica_1 prepare_1 one ↝ send (PREPARED replica_1 1·4 service_digest)
    ∷ to_replica replica_2 prepare_1 one ↝ send (PREPARED replica_2 1·4 service_digest)
    ∷ to_replica replica_1 write_1 four ↝ send (WRITTEN replica_1 1·4)
    ∷ to_replica replica_2 write_1 four ↝ send (WRITTEN replica_2 1·4)
    -- 4 to 8: the order goes round. Replicas 1 and 2 prepare 2.4 before it reaches them.
    ∷ order_to replica_3 order ↝ waits
    ∷ to_replica replica_1 prepare_2 seven ↝ send (PREPARED replica_1 2·4 lathe_digest)
    ∷ to_replica replica_2 prepare_2 seven ↝ send (PREPARED replica_2 2·4 lathe_digest)
    ∷ order_to replica_1 order ↝ waits
    ∷ order_to replica_2 order ↝ waits
    -- 9 to 11: client 5 writes 2.4.
    ∷ to_replica replica_1 write_2 four ↝ send (WRITTEN replica_1 2·4)
    ∷ to_replica replica_2 write_2 four ↝ send (WRITTEN replica_2 2·4)
    ∷ to_replica replica_3 write_2 four ↝ send (WRITTEN replica_3 2·4)
    -- 12 to 18: client 1 reads it.
    ∷ begins_read client_1 register_2 ↝ send read
    ∷ to_replica replica_1 (from_client_for register_2 client_1 read) one ↝ send (shows replica_1)
    ∷ to_replica replica_2 (from_client_for register_2 client_1 read) one ↝ send (shows replica_2)
    ∷ to_replica replica_3 (from_client_for register_2 client_1 read) one ↝ send (shows replica_3)
    ∷ to_client client_1 (from_replica_for register_2 replica_1 shows) four ↝ waits
    ∷ to_client client_1 (from_replica_for register_2 replica_2 shows) four ↝ waits
    ∷ to_client client_1 (from_replica_for register_2 replica_3 shows) four ↝ done at-2·4 lathe by_1_2_4
    ∷ []

-- Messages carry the last byte of its number, 2, and its place is register 1's.
abbrev no_register : RegisterId
no_register = record { 0 = 258 }

-- Of timestamps that lie above this one, one at most has a genuine proof.
abbrev AboveOne : Run → ℕ → Type 0
AboveOne R s = (proof proof' : PreparedProof) → Genuine R register_2 proof → Genuine R register_2 proof' → s < proof.timestamp → s < proof'.timestamp → proof.timestamp ≡ proof'.timestamp

checked : Ordered 3 3 story
unfolding story order tests plays_by
checked = record { at_most_four = lit≤ tt; at_most_96 = lit≤ tt; well_told_lem = refl; all_are = refl; answers = refl; few_faulty = lit≤ tt; verdicts_true = refl; new_nonces_lem = refl; no_other_cards = refl }

pub run : Run
run = run_of checked

as_told : Told run story
unfolding run
as_told = goes_as_told checked

pub premises : Premises run
unfolding run
premises = meets_premises checked

-- Each correct replica has taken the order before event 9.
pub withdrawn : WithdrawnEverywhere run client_4 9
unfolding run story
withdrawn id c =
    let range = bounds 1 3 id.0 c in
    of_three (λ id. OrderTaken (run_of checked) id client_4 9) id range.0 range.1
    (takes_order checked 7 9 replica_1 (lit< tt) refl) (takes_order checked 8 9 replica_2 (lit< tt) refl) (takes_order checked 4 9 replica_3 (lit< tt) refl)

-- ---- What is held then

pub falls : held_falling run register_2 9 ≡ 1·4 ∷ 1·4 ∷ 0 ∷ []
unfolding run story steps digests store_after falling insert
falls = falls_told checked register_2 9 (lit≤ tt) refl

bar_is : bar run register_2 9 ≡ 1·4
unfolding run
bar_is = ap (λ (numbers : List ℕ). get_or numbers 1 0) falls

-- ---- Both timestamps have genuine proofs

pub genuine_1 : Genuine run register_2 proof_1
unfolding run story steps all_bytes true_verdicts
genuine_1 = genuine_told run story as_told register_2 proof_1 three refl refl refl refl refl

pub genuine_2 : Genuine run register_2 proof_2
unfolding run story steps all_bytes true_verdicts
genuine_2 = genuine_told run story as_told register_2 proof_2 three refl refl refl refl refl

-- One is left, which is proved: "none" would be false.
pub left : LeftBehind run register_2 client_4 9 2·4
left = (refl, rw bar_is (lit< tt))

-- And no other is.
pub only_one : (proof : PreparedProof) → Genuine run register_2 proof → LeftBehind run register_2 client_4 9 proof.timestamp → proof.timestamp ≡ 2·4
unfolding within
only_one proof g other = lurking run premises register_2 refl client_4 9 withdrawn proof proof_2 g genuine_2 other left

-- It surfaces: when client 5 has written it, client 1 reads it.
pub read_done : answer_at run 18 ≡ accepted (done at-2·4 lathe by_1_2_4)
unfolding story
read_done = done_told run story as_told 18 _ at-2·4 lathe by_1_2_4 refl

-- ---- What is false

-- Of what lies above the (f + 2)th.
pub next_too_low : AboveOne run (get_or (held_falling run register_2 9) 2 0) → ⊥
next_too_low claim =
    let is : get_or (held_falling run register_2 9) 2 0 ≡ 0 = ap (λ (numbers : List ℕ). get_or numbers 2 0) falls in
    let same : 1·4 ≡ 2·4 = claim proof_1 proof_2 genuine_1 genuine_2 (rw is (lit< tt)) (rw is (lit< tt)) in
    omega arith

-- Of what is no register, whose record is register 1's.
there_1 : Genuine run no_register proof_1
unfolding run story steps all_bytes true_verdicts
there_1 = genuine_told run story as_told no_register proof_1 three refl refl refl refl refl

there_2 : Genuine run no_register proof_2
unfolding run story steps all_bytes true_verdicts
there_2 = genuine_told run story as_told no_register proof_2 three refl refl refl refl refl

bar_there : bar run no_register 9 ≡ 0
unfolding run story steps digests store_after falling insert
bar_there = ap (λ (numbers : List ℕ). get_or numbers 1 0) (falls_told checked no_register 9 (lit≤ tt) refl)

pub register_needed : AtMostOne run no_register → ⊥
register_needed claim =
    let same : 1·4 ≡ 2·4 = claim client_4 9 withdrawn proof_1 proof_2 there_1 there_2 (refl, rw bar_there (lit< tt)) (refl, rw bar_there (lit< tt)) in
    omega arith
