-- A run at f = 1 that meets the premises, in which one client writes registers 1 and 2 at one timestamp: one digest for each register, and so
-- two for the timestamp. A view of register 2 follows (`Meeting`). Assumes nothing.
use mathlib.Core.Path.{◌≡◌, refl, ap}
use mathlib.Core.Bool.{true, false}
use mathlib.Core.List.{List, [], ◌∷◌, ◌++◌}
use mathlib.Core.Option.{some}
use Prim.Native.Nat.{ℕ}
use native.Mathlib.Omega.{arith}
use lib.Dec.{lit<, lit≤}
use lib.ListN.{get_or}
use Rattle.base.specs.Outcome.{refused}
use Rattle.base.specs.Range.{within}
use Rattle.base.specs.declared.party.RegisterId.{RegisterId}
use Rattle.base.specs.declared.party.ReplicaId.{ReplicaId}
use Rattle.protocol.specs.Client.{send, waits, done}
use Rattle.run.proofs.Demand3.{demand_3}
use Rattle.run.specs.Claims.{Finished, Genuine}
use Rattle.run.specs.Premises.{Premises}
use Rattle.run.specs.Run.{begins_read, to_replica, to_client, Run, answer_at}
use Rattle.wire.specs.Message.{Message, READ-STAMP, READ, CARD}
use Rattle.wire.specs.Proof.{PreparedProof}
use Rattle.witness.proofs.Answers.{code}
use Rattle.witness.proofs.Cast.{replica_1, replica_2, replica_3, replica_4, register_1, register_2, client_1, viewer_65, at-1·1, by_1_2_4, from_replica, from_replica_for, from_client_for, stale, one, three, four, not_genuine, service, lathe, service_digest, lathe_digest}
use Rattle.witness.proofs.Computing.{messages, steps}
use Rattle.witness.proofs.FirstWrite.{proof_of, written, under_way, finishing}
use Rattle.witness.proofs.Checked.{tests, Checked, run_of, goes_as_told, meets_premises}
use Rattle.witness.proofs.Story.{Line, ◌↝◌, ◌↛◌, Told, true_verdicts, refused_told, finished_told, all_bytes, genuine_told}

-- Two writes of one client, of registers 1 and 2, at one timestamp with different cards; and a genuine prepared proof of each.
pub record TwoDigests (R : Run) : Type 0 where
  pub first : Finished R register_1
  pub second : Finished R register_2
  pub are_writes : (first.is_write_lem ≡ true) × (second.is_write_lem ≡ true)
  pub one_client : first.id ≡ second.id
  pub one_timestamp : first.timestamp ≡ second.timestamp
  pub two_cards : first.card ≡ second.card → ⊥
  pub proof : PreparedProof
  pub proof' : PreparedProof
  pub genuine : Genuine R register_1 proof
  pub genuine' : Genuine R register_2 proof'
  pub proofs_alike : proof.timestamp ≡ proof'.timestamp
  pub two_digests : proof.digest ≡ proof'.digest → ⊥

-- What a viewing client asks in vain and what it asks of register 2, and what a replica that holds the second write shows it.
abbrev pub register_17 : RegisterId
register_17 = record { 0 = 17 }

abbrev pub asks_stamp : List ℕ
asks_stamp = from_client_for register_2 viewer_65 (READ-STAMP viewer_65 1)

abbrev asks : List ℕ
asks = from_client_for register_2 viewer_65 (READ viewer_65 1)

abbrev shows_lathe : ReplicaId → Message
shows_lathe id = CARD id 1 lathe (some (proof_of lathe_digest)) viewer_65

abbrev shown : ReplicaId → (ReplicaId → Message) → List ℕ
shown id message = from_replica_for register_2 id message

-- ---- What happens: replicas 1 to 3 and clients 1 to 65 are correct

unfoldable pub story : List Line
unfolding under_way finishing
story =
    -- 0 to 15: client 1 writes `service` to register 1.
    under_way register_1 1 service service_digest
    ++ finishing register_1 1 service service_digest
    -- 16 to 27: then `lathe` to register 2, where nobody wrote: it asks for 1.1 again, and shows no written proof.
    ++ under_way register_2 2 lathe lathe_digest
    -- 28: a WRITTEN of 1.1 comes once more, but for register 1: it does not count.
    ++ (to_client client_1 (from_replica replica_1 written) one ↛ 18
    -- 29 to 32: the second write is done.
    ∷ finishing register_2 2 lathe lathe_digest)
    -- 33 to 40: a viewing client is refused register 17, then views register 2. Somebody sends a READ-STAMP in its name. Replica 3 has not
    -- heard of the write, and replica 4, which is faulty, shows 0.0 too.
    ++ begins_read viewer_65 register_17 ↛ 20
    ∷ begins_read viewer_65 register_2 ↝ send (READ viewer_65 1)
    ∷ to_replica replica_1 asks_stamp not_genuine ↛ 19
    ∷ to_replica replica_2 asks one ↝ send (shows_lathe replica_2)
    ∷ to_replica replica_3 asks one ↝ send (stale 1 viewer_65 replica_3)
    ∷ to_client viewer_65 (shown replica_2 shows_lathe) four ↝ waits
    ∷ to_client viewer_65 (shown replica_3 (stale 1 viewer_65)) one ↝ waits
    ∷ to_client viewer_65 (shown replica_4 (stale 1 viewer_65)) one ↝ done at-1·1 lathe by_1_2_4
    ∷ []

checked : Checked 3 65 story
unfolding story tests
checked = record { at_most_four = lit≤ tt; at_most_96 = lit≤ tt; well_told_lem = refl; answers = refl; few_faulty = lit≤ tt; verdicts_true = refl; new_nonces_lem = refl; no_other_cards = refl }

pub run : Run
run = run_of checked

pub as_told : Told run story
unfolding run
as_told = goes_as_told checked

pub premises : Premises run
unfolding run
premises = meets_premises checked

pub faulty : run.correct_replica replica_4 ≡ false
unfolding run within
faulty = refl

-- ---- The writes, and a genuine proof of each

pub first_write : Finished run register_1
unfolding story code messages
first_write = finished_told run story as_told register_1 client_1 0 15 _ _ _ at-1·1 service by_1_2_4 refl (lit< tt) refl refl refl true (service, refl) refl

unfoldable pub second_write : Finished run register_2
unfolding story code messages
second_write = finished_told run story as_told register_2 client_1 16 32 _ _ _ at-1·1 lathe by_1_2_4 refl (lit< tt) refl refl refl true (lathe, refl) refl

genuine_first : Genuine run register_1 (proof_of service_digest)
unfolding run story steps all_bytes true_verdicts
genuine_first = genuine_told run story as_told register_1 (proof_of service_digest) three refl refl refl refl refl

genuine_second : Genuine run register_2 (proof_of lathe_digest)
unfolding run story steps all_bytes true_verdicts
genuine_second = genuine_told run story as_told register_2 (proof_of lathe_digest) three refl refl refl refl refl

different : service_digest ≡ lathe_digest → ⊥
different e = let first : ◌≡◌ {A = ℕ} 0x1d 0x49 = ap (λ (digest : List ℕ). get_or digest 0 0) e in omega arith

pub two_digests : TwoDigests run
unfolding finished_told first_write second_write
two_digests =
    record {
      first = first_write;
      second = second_write;
      are_writes = (refl, refl);
      one_client = refl;
      one_timestamp = refl;
      two_cards = λ e. let third : ◌≡◌ {A = ℕ} 0x01 0x03 = ap (λ (card : List ℕ). get_or card 2 0) e in omega arith;
      proof = proof_of service_digest;
      proof' = proof_of lathe_digest;
      genuine = genuine_first;
      genuine' = genuine_second;
      proofs_alike = refl;
      two_digests = different;
    }

-- What the theorem says of them: the second write's proof is genuine for its own register alone.
pub not_for_the_other : Genuine run register_1 (proof_of lathe_digest) → ⊥
not_for_the_other genuine = different ((demand_3 run premises register_1).one_digest (proof_of service_digest) (proof_of lathe_digest) genuine_first genuine refl)

-- The WRITTEN of the other register is not awaited, although its timestamp is.
pub refusal : answer_at run 28 ≡ refused 18
unfolding story
refusal = refused_told run story as_told 28 _ 18 refl
