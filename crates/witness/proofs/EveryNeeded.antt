-- Every correct replica must have taken the order: in a run that meets the premises replica 2 has not, and both 1.4 and 2.4 are above S and can be
-- proved, since replica 2 prepares 2.4 when client 5 has written 1.4. Assumes nothing.
use mathlib.Core.Path.{◌≡◌, refl, ap}
use mathlib.Core.Bool.{true}
use mathlib.Core.List.{List, [], ◌∷◌}
use mathlib.Core.Option.{none, some}
use Prim.Native.Nat.{ℕ, ◌<◌}
use lib.Dec.{lit<, lit≤}
use lib.ListN.{get_or}
use Rattle.base.proofs.Range.{bounds}
use Rattle.base.specs.Falling.{insert, falling}
use Rattle.base.specs.declared.party.ReplicaId.{ReplicaId}
use Rattle.protocol.specs.Client.{send, waits}
use Rattle.run.specs.Claims.{Genuine}
use Rattle.run.specs.Lurking.{bar, LeftBehind}
use Rattle.run.specs.Premises.{Premises}
use Rattle.run.specs.Run.{to_replica, order_to, Run}
use Rattle.run.specs.Withdrawals.{OrderTaken}
use Rattle.wire.specs.Message.{PREPARE, WRITE, PREPARED, WRITTEN}
use Rattle.wire.specs.Proof.{PreparedProof}
use Rattle.witness.proofs.Cast.{of_three, replica_1, replica_2, replica_3, replica_4, register_2, client_4, client_5, 1·4, 2·4, entry, from_client_for, one, three, four, seven, service, service_digest, lathe_digest}
use Rattle.witness.proofs.Checked.{tests}
use Rattle.witness.proofs.Computing.{steps, digests}
use Rattle.witness.proofs.GoodOrder.{order}
use Rattle.witness.proofs.LeftBehind.{proof_1, prepare_1, prepare_2}
use Rattle.witness.proofs.Ordered.{Ordered, run_of, goes_as_told, meets_premises, takes_order, falls_told}
use Rattle.witness.proofs.Replay.{store_after, plays_by}
use Rattle.witness.proofs.Story.{Line, ◌↝◌, Told, true_verdicts, all_bytes, genuine_told}

-- ---- What happens: as in `LeftBehind` replica 4 signs all that client 4 likes, and so it makes 1.4's proofs with replicas 1 and 2

abbrev proof_2 : PreparedProof
proof_2 = record { timestamp = 2·4; digest = lathe_digest; entries = entry replica_2 ∷ entry replica_3 ∷ entry replica_4 ∷ [] }

-- Before 1.4 is written.
abbrev early : List ℕ
early = from_client_for register_2 client_4 (PREPARE client_4 2·4 lathe_digest (some proof_1) none)

abbrev write_1 : List ℕ
write_1 = from_client_for register_2 client_5 (WRITE client_5 service proof_1)

unfoldable story : List Line
story =
    -- 0 to 2: client 4 has 1.4 prepared at replicas 1 and 2, and 2.4 at replica 3, whose slot is unused.
    to_replica replica_1 prepare_1 one ↝ send (PREPARED replica_1 1·4 service_digest)
    ∷ to_replica replica_2 prepare_1 one ↝ send (PREPARED replica_2 1·4 service_digest)
    ∷ to_replica replica_3 early four ↝ send (PREPARED replica_3 2·4 lathe_digest)
    -- 3 and 4: the order reaches all but replica 2.
    ∷ order_to replica_1 order ↝ waits
    ∷ order_to replica_3 order ↝ waits
    -- 5 to 7: client 5 writes 1.4, and so replica 2 prepares 2.4.
    ∷ to_replica replica_1 write_1 four ↝ send (WRITTEN replica_1 1·4)
    ∷ to_replica replica_2 write_1 four ↝ send (WRITTEN replica_2 1·4)
    ∷ to_replica replica_2 prepare_2 seven ↝ send (PREPARED replica_2 2·4 lathe_digest)
    ∷ []

checked : Ordered 3 3 story
unfolding story order tests plays_by
checked = record { at_most_four = lit≤ tt; at_most_96 = lit≤ tt; well_told_lem = refl; all_are = refl; answers = refl; few_faulty = lit≤ tt; verdicts_true = refl; new_nonces_lem = refl; no_other_cards = refl }

pub run : Run
run = run_of checked

as_told : Told run story
unfolding run
as_told = goes_as_told checked

pub premises : Premises run
unfolding run
premises = meets_premises checked

pub all_but_one : (id : ReplicaId) → run.correct_replica id ≡ true → (id ≡ replica_2 → ⊥) → OrderTaken run id client_4 5
unfolding run story
all_but_one id c =
    let range = bounds 1 3 id.0 c in
    of_three (λ id. (id ≡ replica_2 → ⊥) → OrderTaken (run_of checked) id client_4 5) id range.0 range.1
    (λ other. takes_order checked 3 5 replica_1 (lit< tt) refl) (λ other. absurd (other refl)) (λ other. takes_order checked 4 5 replica_3 (lit< tt) refl)

-- Nothing is held then.
bar_is : bar run register_2 5 ≡ 0
unfolding run story steps digests store_after falling insert
bar_is = ap (λ (numbers : List ℕ). get_or numbers 1 0) (falls_told checked register_2 5 (lit≤ tt) refl)

pub genuine_1 : Genuine run register_2 proof_1
unfolding run story steps all_bytes true_verdicts
genuine_1 = genuine_told run story as_told register_2 proof_1 three refl refl refl refl refl

pub genuine_2 : Genuine run register_2 proof_2
unfolding run story steps all_bytes true_verdicts
genuine_2 = genuine_told run story as_told register_2 proof_2 three refl refl refl refl refl

-- Both are left.
pub left_1 : LeftBehind run register_2 client_4 5 1·4
left_1 = (refl, rw bar_is (lit< tt))

pub left_2 : LeftBehind run register_2 client_4 5 2·4
left_2 = (refl, rw bar_is (lit< tt))
