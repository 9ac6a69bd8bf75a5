-- Document 02, #107: "on one laptop" is needed, from the first nonce on. In the story of a new laptop, which meets the premises and all conditions on
-- verdicts, a correct replica refuses a PREPARE of an operation that lasts, with 15: an earlier laptop's stands in the slot. Assumes nothing.
use mathlib.Core.Path.{◌≡◌, refl, sym, ap, ◌∙◌}
use mathlib.Core.Bool.{true, false}
use mathlib.Core.List.{List}
use mathlib.Core.Option.{some}
use Prim.Native.Nat.{ℕ, ◌<◌}
use lib.Dec.{lit<, lit≤}
use lib.ListN.{get_elem?, replicate, length-replicate}
use Rattle.base.proofs.Apart.{apart}
use Rattle.base.specs.ClientSet.{has}
use Rattle.base.specs.Outcome.{accepted}
use Rattle.base.specs.Same.{same}
use Rattle.base.specs.declared.party.RegisterId.{RegisterId}
use Rattle.base.specs.declared.party.ReplicaId.{ReplicaId}
use Rattle.progress.specs.Delivery.{Boxed}
use Rattle.progress.specs.Operations.{Invocation, Lasts, Sends}
use Rattle.progress.specs.Verdicts.{Judged}
use Rattle.protocol.specs.Client.{send}
use Rattle.run.specs.Premises.{Premises}
use Rattle.run.specs.Run.{begins_write, to_replica, Run, event, answer_at}
use Rattle.run.specs.Withdrawals.{withdrawn_at}
use Rattle.wire.specs.Acceptance.{client}
use Rattle.wire.specs.Checks.{all}
use Rattle.wire.specs.Message.{Message, READ-STAMP, body, encode}
use Rattle.wire.specs.Signatures.{Signature, signatures_to, handed_signatures}
use Rattle.witness.proofs.Answers.{code}
use Rattle.witness.proofs.AnyWrite.{prepare}
use Rattle.witness.proofs.Cast.{replica_1, register_1, client_1, one, lathe}
use Rattle.witness.proofs.Computing.{messages}
use Rattle.witness.proofs.Invoked.{same_bytes, not_withdrawn, invoked, lasts_told, sends_in}
use Rattle.witness.proofs.Judging.{passing, AllFair, as_boxes, Made, judged_told}
use Rattle.witness.proofs.NewLaptop.{held_up, story, run, as_told, premises, new_laptop}
use Rattle.witness.proofs.Story.{◌↝◌}

-- As `not_refused`, without one laptop; since the operation began its client was not made again, as long as it lasts.
abbrev pub NotRefused : (R : Run) → RegisterId → (Signature → Type 0) → Type 0
NotRefused R x Made =
    (o : Invocation R x) (u t : ℕ) (message : Message) (id : ReplicaId) (signature verdicts : List ℕ) → Sends R x o u message → u < t → Lasts R x o t → has (withdrawn_at R id t) o.id ≡ false
    → Boxed R x Made (client o.id) message signature → event R t ≡ some (to_replica id (encode x message signature) verdicts) → (reply : Message) × (answer_at R t ≡ accepted (send reply))

all_fair : AllFair as_boxes story
unfolding story messages signatures_to handed_signatures all passing
all_fair = refl

pub judged : Judged run Made
judged = judged_told run story as_told all_fair

-- The write that client 1 begins at 10, on its second laptop, sends its PREPARE at 15.
begun_at : get_elem? story 10 ≡ some (begins_write client_1 register_1 lathe ↝ send (READ-STAMP client_1 2))
unfolding story
begun_at = refl

abbrev operation : Invocation run register_1
operation = invoked run story as_told register_1 client_1 10 _ _ begun_at true (lathe, refl)

lasts_there : Lasts run register_1 operation 16
unfolding story code messages
lasts_there = lasts_told run story as_told register_1 client_1 10 _ _ begun_at true (lathe, refl) 16 (lit≤ tt) refl

sends_there : (sent : Message) × Sends run register_1 operation 15 sent × (body register_1 sent ≡ body register_1 (prepare held_up))
unfolding story code messages
sends_there = sends_in run story as_told register_1 client_1 10 _ _ begun_at true (lathe, refl) 15 _ (prepare held_up) (lit≤ tt) refl refl refl refl

served : has (withdrawn_at run replica_1 16) client_1 ≡ false
unfolding story
served = not_withdrawn run story as_told refl replica_1 client_1 16

pub one_laptop_needed : Premises run × Judged run Made × (NotRefused run register_1 Made → ⊥)
unfolding invoked same
one_laptop_needed = (
  premises,
  judged,
  λ claim.
      let (sent, sends, bytes) = sends_there in
      let own : List ℕ = replicate 64 101 in
      let (there, refusal) = new_laptop.slot_open.0 in
      let handed = there ∙ ap (λ (b : List ℕ). some (to_replica replica_1 b one)) (same_bytes register_1 (prepare held_up) sent own (sym bytes)) in
      let (reply, answered) = claim operation 15 16 sent replica_1 own one sends (lit< tt) lasts_there served (record { long = length-replicate {A = ℕ} 64 101; made = refl }) handed in
      apart (cc refusal),
)
