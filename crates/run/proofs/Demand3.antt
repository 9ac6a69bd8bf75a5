-- Demand 3: the theorem about every run, and beside it what a finished operation shows. Assumes nothing.
use mathlib.Core.Path.{◌≡◌, refl, ◌∙◌}
use mathlib.Core.Logic.{inl, inr}
use mathlib.Core.Bool.{Bool, true, false}
use mathlib.Core.List.{List}
use mathlib.Core.Option.{some}
use Prim.Native.Nat.{ℕ, suc, ◌%◌}
use native.Mathlib.Omega.{arith}
use Rattle.base.specs.Timestamp.{number}
use Rattle.base.specs.declared.party.RegisterId.{RegisterId}
use Rattle.base.specs.declared.replica_set.ReplicaSet.{ReplicaSet}
use Rattle.base.specs.declared.timestamp.Timestamp.{Timestamp}
use Rattle.base.proofs.Apart.{apart}
use Rattle.protocol.specs.Parts.{start_card}
use Rattle.run.specs.Claims.{Begins, Finished, Claims}
use Rattle.run.specs.Premises.{Premises}
use Rattle.run.specs.Run.{begins_write, Run, event}
use Rattle.run.specs.Views.{Views}
use Rattle.run.specs.Vouching.{VouchedFor, Vouching}
use Rattle.run.proofs.Turns.{same_client}
use Rattle.run.proofs.Slots.{one_digest}
use Rattle.run.proofs.Operations.{Shown}
use Rattle.run.proofs.Order.{begun_with, finish, view, irreflexive, transitive, total, one_card, in_order, later_write, view_after, view_card}

pub demand_3 : (R : Run) → Premises R → (x : RegisterId) → Claims R x
demand_3 R P x = record {
  one_digest = one_digest R x P.few_faulty;
  irreflexive = irreflexive R x;
  transitive = transitive R x;
  total = total R x P;
  one_card = one_card R x P;
  in_order = in_order R x P;
  later_write = later_write R x P;
  view_after = view_after R x P;
}

-- A finished write shows the card that it was begun with, and its timestamp carries its client.
pub write_shows : (R : Run) (x : RegisterId) → Premises R → (o : Finished R x) (card : List ℕ) → event R o.begun ≡ some (begins_write o.id x card) → (o.card ≡ card) × (o.timestamp.client ≡ o.id)
write_shows R x P o card e = go o.is_write_lem o.begins (finish R x P o).own
  where
    client_is : number o.timestamp % 256 ≡ o.id.0 → o.timestamp.client ≡ o.id
    client_is own = let fits = (finish R x P o).fits in same_client o.timestamp.client o.id (omega arith)

    go : (w : Bool) (b : Begins R x w o.id (event R o.begun)) → (w ≡ true → (number o.timestamp % 256 ≡ o.id.0) × (o.card ≡ begun_with R x w o.id (event R o.begun) b))
        → (o.card ≡ card) × (o.timestamp.client ≡ o.id)
    go true b own = let begun : b.0 ≡ card = cc b.1 in ((own refl).1 ∙ begun, client_is (own refl).0)
    go false b own = apart (cc)

-- What is shown at 0.0 is the starting card, `00 00`: in an operation, and in a view.
shown_start : (R : Run) (x : RegisterId) (t s : ℕ) (card : List ℕ) (signers : ReplicaSet) → s ≡ 0 → Shown R x t s card signers → card ≡ start_card
shown_start R x t s card signers e (inl k) = k.1
shown_start R x t s card signers e (inr v) = let p = v.positive in absurd (omega arith)

pub start_shows : (R : Run) (x : RegisterId) → Premises R → (o : Finished R x) → number o.timestamp ≡ 0 → o.card ≡ start_card
start_shows R x P o e = shown_start R x (suc o.finished) (number o.timestamp) o.card o.signers e (finish R x P o).is_shown

pub views : (R : Run) → Premises R → (x : RegisterId) → Views R x
views R P x = record { same_card = view_card R x P; start_card_lem = λ v e. shown_start R x (suc v.finished) (number v.timestamp) v.card v.signers e (view R x P v).is_shown }

-- Who is shown with a card vouched for it: in an operation, and in a view.
shown_vouched : (R : Run) (x : RegisterId) (t : ℕ) (timestamp : Timestamp) (card : List ℕ) (signers : ReplicaSet) → Shown R x t (number timestamp) card signers → VouchedFor R x timestamp card signers t
shown_vouched R x t timestamp card signers (inl k) = inl (k.0, k.2)
shown_vouched R x t timestamp card signers (inr v) = inr (v.positive, v.backed.exact, v.backed.signed)

pub vouching : (R : Run) → Premises R → (x : RegisterId) → Vouching R x
vouching R P x = record {
  operations = λ o. shown_vouched R x (suc o.finished) o.timestamp o.card o.signers (finish R x P o).is_shown;
  views = λ v. shown_vouched R x (suc v.finished) v.timestamp v.card v.signers (view R x P v).is_shown;
}
