-- Document 02, #103: "where a holder, set up alike in two runs, gets the same messages for a set in one order with the same marks, it gives
-- the same replies and refusals for it." #105: "Where two runs are compared for one set, they agree on the orders too, and on where these
-- fall among its messages."
use Rattle.std.specs.Prelude.{◌≡◌, Bool, true, false, ◌&&◌, cond, List, [], ◌∷◌, ℕ, suc, eqb}
use Rattle.std.proofs.Math.Option.{some}
use Rattle.base.specs.Outcome.{Outcome, accepted, refused}
use Rattle.base.specs.declared.party.RegisterId.{RegisterId}
use Rattle.base.specs.declared.party.ReplicaId.{ReplicaId}
use Rattle.protocol.specs.Client.{Answer}
use Rattle.wire.specs.Decode.{register_in, framed}
use Rattle.protocol.specs.Events.{ReplicaEvent, request_handed, order_handed}
use Rattle.run.specs.Run.{Event, at_replica, at_client, Run, answer_to}

abbrev pub passes : Outcome (Unit {0}) → Bool
passes (accepted done) = true
passes (refused number) = false

-- A message for register x: 2 to 4 let it through, and its register byte is x, which may be no register's number. An order is for every x.
abbrev pub is_for : RegisterId → ReplicaEvent → Bool
is_for x (request_handed bytes verdicts) = passes (framed bytes (accepted tt)) && eqb (register_in bytes).0 x.0
is_for x (order_handed order) = true

module _ (id : ReplicaId) (x : RegisterId) where
  -- What replica `id` is handed for register x, of these events, in order: messages with their verdicts (marks), and orders.
  abbrev pub handed_in : List Event → List ReplicaEvent
  handed_in [] = []
  handed_in (at_replica at e ∷ events) = cond (eqb at.0 id.0 && is_for x e) (e ∷ handed_in events) (handed_in events)
  handed_in (at_client at e ∷ events) = handed_in events

  -- What it answers, the first of these events being event t of the run.
  abbrev pub answers_in : Run → ℕ → List Event → List (Outcome Answer)
  answers_in R t [] = []
  answers_in R t (at_replica at e ∷ events) =
      cond (eqb at.0 id.0 && is_for x e) (answer_to R t (some (at_replica at e)) ∷ answers_in R (suc t) events) (answers_in R (suc t) events)
  answers_in R t (at_client at e ∷ events) = answers_in R (suc t) events

abbrev pub handed_for : Run → ReplicaId → RegisterId → List ReplicaEvent
handed_for R id x = handed_in id x R.events

-- Its replies, which are for register x as well, and its refusals, those of orders among them.
abbrev pub answers_for : Run → ReplicaId → RegisterId → List (Outcome Answer)
answers_for R id x = answers_in id x R 0 R.events

-- Set up alike: with the same f, the same number and the same key. For every x; where it is no register's number, all messages are refused.
abbrev pub SameReplies : Run → Run → Type 0
SameReplies R R' =
    R.f ≡ R'.f → (id : ReplicaId) → R.correct_replica id ≡ true → R'.correct_replica id ≡ true → R.office_key id ≡ R'.office_key id → (x : RegisterId)
    → handed_for R id x ≡ handed_for R' id x → answers_for R id x ≡ answers_for R' id x
