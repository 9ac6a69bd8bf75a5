-- Operations of told runs, as the theorems on progress speak of them. Assumes nothing.
use mathlib.Core.Path.{◌≡◌, refl, sym, ap, subst, ◌∙◌}
use mathlib.Core.Bool.{Bool, true, false, not}
use mathlib.Core.List.{List, ◌++◌}
use mathlib.Core.Option.{some}
use Prim.Native.Nat.{ℕ, ◌≤◌}
use lib.ListN.{get_elem?}
use Rattle.base.specs.ClientSet.{has}
use Rattle.base.specs.declared.party.ClientId.{ClientId}
use Rattle.base.specs.declared.party.RegisterId.{RegisterId}
use Rattle.base.specs.declared.party.ReplicaId.{ReplicaId}
use Rattle.progress.specs.Operations.{OneLaptop, Invocation, Lasts, Sends}
use Rattle.protocol.specs.Client.{Answer, send}
use Rattle.protocol.specs.Events.{request_handed, order_handed}
use Rattle.run.proofs.Withdrawals.{withdrawals}
use Rattle.run.specs.Claims.{Begins}
use Rattle.run.specs.Run.{Event, at_replica, at_client, order_to, makes, party_of, register_of, Run, event, answer_at}
use Rattle.run.specs.Withdrawals.{withdrawn_at}
use Rattle.wire.specs.Acceptance.{client}
use Rattle.wire.specs.Message.{Message, body, encode}
use Rattle.witness.proofs.Answers.{no_test, carries_on, is_accepted}
use Rattle.witness.proofs.Story.{Line, ◌↝◌, is_making, each, each_tested, line_of, Told, AllBetween, none_between, event_told, answer_told, sends_told}

abbrev is_no_order : Event → Bool
is_no_order (at_replica id (request_handed bytes verdicts)) = true
is_no_order (at_replica id (order_handed order)) = false
is_no_order (at_client id e) = true

abbrev pub NoOrders : List Line → Type 0
NoOrders lines = each (λ t line. is_no_order line.event) 0 lines ≡ true

abbrev pub NoMakings : List Line → Type 0
NoMakings lines = each (λ t line. not (is_making line.event)) 0 lines ≡ true

-- Bytes of one message are those of another that has the same before its signature.
pub same_bytes : (x : RegisterId) (m m' : Message) (own : List ℕ) → body x m ≡ body x m' → encode x m own ≡ encode x m' own
unfolding encode
same_bytes x m m' own e = ap (λ (front : List ℕ). front ++ own) e

module _ (R : Run) (lines : List Line) (told : Told R lines) where
  -- Where no order is handed over nobody is withdrawn.
  pub not_withdrawn : NoOrders lines → (id : ReplicaId) (c : ClientId) (t : ℕ) → has (withdrawn_at R id t) c ≡ false
  not_withdrawn none id c t = go (has (withdrawn_at R id t) c) refl
    where
      go : (b : Bool) → has (withdrawn_at R id t) c ≡ b → has (withdrawn_at R id t) c ≡ false
      go false e = e
      go true e =
          let taken = (withdrawals R).withdrawn_by id c t e in
          let (line, at, is) = line_of lines taken.time (order_to id taken.order) (sym (ap (λ (es : List Event). get_elem? es taken.time) told.events) ∙ taken.event_is) in
          no_test (sym (ap is_no_order is) ∙ each_tested (λ s line. is_no_order line.event) taken.time lines line none at)

  -- Where no client is made again, each is on one laptop.
  pub one_laptop : NoMakings lines → (id : ClientId) (from t : ℕ) → OneLaptop R id from t
  one_laptop none id from t u nonce low high e a =
      let (line, at, is) = line_of lines u (makes id nonce) (sym (ap (λ (es : List Event). get_elem? es u) told.events) ∙ e) in
      no_test (sym (ap (λ (x : Event). not (is_making x)) is) ∙ each_tested (λ s line. not (is_making line.event)) u lines line none at)

  -- An operation that a line begins.
  module _ (x : RegisterId) (id : ClientId) (begun : ℕ) (first : Event) (answer : Answer) (begun_at : get_elem? lines begun ≡ some (first ↝ answer)) (w : Bool) (begins : Begins R x w id (some first)) where
    unfoldable pub invoked : Invocation R x
    invoked = record {
      id = id;
      is_write_lem = w;
      begun = begun;
      begins = subst (Begins R x w id) (sym (event_told R lines told begun (first ↝ answer) begun_at)) begins;
      not_refused = is_accepted (register_of first) (answer_at R begun) answer (answer_told R lines told begun (first ↝ answer) begun_at);
    }

    pub lasts_told : (t : ℕ) → begun ≤ t → AllBetween lines carries_on (client id) begun t → Lasts R x invoked t
    unfolding invoked
    lasts_told t l all = record { has_begun = l; goes_on = none_between R lines told id begun t all }

    -- A message that it sends, by its bytes.
    pub sends_in : (u : ℕ) (e : Event) (m : Message) → begun ≤ u → AllBetween lines carries_on (client id) begun u → get_elem? lines u ≡ some (e ↝ send m) → party_of e ≡ client id → register_of e ≡ x
        → (sent : Message) × Sends R x invoked u sent × (body x sent ≡ body x m)
    unfolding invoked
    sends_in u e m l all at by for =
        let (sent, answered, bytes) = sends_told R lines told u e m at in
        (sent, record { lasts = lasts_told u l all; by = (e, event_told R lines told u (e ↝ send m) at, by); answered = answered }, subst (λ (y : RegisterId). body y sent ≡ body y m) for bytes)
