-- Who is withdrawn at a replica: the clients that the orders named which it took; and it takes none of their messages. Assumes nothing.
use mathlib.Core.Path.{◌≡◌, refl, sym, ap, subst, ◌∙◌}
use mathlib.Core.Logic.{⊎_elim}
use mathlib.Core.Bool.{Bool, true, false, not, ◌||◌, cond, or_comm}
use mathlib.Core.List.{List}
use mathlib.Core.Option.{Option, none, some}
use Prim.Native.Nat.{ℕ, zero, suc, ◌≤◌}
use native.Mathlib.Omega.{arith}
use borrow.Author.Tests.{eqb-true, eqb-false, eq-eqb}
use lib.Dec.{eqb}
use Rattle.base.specs.ClientSet.{has}
use Rattle.base.specs.Outcome.{Outcome, accepted, refused}
use Rattle.base.specs.Party.{is_client}
use Rattle.base.specs.declared.client_set.ClientSet.{ClientSet}
use Rattle.base.specs.declared.party.ClientId.{ClientId}
use Rattle.base.specs.declared.party.RegisterId.{RegisterId}
use Rattle.base.specs.declared.party.ReplicaId.{ReplicaId}
use Rattle.base.proofs.Apart.{apart}
use Rattle.base.proofs.Booleans.{or_true}
use Rattle.base.proofs.ClientSet.{has_nobody, has_client_lem}
use Rattle.protocol.specs.Bank.{place_in, bank_step}
use Rattle.protocol.specs.Events.{ReplicaEvent, request_handed, order_handed, bank_turn, order_turn, on_replica_event, next_bank}
use Rattle.protocol.specs.Order.{is_signed, take_order}
use Rattle.protocol.specs.RegisterReplica.{Reply}
use Rattle.protocol.specs.declared.replica.Bank.{Bank}
use Rattle.protocol.proofs.GoodBank.{bank_parts}
use Rattle.protocol.proofs.OrderFacts.{took, order_withdraws, withdrawn_refused}
use Rattle.wire.specs.Acceptance.{client, sender_of, may_send, in_its_range, is_served}
use Rattle.wire.specs.Decode.{for_register}
use Rattle.wire.specs.Message.{Message, kind_of}
use Rattle.wire.specs.Order.{client_named}
use Rattle.run.specs.Premises.{Accepted}
use Rattle.run.specs.Run.{Event, at_replica, at_client, order_to, after_at_replica, Run, event, bank_at, answer_at}
use Rattle.run.specs.Withdrawals.{withdrawn_at, OrderTaken, FromClient, PassesEight, Withdrawals}
use Rattle.run.proofs.Slots.{order}
use Rattle.run.proofs.Turns.{same_replica, same_client, bank_outcome, good_bank}

-- A member is a client.
member_client : (set : ClientSet) (c : ClientId) → has set c ≡ true → is_client c ≡ true
member_client set c e = go (is_client c) refl
  where
    go : (b : Bool) → is_client c ≡ b → is_client c ≡ true
    go true k = k
    go false k = let none = has_client_lem set c k in apart (cc)

module _ (R : Run) where
  -- ---- What one event does to the withdrawn clients

  data Turn (id : ReplicaId) (t : ℕ) : Type 0 where
    keeps : withdrawn_at R id (suc t) ≡ withdrawn_at R id t → ((o : List ℕ) → event R t ≡ some (order_to id o) → Accepted R t → ⊥) → Turn id t
    grows : (o : List ℕ) → event R t ≡ some (order_to id o) → Accepted R t
        → ((c : ClientId) → has (withdrawn_at R id (suc t)) c ≡ (eqb c.0 (client_named o).0 || has (withdrawn_at R id t) c)) → Turn id t

  own_turn : (id : ReplicaId) (t : ℕ) (e : ReplicaEvent) → event R t ≡ some (at_replica id e) → Turn id t
  own_turn id t (request_handed bytes verdicts) q =
      keeps (ap (λ (bank : Bank). bank.withdrawn) (bank_outcome R id t (request_handed bytes verdicts) _ q refl).0 ∙ kept (bank_step (bank_at R id t) bytes verdicts)) (λ o k a. apart (cc))
    where
      kept : (out : Outcome Reply) → (next_bank (bank_at R id t) (bank_turn (place_in bytes) (bank_at R id t) out)).withdrawn ≡ withdrawn_at R id t
      kept (accepted reply) = refl
      kept (refused n) = refl
  own_turn id t (order_handed o) q = go (take_order (bank_at R id t) o) refl
    where
      go : (out : Outcome Bank) → take_order (bank_at R id t) o ≡ out → Turn id t
      go (refused n) k =
          let both = bank_outcome R id t (order_handed o) _ q (ap order_turn k) in
          keeps (ap (λ (bank : Bank). bank.withdrawn) both.0) (λ p r a. let is = both.1 in let taken = a.1 in apart (cc))
      go (accepted next) k =
          let both = bank_outcome R id t (order_handed o) _ q (ap order_turn k) in
          grows o q (_, both.1) (λ c. ap (λ (bank : Bank). has bank.withdrawn c) both.0 ∙ order_withdraws (bank_at R id t) o next k c)

  turn : (id : ReplicaId) (t : ℕ) → Turn id t
  unfolding bank_at
  turn id t = go (event R t) refl
    where
      left : Option Event → ClientSet
      left e = (after_at_replica id e (bank_at R id t)).withdrawn

      go : (e : Option Event) → event R t ≡ e → Turn id t
      go none q = keeps (ap left q) (λ o k a. apart (cc))
      go (some (at_client at e)) q = keeps (ap left q) (λ o k a. apart (cc))
      go (some (at_replica at e)) q = by (eqb at.0 id.0) refl
        where
          by : (own : Bool) → eqb at.0 id.0 ≡ own → Turn id t
          by true k = own_turn id t e (q ∙ ap (λ (i : ReplicaId). some (at_replica i e)) (same_replica at id (eqb-true at.0 id.0 k)))
          by false k =
              keeps (ap left q ∙ ap (λ (own : Bool). (cond own (next_bank (bank_at R id t) (on_replica_event e (bank_at R id t))) (bank_at R id t)).withdrawn) k)
              (λ o r a. let same : at ≡ id = cc in eqb-false at.0 id.0 k (ap (λ (i : ReplicaId). i.0) same))

  -- ---- Just the clients that orders named

  later : (id : ReplicaId) (c : ClientId) (t u : ℕ) → t ≤ u → OrderTaken R id c t → OrderTaken R id c u
  later id c t u l o = record { time = o.time; earlier = let e = o.earlier in omega arith; order = o.order; event_is = o.event_is; names = o.names; taken = o.taken }

  withdrawn_by : (id : ReplicaId) (c : ClientId) (t : ℕ) → has (withdrawn_at R id t) c ≡ true → OrderTaken R id c t
  unfolding bank_at
  withdrawn_by id c zero is = let none = has_nobody c in apart (cc)
  withdrawn_by id c (suc t) is = go (withdrawn_by id c t) (turn id t)
    where
      go : (has (withdrawn_at R id t) c ≡ true → OrderTaken R id c t) → Turn id t → OrderTaken R id c (suc t)
      go before (keeps same never) = later id c t (suc t) (omega arith) (before (ap (λ (set : ClientSet). has set c) (sym same) ∙ is))
      go before (grows o q a next) =
          ⊎_elim
          (λ named. record { time = t; earlier = omega arith; order = o; event_is = q; names = sym (same_client c (client_named o) (eqb-true c.0 (client_named o).0 named)); taken = a })
          (λ had. later id c t (suc t) (omega arith) (before had))
          (or_true (eqb c.0 (client_named o).0) (has (withdrawn_at R id t) c) (sym (next c) ∙ is))

  -- Who is withdrawn stays so.
  stays : (id : ReplicaId) (c : ClientId) (t : ℕ) → has (withdrawn_at R id t) c ≡ true → has (withdrawn_at R id (suc t)) c ≡ true
  stays id c t is = go (turn id t)
    where
      go : Turn id t → has (withdrawn_at R id (suc t)) c ≡ true
      go (keeps same never) = ap (λ (set : ClientSet). has set c) same ∙ is
      go (grows o q a next) = next c ∙ rw is (or_comm (eqb c.0 (client_named o).0) true)

  -- The order is taken at t itself.
  withdraws_now : (id : ReplicaId) (c : ClientId) (t : ℕ) (o : List ℕ) → event R t ≡ some (order_to id o) → client_named o ≡ c → Accepted R t → has (withdrawn_at R id (suc t)) c ≡ true
  withdraws_now id c t o here names taken = go (turn id t)
    where
      go : Turn id t → has (withdrawn_at R id (suc t)) c ≡ true
      go (keeps same never) = absurd (never o here taken)
      go (grows p q a next) =
          let same : p ≡ o = cc in
          let named : client_named p ≡ c = ap client_named same ∙ names in
          next c ∙ rw (eq-eqb c.0 (client_named p).0 (ap (λ (d : ClientId). d.0) (sym named)))

  withdraws : (id : ReplicaId) (c : ClientId) (t : ℕ) → OrderTaken R id c t → has (withdrawn_at R id t) c ≡ true
  withdraws id c zero o = let e = o.earlier in absurd (omega arith)
  withdraws id c (suc t) o =
      ⊎_elim
      (λ l.
      let is : o.time ≡ t = let e = o.earlier in omega arith in
      withdraws_now id c t o.order (subst (λ (s : ℕ). event R s ≡ some (order_to id o.order)) is o.event_is) o.names (subst (λ (s : ℕ). Accepted R s) is o.taken))
      (λ l. stays id c t (withdraws id c t (record { time = o.time; earlier = l; order = o.order; event_is = o.event_is; names = o.names; taken = o.taken })))
      (order t o.time)

  -- Such an order is signed under the replica's key.
  signed : (id : ReplicaId) (c : ClientId) (t : ℕ) (o : OrderTaken R id c t) → is_signed (R.office_key id) o.order ≡ true
  signed id c t o = go (take_order (bank_at R id o.time) o.order) refl
    where
      key_is : (bank_at R id o.time).key ≡ R.office_key id
      key_is = (good_bank R id (R.at_correct o.time (order_to id o.order) o.event_is) o.time).key_is

      go : (out : Outcome Bank) → take_order (bank_at R id o.time) o.order ≡ out → is_signed (R.office_key id) o.order ≡ true
      go (accepted next) k = subst (λ (key : List ℕ). is_signed key o.order ≡ true) key_is (took (bank_at R id o.time) o.order next k).good.signed
      go (refused n) k = let is = (bank_outcome R id o.time (order_handed o.order) _ o.event_is (ap order_turn k)).1 in let taken = o.taken.1 in apart (cc)

  -- ---- Shut out

  shut : (id : ReplicaId) (c : ClientId) (t u : ℕ) → OrderTaken R id c t → t ≤ u → is_served (withdrawn_at R id u) (client c) ≡ false
  shut id c t u o l = ap not (withdraws id c u (later id c t u l o))

  shut_out : (id : ReplicaId) (c : ClientId) (t u : ℕ) → OrderTaken R id c t → t ≤ u → FromClient R id c u → Accepted R u → ⊥
  shut_out id c t u o l from a = go (bank_step (bank_at R id u) from.bytes from.verdicts) refl
    where
      go : (out : Outcome Reply) → bank_step (bank_at R id u) from.bytes from.verdicts ≡ out → ⊥
      go (refused n) k =
          let is = (bank_outcome R id u (request_handed from.bytes from.verdicts) _ from.event_is (ap (bank_turn (place_in from.bytes) (bank_at R id u)) k)).1 in
          let taken = a.1 in
          apart (cc)
      go (accepted reply) k =
          let (register, message, passed, taken) = bank_parts (bank_at R id u) from.bytes from.verdicts reply k in
          let decoded = passed.decodes in
          let both = from.decoded in
          let same : for_register register message ≡ for_register from.register from.message = cc in
          let sender : sender_of message ≡ client c = ap (λ (sent : RegisterId × Message). sender_of sent.1) same ∙ from.sender in
          let served : is_served (withdrawn_at R id u) (client c) ≡ true = sym (ap (is_served (withdrawn_at R id u)) sender) ∙ passed.served in
          let out = shut id c t u o l in
          apart (cc)

  refused_23 : (id : ReplicaId) (c : ClientId) (t u : ℕ) → OrderTaken R id c t → t ≤ u → PassesEight R id c u → answer_at R u ≡ refused 23
  refused_23 id c t u o l p =
      let from = p.from in
      let before = bank_at R id u in
      let sender = from.sender in
      let known = member_client before.withdrawn c (withdraws id c u (later id c t u l o)) in
      let step =
      withdrawn_refused before from.bytes from.verdicts from.register from.message from.decoded
      (ap (in_its_range before.f) sender ∙ known) (ap (may_send (kind_of from.message)) sender ∙ p.may_send_lem) p.registered p.one_each p.own
      (ap (is_served before.withdrawn) sender ∙ shut id c t u o l) in
      (bank_outcome R id u (request_handed from.bytes from.verdicts) _ from.event_is (ap (bank_turn (place_in from.bytes) before) step)).1

  -- For every run, whatever verdicts were handed over.
  pub withdrawals : Withdrawals R
  withdrawals = record { withdrawn_by = withdrawn_by; withdraws = withdraws; signed = signed; shut_out = shut_out; refused_23 = refused_23 }
