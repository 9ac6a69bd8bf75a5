-- A run by its story, in which replicas have `GoodOrder`'s key and are handed its order: where all tests compute to true it goes as told and meets the
-- premises. Assumes nothing.
use mathlib.Core.Path.{◌≡◌, refl, sym, ap, ap₂, subst, ◌∙◌}
use mathlib.Core.Bool.{Bool, true}
use mathlib.Core.List.{List, [], ◌∷◌}
use mathlib.Core.Option.{some}
use Prim.Native.Nat.{ℕ, ◌≤◌, ◌<◌}
use lib.Dec.{lit<}
use lib.ListN.{length, get_elem?, take}
use Rattle.base.proofs.Same.{same_equal}
use Rattle.base.specs.Falling.{falling}
use Rattle.base.specs.Outcome.{Outcome, accepted, ◌>>=◌}
use Rattle.base.specs.Party.{register_place}
use Rattle.base.specs.Range.{within}
use Rattle.base.specs.Same.{same}
use Rattle.base.specs.declared.party.ClientId.{ClientId}
use Rattle.base.specs.declared.party.RegisterId.{RegisterId}
use Rattle.base.specs.declared.party.ReplicaId.{ReplicaId}
use Rattle.protocol.specs.Bank.{bank_part}
use Rattle.protocol.specs.Client.{waits}
use Rattle.protocol.specs.Events.{request_handed, order_handed, order_turn, on_replica_event}
use Rattle.protocol.specs.Order.{ordered, withdrawing, take_order}
use Rattle.protocol.specs.RegisterReplica.{held_timestamp}
use Rattle.protocol.specs.declared.replica.Bank.{Bank}
use Rattle.run.proofs.Turns.{good_bank}
use Rattle.run.specs.Lurking.{held_among, held_falling}
use Rattle.run.specs.Premises.{FewFaulty, Premises}
use Rattle.run.specs.Run.{Event, at_replica, at_client, order_to, Run, bank_at, held, answer_at}
use Rattle.run.specs.Withdrawals.{OrderTaken}
use Rattle.witness.proofs.Answers.{is_accepted}
use Rattle.witness.proofs.Cast.{replica_1, replica_2, replica_3, client_4, cards, right_digests_lem, different_cards}
use Rattle.witness.proofs.GoodOrder.{order, key, is_key, names, good}
use Rattle.witness.proofs.Replay.{Stepping, fresh_store, store_after, replica_in, plays_by, Rightly, played_by, bank_told}
use Rattle.witness.proofs.Story.{Line, ◌↝◌, events_of, each, each_tested, line_of, well_told, told_under, Told, NoOtherCards, AllTrue, new_nonces, premises_told, event_told, answer_told}

-- Every order is this one.
abbrev pub is_it : Event → Bool
is_it (at_replica id (request_handed bytes verdicts)) = true
is_it (at_replica id (order_handed bytes)) = same bytes order
is_it (at_client id e) = true

-- Its outcome as told.
abbrev pub step : Stepping
step (request_handed bytes verdicts) bank = on_replica_event (request_handed bytes verdicts) bank
step (order_handed bytes) bank = order_turn (accepted (withdrawing client_4 bank))

abbrev pub held_in : RegisterId → Bank → ℕ
held_in x bank = held_timestamp (bank_part (register_place x) bank).register.held

-- Replicas 1 to r and clients 1 to c are correct.
pub record Ordered (r c : ℕ) (story : List Line) : Type 0 where
  pub at_most_four : r ≤ 4
  pub at_most_96 : c ≤ 96
  pub well_told_lem : each (well_told r c) 0 story ≡ true
  pub all_are : each (λ t line. is_it line.event) 0 story ≡ true
  pub answers : plays_by step (fresh_store (told_under r c at_most_four at_most_96 story well_told_lem key is_key) c) story ≡ true
  pub few_faulty : FewFaulty (told_under r c at_most_four at_most_96 story well_told_lem key is_key)
  pub verdicts_true : AllTrue (told_under r c at_most_four at_most_96 story well_told_lem key is_key) story
  pub new_nonces_lem : new_nonces story ≡ true
  pub no_other_cards : NoOtherCards (told_under r c at_most_four at_most_96 story well_told_lem key is_key) story cards

module _ {r c : ℕ} {story : List Line} (it : Ordered r c story) where
  abbrev pub run_of : Run
  run_of = told_under r c it.at_most_four it.at_most_96 story it.well_told_lem key is_key

  is_the_order : (t : ℕ) (id : ReplicaId) (bytes : List ℕ) → get_elem? (events_of story) t ≡ some (order_to id bytes) → bytes ≡ order
  is_the_order t id bytes found =
      let (line, at, is) = line_of story t (order_to id bytes) found in
      same_equal bytes order (subst (λ (e : Event). is_it e ≡ true) is (each_tested (λ s l. is_it l.event) t story line it.all_are at))

  rightly : Rightly run_of step
  unfolding take_order
  rightly t id (request_handed bytes verdicts) found = refl
  rightly t id (order_handed bytes) found =
      let bank = bank_at run_of id t in
      let key_is = (good_bank run_of id (run_of.at_correct t (order_to id bytes) found) t).key_is in
      let said : ordered bank.key bytes ≡ accepted client_4 = ap₂ ordered key_is (is_the_order t id bytes found) ∙ good in
      ap (λ (o : Outcome ClientId). order_turn (o >>= λ client. accepted (withdrawing client bank))) (sym said)

  pub goes_as_told : Told run_of story
  goes_as_told = played_by run_of step rightly c story refl it.answers

  pub meets_premises : Premises run_of
  meets_premises =
      premises_told run_of story goes_as_told cards it.few_faulty it.verdicts_true it.new_nonces_lem it.no_other_cards right_digests_lem different_cards

  -- A replica takes the order before event u.
  pub takes_order : (t u : ℕ) (id : ReplicaId) → t < u → get_elem? story t ≡ some (order_to id order ↝ waits) → OrderTaken run_of id client_4 u
  takes_order t u id before at =
      record {
        time = t;
        earlier = before;
        order = order;
        event_is = event_told run_of story goes_as_told t (order_to id order ↝ waits) at;
        names = names;
        taken = is_accepted (record { 0 = 0 }) (answer_at run_of t) waits (answer_told run_of story goes_as_told t (order_to id order ↝ waits) at);
      }

  -- What a replica holds in a register when n lines are played, which is what it holds before event n.
  abbrev pub held_after : RegisterId → ℕ → ReplicaId → ℕ
  held_after x n id = held_in x (replica_in (store_after step (fresh_store run_of c) (take n story)) id)

  held_told : (x : RegisterId) (n : ℕ) → n ≤ length story → (id : ReplicaId) → id.0 < length (store_after step (fresh_store run_of c) (take n story)).replicas → held run_of x id n ≡ held_after x n id
  held_told x n l id there = ap (held_in x) (bank_told run_of step rightly c story refl it.answers n l id there)

-- In falling order, where three are correct; the store has places 0 to 4.
pub falls_told : {c : ℕ} {story : List Line} (it : Ordered 3 c story) (x : RegisterId) (n : ℕ) → n ≤ length story → length (store_after step (fresh_store (run_of it) c) (take n story)).replicas ≡ 5
    → held_falling (run_of it) x n ≡ falling (held_after it x n replica_3 ∷ held_after it x n replica_2 ∷ held_after it x n replica_1 ∷ [])
unfolding held_among within
falls_told it x n l five i = falling (holds replica_3 (lit< tt) i ∷ holds replica_2 (lit< tt) i ∷ holds replica_1 (lit< tt) i ∷ [])
  where
    holds : (id : ReplicaId) → id.0 < 5 → held (run_of it) x id n ≡ held_after it x n id
    holds id known = held_told it x n l id (rw five known)
