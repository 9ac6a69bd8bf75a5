-- A run played with all records at hand, so that each event is computed once: the answers are the run's. Assumes nothing.
use mathlib.Core.Path.{◌≡◌, refl, sym, ap, subst, ◌∙◌}
use mathlib.Core.Logic.{◌≢◌}
use mathlib.Core.Bool.{Bool, true, false, ◌&&◌, cond}
use mathlib.Core.List.{List, [], ◌∷◌}
use mathlib.Core.Option.{Option, some}
use Prim.Native.Nat.{ℕ, zero, suc, ◌+◌, ◌≤◌, ◌<◌}
use native.Mathlib.Omega.{arith}
use borrow.Author.Tests.{eqb-true, eqb-false, ltb-true}
use lib.Dec.{eqb, ltb}
use lib.ListN.{length, get_or, get_elem?, take, set, length-set}
use lib.Seq.{get_or-set_same, get_or-set_other}
use Rattle.base.proofs.Booleans.{and_true_both}
use Rattle.base.specs.Outcome.{Outcome}
use Rattle.base.specs.Same.{same}
use Rattle.base.specs.declared.party.ClientId.{ClientId}
use Rattle.base.specs.declared.party.ReplicaId.{ReplicaId}
use Rattle.protocol.specs.Client.{Answer, fresh_client}
use Rattle.protocol.specs.Bank.{fresh_bank}
use Rattle.protocol.specs.declared.client.Client.{Client}
use Rattle.protocol.specs.declared.replica.Bank.{Bank}
use Rattle.protocol.specs.Events.{ReplicaEvent, BankTurn, on_replica_event, next_bank, bank_answer, on_client_event, next_client, client_answer}
use Rattle.run.specs.Run.{Event, at_replica, at_client, register_of, after_at_replica, after_at_client, Run, event, bank_at, client_at, answer_to}
use Rattle.base.proofs.Same.{same_equal}
use Rattle.witness.proofs.Answers.{code}
use Rattle.witness.proofs.Story.{Line, Each, events_of, Told}

-- ---- Records in a list, that of party i at i; `other` stands beyond the end

module _ {A : Type 0} (other : A) where
  -- The records are those that `right` says.
  abbrev Right : List A → (ℕ → A) → Type 0
  Right records right = (i : ℕ) → i < length records → get_or records i other ≡ right i

  -- Party `at` takes a step, the others keep their records.
  steps_right : (records : List A) (right : ℕ → A) (at : ℕ) (next : A → A) → at < length records → Right records right
      → Right (set records at (next (get_or records at other))) (λ i. cond (eqb at i) (next (right i)) (right i))
  steps_right records right at next there all i inside = go (eqb at i) refl
    where
      go : (is : Bool) → eqb at i ≡ is → get_or (set records at (next (get_or records at other))) i other ≡ cond is (next (right i)) (right i)
      go true e =
          subst (λ (j : ℕ). get_or (set records at (next (get_or records at other))) j other ≡ next (right j)) (eqb-true at i e)
          (get_or-set_same records at (next (get_or records at other)) other there ∙ ap next (all at there))
      go false e =
          let elsewhere : i ≢ at = λ is. eqb-false at i e (sym is) in
          get_or-set_other records at i (next (get_or records at other)) other elsewhere
          ∙ all i (subst (λ (n : ℕ). i < n) (length-set records at (next (get_or records at other))) inside)

abbrev records : {A : Type 0} → ℕ → (ℕ → A) → List A
records zero of = []
records (suc n) of = of 0 ∷ records n (λ i. of (suc i))

records_right : {A : Type 0} (other : A) (n : ℕ) (of : ℕ → A) → Right other (records n of) of
records_right other zero of i inside = absurd (omega arith)
records_right other (suc n) of zero inside = refl
records_right other (suc n) of (suc i) inside = records_right other n (λ j. of (suc j)) i (omega arith)

-- ---- The store, and an event played with it

-- With the f that clients are made with.
pub record Store : Type 0 where
  pub f : ℕ
  pub replicas : List Bank
  pub clients : List Client

abbrev replica_of : ℕ → ReplicaId
replica_of i = record { 0 = i }

abbrev client_of_lem : ℕ → ClientId
client_of_lem i = record { 0 = i }

abbrev no_replica : Bank
no_replica = fresh_bank 1 (replica_of 0) []

abbrev no_client_lem : Client
no_client_lem = fresh_client 1 (client_of_lem 0) 1

abbrev pub replica_in : Store → ReplicaId → Bank
replica_in store id = get_or store.replicas id.0 no_replica

abbrev client_in : Store → ClientId → Client
client_in store id = get_or store.clients id.0 no_client_lem

abbrev in_store : Store → Event → Bool
in_store store (at_replica id e) = ltb id.0 (length store.replicas)
in_store store (at_client id e) = ltb id.0 (length store.clients)

abbrev with_replica : Store → ReplicaId → Bank → Store
with_replica store id next = record { f = store.f; replicas = set store.replicas id.0 next; clients = store.clients }

abbrev with_client : Store → ClientId → Client → Store
with_client store id next = record { f = store.f; replicas = store.replicas; clients = set store.clients id.0 next }

-- How a replica steps as it is played: as `on_replica_event` says, or with an order's outcome as told, since no proof computes the hashes of its
-- signature check.
abbrev pub Stepping : Type 0
Stepping = ReplicaEvent → Bank → Outcome BankTurn

-- The answer to an event, and the store afterwards: a `let`, so that the step is computed once for both.
record Played : Type 0 where
  answer : Outcome Answer
  next : Store

abbrev play : Stepping → Store → Event → Played
play step store (at_replica id e) =
    let before = replica_in store id in
    let turn = step e before in
    record { answer = bank_answer turn; next = with_replica store id (next_bank before turn) }
play step store (at_client id e) =
    let before = client_in store id in
    let turn = on_client_event store.f id e before in
    record { answer = client_answer turn; next = with_client store id (next_client before turn) }

-- The lines' answers are those of their events, all at parties of the store.
unfoldable pub plays_by : Stepping → Store → List Line → Bool
unfolding code
plays_by step store [] = true
plays_by step store (line ∷ lines) =
    let played = play step store line.event in
    (in_store store line.event && same (code (register_of line.event) played.answer) (code (register_of line.event) line.answer)) && plays_by step played.next lines

unfoldable pub plays : Store → List Line → Bool
unfolding plays_by
plays store lines = plays_by on_replica_event store lines

-- The store after some lines.
unfoldable pub store_after : Stepping → Store → List Line → Store
store_after step store [] = store
store_after step store (line ∷ lines) = store_after step (play step store line.event).next lines

module _ (R : Run) where
  -- The fresh records of replicas 1 to 4 and clients 1 to c; place 0 is no party's.
  abbrev pub fresh_store : ℕ → Store
  fresh_store c =
      record {
        f = R.f;
        replicas = records 5 (λ i. fresh_bank R.f (replica_of i) (R.office_key (replica_of i)));
        clients = records (suc c) (λ i. fresh_client R.f (client_of_lem i) (R.first_nonce_lem (client_of_lem i)));
      }

  -- The store has the run's records before event t.
  record Holds (t : ℕ) (store : Store) : Type 0 where
    f_is : store.f ≡ R.f
    replicas : Right no_replica store.replicas (λ i. bank_at R (replica_of i) t)
    clients : Right no_client_lem store.clients (λ i. client_at R (client_of_lem i) t)

  fresh_holds : (c : ℕ) → Holds 0 (fresh_store c)
  unfolding bank_at client_at
  fresh_holds c =
      record {
        f_is = refl;
        replicas = records_right no_replica 5 (λ i. fresh_bank R.f (replica_of i) (R.office_key (replica_of i)));
        clients = records_right no_client_lem (suc c) (λ i. fresh_client R.f (client_of_lem i) (R.first_nonce_lem (client_of_lem i)));
      }

  -- What an event leaves to a party is what the run has next.
  next_replica : (t : ℕ) (e : Event) → event R t ≡ some e → (i : ℕ) → after_at_replica (replica_of i) (some e) (bank_at R (replica_of i) t) ≡ bank_at R (replica_of i) (suc t)
  unfolding bank_at
  next_replica t e found i = ap (λ (x : Option Event). after_at_replica (replica_of i) x (bank_at R (replica_of i) t)) (sym found)

  next_client_lem : (t : ℕ) (e : Event) → event R t ≡ some e → (i : ℕ) → after_at_client R.f (client_of_lem i) (some e) (client_at R (client_of_lem i) t) ≡ client_at R (client_of_lem i) (suc t)
  unfolding client_at
  next_client_lem t e found i = ap (λ (x : Option Event). after_at_client R.f (client_of_lem i) x (client_at R (client_of_lem i) t)) (sym found)

  -- The replicas of the run step so.
  abbrev pub Rightly : Stepping → Type 0
  Rightly step = (t : ℕ) (id : ReplicaId) (e : ReplicaEvent) → event R t ≡ some (at_replica id e) → step e (bank_at R id t) ≡ on_replica_event e (bank_at R id t)

  module _ (step : Stepping) (right : Rightly step) where
    -- Of party i: its own event, or another's.
    steps_so : (t : ℕ) (id : ReplicaId) (e : ReplicaEvent) → event R t ≡ some (at_replica id e) → (i : ℕ)
        → cond (eqb id.0 i) (next_bank (bank_at R (replica_of i) t) (step e (bank_at R (replica_of i) t))) (bank_at R (replica_of i) t)
        ≡ cond (eqb id.0 i) (next_bank (bank_at R (replica_of i) t) (on_replica_event e (bank_at R (replica_of i) t))) (bank_at R (replica_of i) t)
    steps_so t id e found i = go (eqb id.0 i) refl
      where
        left : Stepping → ℕ → Bank
        left by j = next_bank (bank_at R (replica_of j) t) (by e (bank_at R (replica_of j) t))

        go : (own : Bool) → eqb id.0 i ≡ own → cond own (left step i) (bank_at R (replica_of i) t) ≡ cond own (left on_replica_event i) (bank_at R (replica_of i) t)
        go true k = subst (λ (j : ℕ). left step j ≡ left on_replica_event j) (eqb-true id.0 i k) (ap (next_bank (bank_at R id t)) (right t id e found))
        go false k = refl

    still_holds : (t : ℕ) (store : Store) (e : Event) → event R t ≡ some e → in_store store e ≡ true → Holds t store → Holds (suc t) (play step store e).next
    still_holds t store (at_replica id e) found there holds =
        record {
          f_is = holds.f_is;
          replicas = λ i inside.
              steps_right no_replica store.replicas (λ j. bank_at R (replica_of j) t) id.0 (λ b. next_bank b (step e b)) (ltb-true id.0 (length store.replicas) there) holds.replicas i inside
              ∙ steps_so t id e found i ∙ next_replica t (at_replica id e) found i;
          clients = λ i inside. holds.clients i inside ∙ next_client_lem t (at_replica id e) found i;
        }
    still_holds t store (at_client id e) found there holds =
        record {
          f_is = holds.f_is;
          replicas = λ i inside. holds.replicas i inside ∙ next_replica t (at_client id e) found i;
          clients = λ i inside.
              steps_right no_client_lem store.clients (λ j. client_at R (client_of_lem j) t) id.0 (λ c. next_client c (on_client_event store.f id e c)) (ltb-true id.0 (length store.clients) there) holds.clients i inside
              ∙ ap (λ (f : ℕ). after_at_client f (client_of_lem i) (some (at_client id e)) (client_at R (client_of_lem i) t)) holds.f_is
              ∙ next_client_lem t (at_client id e) found i;
        }

    answers_right : (t : ℕ) (store : Store) (e : Event) → event R t ≡ some e → in_store store e ≡ true → Holds t store → answer_to R t (some e) ≡ (play step store e).answer
    unfolding answer_to
    answers_right t store (at_replica id e) found there holds =
        ap bank_answer (sym (right t id e found)) ∙ ap (λ (b : Bank). bank_answer (step e b)) (sym (holds.replicas id.0 (ltb-true id.0 (length store.replicas) there)))
    answers_right t store (at_client id e) found there holds =
        ap (λ (f : ℕ). client_answer (on_client_event f id e (client_at R id t))) (sym holds.f_is)
        ∙ ap (λ (c : Client). client_answer (on_client_event store.f id e c)) (sym (holds.clients id.0 (ltb-true id.0 (length store.clients) there)))

    -- From event t on the run's events are those of these lines.
    abbrev From : ℕ → List Line → Type 0
    From t lines = (i : ℕ) → event R (t + i) ≡ get_elem? (events_of lines) i

    -- A line that is played: it is answered as told, and the rest is played with the store that it leaves.
    record LinePlayed (t : ℕ) (store : Store) (line : Line) (lines : List Line) : Type 0 where
      answered : code (register_of line.event) (answer_to R t (some line.event)) ≡ code (register_of line.event) line.answer
      events : From (suc t) lines
      holds : Holds (suc t) (play step store line.event).next
      test : plays_by step (play step store line.event).next lines ≡ true

    line_played : (t : ℕ) (store : Store) (line : Line) (lines : List Line) → From t (line ∷ lines) → Holds t store → plays_by step store (line ∷ lines) ≡ true → LinePlayed t store line lines
    unfolding plays_by
    line_played t store line lines events holds test =
        let x = register_of line.event in
        let both = and_true_both (in_store store line.event && same (code x (play step store line.event).answer) (code x line.answer)) (plays_by step (play step store line.event).next lines) test in
        let here = and_true_both (in_store store line.event) (same (code x (play step store line.event).answer) (code x line.answer)) both.0 in
        let now : t + 0 ≡ t = omega arith in
        let found : event R t ≡ some line.event = subst (λ (s : ℕ). event R s ≡ some line.event) now (events 0) in
        record {
          answered = ap (code x) (answers_right t store line.event found here.0 holds) ∙ same_equal (code x (play step store line.event).answer) (code x line.answer) here.1;
          events = λ i. let then : t + suc i ≡ suc t + i = omega arith in subst (λ (s : ℕ). event R s ≡ get_elem? (events_of lines) i) then (events (suc i));
          holds = still_holds t store line.event found here.0 holds;
          test = both.1;
        }

    each_played : (t : ℕ) (store : Store) (lines : List Line) → From t lines → Holds t store → plays_by step store lines ≡ true
        → Each (λ s line. code (register_of line.event) (answer_to R s (some line.event)) ≡ code (register_of line.event) line.answer) t lines
    each_played t store [] events holds test = tt
    each_played t store (line ∷ lines) events holds test =
        let it = line_played t store line lines events holds test in
        (it.answered, each_played (suc t) (play step store line.event).next lines it.events it.holds it.test)

    holds_after : (n t : ℕ) (store : Store) (lines : List Line) → n ≤ length lines → From t lines → Holds t store → plays_by step store lines ≡ true → Holds (t + n) (store_after step store (take n lines))
    unfolding store_after
    holds_after zero t store lines l events holds test = let now : t ≡ t + 0 = omega arith in subst (λ (s : ℕ). Holds s store) now holds
    holds_after (suc n) t store [] l events holds test = absurd (omega arith)
    holds_after (suc n) t store (line ∷ lines) l events holds test =
        let it = line_played t store line lines events holds test in
        let now : suc t + n ≡ t + suc n = omega arith in
        subst (λ (s : ℕ). Holds s (store_after step (play step store line.event).next (take n lines))) now
        (holds_after n (suc t) (play step store line.event).next lines (omega arith) it.events it.holds it.test)

    module _ (c : ℕ) (lines : List Line) (told : R.events ≡ events_of lines) (test : plays_by step (fresh_store c) lines ≡ true) where
      from_start : From 0 lines
      from_start i = let now : 0 + i ≡ i = omega arith in subst (λ (s : ℕ). event R s ≡ get_elem? (events_of lines) i) (sym now) (ap (λ (es : List Event). get_elem? es i) told)

      pub played_by : Told R lines
      played_by = record { events = told; answers = each_played 0 (fresh_store c) lines from_start (fresh_holds c) test }

      -- The run's record of a replica before event n, which is that after n lines.
      pub bank_told : (n : ℕ) → n ≤ length lines → (id : ReplicaId) → id.0 < length (store_after step (fresh_store c) (take n lines)).replicas
          → bank_at R id n ≡ replica_in (store_after step (fresh_store c) (take n lines)) id
      bank_told n l id there =
          let now : 0 + n ≡ n = omega arith in
          sym ((subst (λ (t : ℕ). Holds t (store_after step (fresh_store c) (take n lines))) now (holds_after n 0 (fresh_store c) lines l from_start (fresh_holds c) test)).replicas id.0 there)

  pub played : (c : ℕ) (lines : List Line) → R.events ≡ events_of lines → plays (fresh_store c) lines ≡ true → Told R lines
  unfolding plays
  played c lines told test = played_by on_replica_event (λ t id e found. refl) c lines told test
