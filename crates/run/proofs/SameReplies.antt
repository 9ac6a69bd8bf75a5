-- A replica's answers for a register follow from what it is handed for it alone, orders included. Assumes nothing.
use mathlib.Core.Path.{◌≡◌, refl, sym, ap, ap₂, subst, ◌∙◌}
use mathlib.Core.Bool.{Bool, true, false}
use mathlib.Core.List.{List, [], ◌∷◌}
use mathlib.Core.Option.{Option, some}
use Prim.Native.Nat.{ℕ, suc, ◌+◌}
use native.Mathlib.Omega.{arith}
use borrow.Author.Tests.{eqb-true, eqb-false}
use lib.Dec.{eqb}
use lib.ListN.{length, length-replicate, length-set, get_elem?}
use Rattle.base.specs.ClientSet.{with}
use Rattle.base.specs.Outcome.{Outcome, accepted, refused, ◌>>=◌}
use Rattle.base.specs.Party.{is_register, register_place}
use Rattle.base.specs.declared.client_set.ClientSet.{ClientSet}
use Rattle.base.specs.declared.party.ClientId.{ClientId}
use Rattle.base.specs.declared.party.RegisterId.{RegisterId}
use Rattle.base.specs.declared.party.ReplicaId.{ReplicaId}
use Rattle.base.proofs.Apart.{apart}
use Rattle.base.proofs.Booleans.{and_true_both}
use Rattle.base.proofs.Registers.{place_below, place_injective}
use Rattle.protocol.specs.Bank.{bank_part, with_bank_part, fresh_bank, place_in, bank_step}
use Rattle.protocol.specs.Client.{Answer}
use Rattle.protocol.specs.Events.{ReplicaEvent, request_handed, order_handed, bank_turn, order_turn, on_replica_event, next_bank, bank_answer}
use Rattle.protocol.specs.Order.{ordered, withdrawing, take_order}
use Rattle.protocol.specs.RegisterReplica.{Reply, fresh_register, register_step}
use Rattle.protocol.specs.declared.replica.Bank.{Bank}
use Rattle.protocol.specs.declared.replica.Register.{Register}
use Rattle.protocol.specs.declared.replica.RegisterReplica.{RegisterReplica}
use Rattle.protocol.proofs.BankFacts.{part_elsewhere, part_there, let_through, refused_alike}
use Rattle.protocol.proofs.GoodBank.{bank_parts}
use Rattle.wire.proofs.ReadingByKind.{decode_tested}
use Rattle.wire.specs.Acceptance.{admitted}
use Rattle.wire.specs.Decode.{register_in, framed}
use Rattle.wire.specs.Message.{Message}
use Rattle.wire.specs.declared.message.Party.TheVariants.{Replica as AtReplica}
use Rattle.wire.proofs.FieldPlaces.{framed_passes}
use Rattle.wire.proofs.OneForm.{found_register}
use Rattle.run.specs.Replies.{passes, is_for, handed_in, answers_in, handed_for, answers_for, SameReplies}
use Rattle.run.specs.Run.{Event, at_replica, at_client, Run, after_at_replica, event, bank_at, answer_to}
use Rattle.run.proofs.Turns.{same_replica}

-- The bank after an event.
abbrev after : ReplicaEvent → Bank → Bank
after e bank = next_bank bank (on_replica_event e bank)

-- What a replica answers that is handed these, one after the other, and nothing else.
abbrev replies_of : Bank → List ReplicaEvent → List (Outcome Answer)
replies_of bank [] = []
replies_of bank (e ∷ rest) = bank_answer (on_replica_event e bank) ∷ replies_of (after e bank) rest

-- A part with another register.
abbrev put : Register → RegisterReplica → RegisterReplica
put register part = record { f = part.f; id = part.id; register = register; withdrawn = part.withdrawn }

-- ---- Banks that are alike for a register

module _ (x : RegisterId) where
  -- All that answers for register x look at is the same. Where x is no register's number, that is no register.
  record Alike (bank other : Bank) : Type 0 where
    long : length bank.registers ≡ 16
    other_long : length other.registers ≡ 16
    same_f : bank.f ≡ other.f
    same_withdrawn : bank.withdrawn ≡ other.withdrawn
    same_key : bank.key ≡ other.key
    same_part : is_register x ≡ true → bank_part (register_place x) bank ≡ bank_part (register_place x) other

  fresh_alike : (f : ℕ) (id : ReplicaId) (key : List ℕ) → Alike (fresh_bank f id key) (fresh_bank f id key)
  fresh_alike f id key = record {
    long = length-replicate 16 fresh_register;
    other_long = length-replicate 16 fresh_register;
    same_f = refl;
    same_withdrawn = refl;
    same_key = refl;
    same_part = λ registered. refl;
  }

  -- ---- A message

  module _ (bytes verdicts : List ℕ) where
    abbrev left : Bank → Outcome Reply → Bank
    left bank step = next_bank bank (bank_turn (place_in bytes) bank step)

    -- One that a replica takes passed 2 to 4, and is for a register.
    taken_for : (bank : Bank) (reply : Reply) → bank_step bank bytes verdicts ≡ accepted reply → (is_register (register_in bytes) ≡ true) × (passes (framed bytes (accepted tt)) ≡ true)
    taken_for bank reply e =
        let (register, message, passed, taken) = bank_parts bank bytes verdicts reply e in
        let tested = decode_tested AtReplica bytes register message passed.decodes in
        (ap is_register (found_register AtReplica bytes register message passed.decodes) ∙ passed.registered, ap passes (framed_passes bytes (accepted tt) tested.framed))

    -- It leaves the part of a register that it is not for,
    other_kept : (bank : Bank) → is_register x ≡ true → is_for x (request_handed bytes verdicts) ≡ false
        → bank_part (register_place x) (left bank (bank_step bank bytes verdicts)) ≡ bank_part (register_place x) bank
    other_kept bank registered not_for = go (bank_step bank bytes verdicts) refl
      where
        go : (step : Outcome Reply) → bank_step bank bytes verdicts ≡ step → bank_part (register_place x) (left bank step) ≡ bank_part (register_place x) bank
        go (refused n) e = refl
        go (accepted reply) e =
            let (known, whole) = taken_for bank reply e in
            let differs : eqb (register_in bytes).0 x.0 ≡ false = rw whole at not_for in
            part_elsewhere bank (place_in bytes) reply.next (register_place x)
            (λ same. eqb-false (register_in bytes).0 x.0 differs (ap (λ (y : RegisterId). y.0) (sym (place_injective x (register_in bytes) registered known same))))

    -- and so banks stay alike.
    other_alike : (bank other : Bank) → is_for x (request_handed bytes verdicts) ≡ false → Alike bank other → Alike bank (after (request_handed bytes verdicts) other)
    other_alike bank other not_for alike = go (bank_step other bytes verdicts) (λ registered. other_kept other registered not_for)
      where
        go : (step : Outcome Reply) → (is_register x ≡ true → bank_part (register_place x) (left other step) ≡ bank_part (register_place x) other) → Alike bank (left other step)
        go (refused n) kept = alike
        go (accepted reply) kept = record {
          long = alike.long;
          other_long = length-set other.registers (place_in bytes) reply.next.register ∙ alike.other_long;
          same_f = alike.same_f;
          same_withdrawn = alike.same_withdrawn;
          same_key = alike.same_key;
          same_part = λ registered. alike.same_part registered ∙ sym (kept registered);
        }

    -- One that is for x is answered alike: from the same part, or, for no register, whatever a part holds.
    none_alike : (part other : RegisterReplica) → part.f ≡ other.f → part.withdrawn ≡ other.withdrawn → is_register (register_in bytes) ≡ false
        → register_step part bytes verdicts ≡ register_step other bytes verdicts
    none_alike part other same same_withdrawn none = go (admitted AtReplica part.f part.withdrawn bytes verdicts) refl
      where
        go : (out : Outcome (RegisterId × Message)) → admitted AtReplica part.f part.withdrawn bytes verdicts ≡ out → register_step part bytes verdicts ≡ register_step other bytes verdicts
        go (accepted (register, message)) e = let known = (let_through bytes verdicts part.f part.withdrawn register message e).0 in apart (cc)
        go (refused n) e =
            refused_alike bytes verdicts part n e
            ∙ sym (refused_alike bytes verdicts other n (ap₂ (λ (f : ℕ) (withdrawn : ClientSet). admitted AtReplica f withdrawn bytes verdicts) (sym same) (sym same_withdrawn) ∙ e))

    module _ (bank other : Bank) (for_it : register_in bytes ≡ x) (alike : Alike bank other) where
      same_step : bank_step bank bytes verdicts ≡ bank_step other bytes verdicts
      unfolding bank_step
      same_step = go (is_register x) refl
        where
          go : (b : Bool) → is_register x ≡ b → register_step (bank_part (place_in bytes) bank) bytes verdicts ≡ register_step (bank_part (place_in bytes) other) bytes verdicts
          go true registered =
              ap (λ (part : RegisterReplica). register_step part bytes verdicts)
              (subst (λ (y : RegisterId). bank_part (register_place y) bank ≡ bank_part (register_place y) other) (sym for_it) (alike.same_part registered))
          go false none = none_alike (bank_part (place_in bytes) bank) (bank_part (place_in bytes) other) alike.same_f alike.same_withdrawn (ap is_register for_it ∙ none)

      -- A register that is put back is there.
      put_there : (b : Bank) → length b.registers ≡ 16 → (next : RegisterReplica)
          → bank_part (register_place x) (with_bank_part (place_in bytes) next b) ≡ put next.register (bank_part (register_place x) b)
      put_there b sixteen next =
          subst (λ (y : RegisterId). bank_part (register_place y) (with_bank_part (place_in bytes) next b) ≡ put next.register (bank_part (register_place y) b)) for_it
          (ap (λ (register : Register). put register (bank_part (place_in bytes) b)) (part_there b (place_in bytes) next (omega (arith, sixteen, place_below (register_in bytes)))))

      own_alike : (step : Outcome Reply) → Alike (left bank step) (left other step)
      own_alike (refused n) = alike
      own_alike (accepted reply) = record {
        long = length-set bank.registers (place_in bytes) reply.next.register ∙ alike.long;
        other_long = length-set other.registers (place_in bytes) reply.next.register ∙ alike.other_long;
        same_f = alike.same_f;
        same_withdrawn = alike.same_withdrawn;
        same_key = alike.same_key;
        same_part = λ registered.
            put_there bank alike.long reply.next ∙ ap (put reply.next.register) (alike.same_part registered)
            ∙ sym (put_there other alike.other_long reply.next);
      }

  -- ---- What is for x is answered alike, and leaves banks alike

  record Together (bank other : Bank) (e : ReplicaEvent) : Type 0 where
    answers : bank_answer (on_replica_event e bank) ≡ bank_answer (on_replica_event e other)
    leaves : Alike (after e bank) (after e other)

  message_together : (bytes verdicts : List ℕ) (bank other : Bank) → is_for x (request_handed bytes verdicts) ≡ true → Alike bank other → Together bank other (request_handed bytes verdicts)
  message_together bytes verdicts bank other f alike =
      let both = and_true_both (passes (framed bytes (accepted tt))) (eqb (register_in bytes).0 x.0) f in
      let is : register_in bytes ≡ x = ap {B = RegisterId} (λ (n : ℕ). record { 0 = n }) (eqb-true (register_in bytes).0 x.0 both.1) in
      let step = bank_step bank bytes verdicts in
      let same = same_step bytes verdicts bank other is alike in
      record {
        answers = says step ∙ ap (λ (s : Outcome Reply). bank_answer (bank_turn (place_in bytes) other s)) same;
        leaves = subst (λ (s : Outcome Reply). Alike (left bytes verdicts bank step) (left bytes verdicts other s)) same (own_alike bytes verdicts bank other is alike step);
      }
    where
      -- The answer is the reply's, whatever bank it is put back into.
      says : (step : Outcome Reply) → bank_answer (bank_turn (place_in bytes) bank step) ≡ bank_answer (bank_turn (place_in bytes) other step)
      says (accepted reply) = refl
      says (refused n) = refl

  -- An order withdraws the same client, or is refused.
  order_together : (order : List ℕ) (bank other : Bank) → Alike bank other → Together bank other (order_handed order)
  unfolding take_order
  order_together order bank other alike =
      let same = ap (λ (key : List ℕ). ordered key order) alike.same_key in
      let both = subst (λ (o : Outcome ClientId). Answered (ordered bank.key order) o) same (go (ordered bank.key order)) in
      record { answers = both.0; leaves = both.1 }
    where
      taking : Bank → Outcome ClientId → Outcome Bank
      taking b o = o >>= λ client. accepted (withdrawing client b)

      Answered : Outcome ClientId → Outcome ClientId → Type 0
      Answered o o' = (bank_answer (order_turn (taking bank o)) ≡ bank_answer (order_turn (taking other o'))) × Alike (next_bank bank (order_turn (taking bank o))) (next_bank other (order_turn (taking other o')))

      go : (o : Outcome ClientId) → Answered o o
      go (refused n) = (refl, alike)
      go (accepted client) = (
        refl,
        record {
          long = alike.long;
          other_long = alike.other_long;
          same_f = alike.same_f;
          same_withdrawn = ap (λ (set : ClientSet). with set client) alike.same_withdrawn;
          same_key = alike.same_key;
          same_part = λ registered. ap (λ (part : RegisterReplica). record { f = part.f; id = part.id; register = part.register; withdrawn = with part.withdrawn client }) (alike.same_part registered);
        },
      )

  together : (e : ReplicaEvent) (bank other : Bank) → is_for x e ≡ true → Alike bank other → Together bank other e
  together (request_handed bytes verdicts) bank other f alike = message_together bytes verdicts bank other f alike
  together (order_handed order) bank other f alike = order_together order bank other alike

  -- What is not for x is a message, and leaves them alike too.
  apart_alike : (e : ReplicaEvent) (bank other : Bank) → is_for x e ≡ false → Alike bank other → Alike bank (after e other)
  apart_alike (request_handed bytes verdicts) bank other f alike = other_alike bytes verdicts bank other f alike
  apart_alike (order_handed order) bank other f alike = apart (cc)

-- ---- Along a run

module _ (R : Run) (id : ReplicaId) (x : RegisterId) where
  next_bank_lem : (t : ℕ) (e : Event) → event R t ≡ some e → bank_at R id (suc t) ≡ after_at_replica id (some e) (bank_at R id t)
  unfolding bank_at
  next_bank_lem t e q = ap (λ (e : Option Event). after_at_replica id e (bank_at R id t)) q

  answered : (t : ℕ) (p : ReplicaId) (e : ReplicaEvent) → eqb p.0 id.0 ≡ true → answer_to R t (some (at_replica p e)) ≡ bank_answer (on_replica_event e (bank_at R id t))
  unfolding answer_to
  answered t p e own = ap (λ (i : ReplicaId). bank_answer (on_replica_event e (bank_at R i t))) (same_replica p id (eqb-true p.0 id.0 own))

  -- One event more: what follows it is said of any bank that is then alike.
  module _ (t : ℕ) (events : List Event) (bank : Bank) (alike : Alike x bank (bank_at R id t))
      (rest : (next : Bank) → Alike x next (bank_at R id (suc t)) → answers_in id x R (suc t) events ≡ replies_of next (handed_in id x events)) where
    -- Another party's.
    passing : (e : Event) → event R t ≡ some e → after_at_replica id (some e) (bank_at R id t) ≡ bank_at R id t → answers_in id x R (suc t) events ≡ replies_of bank (handed_in id x events)
    passing e q kept = rest bank (subst (Alike x bank) (sym (next_bank_lem t e q ∙ kept)) alike)

    handed : (p : ReplicaId) (e : ReplicaEvent) → event R t ≡ some (at_replica p e)
        → answers_in id x R t (at_replica p e ∷ events) ≡ replies_of bank (handed_in id x (at_replica p e ∷ events))
    handed p e q = go (eqb p.0 id.0) (is_for x e) refl refl
      where
        next : eqb p.0 id.0 ≡ true → bank_at R id (suc t) ≡ after e (bank_at R id t)
        next own = next_bank_lem t (at_replica p e) q ∙ rw own

        go : (own for_it : Bool) → eqb p.0 id.0 ≡ own → is_for x e ≡ for_it
            → answers_in id x R t (at_replica p e ∷ events) ≡ replies_of bank (handed_in id x (at_replica p e ∷ events))
        go false for_it o f = simp o (passing (at_replica p e) q (rw o))
        go true false o f = simp (o, f) (rest bank (subst (Alike x bank) (sym (next o)) (apart_alike x e bank (bank_at R id t) f alike)))
        go true true o f =
            let both = together x e bank (bank_at R id t) f alike in
            simp (o, f)
            (ap₂ (λ (answer : Outcome Answer) (answers : List (Outcome Answer)). answer ∷ answers)
            (answered t p e o ∙ sym both.answers)
            (rest (after e bank) (subst (Alike x (after e bank)) (sym (next o)) both.leaves)))

    one : (e : Event) → event R t ≡ some e → answers_in id x R t (e ∷ events) ≡ replies_of bank (handed_in id x (e ∷ events))
    one (at_replica p e) q = handed p e q
    one (at_client p e) q = passing (at_client p e) q refl

  -- The answers to these events are those of a replica that is handed what is for x alone.
  follow : (t : ℕ) (events : List Event) (bank : Bank) → ((i : ℕ) → event R (t + i) ≡ get_elem? events i) → Alike x bank (bank_at R id t) → answers_in id x R t events ≡ replies_of bank (handed_in id x events)
  follow t [] bank at alike = refl
  follow t (e ∷ events) bank at alike =
      let now : t + 0 ≡ t = omega arith in
      one t events bank alike (λ next s. follow (suc t) events next (λ i. let then : t + suc i ≡ suc t + i = omega arith in subst (λ (s : ℕ). event R s ≡ get_elem? events i) then (at (suc i))) s)
      e (subst (λ (s : ℕ). event R s ≡ some e) now (at 0))

  answers_of : answers_for R id x ≡ replies_of (fresh_bank R.f id (R.office_key id)) (handed_for R id x)
  unfolding bank_at
  answers_of =
      follow 0 R.events (fresh_bank R.f id (R.office_key id)) (λ i. let now : 0 + i ≡ i = omega arith in ap (event R) now) (fresh_alike x R.f id (R.office_key id))

-- In every two runs, whatever verdicts were handed over, and whatever happened besides.
pub same_replies : (R R' : Run) → SameReplies R R'
same_replies R R' same_f id c c' same_key x same =
    let replies = ap (replies_of (fresh_bank R'.f id (R'.office_key id))) same in
    answers_of R id x
    ∙ ap₂ (λ (f : ℕ) (key : List ℕ). replies_of (fresh_bank f id key) (handed_for R id x)) same_f same_key
    ∙ replies
    ∙ sym (answers_of R' id x)
