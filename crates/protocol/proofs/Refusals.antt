-- A replica's refusals are numbered 1 to 255, so that one byte holds each and none is 0. Assumes nothing.
use mathlib.Core.Path.{◌≡◌, refl, subst}
use mathlib.Core.Bool.{Bool, true, false, ◌&&◌, cond}
use mathlib.Core.List.{List, [], ◌∷◌}
use Prim.Native.Nat.{ℕ, ◌≤◌}
use borrow.Author.Tests.{leb-true}
use lib.Dec.{eqb, leb}
use Rattle.base.specs.BitMap.{bit}
use Rattle.base.specs.Outcome.{Outcome, accepted, refused, guard, ◌>>=◌}
use Rattle.base.specs.declared.client_set.ClientSet.{ClientSet}
use Rattle.base.specs.declared.party.ClientId.{ClientId}
use Rattle.base.proofs.Apart.{apart}
use Rattle.base.proofs.Booleans.{and_true_both}
use Rattle.wire.specs.Acceptance.{admits, admitted}
use Rattle.wire.specs.Checks.{checked, proven}
use Rattle.wire.specs.Decode.{proof_in, optional, Row, of_kind, kinds, framed, message_in, decode}
use Rattle.wire.specs.Layout.{map_in, field}
use Rattle.wire.specs.Message.{Message, READ-STAMP, PREPARE, WRITE, READ, STAMP, PREPARED, WRITTEN, CARD}
use Rattle.wire.specs.Proof.{read_proof}
use Rattle.wire.specs.declared.message.Party.{Party}
use Rattle.wire.specs.declared.message.Party.TheVariants.{Replica as AtReplica}
use Rattle.protocol.specs.Bank.{place_in, bank_step}
use Rattle.protocol.specs.Events.{ReplicaEvent, request_handed, order_handed, bank_turn, order_turn, on_replica_event}
use Rattle.protocol.specs.Order.{ordered, take_order}
use Rattle.protocol.specs.RegisterReplica.{Reply, slot_is, after_prepare, on_request, register_step}
use Rattle.protocol.specs.declared.replica.Bank.{Bank}
use Rattle.protocol.specs.declared.replica.RegisterReplica.{RegisterReplica}
use Rattle.protocol.specs.declared.replica.Slots.{Slots}
use Rattle.protocol.proofs.Accepts.{by_test}

-- A byte but 0.
abbrev is_number : ℕ → Bool
is_number n = leb 1 n && leb n 255

record Refuses {A : Type 0} (o : Outcome A) : Type 0 where
  range : (n : ℕ) → o ≡ refused n → is_number n ≡ true

module _ {A : Type 0} where
  by_value : {a : A} → Refuses (accepted a)
  by_value = record { range = λ n e. apart (cc) }

  -- The number is one by computation: `refl`.
  by_number : (k : ℕ) → is_number k ≡ true → Refuses {A = A} (refused k)
  by_number k small = record { range = λ n e. let same : k ≡ n = cc in subst (λ (m : ℕ). is_number m ≡ true) same small }

  by_guard : (k : ℕ) → is_number k ≡ true → {test : Bool} {next : Outcome A} → (test ≡ true → Refuses next) → Refuses (guard k test next)
  unfolding guard
  by_guard k small {test} {next} h = go test refl
    where
      go : (b : Bool) → test ≡ b → Refuses (guard k b next)
      go true t = h t
      go false t = by_number k small

  by_cases : (test : Bool) {yes_then no_then : Outcome A} → Refuses yes_then → Refuses no_then → Refuses (cond test yes_then no_then)
  by_cases test h k = by_test Refuses {test = test} (λ t. h) (λ t. k)

  by_next : {B : Type 0} {o : Outcome B} {next : B → Outcome A} → Refuses o → ((b : B) → Refuses (next b)) → Refuses (o >>= next)
  by_next {B} {o} {next} h k = go o h.range
    where
      go : (o : Outcome B) → ((n : ℕ) → o ≡ refused n → is_number n ≡ true) → Refuses (o >>= next)
      go (accepted b) r = k b
      go (refused n) r = by_number n (r n refl)

-- ---- 2 to 5

proof_reads : (d : ℕ) (bytes : List ℕ) → Refuses (read_proof d bytes)
unfolding read_proof
proof_reads d bytes = by_guard 4 refl (λ t. by_value)

proof_in_lem : (d b : ℕ) (bytes : List ℕ) → Refuses (proof_in d b bytes)
proof_in_lem d b bytes = go (bit (map_in bytes) b)
  where
    go : (there : Bool) → Refuses (optional there (read_proof d (field bytes b)))
    go true = by_next (proof_reads d (field bytes b)) (λ p. by_value)
    go false = by_value

-- Each row of the table of kinds.
abbrev EachRefuses : List ℕ → List Row → Type 0
EachRefuses bytes [] = Unit {0}
EachRefuses bytes (row ∷ rows) = Refuses (row.message bytes) × EachRefuses bytes rows

of_kind_lem : (party : Party) (map number : ℕ) (bytes : List ℕ) (rows : List Row) → EachRefuses bytes rows → Refuses (of_kind party map number rows (λ row. row.message bytes))
unfolding of_kind
of_kind_lem party map number bytes [] each = by_number 5 refl
of_kind_lem party map number bytes (row ∷ rows) each = by_cases (eqb number row.number) (by_guard 5 refl (λ t. each.0)) (of_kind_lem party map number bytes rows each.1)

each_kind : (bytes : List ℕ) → EachRefuses bytes kinds
unfolding kinds
each_kind bytes =
    let prepare = by_next (proof_in_lem 32 6 bytes) (λ p. by_next (proof_in_lem 0 7 bytes) (λ w. by_value)) in
    let write = by_next (proof_reads 32 (field bytes 6)) (λ p. by_value) in
    let stamp = by_next (proof_in_lem 32 6 bytes) (λ p. by_value) in
    let card = by_next (proof_in_lem 32 6 bytes) (λ p. by_value) in
    (by_value, (prepare, (write, (by_value, (stamp, (by_value, (by_value, (card, tt))))))))

decoded : (party : Party) (bytes : List ℕ) → Refuses (decode party bytes)
unfolding decode message_in framed
decoded party bytes =
    by_next (by_guard 2 refl (λ t. by_guard 3 refl (λ t. by_guard 4 refl (λ t. of_kind_lem party _ _ bytes kinds (each_kind bytes))))) (λ m. by_value)

-- ---- 6 to 11, 19, 20 and 23, and a register's

passing : (party : Party) (f : ℕ) (withdrawn : ClientSet) (bytes verdicts : List ℕ) → Refuses (admitted party f withdrawn bytes verdicts)
unfolding admitted admits checked proven
passing party f withdrawn bytes verdicts =
    by_next (decoded party bytes) (λ sent.
    by_guard 6 refl (λ t. by_guard 19 refl (λ t. by_guard 20 refl (λ t.
    by_guard 7 refl (λ t. by_guard 8 refl (λ t. by_guard 23 refl (λ t.
    by_guard 9 refl (λ t. by_guard 10 refl (λ t. by_guard 11 refl (λ t. by_value))))))))))

slots : (client : ClientId) (timestamp : ℕ) (digest : List ℕ) (last : ℕ) (before : Slots) → Refuses (after_prepare client timestamp digest last before)
unfolding after_prepare
slots client timestamp digest last before = by_cases (slot_is client timestamp digest before) by_value (by_guard 15 refl (λ t. by_value))

request : (replica : RegisterReplica) (m : Message) → Refuses (on_request replica m)
unfolding on_request
request replica (READ-STAMP client nonce) = by_value
request replica (PREPARE client timestamp digest proof last) = by_guard 13 refl (λ t. by_next (slots client timestamp digest _ replica.register.slots) (λ s. by_value))
request replica (WRITE client card proof) = by_guard 14 refl (λ t. by_value)
request replica (READ client nonce) = by_value
request replica (STAMP sender nonce proof client) = by_number 5 refl
request replica (PREPARED sender timestamp digest) = by_number 5 refl
request replica (WRITTEN sender timestamp) = by_number 5 refl
request replica (CARD sender nonce card proof client) = by_number 5 refl

step : (bank : Bank) (bytes verdicts : List ℕ) → Refuses (bank_step bank bytes verdicts)
unfolding bank_step register_step
step bank bytes verdicts = by_next (passing AtReplica bank.f bank.withdrawn bytes verdicts) (λ sent. request _ sent.1)

-- ---- 21 and 22, and all

order : (bank : Bank) (bytes : List ℕ) → Refuses (take_order bank bytes)
unfolding take_order ordered
order bank bytes = by_next (by_guard 21 refl (λ t. by_guard 22 refl (λ t. by_value))) (λ client. by_value)

event : (e : ReplicaEvent) (bank : Bank) → Refuses (on_replica_event e bank)
event (request_handed bytes verdicts) bank = go (bank_step bank bytes verdicts) (step bank bytes verdicts)
  where
    go : (o : Outcome Reply) → Refuses o → Refuses (bank_turn (place_in bytes) bank o)
    go (accepted reply) r = by_value
    go (refused n) r = by_number n (r.range n refl)
event (order_handed bytes) bank = go (take_order bank bytes) (order bank bytes)
  where
    go : (o : Outcome Bank) → Refuses o → Refuses (order_turn o)
    go (accepted next) r = by_value
    go (refused n) r = by_number n (r.range n refl)

pub refusal_range : (e : ReplicaEvent) (bank : Bank) (n : ℕ) → on_replica_event e bank ≡ refused n → (1 ≤ n) × (n ≤ 255)
refusal_range e bank n is =
    let both = and_true_both (leb 1 n) (leb n 255) ((event e bank).range n is) in
    (leb-true 1 n both.0, leb-true n 255 both.1)
