-- What the engines' contracts say, as what the player's calls leave in the store. Assumes nothing.
use mathlib.Core.Path.{◌≡◌, sym, ap, subst, ◌∙◌}
use Rattle.std.proofs.lemmas.List.{take-replicate}
use mathlib.Core.List.{List, [], ◌++◌, append-nil}
use Prim.Native.Nat.{ℕ, ◌-◌, ◌≤◌}
use native.Mathlib.Omega.{arith}
use borrow.Rule.Slice.PartMut.{put_mid, Post-is}
use lib.ListN.{length, take, drop, replicate, length-drop}
use lib.Seq.{take_all, take_at, drop-length}
use Rattle.base.specs.Outcome.{Outcome}
use Rattle.base.specs.Refusal.{outcome}
use Rattle.text.specs.Hex.{hex_pairs, HexRead}
use Rattle.text.specs.Put.{Puts}
use Rattle.text.proofs.Putting.{put_front}
use Rattle.protocol.specs.Client.{Turn, ClientCall}
use Rattle.protocol.specs.RegisterReplica.{RegisterCall, register_call}
use Rattle.protocol.specs.declared.replica.RegisterReplica.{RegisterReplica}
use Rattle.client.specs.Stepping.{Calls}
use Rattle.client.specs.declared.Stepped.{Stepped as ClientStepped}
use Rattle.register_replica.specs.Stepping.{Steps}
use Rattle.register_replica.specs.declared.Stepped.{Stepped as ReplicaStepped}
use Rattle.wire.specs.declared.message.Party.{Party}
use Rattle.wire.specs.Signatures.{signatures_to}
use Rattle.play.specs.Calls.{verdicts, sent_before, free, message_at, ClientLeaves, ReplicaLeaves}
use Rattle.play.specs.Log.{start, message}
use Rattle.play.specs.declared.log.Log.{Log}

pub client_leaves : (call : ClientCall) (step : Outcome Turn) (stepped : ClientStepped) (new : List ℕ) → Calls call step stepped new → ClientLeaves call [] stepped new
client_leaves call step stepped new e =
    record { answer = e.answer; card_length = e.card_length; card = e.card; client = e.client; store_is = e.output }

pub replica_leaves : (replica : RegisterReplica) (bytes verdicts old : List ℕ) (stepped : ReplicaStepped) (new : List ℕ) → Steps replica bytes verdicts old (outcome stepped.answer) stepped.replica new
    → ReplicaLeaves (register_call replica bytes verdicts old) [] stepped new
replica_leaves replica bytes verdicts old stepped new e = record { answer = e.answer; replica = e.next; store_is = e.output }

-- An output that stands behind some bytes of the store.
pub client_behind : (call call' : ClientCall) (sent : List ℕ) (stepped : ClientStepped) (new store : List ℕ) → call ≡ call' → store ≡ sent ++ new
    → ClientLeaves call [] stepped new → ClientLeaves call' sent stepped store
client_behind call call' sent stepped new store same put e =
    record {
      answer = e.answer ∙ ap (λ (k : ClientCall). k.answer) same;
      card_length = e.card_length ∙ ap (λ (k : ClientCall). k.card_length) same;
      card = e.card ∙ ap (λ (k : ClientCall). k.card) same;
      client = e.client ∙ ap (λ (k : ClientCall). k.client) same;
      store_is = put ∙ ap (λ (l : List ℕ). sent ++ l) (e.store_is ∙ ap (λ (k : ClientCall). k.output) same);
    }

pub same_call : (call call' : ClientCall) (sent : List ℕ) (stepped : ClientStepped) (store : List ℕ) → call ≡ call' → ClientLeaves call sent stepped store → ClientLeaves call' sent stepped store
same_call call call' sent stepped store same e = subst (λ (k : ClientCall). ClientLeaves k sent stepped store) same e

pub replica_behind : (call call' : RegisterCall) (sent : List ℕ) (stepped : ReplicaStepped) (new store : List ℕ) → call ≡ call' → store ≡ sent ++ new
    → ReplicaLeaves call [] stepped new → ReplicaLeaves call' sent stepped store
replica_behind call call' sent stepped new store same put e =
    record {
      answer = e.answer ∙ ap (λ (k : RegisterCall). k.answer) same;
      replica = e.replica ∙ ap (λ (k : RegisterCall). k.replica) same;
      store_is = put ∙ ap (λ (l : List ℕ). sent ++ l) (e.store_is ∙ ap (λ (k : RegisterCall). k.output) same);
    }

-- The verdicts, the card and the message that the code hands over are the definition's.
pub ones : (l : List ℕ) (k : ℕ) (party : Party) (bytes : List ℕ) → ◌≡◌ {A = List ℕ} l (take k (replicate 64 1)) → k ≡ length (signatures_to party bytes) → k ≤ 64 → l ≡ verdicts party bytes
unfolding verdicts
ones l k party bytes e same few = e ∙ (take-replicate k 64 1 few ∙ ap (λ (n : ℕ). replicate n 1) same)

pub card_read_lem : (digits old new : List ℕ) (n : ℕ) → HexRead digits old new n → length old ≡ 17 → take n new ≡ hex_pairs 17 digits
card_read_lem digits old new n h whole =
    rw h.is (take_at (hex_pairs (length old) digits) (drop n old) n (sym h.counted) ∙ ap (λ (k : ℕ). hex_pairs k digits) whole)

pub message_copied : (log : Log) (store : List ℕ) (m : ℕ) (old : List ℕ) (n : ℕ) (new l : List ℕ) → length old ≡ 1_580
    → Puts old 0 (message log store (m - 1)) n new → l ≡ take n new → l ≡ message_at log store m
unfolding message_at
message_copied log store m old n new l whole c e =
    e ∙ (put_front (message log store (m - 1)) old n new c ∙ ap (λ (k : ℕ). take k (message log store (m - 1))) whole)

module _ (log : Log) (store : List ℕ) (at : ℕ) (h : at ≡ start log.count (length store)) where
  inside : at ≤ length store
  unfolding start
  inside = omega arith

  pub out_free : take (length store - at) (drop at store) ≡ free log store
  unfolding free
  out_free = take_all (length store - at) (drop at store) (simp length-drop (omega arith)) ∙ ap (λ (k : ℕ). drop k store) h

  pub put_behind : (new : List ℕ) → put_mid at (length store - at) store new ≡ sent_before log store ++ new
  unfolding sent_before
  put_behind new =
      ap (λ (l : List ℕ). take at store ++ (new ++ l)) (Post-is at (length store) store inside ∙ drop-length store)
      ∙ (ap (λ (l : List ℕ). take at store ++ l) (append-nil new) ∙ ap (λ (k : ℕ). take k store ++ new) h)
