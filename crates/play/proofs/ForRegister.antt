-- Every message of a session is for the register that the player works on. Assumes nothing.
use Rattle.std.proofs.Common.{Option, Some, None}
use mathlib.Core.Path.{◌≡◌, refl, sym, subst, ◌∙◌}
use mathlib.Core.Bool.{Bool, true, false, cond}
use mathlib.Core.List.{List, [], ◌∷◌}
use Prim.Native.Nat.{ℕ, zero, suc, ◌-◌, ◌≤◌, ◌<◌}
use native.Mathlib.Omega.{arith}
use borrow.Author.Tests.{leb-true}
use lib.ListN.{length, get_or, take, drop, set, length-replicate}
use Rattle.base.specs.BigEndian.{Bytes}
use Rattle.base.specs.Counting.{replica}
use Rattle.base.specs.Outcome.{Outcome, accepted, refused, guard}
use Rattle.base.specs.Party.{client_setup}
use Rattle.base.specs.Range.{within}
use Rattle.base.specs.declared.party.RegisterId.{RegisterId}
use Rattle.base.specs.declared.party.ReplicaId.{ReplicaId}
use Rattle.base.proofs.BigEndian.{bytes_take, bytes_drop}
use Rattle.base.proofs.Range.{bounds}
use Rattle.wire.specs.Decode.{register_in}
use Rattle.wire.specs.Layout.{signature}
use Rattle.wire.specs.Message.{Message, longest}
use Rattle.wire.specs.Writing.{unsigned, roomy, in_front}
use Rattle.wire.specs.declared.message.Party.TheVariants.{Replica as AtReplica, Client as AtClient}
use Rattle.wire.proofs.AdmittedMessage.{admitted_then}
use Rattle.wire.proofs.OneForm.{found_register, decoded_fits, decoded_signature}
use Rattle.text.specs.Hex.{hex_pairs}
use Rattle.protocol.specs.Events.{as_client_answer}
use Rattle.protocol.specs.Client.{Answer, send, waits, done, ended, Turn, no_client, fresh_client, client_if_set_up, made_client, begin_write, begin_read, client_step, ClientCall, given, leaving, client_answers, begin_write_call, begin_read_call, client_call}
use Rattle.protocol.specs.RegisterReplica.{Reply, fresh_register_replica, no_register_replica, on_request, register_step, RegisterCall, register_answers, with_output, register_call}
use Rattle.protocol.specs.declared.client.Client.{Client}
use Rattle.protocol.specs.declared.client.Phase.{Phase}
use Rattle.protocol.specs.declared.replica.RegisterReplica.{RegisterReplica}
use Rattle.protocol.proofs.ArrayLaws.{bytes_zeros}
use Rattle.protocol.proofs.ClientCases.{Begun, LegalAnswer, PhaseFits}
use Rattle.protocol.proofs.ClientFacts.{begins_write, begins_read, client_facts}
use Rattle.protocol.proofs.Fit.{RegisterReplicaFits, ClientFits, LegalMessage}
use Rattle.protocol.proofs.FreshRecords.{fresh_replica_fits, fresh_client_fits}
use Rattle.protocol.proofs.RegisterFacts.{RegisterFacts, register_facts}
use Rattle.protocol.proofs.Towards.{client_takes_lem}
use Rattle.play.specs.Calls.{the_register, verdicts, free, message_at, client_does, replica_does}
use Rattle.play.specs.ForRegister.{Reached, begun, played, ForRegister}
use Rattle.play.specs.Grammar.{command}
use Rattle.play.specs.Log.{empty_log, start, sent_length, message, logged}
use Rattle.play.specs.Player.{logged_by, client_turn, replica_turn, if_sent, addressee, does, turn}
use Rattle.play.specs.Worlds.{fresh_world, seat, empty_store}
use Rattle.play.specs.declared.calls.Call.{Call}
use Rattle.play.specs.declared.calls.Call.TheVariants.{Write as BeginWrite, Read as BeginRead, Deliver}
use Rattle.play.specs.declared.grammar.Command.{Command}
use Rattle.play.specs.declared.grammar.Command.TheVariants.{Write, Read, ToReplica, ToClient}
use Rattle.play.specs.declared.log.Log.{Log}
use Rattle.play.specs.declared.turn.Addressee.{Addressee}
use Rattle.play.specs.declared.turn.Addressee.TheVariants.{Client as ToTheClient, Replica as ToTheReplica}
use Rattle.play.specs.declared.world.World.{World}
use Rattle.play.proofs.HexBytes.{hex_bytes}
use Rattle.play.proofs.Logging.{Logs, Sends, nothing, one, logs_on}

-- ---- One call

-- A message for the register is sent.
sends_for : {log : Log} {old : List ℕ} (x : RegisterId) (m : Message) → x ≡ the_register → LegalMessage m → longest ≤ length old
    → Sends log old (logged (length (unsigned x m)) log) (in_front (unsigned x m) old)
sends_for {log} {old} x m is legal room =
    subst (λ (y : RegisterId). Sends log old (logged (length (unsigned y m)) log) (in_front (unsigned y m) old)) (sym is) (one m (legal the_register (omega arith)) room)

-- A refusal sends nothing.
refused_rests : (number : ℕ) {log : Log} {old : List ℕ} → Sends log old (logged_by (refused number) log) old
unfolding logged_by
refused_rests number = nothing

pub record GoodClient (client : Client) : Type 0 where
  pub fits : ClientFits client
  pub phase_fits : PhaseFits client.phase

-- What a client's call leaves.
record ClientLeft (log : Log) (old : List ℕ) (call : ClientCall) : Type 0 where
  good : GoodClient call.client
  sends : Sends log old (logged_by call.answer log) call.output

-- What a client takes: its record fits, and what it sends is for the register.
record GoodTurn (turn : Turn) : Type 0 where
  good : GoodClient turn.next
  legal : LegalAnswer turn.answer
  register_is : turn.next.register ≡ the_register

module _ (log : Log) (client : Client) (old : List ℕ) (good : GoodClient client) where
  client_answers_lem : (answer : Answer) (next : Client) → longest ≤ length old → GoodClient next → LegalAnswer answer → next.register ≡ the_register
      → ClientLeft log old (leaving next (given next.register old (accepted answer)))
  unfolding logged_by
  client_answers_lem (send m) next room fit legal is = record { good = fit; sends = sends_for next.register m is legal room }
  client_answers_lem waits next room fit legal is = record { good = fit; sends = nothing }
  client_answers_lem (done timestamp card signers) next room fit legal is = record { good = fit; sends = nothing }
  client_answers_lem ended next room fit legal is = record { good = fit; sends = nothing }

  client_outcome_lem : (o : Outcome Turn) → longest ≤ length old → ((turn : Turn) → o ≡ accepted turn → GoodTurn turn) → ClientLeft log old (client_answers client old o)
  unfolding logged_by
  client_outcome_lem (accepted turn) room taken = let t = taken turn refl in client_answers_lem turn.answer turn.next room t.good t.legal t.register_is
  client_outcome_lem (refused number) room taken = record { good = good; sends = refused_rests number }

  -- A call that is not refused has its outcome and room for a message.
  client_left : (o : Outcome Turn) → ((turn : Turn) → o ≡ accepted turn → GoodTurn turn) → ClientLeft log old (client_answers client old (with_output old o))
  unfolding guard logged_by
  client_left o taken = go (roomy old) refl
    where
      go : (b : Bool) → roomy old ≡ b → ClientLeft log old (client_answers client old (guard 1 b o))
      go true e = client_outcome_lem o (leb-true longest (length old) e) taken
      go false e = record { good = good; sends = refused_rests 1 }

  begun_good : {question : Message} {phase : Phase} {card : List ℕ} {turn : Turn} → PhaseFits phase → Begun client the_register question phase card turn → GoodTurn turn
  begun_good fits b = record {
    good = record { fits = b.fits; phase_fits = subst PhaseFits (sym b.phase_is) fits };
    legal = subst LegalAnswer (sym b.sends) b.legal;
    register_is = b.register_is;
  }

  -- What a beginning sends is for the register named.
  write_left : (card : List ℕ) → Bytes card → ClientLeft log old (begin_write_call client the_register card old)
  unfolding begin_write_call
  write_left card bytes = client_left (begin_write client the_register card) (λ turn e. begun_good (omega arith) (begins_write client the_register card turn good.fits bytes e))

  read_left : ClientLeft log old (begin_read_call client the_register old)
  unfolding begin_read_call
  read_left = client_left (begin_read client the_register) (λ turn e. begun_good (omega arith) (begins_read client the_register turn good.fits e))

  -- What a client takes is for its operation's register, and so is what it sends then.
  deliver_left : (bytes verdicts : List ℕ) → Bytes bytes → register_in bytes ≡ the_register → ClientLeft log old (client_call client bytes verdicts old)
  unfolding client_call
  deliver_left bytes verdicts small is = client_left (client_step client bytes verdicts) taken
    where
      taken : (turn : Turn) → client_step client bytes verdicts ≡ accepted turn → GoodTurn turn
      taken turn e =
          let (m, admitted, by) = client_takes_lem client bytes verdicts turn e in
          let own = client.register in
          let facts = client_facts client (signature bytes) verdicts m turn good.fits good.phase_fits (decoded_fits AtClient bytes own m admitted.decodes small)
          (decoded_signature AtClient bytes own m admitted.decodes small) admitted.ranged admitted.passed by in
          record {
            good = record { fits = facts.fits; phase_fits = facts.phase_fits };
            legal = facts.legal;
            register_is = facts.same_register ∙ (sym (found_register AtClient bytes own m admitted.decodes) ∙ is);
          }

-- What a replica's call leaves.
pub record ReplicaLeft (log : Log) (old : List ℕ) (before : RegisterReplica) (call : RegisterCall) : Type 0 where
  pub same_f : call.replica.f ≡ before.f
  pub same_id : call.replica.id ≡ before.id
  pub same_withdrawn : call.replica.withdrawn ≡ before.withdrawn
  pub fits : RegisterReplicaFits call.replica
  pub sends : Sends log old (logged_by (as_client_answer call.answer) log) call.output

module _ (log : Log) (before : RegisterReplica) (old bytes verdicts : List ℕ) (fits : RegisterReplicaFits before) (small : Bytes bytes) (is : register_in bytes ≡ the_register) where
  replica_outcome : (o : Outcome Reply) → longest ≤ length old → ((r : Reply) → o ≡ accepted r → (m : Message) × RegisterFacts before verdicts m r)
      → ReplicaLeft log old before (register_answers (register_in bytes) before old o)
  unfolding logged_by
  replica_outcome (accepted r) room taken =
      let (m, facts) = taken r refl in
      record { same_f = facts.same_f; same_id = facts.same_id; same_withdrawn = facts.same_withdrawn; fits = facts.fits; sends = sends_for (register_in bytes) r.message is facts.legal room }
  replica_outcome (refused number) room taken = record { same_f = refl; same_id = refl; same_withdrawn = refl; fits = fits; sends = refused_rests number }

  -- What a replica answers is for the register of the request.
  pub replica_left : ReplicaLeft log old before (register_call before bytes verdicts old)
  unfolding guard logged_by register_call register_step
  replica_left = go (roomy old) refl
    where
      taken : (r : Reply) → register_step before bytes verdicts ≡ accepted r → (m : Message) × RegisterFacts before verdicts m r
      taken r e =
          let (x, m, passed, by) = admitted_then AtReplica before.f before.withdrawn bytes verdicts (λ sent. on_request before sent.1) r e in
          (m, register_facts before verdicts m r fits (decoded_fits AtReplica bytes x m passed.decodes small) passed.may_send_lem passed.passed by)

      go : (b : Bool) → roomy old ≡ b → ReplicaLeft log old before (register_answers (register_in bytes) before old (guard 1 b (register_step before bytes verdicts)))
      go true e = replica_outcome (register_step before bytes verdicts) (leb-true longest (length old) e) taken
      go false e = record { same_f = refl; same_id = refl; same_withdrawn = refl; fits = fits; sends = refused_rests 1 }

-- ---- One line

data Each {A : Type 0} (P : A → Type 0) : List A → Type 0 where
  empty : Each P []
  another : {a : A} {l : List A} → P a → Each P l → Each P (a ∷ l)

each_at : {A : Type 0} (P : A → Type 0) (d : A) → P d → {l : List A} → Each P l → (i : ℕ) → P (get_or l i d)
each_at P d default empty i = default
each_at P d default (another p rest) zero = p
each_at P d default (another p rest) (suc i) = each_at P d default rest i

each_set : {A : Type 0} {P : A → Type 0} {l : List A} {a : A} → Each P l → (i : ℕ) → P a → Each P (set l i a)
each_set empty i new = empty
each_set (another p rest) zero new = another new rest
each_set (another p rest) (suc i) new = another p (each_set rest i new)

no_client_lem : GoodClient no_client
no_client_lem = record { fits = fresh_client_fits 0 (record { 0 = 0 }) 0 (omega arith) (omega arith); phase_fits = tt }

fresh_replica : (f i : ℕ) → i < 256 → RegisterReplicaFits (fresh_register_replica f (replica i))
fresh_replica f i low = fresh_replica_fits f (replica i) low

-- What holds from line to line.
pub record Holds (world : World) (store : List ℕ) : Type 0 where
  pub logs : Logs world.log store
  clients : Each GoodClient world.clients
  replicas : Each RegisterReplicaFits world.replicas

-- A message that is delivered was sent.
abbrev pub Known : ℕ → Call → Type 0
Known count BeginWrite = Unit {0}
Known count BeginRead = Unit {0}
Known count (Deliver m) = (1 ≤ m) × (m ≤ count)

abbrev pub KnownTo : ℕ → Option Addressee → Type 0
KnownTo count (Some (ToTheClient id call)) = Known count call
KnownTo count (Some (ToTheReplica id m)) = (1 ≤ m) × (m ≤ count)
KnownTo count None = Unit {0}

if_sent_lem : (count m : ℕ) (party : Addressee) → ((1 ≤ m) × (m ≤ count) → KnownTo count (Some party)) → KnownTo count (if_sent count m party)
if_sent_lem count m party known = go (within 1 count m) refl
  where
    go : (b : Bool) → within 1 count m ≡ b → KnownTo count (cond b (Some party) None)
    go true e = known (bounds 1 count m e)
    go false e = tt

pub addressee_known : (count : ℕ) (asked : Option Command) → KnownTo count (addressee count asked)
unfolding addressee
addressee_known count (Some (Write id)) = tt
addressee_known count (Some (Read id)) = tt
addressee_known count (Some (ToReplica id m)) = if_sent_lem count m (ToTheReplica id m) (λ k. k)
addressee_known count (Some (ToClient id m)) = if_sent_lem count m (ToTheClient id (Deliver m)) (λ k. k)
addressee_known count None = tt

module _ {log : Log} {store : List ℕ} (logs : Logs log store) (m : ℕ) where
  pub message_bytes : Bytes (message_at log store m)
  unfolding message_at message
  message_bytes =
      let at = start (m - 1) (length store) in
      let size = sent_length log (m - 1) in
      bytes_take longest (take size (drop at store)) (bytes_take size (drop at store) (bytes_drop at store logs.bytes))

  pub message_register : (1 ≤ m) × (m ≤ log.count) → register_in (message_at log store m) ≡ the_register
  unfolding message_at
  message_register known = logs.for_register_lem (m - 1) (omega arith)

-- Both beginnings name the register.
module _ (client : Client) (log : Log) (store text : List ℕ) where
  write_names : client_does client log store text BeginWrite ≡ begin_write_call client the_register (hex_pairs 17 (drop 4 text)) (free log store)
  unfolding client_does
  write_names = refl

  read_names : client_does client log store text BeginRead ≡ begin_read_call client the_register (free log store)
  unfolding client_does
  read_names = refl

abbrev pub addressed : World → ReplicaId → RegisterReplica
addressed world id = get_or world.replicas (seat id.0) no_register_replica

module _ {world : World} {store : List ℕ} (holds : Holds world store) where
  call_left : (client : Client) → GoodClient client → (text : List ℕ) (call : Call) → Known world.log.count call
      → ClientLeft world.log (free world.log store) (client_does client world.log store text call)
  unfolding client_does
  call_left client good text BeginWrite known =
      subst (ClientLeft world.log (free world.log store)) (sym (write_names client world.log store text))
      (write_left world.log client (free world.log store) good (hex_pairs 17 (drop 4 text)) (hex_bytes 17 (drop 4 text)))
  call_left client good text BeginRead known =
      subst (ClientLeft world.log (free world.log store)) (sym (read_names client world.log store text)) (read_left world.log client (free world.log store) good)
  call_left client good text (Deliver m) known =
      deliver_left world.log client (free world.log store) good (message_at world.log store m) (verdicts AtClient (message_at world.log store m))
      (message_bytes holds.logs m) (message_register holds.logs m known)

  pub request_left : (id : ReplicaId) (m : ℕ) → (1 ≤ m) × (m ≤ world.log.count)
      → ReplicaLeft world.log (free world.log store) (addressed world id) (replica_does (addressed world id) world.log store m)
  unfolding replica_does
  request_left id m known =
      replica_left world.log (addressed world id) (free world.log store) (message_at world.log store m) (verdicts AtReplica (message_at world.log store m))
      (each_at RegisterReplicaFits no_register_replica (fresh_replica 0 0 (omega arith)) holds.replicas (seat id.0)) (message_bytes holds.logs m) (message_register holds.logs m known)

  pub does_holds : (text : List ℕ) (party : Option Addressee) → KnownTo world.log.count party → Holds (does world store text party).world (does world store text party).store
  unfolding does client_turn replica_turn
  does_holds text (Some (ToTheClient id call)) known =
      let left = call_left (get_or world.clients (seat id.0) no_client) (each_at GoodClient no_client no_client_lem holds.clients (seat id.0)) text call known in
      record {
        logs = logs_on world.log store holds.logs _ _ left.sends;
        clients = each_set holds.clients (seat id.0) left.good;
        replicas = holds.replicas;
      }
  does_holds text (Some (ToTheReplica id m)) known =
      let left = request_left id m known in
      record {
        logs = logs_on world.log store holds.logs _ _ left.sends;
        clients = holds.clients;
        replicas = each_set holds.replicas (seat id.0) left.fits;
      }
  does_holds text None known = holds

  pub turn_holds : (text : List ℕ) → Holds (turn world store text).world (turn world store text).store
  unfolding turn
  turn_holds text = does_holds text (addressee world.log.count (command text)) (addressee_known world.log.count (command text))

-- ---- A session

empty_bytes : Bytes empty_store
unfolding empty_store
empty_bytes = bytes_zeros 158_000

fresh_logs : Logs empty_log empty_store
unfolding empty_log
fresh_logs = record { lengths_long = length-replicate {A = ℕ} 100 0; few = omega arith; room = omega arith; bytes = empty_bytes; for_register_lem = λ before below. absurd (omega arith) }

set_up : (o : Outcome (Unit {0})) (client : Client) → GoodClient client → GoodClient (client_if_set_up o client)
set_up (accepted ready) client good = good
set_up (refused number) client good = no_client_lem

fresh_client_lem : (i : ℕ) → i < 256 → GoodClient (made_client 1 (record { 0 = i }) 1)
fresh_client_lem i low =
    set_up (client_setup 1 (record { 0 = i }) 1) (fresh_client 1 (record { 0 = i }) 1) (record { fits = fresh_client_fits 1 (record { 0 = i }) 1 low (omega arith); phase_fits = tt })

pub fresh_holds : Holds fresh_world empty_store
unfolding fresh_world
fresh_holds = record {
  logs = fresh_logs;
  clients = another (fresh_client_lem 1 (omega arith)) (another (fresh_client_lem 2 (omega arith)) (another (fresh_client_lem 3 (omega arith)) (another (fresh_client_lem 4 (omega arith)) empty)));
  replicas =
      another (fresh_replica 1 1 (omega arith)) (another (fresh_replica 1 2 (omega arith))
      (another (fresh_replica 1 3 (omega arith)) (another (fresh_replica 1 4 (omega arith)) empty)));
}

reached_holds : {world : World} {store : List ℕ} → Reached world store → Holds world store
reached_holds begun = fresh_holds
reached_holds (played earlier text) = turn_holds (reached_holds earlier) text

pub for_register_lem : ForRegister
for_register_lem world store reached m low high = message_register (reached_holds reached).logs m (low, high)
