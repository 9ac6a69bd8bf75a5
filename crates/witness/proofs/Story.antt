-- A run told line by line, each event with its answer: by tests that compute, a told run meets the premises. Assumes nothing.
use mathlib.Core.Path.{◌≡◌, refl, sym, ap, subst, ◌∙◌}
use mathlib.Core.Logic.{◌⊎◌, inl, inr, ⊎_elim}
use mathlib.Core.Bool.{Bool, true, false, ◌&&◌, ◌||◌, not}
use mathlib.Core.List.{List, [], ◌∷◌}
use mathlib.Core.Option.{Option, none, some}
use Prim.Native.Nat.{ℕ, zero, suc, ◌+◌, ◌^◌, ◌≤◌, ◌<◌}
use native.Mathlib.Nat.{zero-add, eq-or-lt_of_le}
use native.Mathlib.Omega.{arith}
use borrow.Author.Tests.{eqb-true, eq-eqb, ltb-true, lt-leb}
use lib.Dec.{eqb, leb, ltb, lit<, lit≤}
use lib.ListN.{length, get_elem?, replicate}
use Rattle.base.proofs.Apart.{apart}
use Rattle.base.proofs.Booleans.{and_true_both}
use Rattle.base.proofs.Range.{inside, bounds}
use Rattle.base.specs.BigEndian.{Bytes, from_bytes}
use Rattle.base.specs.Outcome.{Outcome, accepted, refused}
use Rattle.base.specs.Party.{is_writer, is_viewer}
use Rattle.base.specs.Range.{within}
use Rattle.base.specs.Same.{same}
use Rattle.base.specs.declared.party.ClientId.{ClientId}
use Rattle.base.specs.declared.party.RegisterId.{RegisterId}
use Rattle.base.specs.declared.party.ReplicaId.{ReplicaId}
use Rattle.base.specs.declared.replica_set.ReplicaSet.{ReplicaSet}
use Rattle.base.specs.declared.timestamp.Timestamp.{Timestamp}
use Rattle.lms.specs.Lms.{is_public_key}
use Rattle.protocol.specs.Client.{Answer, send, waits, done, ended}
use Rattle.protocol.specs.Events.{request_handed, order_handed, write_begun, read_begun, reply_handed, made, proof_handed}
use Rattle.run.proofs.SentMessages.{said_later, sent_legal}
use Rattle.run.proofs.Slots.{split_last, order}
use Rattle.run.specs.Claims.{NotMade, GoesOn, Begins, Finished, Viewed, Genuine}
use Rattle.run.specs.Premises.{TrueVerdicts, TrueFor, TrueAt, event_card, Accepted, CardOfRun, FewFaulty, Asks, for_stamps, for_cards, NewNonces, Premises}
use Rattle.wire.specs.Acceptance.{Sender, replica, client}
use Rattle.run.specs.Run.{Event, at_replica, at_client, begins_write, begins_read, makes, proof_to, party_of, register_of, HasBytes, CorrectIn, Run, event, answer_to, answer_at, At, Sent}
use Rattle.wire.specs.Decode.{decode}
use Rattle.wire.specs.Message.{Message, Fits, body}
use Rattle.wire.specs.Proof.{PreparedProof, signer_set, proof_bytes, read_proof}
use Rattle.wire.specs.Checks.{proof_outcome}
use Rattle.wire.specs.Sha256.{sha256}
use Rattle.wire.specs.Signatures.{Signature, signatures_of, prepared_signatures}
use Rattle.wire.specs.declared.message.Party.TheVariants.{Replica as AtReplica, Client as AtClient}
use Rattle.base.proofs.Same.{same_equal}
use Rattle.base.proofs.Booleans.{or_true}
use Rattle.witness.proofs.Answers.{no_test, code, is_sent, is_done_lem, is_accepted, is_refused_lem, is_refused, not_refused, carries_on, is_counted, is_counted_lem, is_question, asked_nonce, question_told}
use Rattle.witness.proofs.Cards.{Known, is_known, is_known_if_there, is_one, right_digests, different_digests, different}

-- What happened, and what was answered or refused.
pub record Line : Type 0 where
  pub event : Event
  pub answer : Outcome Answer

infix 80 ◌↝◌
abbrev pub ◌↝◌ : Event → Answer → Line
event ↝ answer = record { event = event; answer = accepted answer }

infix 80 ◌↛◌
abbrev pub ◌↛◌ : Event → ℕ → Line
event ↛ number = record { event = event; answer = refused number }

abbrev pub events_of : List Line → List Event
events_of [] = []
events_of (line ∷ lines) = line.event ∷ events_of lines

-- ---- What holds of each line, at its time

abbrev pub Each : (ℕ → Line → Type 0) → ℕ → List Line → Type 0
Each P t [] = Unit {0}
Each P t (line ∷ lines) = P t line × Each P (suc t) lines

abbrev pub each : (ℕ → Line → Bool) → ℕ → List Line → Bool
each test t [] = true
each test t (line ∷ lines) = test t line && each test (suc t) lines

each_from : (P : ℕ → Line → Type 0) (t i : ℕ) (lines : List Line) (line : Line) → Each P t lines → get_elem? lines i ≡ some line → P (t + i) line
each_from P t i [] line all found = apart (cc)
each_from P t zero (first ∷ lines) line all found =
    let here : first ≡ line = cc in
    let now : t ≡ t + 0 = omega arith in
    subst (λ (l : Line). P (t + 0) l) here (subst (λ (s : ℕ). P s first) now all.0)
each_from P t (suc i) (first ∷ lines) line all found =
    let now : suc t + i ≡ t + suc i = omega arith in
    subst (λ (s : ℕ). P s line) now (each_from P (suc t) i lines line all.1 found)

each_at : (P : ℕ → Line → Type 0) (t : ℕ) (lines : List Line) (line : Line) → Each P 0 lines → get_elem? lines t ≡ some line → P t line
each_at P t lines line all found = subst (λ (s : ℕ). P s line) (zero-add t) (each_from P 0 t lines line all found)

tested : (test : ℕ → Line → Bool) (t : ℕ) (lines : List Line) → each test t lines ≡ true → Each (λ s line. test s line ≡ true) t lines
tested test t [] h = tt
tested test t (line ∷ lines) h =
    let both = and_true_both (test t line) (each test (suc t) lines) h in
    (both.0, tested test (suc t) lines both.1)

pub each_tested : (test : ℕ → Line → Bool) (t : ℕ) (lines : List Line) (line : Line) → each test 0 lines ≡ true → get_elem? lines t ≡ some line → test t line ≡ true
each_tested test t lines line h found = each_at (λ s l. test s l ≡ true) t lines line (tested test 0 lines h) found

-- A line's event.
abbrev pub event_in : Option Line → Option Event
event_in none = none
event_in (some line) = some line.event

pub event_in_lem : (t : ℕ) (lines : List Line) → get_elem? (events_of lines) t ≡ event_in (get_elem? lines t)
event_in_lem t [] = refl
event_in_lem zero (line ∷ lines) = refl
event_in_lem (suc t) (line ∷ lines) = event_in_lem t lines

pub line_of : (lines : List Line) (t : ℕ) (e : Event) → get_elem? (events_of lines) t ≡ some e → (line : Line) × (get_elem? lines t ≡ some line) × (line.event ≡ e)
line_of lines t e found = go (get_elem? lines t) refl
  where
    go : (l : Option Line) → get_elem? lines t ≡ l → (line : Line) × (get_elem? lines t ≡ some line) × (line.event ≡ e)
    go none at =
        let nothing : none ≡ some e = sym (ap event_in at) ∙ sym (event_in_lem t lines) ∙ found in
        apart (cc)
    go (some line) at =
        let there : some line.event ≡ some e = sym (ap event_in at) ∙ sym (event_in_lem t lines) ∙ found in
        (line, at, cc)

-- ---- A run from its lines: its bytes are bytes, viewing clients have their events alone, and its events are at correct parties

unfoldable pub all_bytes : List ℕ → Bool
all_bytes [] = true
all_bytes (b ∷ bytes) = ltb b 256 && all_bytes bytes

pub all_bytes_lem : (bytes : List ℕ) → all_bytes bytes ≡ true → Bytes bytes
unfolding all_bytes
all_bytes_lem [] h i = omega arith
all_bytes_lem (b ∷ bytes) h zero = ltb-true b 256 (and_true_both (ltb b 256) (all_bytes bytes) h).0
all_bytes_lem (b ∷ bytes) h (suc i) = all_bytes_lem bytes (and_true_both (ltb b 256) (all_bytes bytes) h).1 i

unfoldable pub has_bytes : Event → Bool
unfolding all_bytes
has_bytes (at_client id (write_begun x card)) = all_bytes card
has_bytes (at_client id (read_begun x)) = true
has_bytes (at_replica id (request_handed bytes verdicts)) = all_bytes bytes
has_bytes (at_replica id (order_handed order)) = all_bytes order
has_bytes (at_client id (reply_handed bytes verdicts)) = all_bytes bytes
has_bytes (at_client id (made nonce)) = ltb nonce (2 ^ 64)
has_bytes (at_client id (proof_handed x bytes verdicts)) = all_bytes bytes

pub has_bytes_lem : (e : Event) → has_bytes e ≡ true → HasBytes e
unfolding has_bytes
has_bytes_lem (at_client id (write_begun x card)) h = all_bytes_lem card h
has_bytes_lem (at_client id (read_begun x)) h = tt
has_bytes_lem (at_replica id (request_handed bytes verdicts)) h = all_bytes_lem bytes h
has_bytes_lem (at_replica id (order_handed order)) h = all_bytes_lem order h
has_bytes_lem (at_client id (reply_handed bytes verdicts)) h = all_bytes_lem bytes h
has_bytes_lem (at_client id (made nonce)) h = ltb-true nonce (2 ^ 64) h
has_bytes_lem (at_client id (proof_handed x bytes verdicts)) h = all_bytes_lem bytes h

-- What a viewing client has no part in is at a writer.
abbrev at_writer : Event → Bool
at_writer (at_client id (write_begun x card)) = is_writer id
at_writer (at_client id (read_begun x)) = true
at_writer (at_replica id (request_handed bytes verdicts)) = true
at_writer (at_replica id (order_handed order)) = true
at_writer (at_client id (reply_handed bytes verdicts)) = true
at_writer (at_client id (made nonce)) = is_writer id
at_writer (at_client id (proof_handed x bytes verdicts)) = is_writer id

abbrev pub correct_in : (ReplicaId → Bool) → (ClientId → Bool) → Sender → Bool
correct_in replicas clients (replica id) = replicas id
correct_in replicas clients (client id) = clients id

pub correct_in_lem : (replicas : ReplicaId → Bool) (clients : ClientId → Bool) (party : Sender) → correct_in replicas clients party ≡ true → CorrectIn replicas clients party
correct_in_lem replicas clients (replica id) h = h
correct_in_lem replicas clients (client id) h = h

from_correct : (replicas : ReplicaId → Bool) (clients : ClientId → Bool) (party : Sender) → CorrectIn replicas clients party → correct_in replicas clients party ≡ true
from_correct replicas clients (replica id) h = h
from_correct replicas clients (client id) h = h

-- f = 1. The replicas 1 to r and the clients 1 to c are correct, with first nonces 1.
abbrev pub replicas_to : ℕ → ReplicaId → Bool
replicas_to r id = within 1 r id.0

abbrev pub clients_to : ℕ → ClientId → Bool
clients_to c id = within 1 c id.0

-- The replicas' key where no order is good: the type codes, zeros behind.
abbrev pub zero_key : List ℕ
zero_key = 0 ∷ 0 ∷ 0 ∷ 5 ∷ 0 ∷ 0 ∷ 0 ∷ 4 ∷ replicate 48 0

pub zero_key_lem : (is_public_key zero_key ≡ true) × Bytes zero_key
unfolding is_public_key from_bytes all_bytes
zero_key_lem = (refl, all_bytes_lem zero_key refl)

abbrev pub well_told : ℕ → ℕ → ℕ → Line → Bool
well_told r c t line = has_bytes line.event && (at_writer line.event && correct_in (replicas_to r) (clients_to c) (party_of line.event))

module _ (r c : ℕ) (at_most_four : r ≤ 4) (at_most_96 : c ≤ 96) (lines : List Line) (good : each (well_told r c) 0 lines ≡ true) where
  pub well_told_lem : (t : ℕ) (e : Event) → get_elem? (events_of lines) t ≡ some e → (has_bytes e ≡ true) × (at_writer e ≡ true) × (correct_in (replicas_to r) (clients_to c) (party_of e) ≡ true)
  well_told_lem t e found =
      let at = line_of lines t e found in
      let test = each_tested (well_told r c) t lines at.0 good at.1 in
      let here : well_told r c t (record { event = e; answer = at.0.answer }) ≡ true = subst (λ (x : Event). well_told r c t (record { event = x; answer = at.0.answer }) ≡ true) at.2 test in
      let both = and_true_both (has_bytes e) (at_writer e && correct_in (replicas_to r) (clients_to c) (party_of e)) here in
      let rest = and_true_both (at_writer e) (correct_in (replicas_to r) (clients_to c) (party_of e)) both.1 in
      (both.0, rest.0, rest.1)

  -- All replicas have this key.
  abbrev pub told_under : (key : List ℕ) → (is_public_key key ≡ true) × Bytes key → Run
  told_under key is_key =
      record {
        f = 1;
        correct_replica = replicas_to r;
        correct_client = clients_to c;
        first_nonce_lem = λ id. 1;
        office_key = λ id. key;
        events = events_of lines;
        f_in_range = inside 1 5 1 (lit≤ tt) (lit≤ tt);
        replicas_in_range = λ id h. let b = bounds 1 r id.0 h in inside 1 4 id.0 b.0 (omega arith);
        clients_in_range = λ id h. let b = bounds 1 c id.0 h in (inside 1 96 id.0 b.0 (omega arith), lit≤ tt, lit< tt);
        keys_in_range = λ id h. is_key;
        writers_begin = λ t id x card found. (well_told_lem t (begins_write id x card) found).1;
        writers_made = λ t id nonce found. (well_told_lem t (makes id nonce) found).1;
        writers_take = λ t id x bytes verdicts found. (well_told_lem t (proof_to id x bytes verdicts) found).1;
        have_bytes = λ t e found. has_bytes_lem e (well_told_lem t e found).0;
        at_correct = λ t e found. correct_in_lem (replicas_to r) (clients_to c) (party_of e) (well_told_lem t e found).2;
      }

  abbrev pub told : Run
  told = told_under zero_key zero_key_lem

-- ---- Who sent what

abbrev pub same_party : Sender → Sender → Bool
same_party (replica a) (replica b) = eqb a.0 b.0
same_party (replica a) (client b) = false
same_party (client a) (replica b) = false
same_party (client a) (client b) = eqb a.0 b.0

same_party_lem : (p q : Sender) → same_party p q ≡ true → p ≡ q
same_party_lem (replica a) (replica b) h = let e = eqb-true a.0 b.0 h in λ i. replica (record { 0 = e i })
same_party_lem (replica a) (client b) h = no_test h
same_party_lem (client a) (replica b) h = no_test h
same_party_lem (client a) (client b) h = let e = eqb-true a.0 b.0 h in λ i. client (record { 0 = e i })

same_party_self : (p : Sender) → same_party p p ≡ true
same_party_self (replica a) = eq-eqb a.0 a.0 refl
same_party_self (client a) = eq-eqb a.0 a.0 refl

-- The answer to an event of a register, if it is the party's.
abbrev sends : List ℕ → RegisterId → Bool → Outcome Answer → Bool
sends bytes x true (accepted (send message)) = same (body x message) bytes
sends bytes x true (accepted waits) = false
sends bytes x true (accepted (done timestamp card signers)) = false
sends bytes x true (accepted ended) = false
sends bytes x true (refused number) = false
sends bytes x false answer = false

message_sent : (bytes : List ℕ) (x : RegisterId) (by : Bool) (answer : Outcome Answer) → sends bytes x by answer ≡ true
    → (by ≡ true) × ((message : Message) × (answer ≡ accepted (send message)) × (body x message ≡ bytes))
message_sent bytes x true (accepted (send message)) h = (refl, (message, refl, same_equal (body x message) bytes h))
message_sent bytes x true (accepted waits) h = no_test h
message_sent bytes x true (accepted (done timestamp card signers)) h = no_test h
message_sent bytes x true (accepted ended) h = no_test h
message_sent bytes x true (refused number) h = no_test h
message_sent bytes x false answer h = no_test h

abbrev sent_in : Sender → List ℕ → Option Line → Bool
sent_in party bytes none = false
sent_in party bytes (some line) = sends bytes (register_of line.event) (same_party (party_of line.event) party) line.answer

-- Whether one of the first t lines is the party's and sends these bytes.
sent_before : List Line → Sender → List ℕ → ℕ → Bool
sent_before lines party bytes zero = false
sent_before lines party bytes (suc t) = sent_in party bytes (get_elem? lines t) || sent_before lines party bytes t

-- ---- Tests of a told run

abbrev pub is_making : Event → Bool
is_making (at_replica id e) = false
is_making (at_client id (write_begun x card)) = false
is_making (at_client id (read_begun x)) = false
is_making (at_client id (reply_handed bytes verdicts)) = false
is_making (at_client id (made nonce)) = true
is_making (at_client id (proof_handed x bytes verdicts)) = false

-- What the line asks, if it is the client's question, has a nonce below this one.
abbrev asks_below : ClientId → ℕ → Option Line → Bool
asks_below id nonce none = true
asks_below id nonce (some line) =
    let numbers = code (register_of line.event) line.answer in
    not (same_party (party_of line.event) (client id)) || (not (is_question numbers) || ltb (asked_nonce numbers) nonce)

-- So do the first t lines.
asked_below : List Line → ClientId → ℕ → ℕ → Bool
asked_below lines id nonce zero = true
asked_below lines id nonce (suc t) = asks_below id nonce (get_elem? lines t) && asked_below lines id nonce t

-- A making that is not refused has a new nonce.
abbrev new_at : List Line → ℕ → Event → Outcome Answer → Bool
new_at lines t (at_replica id e) answer = true
new_at lines t (at_client id (write_begun x card)) answer = true
new_at lines t (at_client id (read_begun x)) answer = true
new_at lines t (at_client id (reply_handed bytes verdicts)) answer = true
new_at lines t (at_client id (made nonce)) answer = is_refused answer || asked_below lines id nonce t
new_at lines t (at_client id (proof_handed x bytes verdicts)) answer = true

unfoldable pub new_nonces : List Line → Bool
unfolding asked_below code
new_nonces lines = each (λ t line. new_at lines t line.event line.answer) 0 lines

-- The party is not made again between two events, and its answers are good.
abbrev pub good_between : (List ℕ → Bool) → Sender → ℕ → ℕ → ℕ → Line → Bool
good_between good party begun finished t line =
    leb t begun || (leb finished t || (not (same_party (party_of line.event) party) || ((not (is_making line.event) || is_refused line.answer) && good (code (register_of line.event) line.answer))))

abbrev pub AllBetween : List Line → (List ℕ → Bool) → Sender → ℕ → ℕ → Type 0
AllBetween lines good party begun finished = each (good_between good party begun finished) 0 lines ≡ true

module _ (R : Run) (lines : List Line) where
  -- The run has no other cards than these; those of refused events do not count.
  abbrev is_known_or_refused : List Known → ℕ → Line → Bool
  is_known_or_refused cards t line = is_refused line.answer || is_known_if_there cards (event_card R (some line.event))

  abbrev pub NoOtherCards : List Known → Type 0
  NoOtherCards cards = each (is_known_or_refused cards) 0 lines ≡ true

  -- A verdict is true: it is not 1, or its signer is faulty, or sent the bytes earlier.
  is_true : ℕ → Signature → ℕ → Bool
  is_true t signature verdict =
      not (eqb verdict 1) || (not (correct_in R.correct_replica R.correct_client signature.signer) || sent_before lines signature.signer signature.covers t)

  unfoldable pub true_verdicts : ℕ → List Signature → List ℕ → Bool
  unfolding is_true sent_before
  true_verdicts t [] verdicts = true
  true_verdicts t (signature ∷ signatures) [] = true
  true_verdicts t (signature ∷ signatures) (verdict ∷ verdicts) = is_true t signature verdict && true_verdicts t signatures verdicts

  abbrev true_for : ℕ → List ℕ → List ℕ → Outcome (RegisterId × Message) → Bool
  true_for t bytes verdicts (accepted sent) = true_verdicts t (signatures_of bytes sent) verdicts
  true_for t bytes verdicts (refused number) = true

  abbrev true_event : ℕ → Event → Bool
  true_event t (at_client id (write_begun x card)) = true
  true_event t (at_client id (read_begun x)) = true
  true_event t (at_replica id (request_handed bytes verdicts)) = true_for t bytes verdicts (decode AtReplica bytes)
  true_event t (at_replica id (order_handed order)) = true
  true_event t (at_client id (reply_handed bytes verdicts)) = true_for t bytes verdicts (decode AtClient bytes)
  true_event t (at_client id (made nonce)) = true
  true_event t (at_client id (proof_handed x bytes verdicts)) = true

  -- Each verdict of the run is true.
  abbrev pub AllTrue : Type 0
  AllTrue = each (λ t line. true_event t line.event) 0 lines ≡ true

-- Event t is answered with this message for register x, by the bytes that its signature covers.
abbrev pub Sends : Run → RegisterId → ℕ → Message → Type 0
Sends R x t message = (m : Message) × (answer_at R t ≡ accepted (send m)) × (body x m ≡ body x message)

-- The lines are those of the run: its events, and the answers that it gives.
pub record Told (R : Run) (lines : List Line) : Type 0 where
  pub events : R.events ≡ events_of lines
  pub answers : Each (λ t line. code (register_of line.event) (answer_to R t (some line.event)) ≡ code (register_of line.event) line.answer) 0 lines

module _ (R : Run) (lines : List Line) (told : Told R lines) where
  event_is : (t : ℕ) → event R t ≡ event_in (get_elem? lines t)
  event_is t = ap (λ (es : List Event). get_elem? es t) told.events ∙ event_in_lem t lines

  pub event_told : (t : ℕ) (line : Line) → get_elem? lines t ≡ some line → event R t ≡ some line.event
  event_told t line at = event_is t ∙ ap event_in at

  pub answer_told : (t : ℕ) (line : Line) → get_elem? lines t ≡ some line → code (register_of line.event) (answer_at R t) ≡ code (register_of line.event) line.answer
  answer_told t line at =
      ap (λ (e : Option Event). code (register_of line.event) (answer_to R t e)) (event_told t line at)
      ∙ each_at (λ s l. code (register_of l.event) (answer_to R s (some l.event)) ≡ code (register_of l.event) l.answer) t lines line told.answers at

  later : {party : Sender} {bytes : List ℕ} {t : ℕ} → Sent R party bytes t → Sent R party bytes (suc t)
  later {party} {bytes} {t} s =
      record { register = s.register; message = s.message; said = said_later R s.register party s.message t (suc t) (omega arith) s.said; same_bytes = s.same_bytes }

  sent : (party : Sender) (bytes : List ℕ) (t : ℕ) → sent_before lines party bytes t ≡ true → Sent R party bytes t
  unfolding sent_before
  sent party bytes zero h = no_test h
  sent party bytes (suc t) h = go (sent party bytes t) (or_true (sent_in party bytes (get_elem? lines t)) (sent_before lines party bytes t) h)
    where
      here : (line : Option Line) → get_elem? lines t ≡ line → sent_in party bytes line ≡ true → Sent R party bytes (suc t)
      here none at test = no_test test
      here (some line) at test =
          let x = register_of line.event in
          let m = message_sent bytes x (same_party (party_of line.event) party) line.answer test in
          let s = is_sent x (answer_at R t) m.1.0 (answer_told t line at ∙ ap (code x) m.1.1) in
          record {
            register = x;
            message = s.0;
            said =
                record {
                  time = t;
                  earlier = omega arith;
                  by = (line.event, event_told t line at, same_party_lem (party_of line.event) party m.0);
                  register_is = refl;
                  answered = s.1;
                };
            same_bytes = s.2 ∙ m.1.2;
          }

      go : (sent_before lines party bytes t ≡ true → Sent R party bytes t) → (sent_in party bytes (get_elem? lines t) ≡ true) ⊎ (sent_before lines party bytes t ≡ true) → Sent R party bytes (suc t)
      go before (inl test) = here (get_elem? lines t) refl test
      go before (inr test) = later (before test)

  pub true_for_all : (t : ℕ) (signatures : List Signature) (verdicts : List ℕ) → true_verdicts R lines t signatures verdicts ≡ true → TrueVerdicts R t signatures verdicts
  unfolding true_verdicts TrueVerdicts
  true_for_all t [] verdicts h = tt
  true_for_all t (signature ∷ signatures) [] h = tt
  true_for_all t (signature ∷ signatures) (verdict ∷ verdicts) h =
      let both = and_true_both (is_true R lines t signature verdict) (true_verdicts R lines t signatures verdicts) h in (
        λ one correct.
            sent signature.signer signature.covers t
            (rw (eq-eqb verdict 1 one, from_correct R.correct_replica R.correct_client signature.signer correct) at both.0),
        true_for_all t signatures verdicts both.1,
      )

  true_for_lem : (t : ℕ) (bytes verdicts : List ℕ) (outcome : Outcome (RegisterId × Message)) → true_for R lines t bytes verdicts outcome ≡ true → TrueFor R t bytes verdicts outcome
  true_for_lem t bytes verdicts (accepted sent) h = true_for_all t (signatures_of bytes sent) verdicts h
  true_for_lem t bytes verdicts (refused number) h = tt

  true_event_lem : (t : ℕ) (e : Event) → true_event R lines t e ≡ true → TrueAt R t (some e)
  unfolding TrueAt
  true_event_lem t (at_client id (write_begun x card)) h = tt
  true_event_lem t (at_client id (read_begun x)) h = tt
  true_event_lem t (at_replica id (request_handed bytes verdicts)) h = true_for_lem t bytes verdicts (decode AtReplica bytes) h
  true_event_lem t (at_replica id (order_handed order)) h = tt
  true_event_lem t (at_client id (reply_handed bytes verdicts)) h = true_for_lem t bytes verdicts (decode AtClient bytes) h
  true_event_lem t (at_client id (made nonce)) h = tt
  true_event_lem t (at_client id (proof_handed x bytes verdicts)) h = tt

  pub true_verdicts_lem : AllTrue R lines → (t : ℕ) → TrueAt R t (event R t)
  unfolding TrueAt
  true_verdicts_lem all t = subst (TrueAt R t) (sym (event_is t)) (go (get_elem? lines t) refl)
    where
      go : (line : Option Line) → get_elem? lines t ≡ line → TrueAt R t (event_in line)
      go none at = tt
      go (some line) at = true_event_lem t line.event (each_tested (λ s l. true_event R lines s l.event) t lines line all at)

  known : (cards : List Known) (card : List ℕ) → NoOtherCards R lines cards → CardOfRun R card → is_known cards card ≡ true
  known cards card no_other of_run = go (get_elem? lines of_run.time) refl
    where
      carried : (line : Option Line) → get_elem? lines of_run.time ≡ line → event_card R (event_in line) ≡ some card
      carried line at = sym (ap (event_card R) (event_is of_run.time ∙ ap event_in at)) ∙ of_run.carried

      go : (line : Option Line) → get_elem? lines of_run.time ≡ line → is_known cards card ≡ true
      go none at =
          let nothing : none ≡ some card = carried none at in
          apart (cc)
      go (some line) at =
          let test = each_tested (is_known_or_refused R lines cards) of_run.time lines line no_other at in
          let (answer, answered) = of_run.not_refused in
          ⊎_elim (λ is_refused_lem. absurd (not_refused (register_of line.event) answer line.answer (sym (ap (code (register_of line.event)) answered) ∙ answer_told of_run.time line at) is_refused_lem))
          (λ is_Known. subst (λ (c : Option (List ℕ)). is_known_if_there cards c ≡ true) (carried (some line) at) is_Known)
          (or_true (is_refused line.answer) (is_known_if_there cards (event_card R (some line.event))) test)

  pub different_digests_lem : (cards : List Known) → NoOtherCards R lines cards → right_digests cards ≡ true → different_digests cards ≡ true → (card card' : List ℕ) → CardOfRun R card → CardOfRun R card' → sha256 card ≡ sha256 card' → card ≡ card'
  different_digests_lem cards no_other right all card card' of_run of_run' e =
      different cards card card' right all (is_one cards card (known cards card no_other of_run)) (is_one cards card' (known cards card' no_other of_run')) e

  asked_below_lem : (id : ClientId) (nonce t s : ℕ) (line : Line) → asked_below lines id nonce t ≡ true → s < t → get_elem? lines s ≡ some line → asks_below id nonce (some line) ≡ true
  unfolding asked_below
  asked_below_lem id nonce zero s line h l at = absurd (omega arith)
  asked_below_lem id nonce (suc t) s line h l at =
      let both = and_true_both (asks_below id nonce (get_elem? lines t)) (asked_below lines id nonce t) h in
      split_last s t l (λ e. subst (λ (o : Option Line). asks_below id nonce o ≡ true) (subst (λ (u : ℕ). get_elem? lines u ≡ some line) e at) both.0) (λ k. asked_below_lem id nonce t s line both.1 k at)

  -- A question of a correct client has a nonce below 2^64.
  nonce_fits : (id : ClientId) (n : ℕ) (m : Message) → Asks id n m → Fits m → n < 2 ^ 64
  unfolding Fits
  nonce_fits id n m (for_stamps e) fits = (subst Fits e fits).1
  nonce_fits id n m (for_cards e) fits = (subst Fits e fits).1

  below : (id : ClientId) (nonce t n : ℕ) → asked_below lines id nonce t ≡ true → (m : Message) → Asks id n m → (s : ℕ) → s < t → (at : At R s (client id)) → answer_at R s ≡ accepted (send m) → n < nonce
  below id nonce t n all m a s l at answered =
      let (line, there, is) = line_of lines s at.0 (sym (ap (λ (es : List Event). get_elem? es s) told.events) ∙ at.1) in
      let x = register_of line.event in
      let numbers : code x (accepted (send m)) ≡ code x line.answer = sym (ap (code x) answered) ∙ answer_told s line there in
      let correct = subst (CorrectIn R.correct_replica R.correct_client) at.2 (R.at_correct s at.0 at.1) in
      let fits = nonce_fits id n m a (sent_legal R (client id) correct s m at answered).fits in
      let (asks, is_nonce) = question_told x id n m a fits in
      let by : same_party (party_of line.event) (client id) ≡ true = ap (λ (e : Event). same_party (party_of e) (client id)) is ∙ ap (λ (p : Sender). same_party p (client id)) at.2 ∙ same_party_self (client id) in
      let asks_here : is_question (code x line.answer) ≡ true = sym (ap is_question numbers) ∙ asks in
      let nonce_here : asked_nonce (code x line.answer) ≡ n = sym (ap asked_nonce numbers) ∙ is_nonce in
      let test = asked_below_lem id nonce t s line all l there in
      ltb-true n nonce (rw (by, asks_here, nonce_here) at test)

  pub new_nonces_lem : new_nonces lines ≡ true → NewNonces R
  unfolding new_nonces
  new_nonces_lem all t id nonce e a n (x, m, asks, said) =
      let (line, there, is) = line_of lines t (makes id nonce) (sym (ap (λ (es : List Event). get_elem? es t) told.events) ∙ e) in
      let test = each_tested (λ s l. new_at lines s l.event l.answer) t lines line all there in
      let here : new_at lines t (makes id nonce) line.answer ≡ true = subst (λ (ev : Event). new_at lines t ev line.answer ≡ true) is test in
      let y = register_of line.event in
      ⊎_elim (λ is_refused_lem. absurd (not_refused y a.0 line.answer (sym (ap (code y) a.1) ∙ answer_told t line there) is_refused_lem))
      (λ low. below id nonce t n low m asks said.time said.earlier said.by said.answered)
      (or_true (is_refused line.answer) (asked_below lines id nonce t) here)

  pub premises_told : (cards : List Known) → FewFaulty R → AllTrue R lines → new_nonces lines ≡ true → NoOtherCards R lines cards → right_digests cards ≡ true → different_digests cards ≡ true → Premises R
  premises_told cards few_faulty all_true new no_other right all =
      record { few_faulty = few_faulty; true_verdicts_lem = true_verdicts_lem all_true; new_nonces_lem = new_nonces_lem new; different_digests_lem = different_digests_lem cards no_other right all }

  -- ---- Between two events

  pub between : (good : List ℕ → Bool) (party : Sender) (begun finished : ℕ) → AllBetween lines good party begun finished → (t : ℕ) → begun < t → t < finished → (at : At R t party)
      → NotMade R t × (good (code (register_of at.0) (answer_at R t)) ≡ true)
  between good party begun finished all t after before at =
      (not_made, subst (λ (e : Event). good (code (register_of e) (answer_at R t)) ≡ true) line.2 (ap good (answer_told t line.0 line.1) ∙ both.1))
    where
      line : (line : Line) × (get_elem? lines t ≡ some line) × (line.event ≡ at.0)
      line = line_of lines t at.0 (sym (ap (λ (es : List Event). get_elem? es t) told.events) ∙ at.1)

      by_party : same_party (party_of line.0.event) party ≡ true
      by_party = ap (λ (e : Event). same_party (party_of e) party) line.2 ∙ ap (λ (p : Sender). same_party p party) at.2 ∙ same_party_self party

      tested_here : ((not (is_making line.0.event) || is_refused line.0.answer) && good (code (register_of line.0.event) line.0.answer)) ≡ true
      tested_here =
          let test = each_tested (good_between good party begun finished) t lines line.0 all line.1 in
          rw (lt-leb t begun after, lt-leb finished t before, by_party) at test

      both : ((not (is_making line.0.event) || is_refused line.0.answer) ≡ true) × (good (code (register_of line.0.event) line.0.answer) ≡ true)
      both = and_true_both (not (is_making line.0.event) || is_refused line.0.answer) (good (code (register_of line.0.event) line.0.answer)) tested_here

      not_made : NotMade R t
      not_made i nonce q a =
          let y = register_of line.0.event in
          ⊎_elim (λ no. let is : line.0.event ≡ makes i nonce = cc (line.2, at.1) in no_test (sym (ap (λ (e : Event). not (is_making e)) is) ∙ no))
          (λ is_refused_lem. not_refused y a.0 line.0.answer (sym (ap (code y) a.1) ∙ answer_told t line.0 line.1) is_refused_lem)
          (or_true (not (is_making line.0.event)) (is_refused line.0.answer) both.0)

  pub none_between : (id : ClientId) (begun finished : ℕ) → AllBetween lines carries_on (client id) begun finished → (t : ℕ) → begun < t → t < finished → At R t (client id) → GoesOn R t
  unfolding code
  none_between id begun finished all t after before at =
      let x = register_of at.0 in
      let (not_made, goes_on) = between carries_on (client id) begun finished all t after before at in
      record {
        not_done = λ timestamp card signers is. no_test (sym (ap carries_on (ap (code x) is)) ∙ goes_on);
        not_ended = λ is. no_test (sym (ap carries_on (ap (code x) is)) ∙ goes_on);
        not_made = not_made;
      }

  pub only_counted : (id : ClientId) (begun finished : ℕ) → AllBetween lines is_counted (client id) begun finished → (t : ℕ) → begun < t → t < finished → At R t (client id) → answer_at R t ≡ accepted waits
  only_counted id begun finished all t after before at = is_counted_lem (register_of at.0) (answer_at R t) (between is_counted (client id) begun finished all t after before at).1

  -- ---- What a line says of the run

  pub sends_told : (t : ℕ) (e : Event) (message : Message) → get_elem? lines t ≡ some (e ↝ send message) → Sends R (register_of e) t message
  sends_told t e message at = is_sent (register_of e) (answer_at R t) message (answer_told t (e ↝ send message) at)

  pub done_told : (t : ℕ) (e : Event) (timestamp : Timestamp) (card : List ℕ) (signers : ReplicaSet) → get_elem? lines t ≡ some (e ↝ done timestamp card signers)
      → answer_at R t ≡ accepted (done timestamp card signers)
  done_told t e timestamp card signers at = is_done_lem (register_of e) timestamp card signers (answer_at R t) (answer_told t (e ↝ done timestamp card signers) at)

  pub refused_told : (t : ℕ) (e : Event) (number : ℕ) → get_elem? lines t ≡ some (e ↛ number) → answer_at R t ≡ refused number
  refused_told t e number at = is_refused_lem (register_of e) (answer_at R t) number (answer_told t (e ↛ number) at)

  -- A client's operation that begins and is done, with neither done nor ended between: a writer's, and a view.
  module _ (x : RegisterId) (id : ClientId) (begun finished : ℕ) (first last : Event) (answer : Answer) (timestamp : Timestamp) (card : List ℕ) (signers : ReplicaSet)
      (begun_at : get_elem? lines begun ≡ some (first ↝ answer)) (after : begun < finished)
      (done_at : get_elem? lines finished ≡ some (last ↝ done timestamp card signers)) (by : party_of last ≡ client id) (all : AllBetween lines carries_on (client id) begun finished) where
    pub begins_told : (w : Bool) → Begins R x w id (some first) → Begins R x w id (event R begun)
    begins_told w begins = subst (Begins R x w id) (sym (event_told begun (first ↝ answer) begun_at)) begins

    pub not_refused_told : Accepted R begun
    not_refused_told = is_accepted (register_of first) (answer_at R begun) answer (answer_told begun (first ↝ answer) begun_at)

    pub done_by : At R finished (client id)
    done_by = (last, event_told finished (last ↝ done timestamp card signers) done_at, by)

    unfoldable pub finished_told : (w : Bool) → Begins R x w id (some first) → is_writer id ≡ true → Finished R x
    finished_told w begins by_writer =
        record {
          id = id;
          by_writer = by_writer;
          is_write_lem = w;
          begun = begun;
          finished = finished;
          timestamp = timestamp;
          card = card;
          signers = signers;
          begins = begins_told w begins;
          not_refused = not_refused_told;
          after = after;
          at_client = done_by;
          is_done_lem = done_told finished last timestamp card signers done_at;
          none_between = none_between id begun finished all;
        }

    unfoldable pub viewed_told : Begins R x false id (some first) → is_viewer id ≡ true → Viewed R x
    viewed_told begins by_viewer =
        record {
          id = id;
          by_viewer = by_viewer;
          begun = begun;
          finished = finished;
          timestamp = timestamp;
          card = card;
          signers = signers;
          begins = begins_told false begins;
          not_refused = not_refused_told;
          after = after;
          at_client = done_by;
          is_done_lem = done_told finished last timestamp card signers done_at;
          none_between = λ t l l' at. (none_between id begun finished all t l l' at).not_done;
        }

  -- An operation of a client that is made again before it is done is not finished.
  module _ (x : RegisterId) (id : ClientId) (begun broken nonce : ℕ) (first : Event) (answer : Answer)
      (begun_at : get_elem? lines begun ≡ some (first ↝ answer)) (by : party_of first ≡ client id) (after : begun < broken)
      (broken_at : get_elem? lines broken ≡ some (makes id nonce ↝ waits)) (all : AllBetween lines carries_on (client id) begun broken) where
    made_there : event R broken ≡ some (makes id nonce)
    made_there = event_told broken (makes id nonce ↝ waits) broken_at

    counted_there : answer_at R broken ≡ accepted waits
    unfolding code
    counted_there = let x = register_of (makes id nonce) in is_counted_lem x (answer_at R broken) (ap is_counted (answer_told broken (makes id nonce ↝ waits) broken_at))

    begun_by : (o : Finished R x) → o.begun ≡ begun → o.id ≡ id
    begun_by o e = go o.is_write_lem (subst (λ (t : ℕ). Begins R x o.is_write_lem o.id (event R t)) e o.begins)
      where
        there : event R begun ≡ some first
        there = event_told begun (first ↝ answer) begun_at

        same_id : (e : Event) → event R begun ≡ some e → party_of e ≡ client o.id → o.id ≡ id
        same_id e q p =
            let one : e ≡ first = cc there in
            let party : client o.id ≡ client id = sym p ∙ ap party_of one ∙ by in
            cc

        go : (w : Bool) → Begins R x w o.id (event R begun) → o.id ≡ id
        go true b = same_id (begins_write o.id x b.0) b.1 refl
        go false b = same_id (begins_read o.id x) b refl

    pub broken_off : (o : Finished R x) → o.begun ≡ begun → ⊥
    broken_off o e = ⊎_elim early late (order o.finished broken)
      where
        same_id : o.id ≡ id
        same_id = begun_by o e

        at : At R o.finished (client id)
        at = subst (λ (i : ClientId). At R o.finished (client i)) same_id o.at_client

        late : broken < o.finished → ⊥
        late l =
            (o.none_between broken (omega arith) l (makes id nonce, made_there, ap client (sym same_id))).not_made id nonce made_there (waits, counted_there)

        early : o.finished ≤ broken → ⊥
        early l =
            let started = o.after in
            ⊎_elim
            (λ is. let z = subst (λ (t : ℕ). answer_at R t ≡ accepted (done o.timestamp o.card o.signers)) is o.is_done_lem in let y = counted_there in let z : ◌≡◌ {A = ℕ} 0 1 = cc in omega arith)
            (λ k. (none_between id begun broken all o.finished (omega arith) k at).not_done o.timestamp o.card o.signers o.is_done_lem) (eq-or-lt_of_le l)

  -- A prepared proof that passes 9 to 11 with verdicts that are true at the end of the run, for a register.
  pub genuine_told : (x : RegisterId) (proof : PreparedProof) (verdicts : List ℕ) → all_bytes (proof_bytes proof) ≡ true → read_proof 32 (proof_bytes proof) ≡ accepted proof
      → length verdicts ≡ length proof.entries → proof_outcome R.f proof.entries verdicts proof.timestamp ≡ accepted (signer_set proof.entries)
      → true_verdicts R lines (length R.events) (prepared_signatures x proof) verdicts ≡ true → Genuine R x proof
  genuine_told x proof verdicts bytes read_as one_each passes true_verdicts_lem =
      record {
        bytes = proof_bytes proof;
        verdicts = verdicts;
        are_bytes = all_bytes_lem (proof_bytes proof) bytes;
        reads = read_as;
        one_each = one_each;
        passes = passes;
        true_verdicts_lem = true_for_all (length R.events) (prepared_signatures x proof) verdicts true_verdicts_lem;
      }
