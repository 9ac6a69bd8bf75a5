-- Document 01, "A desk": how a client begins, and what it makes of a message.
use Rattle.std.specs.Prelude.{Bool, true, false, ◌&&◌, not, cond, List, [], ◌∷◌, ◌++◌, ℕ, zero, suc, ◌+◌, ◌-◌, ◌*◌, ◌^◌, eqb, ltb, length, get_or, take, drop, set, replicate}
use Rattle.std.proofs.Math.Option.{Option, none, some}
use Rattle.std.specs.declared.option.Option.{Option as CodeOption}
use Rattle.std.specs.declared.option.Option.TheVariants.{Some, None}
use Rattle.base.specs.ClientSet.{nobody}
use Rattle.base.specs.Counting.{replica}
use Rattle.base.specs.Bytes.{filled}
use Rattle.base.specs.Outcome.{Outcome, accepted, refused, guard, ◌>>=◌}
use Rattle.base.specs.Party.{replica_count, is_register, register_place, client_setup}
use Rattle.base.specs.Refusal.{number_of}
use Rattle.base.specs.ReplicaSet.{empty, has, with, is_quorum}
use Rattle.base.specs.Same.{same}
use Rattle.base.specs.Timestamp.{number, of_number, start, successor}
use Rattle.base.specs.declared.party.ClientId.{ClientId}
use Rattle.base.specs.declared.party.RegisterId.{RegisterId}
use Rattle.base.specs.declared.party.ReplicaId.{ReplicaId}
use Rattle.base.specs.declared.replica_set.ReplicaSet.{ReplicaSet}
use Rattle.base.specs.declared.timestamp.Timestamp.{Timestamp}
use Rattle.wire.specs.Card.{is_card}
use Rattle.wire.specs.Acceptance.{admitted}
use Rattle.wire.specs.Layout.{signature, card_room, entries_room, signatures_room}
use Rattle.wire.specs.Message.{Message, READ-STAMP, PREPARE, WRITE, READ, STAMP, PREPARED, WRITTEN, CARD}
use Rattle.wire.specs.Proof.{Entry, PreparedProof, WrittenProof, signer_set, entries_bytes}
use Rattle.wire.specs.Sha256.{sha256}
use Rattle.wire.specs.Writing.{unsigned, in_front}
use Rattle.wire.specs.declared.message.Party.TheVariants.{Client as AtClient}
use Rattle.protocol.specs.Parts.{start_card, card_kept, entries_kept, if_issued, card_stands}
use Rattle.protocol.specs.RegisterReplica.{with_output}
use Rattle.protocol.specs.declared.client.Client.{Client}
use Rattle.protocol.specs.declared.client.ClientAnswer.{ClientAnswer}
use Rattle.protocol.specs.declared.client.ClientAnswer.TheVariants.{Send as ToSend, Counted as IsCounted, Done as IsDone, Ended as HasEnded, Refused}
use Rattle.protocol.specs.declared.client.Phase.{Phase}
use Rattle.protocol.specs.declared.client.Phase.TheVariants.{Idle, Stamps, Prepareds, Writtens, Cards, WriteBack}
use Rattle.protocol.specs.declared.client.Written.{Written}
use Rattle.wire.specs.Parts.{prepared_timestamp}

-- ---- What a client's record holds

abbrev pub current_card : Client → List ℕ
current_card client = card_kept client.card client.card_length

-- The prepared proof of the best reply, whose timestamp the phase has.
abbrev pub best_proof : Client → Timestamp → PreparedProof
best_proof client best = record { timestamp = number best; digest = client.digest; entries = entries_kept client.entries client.entry_count }

-- It is shown, unless it is 0.0's.
abbrev pub best_shown : Client → Timestamp → Option PreparedProof
best_shown client best = if_issued (number best) (best_proof client best)

-- What stands past the end of the sixteen written proofs, where nothing is read: numbers are 0 and arrays have no elements, as in the
-- code's view.
abbrev pub no_written : Written
no_written = record { timestamp = start; entry_count = 0; entries = []; own = false }

abbrev pub written_in_place : ℕ → Client → Written
written_in_place at client = get_or client.written at no_written

-- A written proof that is kept; none at 0.0.
abbrev pub written_record : Written → WrittenProof
written_record written = record { timestamp = number written.timestamp; digest = []; entries = entries_kept written.entries written.entry_count }

abbrev pub written_kept : Written → Option WrittenProof
written_kept written = if_issued (number written.timestamp) (written_record written)

-- "the desk's last written proof, if any"; document 02, #103: a desk "keeps its last written proof for each set". That of the operation's
-- register, whether its own or, #106, handed to it: "the last handed for a set is shown until the laptop has its own".
abbrev pub last_written : Client → Option WrittenProof
last_written client = written_kept (written_in_place (register_place client.register) client)

abbrev pub signature_at : List ℕ → ReplicaId → List ℕ
signature_at signatures id = take 64 (drop (64 * (id.0 - 1)) signatures)

-- "Built proofs list their holders in rising order": the counted replicas among 1 to n with their signatures.
unfoldable pub gathered : ℕ → ReplicaSet → List ℕ → List Entry
gathered zero counted signatures = []
gathered (suc n) counted signatures =
    gathered n counted signatures ++ cond (has counted (replica (suc n))) (record { signer = replica (suc n); signature = signature_at signatures (replica (suc n)) } ∷ []) []

-- A record of any value builds at most the 11 entries of the largest quorum.
abbrev pub built : Client → ReplicaSet → List ℕ → List Entry
built client counted signatures = take 11 (gathered (replica_count client.f) counted signatures)

abbrev pub with_signature : List ℕ → ReplicaId → List ℕ → List ℕ
with_signature signatures id signature = take (64 * (id.0 - 1)) signatures ++ (signature ++ drop (64 * id.0) signatures)

-- No proof of any register is kept yet.
abbrev pub nothing_written : List Written
nothing_written = replicate 16 (record { timestamp = start; entry_count = 0; entries = replicate entries_room 0; own = false })

-- A client with no operation, which used the nonces up to this one.
abbrev pub idle_client : ℕ → ClientId → ℕ → Client
idle_client f id latest_nonce =
    record {
      f = f;
      id = id;
      register = record { 0 = 0 };
      last_nonce = latest_nonce;
      phase = Idle;
      card_length = 0;
      card = replicate card_room 0;
      digest = replicate 32 0;
      signers = empty;
      entry_count = 0;
      entries = replicate entries_room 0;
      signatures = replicate signatures_room 0;
      written = nothing_written;
    }

-- "a desk is made with its first nonce"
abbrev pub fresh_client : ℕ → ClientId → ℕ → Client
fresh_client f id first_nonce = idle_client f id (first_nonce - 1)

-- 16: "A party is set up with f, number or first nonce (0) out of range.": then the record is that of no client.
abbrev pub no_client : Client
no_client = idle_client 0 (record { 0 = 0 }) 0

abbrev pub client_if_set_up : Outcome (Unit {0}) → Client → Client
client_if_set_up (accepted ready) client = client
client_if_set_up (refused number) client = no_client

abbrev pub made_client : ℕ → ClientId → ℕ → Client
made_client f id first_nonce = client_if_set_up (client_setup f id first_nonce) (fresh_client f id first_nonce)

-- ---- Changes of a record

-- The record with these parts of its operation in place of its own; what a client is and has asked stays.
abbrev pub remade : Phase → ℕ → List ℕ → List ℕ → ReplicaSet → ℕ → List ℕ → List ℕ → List Written → Client → Client
remade phase size card digest signers count entries signatures written client =
    record {
      f = client.f;
      id = client.id;
      register = client.register;
      last_nonce = client.last_nonce;
      phase = phase;
      card_length = size;
      card = card;
      digest = digest;
      signers = signers;
      entry_count = count;
      entries = entries;
      signatures = signatures;
      written = written;
    }

abbrev pub with_phase : Phase → Client → Client
with_phase phase c = remade phase c.card_length c.card c.digest c.signers c.entry_count c.entries c.signatures c.written c

-- A new operation: its register, its nonce, its card, no reply yet.
abbrev pub beginning : RegisterId → ℕ → Phase → List ℕ → Client → Client
beginning register nonce phase card client =
    record {
      f = client.f;
      id = client.id;
      register = register;
      last_nonce = nonce;
      phase = phase;
      card_length = length card;
      card = filled card_room card;
      digest = replicate 32 0;
      signers = empty;
      entry_count = 0;
      entries = replicate entries_room 0;
      signatures = replicate signatures_room 0;
      written = client.written;
    }

-- A better reply's proof is kept; document 02, #102: and the set "with the best reply".
abbrev pub with_proof : PreparedProof → Client → Client
with_proof proof c =
    remade c.phase c.card_length c.card proof.digest (signer_set proof.entries) (length proof.entries) (filled entries_room (entries_bytes proof.entries)) c.signatures c.written c

abbrev pub with_card : List ℕ → Client → Client
with_card card c = remade c.phase (length card) (filled card_room card) c.digest c.signers c.entry_count c.entries c.signatures c.written c

abbrev pub with_digest : List ℕ → Client → Client
with_digest digest c = remade c.phase c.card_length c.card digest empty 0 (replicate entries_room 0) c.signatures c.written c

abbrev pub with_signatures : List ℕ → Client → Client
with_signatures signatures c = remade c.phase c.card_length c.card c.digest c.signers c.entry_count c.entries signatures c.written c

-- Document 02, #102: desks keep the set "with the prepared proof that they build".
abbrev pub with_signers : ReplicaSet → Client → Client
with_signers signers c = remade c.phase c.card_length c.card c.digest signers c.entry_count c.entries c.signatures c.written c

-- A written proof as it is kept, with whether it is the client's own.
abbrev pub keeping : Bool → Timestamp → List Entry → Written
keeping own timestamp entries = record { timestamp = timestamp; entry_count = length entries; entries = filled entries_room (entries_bytes entries); own = own }

-- Another written proof of a register; those of the others stay.
abbrev pub with_written_for : RegisterId → Written → Client → Client
with_written_for register last c =
    remade c.phase c.card_length c.card c.digest c.signers c.entry_count c.entries c.signatures (set c.written (register_place register) last) c

-- The one that a write of its own ends with, for the operation's register.
abbrev pub with_last_written : Timestamp → List Entry → Client → Client
with_last_written timestamp entries c = with_written_for c.register (keeping true timestamp entries) c

-- ---- Answers

-- "Each call's answer is one of"
pub data Answer : Type 0 where
  send : Message → Answer  -- "a message to send"
  waits : Answer  -- "counted, nothing to send"
  done : Timestamp → List ℕ → ReplicaSet → Answer  -- "done, with stamp and card"; document 02, #102: "and done shows its card's" set
  ended : Answer  -- "ended, where no successor exists (the desk is then idle)"

-- An answer, and the record afterwards.
pub record Turn : Type 0 where
  pub answer : Answer
  pub next : Client

abbrev pub turn : Answer → Client → Outcome Turn
turn answer next = accepted (record { answer = answer; next = next })

-- ---- Beginnings

abbrev pub is_idle : Phase → Bool
is_idle Idle = true
is_idle (Stamps nonce best counted) = false
is_idle (Prepareds timestamp counted) = false
is_idle (Writtens timestamp counted) = false
is_idle (Cards nonce best counted showed) = false
is_idle (WriteBack timestamp counted) = false

-- 17: "An operation is begun on a busy desk, or after nonce 2^64 − 1 was used."
abbrev pub may_begin : Client → Bool
may_begin client = is_idle client.phase && ltb (client.last_nonce + 1) (2 ^ 64)

-- Document 02, #103: "A desk names its set at each beginning". 20: "the set is not 1 to 16 .. at a beginning right after 1".

-- "Beginning a write checks 1, of 14 only that the card keeps its table, then 17"
unfoldable pub begin_write : Client → RegisterId → List ℕ → Outcome Turn
begin_write client register card =
    guard 20 (is_register register)
    (guard 14 (is_card card)
    (guard 17 (may_begin client)
    (let nonce = client.last_nonce + 1 in
    turn (send (READ-STAMP client.id nonce)) (beginning register nonce (Stamps nonce start empty) card client))))

-- "beginning a read 1, 17"
unfoldable pub begin_read : Client → RegisterId → Outcome Turn
begin_read client register =
    guard 20 (is_register register)
    (guard 17 (may_begin client)
    (let nonce = client.last_nonce + 1 in
    turn (send (READ client.id nonce)) (beginning register nonce (Cards nonce start empty empty) start_card client)))

-- ---- Replies

-- 18: "A reply has another kind, nonce, desk, stamp or digest than awaited (an idle desk awaits none), or its holder's
-- reply was already taken in this phase, or, in a write-back, its CARD showed the stamp written back."
abbrev pub awaited : {A : Type 0} → Bool → Outcome A → Outcome A
awaited test next = guard 18 test next

abbrev pub unawaited : {A : Type 0} → Outcome A
unawaited = refused 18

-- "q": replies of a quorum were taken.
abbrev pub enough : Client → ReplicaSet → Bool
enough client counted = is_quorum client.f counted

abbrev pub is_new : ReplicaSet → ReplicaId → Bool
is_new counted sender = not (has counted sender)

-- "Of replies with the same largest stamp the first one taken gives proof and card."
abbrev pub is_better : Timestamp → Option PreparedProof → Bool
is_better best proof = ltb (number best) (prepared_timestamp proof)

abbrev pub best_of : Timestamp → Option PreparedProof → Timestamp
best_of best proof = cond (is_better best proof) (of_number (prepared_timestamp proof)) best

abbrev pub keep_proof : Option PreparedProof → Client → Client
keep_proof none client = client
keep_proof (some proof) client = with_proof proof client

abbrev pub keep_better : Timestamp → Option PreparedProof → Client → Client
keep_better best proof client = cond (is_better best proof) (keep_proof proof client) client

-- From q STAMPs: "PREPARE its successor with its proof and the desk's last written proof, if any"
abbrev pub to_prepare : Client → Timestamp → CodeOption Timestamp → Outcome Turn
to_prepare client best None = turn ended (with_phase Idle client)
to_prepare client best (Some next) =
    let digest = sha256 (current_card client) in
    turn (send (PREPARE client.id (number next) digest (best_shown client best) (last_written client)))
    (with_phase (Prepareds next empty) (with_digest digest client))

unfoldable pub after_stamp : ℕ → Timestamp → ReplicaSet → Client → Outcome Turn
after_stamp nonce best counted client =
    cond (enough client counted) (to_prepare client best (successor best client.id)) (turn waits (with_phase (Stamps nonce best counted) client))

unfoldable pub on_stamp : Client → ReplicaId → ℕ → Option PreparedProof → ClientId → Phase → Outcome Turn
on_stamp client sender nonce proof addressed (Stamps asked best counted) =
    awaited (eqb nonce asked && (eqb addressed.0 client.id.0 && is_new counted sender))
    (after_stamp asked (best_of best proof) (with counted sender) (keep_better best proof client))
on_stamp client sender nonce proof addressed Idle = unawaited
on_stamp client sender nonce proof addressed (Prepareds timestamp counted) = unawaited
on_stamp client sender nonce proof addressed (Writtens timestamp counted) = unawaited
on_stamp client sender nonce proof addressed (Cards asked best counted showed) = unawaited
on_stamp client sender nonce proof addressed (WriteBack timestamp counted) = unawaited

-- "from q PREPAREDs build the proof; WRITE"
unfoldable pub after_prepared : Timestamp → ReplicaSet → Client → Outcome Turn
after_prepared timestamp counted client =
    cond (enough client counted)
    (let entries = built client counted client.signatures in
    turn (send (WRITE client.id (current_card client) (record { timestamp = number timestamp; digest = client.digest; entries = entries })))
    (with_phase (Writtens timestamp empty) (with_signers (signer_set entries) (with_signatures (replicate signatures_room 0) client))))
    (turn waits (with_phase (Prepareds timestamp counted) client))

unfoldable pub on_prepared : Client → ReplicaId → ℕ → List ℕ → List ℕ → Phase → Outcome Turn
on_prepared client sender timestamp digest signature (Prepareds asked counted) =
    awaited (eqb timestamp (number asked) && (same digest client.digest && is_new counted sender))
    (after_prepared asked (with counted sender) (with_signatures (with_signature client.signatures sender signature) client))
on_prepared client sender timestamp digest signature Idle = unawaited
on_prepared client sender timestamp digest signature (Stamps nonce best counted) = unawaited
on_prepared client sender timestamp digest signature (Writtens asked counted) = unawaited
on_prepared client sender timestamp digest signature (Cards nonce best counted showed) = unawaited
on_prepared client sender timestamp digest signature (WriteBack asked counted) = unawaited

-- "q WRITTENs end it and are the next written proof"
unfoldable pub after_written : Timestamp → ReplicaSet → Client → Outcome Turn
after_written timestamp counted client =
    cond (enough client counted)
    (turn (done timestamp (current_card client) client.signers) (with_phase Idle (with_last_written timestamp (built client counted client.signatures) client)))
    (turn waits (with_phase (Writtens timestamp counted) client))

-- "each uncounted holder's WRITTEN counts, until q"
unfoldable pub after_write_back : Timestamp → ReplicaSet → Client → Outcome Turn
after_write_back timestamp counted client =
    cond (enough client counted) (turn (done timestamp (current_card client) client.signers) (with_phase Idle client)) (turn waits (with_phase (WriteBack timestamp counted) client))

unfoldable pub on_written : Client → ReplicaId → ℕ → List ℕ → Phase → Outcome Turn
on_written client sender timestamp signature (Writtens asked counted) =
    awaited (eqb timestamp (number asked) && is_new counted sender)
    (after_written asked (with counted sender) (with_signatures (with_signature client.signatures sender signature) client))
on_written client sender timestamp signature (WriteBack asked counted) =
    awaited (eqb timestamp (number asked) && is_new counted sender) (after_write_back asked (with counted sender) client)
on_written client sender timestamp signature Idle = unawaited
on_written client sender timestamp signature (Stamps nonce best counted) = unawaited
on_written client sender timestamp signature (Prepareds asked counted) = unawaited
on_written client sender timestamp signature (Cards nonce best counted showed) = unawaited

-- "Holders that showed it count.": those of the largest timestamp so far.
abbrev pub showed_by : Timestamp → Option PreparedProof → ReplicaId → ReplicaSet → ReplicaSet
showed_by best proof sender showed =
    cond (is_better best proof) (with empty sender) (cond (eqb (number best) (prepared_timestamp proof)) (with showed sender) showed)

abbrev pub keep_better_card : Timestamp → List ℕ → Option PreparedProof → Client → Client
keep_better_card best card proof client = cond (is_better best proof) (with_card card (keep_proof proof client)) client

-- What follows q CARDs: by the largest timestamp, the replicas that showed it, and the record.
abbrev pub AfterCards : Type 0
AfterCards = Timestamp → ReplicaSet → Client → Outcome Turn

-- In a read: "If they are q it is done; else WRITE it back"
unfoldable pub after_card : AfterCards
after_card best showed client =
    cond (enough client showed) (turn (done best (current_card client) client.signers) (with_phase Idle client))
    (turn (send (WRITE client.id (current_card client) (best_proof client best))) (with_phase (WriteBack best showed) client))

-- "from q CARDs take the largest stamp": until then it waits.
unfoldable pub count_card : AfterCards → ℕ → Timestamp → ReplicaSet → ReplicaSet → Client → Outcome Turn
count_card next nonce best counted showed client =
    cond (enough client counted) (next best showed client) (turn waits (with_phase (Cards nonce best counted showed) client))

unfoldable pub on_card : AfterCards → Client → ReplicaId → ℕ → List ℕ → Option PreparedProof → ClientId → Phase → Outcome Turn
on_card next client sender nonce card proof addressed (Cards asked best counted showed) =
    awaited (eqb nonce asked && (eqb addressed.0 client.id.0 && is_new counted sender))
    (count_card next asked (best_of best proof) (with counted sender) (showed_by best proof sender showed) (keep_better_card best card proof client))
on_card next client sender nonce card proof addressed Idle = unawaited
on_card next client sender nonce card proof addressed (Stamps asked best counted) = unawaited
on_card next client sender nonce card proof addressed (Prepareds timestamp counted) = unawaited
on_card next client sender nonce card proof addressed (Writtens timestamp counted) = unawaited
on_card next client sender nonce card proof addressed (WriteBack timestamp counted) = unawaited

-- The four replies, once 2 to 11 are passed, with the message's own signature. The other kinds do not get here: 5 refuses them.
unfoldable pub on_reply : Client → List ℕ → Message → Outcome Turn
on_reply client signature (STAMP sender nonce proof addressed) = on_stamp client sender nonce proof addressed client.phase
on_reply client signature (PREPARED sender timestamp digest) = on_prepared client sender timestamp digest signature client.phase
on_reply client signature (WRITTEN sender timestamp) = on_written client sender timestamp signature client.phase
on_reply client signature (CARD sender nonce card proof addressed) =
    guard 14 (card_stands card proof)
    (on_card after_card client sender nonce card proof addressed client.phase)
on_reply client signature (READ-STAMP sender nonce) = refused 5
on_reply client signature (PREPARE sender timestamp digest proof last) = refused 5
on_reply client signature (WRITE sender card proof) = refused 5
on_reply client signature (READ sender nonce) = refused 5

-- Document 02, #103: "A reply for another set than awaited is 18." To such a reply a client is as an idle one, which awaits none; so 14
-- comes first.
abbrev pub towards : RegisterId → Client → Client
towards register client = cond (eqb register.0 client.register.0) client (with_phase Idle client)

-- A client is handed bytes with verdicts.
unfoldable pub client_step : Client → List ℕ → List ℕ → Outcome Turn
client_step client bytes verdicts = admitted AtClient client.f nobody bytes verdicts >>= λ sent. on_reply (towards sent.0 client) (signature bytes) sent.1

-- ---- The calls

-- What a call answers that is not refused: the length of the message to send, counted, done with the card's timestamp and signers, or ended.
pub data Response : Type 0 where
  Send : ℕ → Response
  Counted : Response
  Done : Timestamp → ReplicaSet → Response
  Ended : Response

-- What an answer of the code stands for: that, or the refusal by its number.
abbrev pub answer_outcome : ClientAnswer → Outcome Response
answer_outcome (ToSend n) = accepted (Send n)
answer_outcome IsCounted = accepted Counted
answer_outcome (IsDone timestamp signers) = accepted (Done timestamp signers)
answer_outcome HasEnded = accepted Ended
answer_outcome (Refused refusal) = refused (number_of refusal)

-- What a call gives back beside the record: answer, card, and the output buffer.
pub record Given : Type 0 where
  pub answer : Outcome Response
  pub card_length : ℕ
  pub card : List ℕ
  pub output : List ℕ

-- The card stands beside Done, zeros behind it; zeros beside the other answers.
abbrev pub giving : Outcome Response → List ℕ → List ℕ → Given
giving answer card output = record { answer = answer; card_length = length card; card = filled card_room card; output = output }

-- What an answer is in a call whose output held `old`: "In every answer the lent output holds the message in front and its old bytes behind
-- (only old bytes where nothing is sent)"; "A refusal is its number alone; record and lent bytes keep their old contents." A message is for
-- this register.
abbrev pub given : RegisterId → List ℕ → Outcome Answer → Given
given register old (accepted (send message)) = giving (accepted (Send (length (unsigned register message)))) [] (in_front (unsigned register message) old)
given register old (accepted waits) = giving (accepted Counted) [] old
given register old (accepted (done timestamp card signers)) = giving (accepted (Done timestamp signers)) card old
given register old (accepted ended) = giving (accepted Ended) [] old
given register old (refused number) = giving (refused number) [] old

-- What a call of a client leaves: that, and the record.
pub record ClientCall : Type 0 where
  pub answer : Outcome Response
  pub card_length : ℕ
  pub card : List ℕ
  pub client : Client
  pub output : List ℕ

abbrev pub leaving : Client → Given → ClientCall
leaving client gives = record { answer = gives.answer; card_length = gives.card_length; card = gives.card; client = client; output = gives.output }

-- What it sends is for the register of its operation.
abbrev pub client_answers : Client → List ℕ → Outcome Turn → ClientCall
client_answers client old (accepted turn) = leaving turn.next (given turn.next.register old (accepted turn.answer))
client_answers client old (refused number) = leaving client (given client.register old (refused number))

unfoldable pub begin_write_call : Client → RegisterId → List ℕ → List ℕ → ClientCall
begin_write_call client register card old = client_answers client old (with_output old (begin_write client register card))

unfoldable pub begin_read_call : Client → RegisterId → List ℕ → ClientCall
begin_read_call client register old = client_answers client old (with_output old (begin_read client register))

unfoldable pub client_call : Client → List ℕ → List ℕ → List ℕ → ClientCall
client_call client bytes verdicts old = client_answers client old (with_output old (client_step client bytes verdicts))

-- What a call's answer stands for, with the card beside it and the output: "a message to send", "counted", "done,
-- with stamp and card" and the card's signers, "ended", or the refusal by its number.
pub data Meaning : Type 0 where
  message : List ℕ → Meaning
  nothing : Meaning
  finished : Timestamp → List ℕ → ReplicaSet → Meaning
  no_successor : Meaning

abbrev pub client_outcome : Outcome Response → ℕ → List ℕ → List ℕ → Outcome Meaning
client_outcome (accepted (Send n)) size card output = accepted (message (take n output))
client_outcome (accepted Counted) size card output = accepted nothing
client_outcome (accepted (Done timestamp signers)) size card output = accepted (finished timestamp (take size card) signers)
client_outcome (accepted Ended) size card output = accepted no_successor
client_outcome (refused number) size card output = refused number

-- The same of a step, in an operation of a register.
abbrev pub meaning : RegisterId → Answer → Meaning
meaning register (send m) = message (unsigned register m)
meaning register waits = nothing
meaning register (done timestamp card signers) = finished timestamp card signers
meaning register ended = no_successor

abbrev pub step_outcome : Outcome Turn → Outcome Meaning
step_outcome (accepted turn) = accepted (meaning turn.next.register turn.answer)
step_outcome (refused number) = refused number
