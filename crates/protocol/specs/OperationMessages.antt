-- Document 01, "A desk": "A read sends at most two messages, a write at most three." Of a view (document 02, #101): just one. What
-- counts as sent in an operation.
use Rattle.std.specs.Prelude.{true, false, List, [], ◌∷◌, ◌≡◌, ℕ, ◌+◌, ◌≤◌}
use Rattle.base.specs.Outcome.{Outcome, accepted, refused}
use Rattle.base.specs.Party.{is_writer}
use Rattle.base.specs.declared.party.ClientId.{ClientId}
use Rattle.base.specs.declared.party.RegisterId.{RegisterId}
use Rattle.protocol.specs.Client.{Response, Send, Counted, Done, Ended, ClientCall, begin_write_call, begin_read_call}
use Rattle.protocol.specs.Events.{ClientEvent, write_begun, read_begun, reply_handed, made, proof_handed, client_event_call}
use Rattle.protocol.specs.declared.client.Client.{Client}

-- A call of a client: its event, and what stood in the output.
abbrev pub Call : Type 0
Call = ClientEvent × List ℕ

-- The messages that an answer sends.
abbrev pub sent_by : Outcome Response → ℕ
sent_by (accepted (Send n)) = 1
sent_by (accepted Counted) = 0
sent_by (accepted (Done timestamp signers)) = 0
sent_by (accepted Ended) = 0
sent_by (refused number) = 0

-- A beginning ends the operation before it, unless it is refused; and so does a making.
abbrev pub unless_begun : Outcome Response → ℕ → ℕ
unless_begun (accepted answer) rest = 0
unless_begun (refused number) rest = rest

-- What an operation sends from a call on, by the call's answer and what it sends in the later ones.
abbrev pub sent_from : ClientEvent → Outcome Response → ℕ → ℕ
sent_from (write_begun register card) answer rest = unless_begun answer rest
sent_from (read_begun register) answer rest = unless_begun answer rest
sent_from (reply_handed bytes verdicts) answer rest = sent_by answer + rest
sent_from (made nonce) answer rest = unless_begun answer rest
sent_from (proof_handed register bytes verdicts) answer rest = sent_by answer + rest

-- What an operation sends in the calls that follow its beginning, up to the beginning of the next one, or until its client is made again; `id`
-- tells which engine is called, and with f a client is made.
unfoldable pub sent_after : ℕ → ClientId → Client → List Call → ℕ
sent_after f id client [] = 0
sent_after f id client ((event, old) ∷ calls) = let call = client_event_call f id event old client in sent_from event call.answer (sent_after f id call.client calls)

-- What an operation sends in all: in the call that begins it, and in those that follow.
abbrev pub sent_in : ℕ → ClientId → ClientCall → List Call → ℕ
sent_in f id begun calls = sent_by begun.answer + sent_after f id begun.client calls

-- For a record of any value, and calls of any bytes, verdicts and outputs, refused ones among them.
pub record OperationMessages : Type 0 where
  -- "a write at most three"
  pub write : (f : ℕ) (id : ClientId) → is_writer id ≡ true → (client : Client) (register : RegisterId) (card old : List ℕ) (calls : List Call)
      → sent_in f id (begin_write_call client register card old) calls ≤ 3
  -- "A read sends at most two messages"
  pub read : (f : ℕ) (id : ClientId) → is_writer id ≡ true → (client : Client) (register : RegisterId) (old : List ℕ) (calls : List Call) → sent_in f id (begin_read_call client register old) calls ≤ 2
  -- "READ, then q CARDs, then done .. and no write-back"
  pub view : (f : ℕ) (id : ClientId) → is_writer id ≡ false → (client : Client) (register : RegisterId) (old : List ℕ) (n : ℕ) (calls : List Call) → (begin_read_call client register old).answer ≡ accepted (Send n)
      → sent_in f id (begin_read_call client register old) calls ≡ 1
