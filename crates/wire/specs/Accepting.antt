-- Acceptance as the code finds it: 2 to 8 with 23 behind them, then 9 to 11.
use Rattle.std.specs.Prelude.{◌≡◌, ℕ, ◌+◌, cond, List, length, drop, ◌==◌}
use Rattle.base.specs.Outcome.{Outcome, accepted, guard, ◌>>=◌}
use Rattle.base.specs.Party.{is_register}
use Rattle.base.specs.ReplicaSet.{empty}
use Rattle.base.specs.Timestamp.{number}
use Rattle.base.specs.declared.client_set.ClientSet.{ClientSet}
use Rattle.base.specs.declared.replica_set.ReplicaSet.{ReplicaSet}
use Rattle.wire.specs.Acceptance.{sender_of, in_its_range, may_send, is_served}
use Rattle.wire.specs.Checks.{prepared_of, one_verdict_each, own_genuine, proven, proof_outcome}
use Rattle.wire.specs.Decode.{message_in, register_in, fields_in, framed}
use Rattle.wire.specs.Judging.{entries_in}
use Rattle.wire.specs.Message.{Message, kind_of}
use Rattle.wire.specs.Parts.{part_at, prepared_signers, timestamp_part, count_part, entries_part}
use Rattle.wire.specs.declared.message.Fields.{Fields}
use Rattle.wire.specs.declared.message.Party.{Party}

-- 2 to 8, with 19, 20 and 23, and what follows for the message.
abbrev pub opening : {A : Type 0} → Party → ℕ → ClientSet → List ℕ → List ℕ → (Message → Outcome A) → Outcome A
opening party f withdrawn bytes verdicts next =
    message_in party bytes >>= λ message.
    guard 6 (in_its_range f (sender_of message))
    (guard 19 (may_send (kind_of message) (sender_of message))
    (guard 20 (is_register (register_in bytes))
    (guard 7 (one_verdict_each message verdicts)
    (guard 8 (own_genuine verdicts)
    (guard 23 (is_served withdrawn (sender_of message))
    (next message))))))

unfoldable pub opened : Party → ℕ → ClientSet → List ℕ → List ℕ → Outcome Fields
opened party f withdrawn bytes verdicts = opening party f withdrawn bytes verdicts (λ message. accepted (fields_in bytes))

-- The signatures of a message with these fields: its own and those of its proofs' entries.
abbrev pub count_in : List ℕ → Fields → ℕ
count_in bytes fields = 1 + count_part 32 (part_at bytes fields.prepared) + count_part 0 (part_at bytes fields.written)

unfoldable pub signature_count : List ℕ → ℕ
signature_count bytes = count_in bytes (fields_in bytes)

-- 9 to 11 of a proof's bytes, with a digest of d bytes, and its entries' verdicts; good and signed by nobody if there is none.
unfoldable pub proof_judged : ℕ → ℕ → List ℕ → List ℕ → Outcome ReplicaSet
proof_judged d f proof verdicts =
    cond (length proof == 0) (accepted empty)
    (proof_outcome f (entries_in (entries_part d proof)) verdicts (number (timestamp_part proof)))

-- What 9 to 11 rest on: the fields of bytes that passed 2 to 4, and one verdict per signature.
pub record Ready (bytes verdicts : List ℕ) (fields : Fields) : Type 0 where
  pub whole : framed bytes (accepted (fields_in bytes)) ≡ accepted fields
  pub one_each : length verdicts ≡ signature_count bytes

-- 9 to 11 of the message that the bytes are, whoever is handed it, and its prepared proof's signers.
abbrev pub Judges : ℕ → List ℕ → List ℕ → Outcome ReplicaSet → Type 0
Judges f bytes verdicts judged = (party : Party) (message : Message) → message_in party bytes ≡ accepted message → judged ≡ proven f message (drop 1 verdicts) (accepted (prepared_signers (prepared_of message)))
