-- Document 01, "Turned down", 7 to 11: verdicts (marks), proofs and timestamps; and where 23 of document 02 stands among them.
use Rattle.std.specs.Prelude.{ℕ, ◌+◌, Bool, true, ◌&&◌, List, [], ◌∷◌, ◌++◌, length, drop, ◌==◌, nat_eq, nat_le, slice_index}
use Rattle.std.proofs.Math.Option.{Option, none, some}
use Rattle.base.specs.Outcome.{Outcome, accepted, guard}
use Rattle.base.specs.Party.{replica_count, quorum_size}
use Rattle.base.specs.Rising.{rising}
use Rattle.base.specs.Timestamp.{of_number, is_issued}
use Rattle.base.specs.declared.replica_set.ReplicaSet.{ReplicaSet}
use Rattle.wire.specs.Message.{Message, READ-STAMP, PREPARE, WRITE, READ, STAMP, PREPARED, WRITTEN, CARD}
use Rattle.wire.specs.Proof.{Entry, Proof, PreparedProof, WrittenProof, signers, signer_set}

-- The proofs and the timestamp field of a message.
abbrev pub prepared_of : Message → Option PreparedProof
prepared_of (READ-STAMP client nonce) = none
prepared_of (PREPARE client timestamp digest proof last) = proof
prepared_of (WRITE client card proof) = some proof
prepared_of (READ client nonce) = none
prepared_of (STAMP replica nonce proof client) = proof
prepared_of (PREPARED replica timestamp digest) = none
prepared_of (WRITTEN replica timestamp) = none
prepared_of (CARD replica nonce card proof client) = proof

abbrev pub written_of : Message → Option WrittenProof
written_of (READ-STAMP client nonce) = none
written_of (PREPARE client timestamp digest proof last) = last
written_of (WRITE client card proof) = none
written_of (READ client nonce) = none
written_of (STAMP replica nonce proof client) = none
written_of (PREPARED replica timestamp digest) = none
written_of (WRITTEN replica timestamp) = none
written_of (CARD replica nonce card proof client) = none

abbrev pub timestamp_of : Message → Option ℕ
timestamp_of (READ-STAMP client nonce) = none
timestamp_of (PREPARE client timestamp digest proof last) = some timestamp
timestamp_of (WRITE client card proof) = none
timestamp_of (READ client nonce) = none
timestamp_of (STAMP replica nonce proof client) = none
timestamp_of (PREPARED replica timestamp digest) = some timestamp
timestamp_of (WRITTEN replica timestamp) = some timestamp
timestamp_of (CARD replica nonce card proof client) = none

abbrev pub if_there : {A : Type 0} → (A → Bool) → Option A → Bool
if_there test none = true
if_there test (some a) = test a

abbrev pub entries_if_there : {d : ℕ} → Option (Proof d) → List Entry
entries_if_there none = []
entries_if_there (some proof) = proof.entries

-- The entries in the order of their verdicts: "the message's own first, then entries in order".
unfoldable pub entries_of : Message → List Entry
entries_of message = entries_if_there (prepared_of message) ++ entries_if_there (written_of message)

unfoldable pub all : (ℕ → Bool) → List ℕ → Bool
all test [] = true
all test (x ∷ xs) = test x && all test xs

-- 7: "The marks are not one per seal, or one is neither 0 nor 1."
abbrev pub verdicts_fit : ℕ → List ℕ → Bool
verdicts_fit signatures verdicts = length verdicts == signatures && all (λ v. nat_le v 1) verdicts

unfoldable pub one_verdict_each : Message → List ℕ → Bool
one_verdict_each message verdicts = verdicts_fit (1 + length (entries_of message)) verdicts

-- 8: "The message's own mark is 0."
abbrev pub own_genuine : List ℕ → Bool
own_genuine verdicts = slice_index verdicts 0 == 1

-- 9: "A proof has other than q entries, or its holders do not rise within 1 to n."
unfoldable pub shaped : ℕ → List Entry → Bool
shaped f entries = length entries == quorum_size f && rising 0 (replica_count f) (signers entries)

abbrev pub shaped_if_there : {d : ℕ} → ℕ → Option (Proof d) → Bool
shaped_if_there {d} f proof = if_there (λ (p : Proof d). shaped f p.entries) proof

-- 10: "An entry's mark is 0."
abbrev pub genuine : List ℕ → Bool
genuine verdicts = all (λ v. nat_eq v 1) verdicts

-- 11: "A stamp present has count 0 or a desk outside 1 to 64."
abbrev pub issued : ℕ → Bool
issued timestamp = is_issued (of_number timestamp)

abbrev pub issued_if_there : {d : ℕ} → Option (Proof d) → Bool
issued_if_there {d} proof = if_there (λ (p : Proof d). issued p.timestamp) proof

-- 9 to 11 of a message, each test over the whole message before the next.
unfoldable pub proven : {A : Type 0} → ℕ → Message → List ℕ → Outcome A → Outcome A
proven f message entry_verdicts next =
    guard 9 (shaped_if_there f (prepared_of message) && shaped_if_there f (written_of message))
    (guard 10 (genuine entry_verdicts)
    (guard 11 (if_there issued (timestamp_of message) && (issued_if_there (prepared_of message) && issued_if_there (written_of message)))
    next))

-- 7 to 11 of a message, and what follows. Document 02, #105: 23, "tested right after 8", by whether its sender is served.
unfoldable pub checked : {A : Type 0} → ℕ → Bool → Message → List ℕ → Outcome A → Outcome A
checked f served message verdicts next =
    guard 7 (one_verdict_each message verdicts)
    (guard 8 (own_genuine verdicts)
    (guard 23 served
    (proven f message (drop 1 verdicts) next)))

-- 9 to 11 of one proof: its entries, their verdicts, its timestamp. Document 02, #102: for a good proof "the set of holders whose
-- entries it found genuine".
unfoldable pub proof_outcome : ℕ → List Entry → List ℕ → ℕ → Outcome ReplicaSet
proof_outcome f entries verdicts timestamp =
    guard 9 (shaped f entries)
    (guard 10 (genuine verdicts)
    (guard 11 (issued timestamp)
    (accepted (signer_set entries))))
