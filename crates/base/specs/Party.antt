-- Document 01, "Parties and stamps": the fault bound (allowance) f, the numbers of replicas (holders) and clients (desks), the quorum. Document
-- 02, #103: the numbers of registers (sets).
use Rattle.std.specs.Prelude.{Bool, ◌&&◌, not, cond, ℕ, ◌+◌, ◌-◌, ◌*◌, min, leb}
use Rattle.base.specs.Outcome.{Outcome, accepted, guard}
use Rattle.base.specs.Range.{within}
use Rattle.base.specs.declared.party.ReplicaId.{ReplicaId}
use Rattle.base.specs.declared.party.ClientId.{ClientId}
use Rattle.base.specs.declared.party.RegisterId.{RegisterId}

-- "The allowance f is 1 to 5."
abbrev pub is_fault_bound : ℕ → Bool
is_fault_bound f = within 1 5 f

-- n = 3f + 1. An f over 5 counts as 5, so that n and q are defined for a record of any value.
abbrev pub replica_count : ℕ → ℕ
replica_count f = 3 * min f 5 + 1

-- q = 2f + 1
abbrev pub quorum_size : ℕ → ℕ
quorum_size f = 2 * min f 5 + 1

-- "Holders are numbered 1 to n"
abbrev pub is_replica : ℕ → ReplicaId → Bool
is_replica f id = within 1 (replica_count f) id.0

-- Document 02, #101: "Sender and addressed-desk fields take 1 to 96"
abbrev pub is_client : ClientId → Bool
is_client id = within 1 96 id.0

-- "desks 1 to 64": the clients that write; "stamps still take desks 1 to 64".
abbrev pub is_writer : ClientId → Bool
is_writer id = within 1 64 id.0

-- "Numbers 65 to 96 become viewing desks": the other clients.
abbrev pub is_viewer : ClientId → Bool
is_viewer id = is_client id && not (is_writer id)

-- Document 02, #103: "A holder keeps 16 registers". 20: "the set is not 1 to 16".
abbrev pub is_register : RegisterId → Bool
is_register id = within 1 16 id.0

-- Where a register stands among the sixteen. What is no register's number gets a place too, so that places are defined for all.
abbrev pub register_place : RegisterId → ℕ
register_place id = cond (is_register id) (id.0 - 1) 0

-- Refusal 16: "A party is set up with f, number or first nonce (0) out of range."
abbrev pub replica_setup : ℕ → ReplicaId → Outcome (Unit {0})
replica_setup f id = guard 16 (is_fault_bound f) (guard 16 (is_replica f id) (accepted tt))

-- The same of a client, by whether its number is in its range.
abbrev pub client_setup_if : Bool → ℕ → ℕ → Outcome (Unit {0})
client_setup_if in_range f nonce = guard 16 (is_fault_bound f) (guard 16 in_range (guard 16 (leb 1 nonce) (accepted tt)))

abbrev pub client_setup : ℕ → ClientId → ℕ → Outcome (Unit {0})
client_setup f id nonce = client_setup_if (is_writer id) f nonce

abbrev pub viewer_setup : ℕ → ClientId → ℕ → Outcome (Unit {0})
viewer_setup f id nonce = client_setup_if (is_viewer id) f nonce
