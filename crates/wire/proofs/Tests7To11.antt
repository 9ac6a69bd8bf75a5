-- What a message that passed 7 to 11 satisfies. Assumes nothing.
use Rattle.std.proofs.Common.{◌≡◌, ℕ, ◌/◌, ◌%◌, ◌≤◌, Bool, true, ◌&&◌, eqb, leb, List, length, drop, refl, arith, eqb-true, leb-true}
use Rattle.base.specs.Outcome.{Outcome, accepted, guard}
use Rattle.base.specs.Party.{replica_count, quorum_size}
use Rattle.base.specs.Range.{within}
use Rattle.base.specs.Rising.{rising}
use Rattle.base.proofs.Booleans.{and_true_both}
use Rattle.base.proofs.Outcome.{guard_accepted}
use Rattle.wire.specs.Checks.{prepared_of, written_of, timestamp_of, if_there, one_verdict_each, own_genuine, shaped, shaped_if_there, genuine, issued, issued_if_there, proven, checked}
use Rattle.wire.specs.Message.{Message}
use Rattle.wire.specs.Proof.{Entry, signers}

-- A proof that passes 9 has at most the 11 entries of the largest quorum.
pub shaped_few : (f : ℕ) (entries : List Entry) → shaped f entries ≡ true → length entries ≤ 11
unfolding shaped
shaped_few f entries e =
    let many = eqb-true (length entries) (quorum_size f) (and_true_both (eqb (length entries) (quorum_size f)) (rising 0 (replica_count f) (signers entries)) e).0 in
    omega arith

-- A timestamp that passes 11 has a count above 0, and so is above 0.0.
pub issued_counted : (timestamp : ℕ) → issued timestamp ≡ true → 1 ≤ timestamp / 256
issued_counted timestamp e = leb-true 1 (timestamp / 256) (and_true_both (leb 1 (timestamp / 256)) (within 1 64 (timestamp % 256)) e).0

pub issued_positive : (timestamp : ℕ) → issued timestamp ≡ true → 1 ≤ timestamp
issued_positive timestamp e = omega (arith, issued_counted timestamp e)

pub record Passed (f : ℕ) (message : Message) (verdicts : List ℕ) : Type 0 where
  pub one_each : one_verdict_each message verdicts ≡ true
  pub own : own_genuine verdicts ≡ true
  pub entries_genuine : genuine (drop 1 verdicts) ≡ true
  pub prepared_shaped : shaped_if_there f (prepared_of message) ≡ true
  pub written_shaped : shaped_if_there f (written_of message) ≡ true
  pub field_issued : if_there issued (timestamp_of message) ≡ true
  pub prepared_issued : issued_if_there (prepared_of message) ≡ true
  pub written_issued : issued_if_there (written_of message) ≡ true

pub checked_passed : {A : Type 0} (f : ℕ) (served : Bool) (message : Message) (verdicts : List ℕ) (next : Outcome A) (a : A)
    → checked f served message verdicts next ≡ accepted a → Passed f message verdicts × (served ≡ true) × (next ≡ accepted a)
unfolding checked proven
checked_passed f served message verdicts next a e =
    let seventh = guard_accepted 7 (one_verdict_each message verdicts) (guard 8 (own_genuine verdicts) (guard 23 served (proven f message (drop 1 verdicts) next))) a e in
    let eighth = guard_accepted 8 (own_genuine verdicts) (guard 23 served (proven f message (drop 1 verdicts) next)) a seventh.1 in
    let standing = guard_accepted 23 served (proven f message (drop 1 verdicts) next) a eighth.1 in
    let ninth = guard_accepted 9 (prepared_shaped && written_shaped) (guard 10 (genuine (drop 1 verdicts)) (guard 11 (field_issued && (prepared_issued && written_issued)) next)) a standing.1 in
    let tenth = guard_accepted 10 (genuine (drop 1 verdicts)) (guard 11 (field_issued && (prepared_issued && written_issued)) next) a ninth.1 in
    let eleventh = guard_accepted 11 (field_issued && (prepared_issued && written_issued)) next a tenth.1 in
    let shapes = and_true_both prepared_shaped written_shaped ninth.0 in
    let stamps = and_true_both field_issued (prepared_issued && written_issued) eleventh.0 in
    let proofs = and_true_both prepared_issued written_issued stamps.1 in (
      record {
        one_each = seventh.0;
        own = eighth.0;
        entries_genuine = tenth.0;
        prepared_shaped = shapes.0;
        written_shaped = shapes.1;
        field_issued = stamps.0;
        prepared_issued = proofs.0;
        written_issued = proofs.1;
      },
      standing.0,
      eleventh.1,
    )
  where
    prepared_shaped : Bool
    prepared_shaped = shaped_if_there f (prepared_of message)

    written_shaped : Bool
    written_shaped = shaped_if_there f (written_of message)

    field_issued : Bool
    field_issued = if_there issued (timestamp_of message)

    prepared_issued : Bool
    prepared_issued = issued_if_there (prepared_of message)

    written_issued : Bool
    written_issued = issued_if_there (written_of message)

-- The other way: a message that satisfies all that, of a client that is served, is left to what follows.
pub passed_checked : {A : Type 0} (f : ℕ) (served : Bool) (message : Message) (verdicts : List ℕ) (next : Outcome A) → Passed f message verdicts → served ≡ true → checked f served message verdicts next ≡ next
unfolding checked proven guard
passed_checked f served message verdicts next p standing =
    rw (p.one_each, p.own, standing, p.prepared_shaped, p.written_shaped, p.entries_genuine, p.field_issued, p.prepared_issued, p.written_issued) refl
