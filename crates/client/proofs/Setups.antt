-- A client's set-up that is good was for a nonce other than 0. Assumes nothing.
use mathlib.Core.Path.{◌≡◌, sym}
use mathlib.Core.Bool.{Bool}
use Prim.Native.Nat.{ℕ, ◌≤◌}
use borrow.Author.Tests.{leb-true}
use lib.Dec.{leb}
use Rattle.base.specs.Outcome.{Outcome, accepted, guard}
use Rattle.base.specs.Party.{is_fault_bound, client_setup_if}
use Rattle.base.proofs.Outcome.{guard_accepted}

pub first_nonce_lem : (in_range : Bool) (f nonce : ℕ) (ready : Unit {0}) → accepted ready ≡ client_setup_if in_range f nonce → 1 ≤ nonce
first_nonce_lem in_range f nonce ready e =
    let last : Outcome (Unit {0}) = guard 16 (leb 1 nonce) (accepted tt) in
    let one = guard_accepted 16 (is_fault_bound f) (guard 16 in_range last) ready (sym e) in
    let two = guard_accepted 16 in_range last ready one.1 in
    leb-true 1 nonce (guard_accepted 16 (leb 1 nonce) (accepted tt) ready two.1).0
