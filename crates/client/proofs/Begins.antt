-- Tests 1, 20, 14 and 17 of a beginning. Assumes nothing.
use mathlib.Core.Path.{◌≡◌, refl, sym}
use mathlib.Core.Bool.{Bool, true, false}
use mathlib.Core.List.{List}
use Prim.Native.Nat.{ℕ, ◌+◌, ◌^◌, ◌≤◌, ◌<◌}
use borrow.Author.Tests.{ltb-true, leb-true}
use lib.Dec.{leb, ltb}
use lib.ListN.{length}
use Rattle.base.specs.Outcome.{Outcome, accepted, refused, guard, ◌>>=◌}
use Rattle.base.specs.Party.{is_register}
use Rattle.base.specs.declared.party.RegisterId.{RegisterId}
use Rattle.base.proofs.Booleans.{and_true_both}
use Rattle.base.proofs.Apart.{apart}
use Rattle.base.proofs.Outcome.{guard_accepted}
use Rattle.wire.specs.Card.{is_card, check_card}
use Rattle.wire.specs.Message.{longest, READ-STAMP, READ}
use Rattle.wire.proofs.card.Digests.{card_short}
use Rattle.base.specs.ReplicaSet.{empty}
use Rattle.base.specs.Timestamp.{start}
use Rattle.protocol.specs.Client.{turn, send, beginning, is_idle, may_begin, begin_write, begin_read}
use Rattle.protocol.specs.Parts.{start_card}
use Rattle.protocol.specs.declared.client.Phase.TheVariants.{Stamps, Cards}
use Rattle.protocol.specs.RegisterReplica.{with_output}
use Rattle.protocol.specs.declared.client.Client.{Client}
use Rattle.client.specs.Beginning.{barred_by}

-- A beginning that nothing bars.
pub unbarred : (client : Client) (room : ℕ) (register : RegisterId) (card : Outcome (Unit {0})) (ready : Unit {0}) → accepted ready ≡ barred_by client room register card
    → (longest ≤ room) × (card ≡ accepted tt) × (may_begin client ≡ true)
unbarred client room register card ready e =
    let free : Outcome (Unit {0}) = guard 17 (may_begin client) (accepted tt) in
    let one = guard_accepted 1 (leb longest room) (guard 20 (is_register register) (card >>= λ good. free)) ready (sym e) in
    let two = guard_accepted 20 (is_register register) (card >>= λ good. free) ready one.1 in
    let three = go card free two.1 in
    (leb-true longest room one.0, three.0, (guard_accepted 17 (may_begin client) (accepted tt) ready three.1).0)
  where
    go : (card free : Outcome (Unit {0})) → (card >>= λ good. free) ≡ accepted ready → (card ≡ accepted tt) × (free ≡ accepted ready)
    go (accepted good) free h = (refl, h)
    go (refused number) free h = apart (cc)

pub good_card : (card : List ℕ) → check_card card ≡ accepted tt → length card ≤ 17
good_card card e = card_short card (guard_accepted 14 (is_card card) (accepted tt) tt e).0

abbrev passed : Outcome (Unit {0})
passed = accepted tt

-- The four tests in a row are those of a beginning.
in_a_row : {A : Type 0} (a b c d : Bool) (next : Outcome A) → guard 1 a (guard 20 b (guard 14 c (guard 17 d next))) ≡ (guard 1 a (guard 20 b (guard 14 c passed >>= λ good. guard 17 d passed)) >>= λ ready. next)
unfolding guard
in_a_row true true true true next = refl
in_a_row true true true false next = refl
in_a_row true true false d next = refl
in_a_row true false c d next = refl
in_a_row false b c d next = refl

module _ (client : Client) (register : RegisterId) (old : List ℕ) where
  pub write_step : (card : List ℕ) → with_output old (begin_write client register card)
      ≡ (barred_by client (length old) register (check_card card) >>= λ ready.
      turn (send (READ-STAMP client.id (client.last_nonce + 1))) (beginning register (client.last_nonce + 1) (Stamps (client.last_nonce + 1) start empty) card client))
  unfolding begin_write
  write_step card = in_a_row (leb longest (length old)) (is_register register) (is_card card) (may_begin client) _

  pub read_step : with_output old (begin_read client register)
      ≡ (barred_by client (length old) register (accepted tt) >>= λ ready.
      turn (send (READ client.id (client.last_nonce + 1))) (beginning register (client.last_nonce + 1) (Cards (client.last_nonce + 1) start empty empty) start_card client))
  unfolding begin_read guard
  read_step = in_a_row (leb longest (length old)) (is_register register) true (may_begin client) _

pub nonce_left : (client : Client) → may_begin client ≡ true → client.last_nonce + 1 < 2 ^ 64
nonce_left client h = ltb-true (client.last_nonce + 1) (2 ^ 64) (and_true_both (is_idle client.phase) (ltb (client.last_nonce + 1) (2 ^ 64)) h).1
