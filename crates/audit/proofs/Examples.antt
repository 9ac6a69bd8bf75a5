-- The judgement is not empty: logs that are computed. Assumes nothing.
use mathlib.Core.Path.{◌≡◌, refl}
use mathlib.Core.List.{List, [], ◌∷◌, ◌++◌}
use Prim.Native.Nat.{ℕ}
use lib.ListN.{replicate}
use Rattle.base.specs.BigEndian.{from_bytes, to_bytes}
use Rattle.base.specs.ClientSet.{has}
use Rattle.base.specs.Outcome.{guard}
use Rattle.base.specs.Range.{within}
use Rattle.base.specs.Same.{same}
use Rattle.lms.specs.Lms.{is_public_key}
use Rattle.wire.specs.Acceptance.{admits, admitted}
use Rattle.wire.specs.Checks.{entries_of, all, one_verdict_each, proven, checked}
use Rattle.wire.specs.Decode.{kinds, of_kind, framed, message_in, decode}
use Rattle.wire.specs.Layout.{rules, place, field}
use Rattle.wire.specs.Message.{fields, joined, body, encode}
use Rattle.wire.specs.Order.{is_order}
use Rattle.wire.specs.Writing.{blank_signature}
use Rattle.protocol.specs.Bank.{no_register, bank_step}
use Rattle.protocol.specs.Events.{request_handed, order_handed, expected}
use Rattle.protocol.specs.Order.{ordered, take_order}
use Rattle.protocol.specs.RegisterReplica.{fresh_register, register_step, on_request}
use Rattle.audit.specs.Log.{replied, refusal, same_but_signature, prefixed_in, request_in, order_in, received_in, recorded_in, entry_in, right, wrong, judged_within, judged_from, judged}
use Rattle.audit.specs.Replaying.{log_bytes, head_bytes}

-- What opens for a log to compute.
unfoldable judging : Unit {0}
unfolding from_bytes to_bytes guard within same has is_public_key admits admitted entries_of all one_verdict_each proven checked kinds of_kind framed message_in decode rules place field fields joined body encode is_order blank_signature no_register bank_step ordered take_order fresh_register register_step on_request expected same_but_signature prefixed_in request_in order_in received_in recorded_in entry_in judged_within judged_from judged log_bytes
judging = tt

-- A key that no order is signed under.
key : List ℕ
key = 0 ∷ 0 ∷ 0 ∷ 5 ∷ 0 ∷ 0 ∷ 0 ∷ 4 ∷ replicate 48 0

-- READ of client 1 with nonce 5 for register 1, and replica 2's CARD, which shows 00 00.
read_5 : List ℕ
read_5 = 2 ∷ 7 ∷ 4 ∷ 1 ∷ 0 ∷ 0 ∷ 0 ∷ 0 ∷ 0 ∷ 0 ∷ 0 ∷ 5 ∷ 1 ∷ replicate 64 17

card_5 : ℕ → ℕ → List ℕ
card_5 register signature = 3 ∷ 39 ∷ 8 ∷ 2 ∷ 0 ∷ 0 ∷ 0 ∷ 0 ∷ 0 ∷ 0 ∷ 0 ∷ 5 ∷ 2 ∷ 0 ∷ 0 ∷ 1 ∷ register ∷ replicate 64 signature

-- The READ with that CARD, a message of one byte, which 2 refuses, and an order of one byte, which 21 refuses.
pub log : ℕ → ℕ → ℕ → ℕ → List ℕ
log register signature number other =
    head_bytes 1 (record { 0 = 2 }) key
    ++ log_bytes
    (record { received = request_handed read_5 (1 ∷ []); recorded = replied (card_5 register signature) }
    ∷ record { received = request_handed (120 ∷ []) []; recorded = refusal number }
    ∷ record { received = order_handed (120 ∷ []); recorded = refusal other }
    ∷ [])

pub is_right : judged (log 1 34 2 21) ≡ right
unfolding judging key read_5 card_5 log
is_right = refl

-- Whatever its signature is; but the byte before it is compared, and a refusal's number, of a message and of an order.
pub signature_free : judged (log 1 35 2 21) ≡ right
unfolding judging key read_5 card_5 log
signature_free = refl

pub register_compared : judged (log 2 34 2 21) ≡ wrong 1
unfolding judging key read_5 card_5 log
register_compared = refl

pub number_compared : judged (log 1 34 3 21) ≡ wrong 2
unfolding judging key read_5 card_5 log
number_compared = refl

pub order_compared : judged (log 1 34 2 22) ≡ wrong 3
unfolding judging key read_5 card_5 log
order_compared = refl
