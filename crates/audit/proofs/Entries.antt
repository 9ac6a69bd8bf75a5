-- An entry in front of some bytes: more bytes behind change nothing, and 196,613 bytes tell whether it is there. Assumes nothing.
use mathlib.Core.Path.{◌≡◌}
use mathlib.Core.List.{List, ◌++◌}
use mathlib.Core.Option.{none, some}
use Prim.Native.Nat.{ℕ, ◌≤◌, ◌<◌}
use native.Mathlib.Omega.{arith}
use lib.Dec.{eqb}
use lib.ListN.{length}
use Rattle.base.specs.BigEndian.{Bytes}
use Rattle.base.proofs.Apart.{apart}
use Rattle.protocol.specs.Events.{request_handed, order_handed}
use Rattle.audit.specs.Log.{replied, refusal, LogEntry, Front, request_in, order_in, call_opened_by, received_in, answer_opened_by, recorded_in, entry_in}
use Rattle.audit.proofs.Readers.{Sure, found, never, Reader, byte_reader, item_reader, none_reader, prefixed_reader, then_reader, cond_reader, wider_reader}

request_reader : Reader request_in 4 131_074
unfolding request_in
request_reader = then_reader prefixed_reader (λ message. then_reader prefixed_reader (λ verdicts. item_reader (request_handed message verdicts)))

order_reader : Reader order_in 2 65_537
unfolding order_in
order_reader = then_reader prefixed_reader (λ order. item_reader (order_handed order))

received_reader : Reader received_in 3 131_075
unfolding received_in
received_reader =
    then_reader {second = call_opened_by} byte_reader (λ b.
    cond_reader (eqb b 0) (wider_reader 2 131_074 request_reader (omega arith) (omega arith))
    (cond_reader (eqb b 1) (wider_reader 2 131_074 order_reader (omega arith) (omega arith)) (none_reader 2 131_074)))

recorded_reader : Reader recorded_in 1 65_538
unfolding recorded_in
recorded_reader =
    then_reader {second = answer_opened_by} byte_reader (λ b.
    cond_reader (eqb b 0) (wider_reader 0 65_537 (then_reader prefixed_reader (λ reply. item_reader (replied reply))) (omega arith) (omega arith))
    (wider_reader 0 65_537 (item_reader (refusal b)) (omega arith) (omega arith)))

pub entry_reader : Reader entry_in 4 196_613
unfolding entry_in
entry_reader = then_reader received_reader (λ call. then_reader recorded_reader (λ answer. item_reader (record { received = call; recorded = answer })))

-- What is as long as the longest entry and starts with none starts with none whatever comes behind.
pub none_in_long : (bytes : List ℕ) → Bytes bytes → 196_613 ≤ length bytes → entry_in bytes ≡ none → (more : List ℕ) → entry_in (bytes ++ more) ≡ none
none_in_long bytes small long e more = go (entry_reader.sure bytes small long)
  where
    go : Sure entry_in 196_613 bytes → entry_in (bytes ++ more) ≡ none
    go (found r there rest few) = apart (cc)
    go (never gone) = gone more

pub entry_shorter : (bytes : List ℕ) (r : Front LogEntry) → entry_in bytes ≡ some r → length r.rest < length bytes
entry_shorter bytes r e = omega (arith, entry_reader.uses bytes r e)
