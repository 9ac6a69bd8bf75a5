-- A turn puts a byte of those that are left.
use Rattle.std.proofs.Common.{◌≡◌, ℕ, ◌+◌, ◌≤◌, ◌<◌, List, ◌++◌, length, get_or, drop, add-one, arith}
use lib.ListN.{drop_of_length-le}
use lib.Seq.{drop-cons}
use Rattle.text.specs.Hex.{hex, hex_pair}
use Rattle.text.specs.Put.{Puts}
use Rattle.text.proofs.Putting.{then, nothing, same_bytes}
use Rattle.text.proofs.hex.put_hex.Goals as goal

more : (bytes : List ℕ) (i : ℕ) → i < length bytes → hex_pair (get_or bytes i 0) ++ hex (drop (i + 1) bytes) ≡ hex (drop i bytes)
unfolding hex
more bytes i h = rw (drop-cons bytes i 0 h, add-one)

all_put : (to bytes : List ℕ) (next i : ℕ) → length bytes ≤ i → Puts to next (hex (drop i bytes)) next to
unfolding hex
all_put to bytes next i h = rw (drop_of_length-le bytes h) (nothing to next)

pub loop-byte-preserved : goal.loop-byte-preserved
loop-byte-preserved c = λ f new later. c.loop-byte.invariant f new (same_bytes (more c.args.bytes.now c.loop-byte.byte-index (omega arith)) (then c.put_pair-next.ensures later))

pub returns : goal.returns
returns c = let l = c.loop-byte in l.invariant l.next l.to (all_put l.to c.args.bytes.now l.next l.byte-index (omega arith))
