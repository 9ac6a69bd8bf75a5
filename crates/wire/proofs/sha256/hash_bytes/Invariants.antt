-- `hash_bytes`: after i turns the bytes of the first i words are written.
use Rattle.std.proofs.Common.{◌≡◌, ◌*◌, length, take}
use Rattle.wire.specs.Sha256.{hash_bytes}
use Rattle.wire.proofs.sha256.hash_bytes.Given as goal

abbrev pub invariant-loop-i : goal.invariant-loop-i
invariant-loop-i l = (length l.bytes ≡ 32) × (take (4 * l.i) l.bytes ≡ hash_bytes l.hash l.i)
