-- `hash_message`: after i turns the hash value is that of i blocks.
use Rattle.std.proofs.Common.{◌≡◌}
use Rattle.wire.specs.Sha256.{padded, hash_value}
use Rattle.wire.proofs.sha256.hash_message.Given as goal

abbrev pub invariant-loop-i : goal.invariant-loop-i
invariant-loop-i l = l.hash ≡ hash_value (padded l.message) l.i
