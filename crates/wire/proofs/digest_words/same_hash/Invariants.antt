-- `wire::digest_words::same_hash` meets its contract: after i turns the first i words agree.
use Rattle.std.proofs.Common.{◌≡◌, ◌*◌, take}
use Rattle.wire.specs.Sha256.{hash_bytes}
use Rattle.wire.proofs.digest_words.same_hash.Given as goal

abbrev pub invariant-loop-i : goal.invariant-loop-i
invariant-loop-i l = take (4 * l.i) l.bytes ≡ hash_bytes l.hash l.i
