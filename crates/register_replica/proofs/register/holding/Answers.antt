-- `register_replica::register::holding` meets its contract.
use mathlib.Core.Path.{◌≡◌, ◌∙◌}
use native.Mathlib.Omega.{arith}
use Rattle.base.proofs.Filling.{filled_whole}
use Rattle.base.proofs.Timestamps.{of_number_number}
use Rattle.wire.specs.Parts.{digest_part}
use Rattle.wire.proofs.MessageParts.{by_parts}
use Rattle.register_replica.proofs.register.holding.Goals as goal

pub returns : goal.returns
returns c =
    let proof = c.args.proof.now in
    let p = by_parts proof c.requires.0 in
    let held : c.array-2.result ≡ digest_part 32 proof = c.array-2.ensures ∙ rw c.digest.ensures (filled_whole 32 (digest_part 32 proof) p.digest_length) in
    rw (p.timestamp, p.digest, ← c.requires.1, p.count, p.entries, ← c.timestamp.ensures, of_number_number c.timestamp.result (omega (arith, c.timestamp.type_inv)), held, c.array.ensures, c.entry_count.ensures, c.array-3.ensures, c.entries.ensures)
