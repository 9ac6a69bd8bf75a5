-- `client::record::with_proof` meets its contract.
use mathlib.Core.Path.{◌≡◌, ap, ◌∙◌}
use native.Mathlib.Omega.{arith}
use Rattle.base.specs.Bytes.{filled}
use Rattle.base.proofs.Filling.{filled_whole}
use Rattle.wire.specs.Parts.{digest_part, prepared_signers}
use Rattle.wire.proofs.MessageParts.{by_parts, proof_there}
use Rattle.client.proofs.record.with_proof.Goals as goal

pub returns : goal.returns
returns c =
    let shown = c.args.shown in
    let proof = shown.proof.now in
    let there = proof_there proof shown.whole (λ e. omega (arith, c.requires)) in
    let p = by_parts proof there.whole in
    let kept : c.array.result ≡ digest_part 32 proof = c.array.ensures ∙ ap (filled 32) c.digest.ensures ∙ filled_whole 32 (digest_part 32 proof) p.digest_length in
    rw (kept, c.array-2.ensures, c.entries.ensures, c.entry_count.ensures, shown.signed ∙ ap prepared_signers there.is, p.digest, p.count, p.entries)
