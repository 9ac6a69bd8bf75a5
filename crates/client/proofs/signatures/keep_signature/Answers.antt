-- `client::signatures::keep_signature` meets its contract.
use mathlib.Core.Path.{◌≡◌, ◌∙◌}
use Prim.Native.Nat.{◌+◌, ◌-◌, ◌*◌}
use native.Mathlib.Omega.{arith}
use lib.ListN.{length}
use Rattle.base.proofs.Stored.{stored_fits}
use Rattle.client.proofs.signatures.keep_signature.Goals as goal

pub returns : goal.returns
returns c =
    let behind : 64 * (c.args.id.0 - 1) + length c.args.signature.now ≡ 64 * c.args.id.0 = omega (arith, c.requires) in
    rw c.from.ensures at c.put.ensures ∙ stored_fits (64 * (c.args.id.0 - 1)) c.args.signature.now c.args.signatures.now (omega (arith, c.requires)) ∙ rw behind
