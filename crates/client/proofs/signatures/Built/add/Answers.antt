-- `client::signatures::Built::add` meets its contract.
use mathlib.Core.Path.{◌≡◌, refl, ◌∙◌}
use mathlib.Core.List.{◌∷◌}
use Prim.Native.Nat.{◌+◌, ◌*◌, ◌≤◌}
use native.Mathlib.Omega.{arith}
use lib.ListN.{length, set, length-set}
use Rattle.base.proofs.Stored.{stored_fits}
use Rattle.client.proofs.Gathering.{byte_then}
use Rattle.client.proofs.signatures.Built.add.Goals as goal

pub returns : goal.returns
returns c =
    let a = c.args in
    let at = 65 * a.self.now.count in
    let old = a.self.now.entries in
    let signature = a.signature.now in
    let room : at + 1 + length signature ≤ length (set old at a.id.0) = simp length-set (omega (arith, c.requires)) in
    let size : at + 65 ≡ at + length (a.id.0 ∷ signature) = omega (arith, c.requires) in
    record {
      many = refl;
      who = c.with-self.ensures;
      holds = rw size (rw c.from-at.ensures at c.put.ensures ∙ stored_fits (at + 1) signature (set old at a.id.0) room ∙ byte_then old signature at a.id.0 (omega (arith, c.requires)));
    }
