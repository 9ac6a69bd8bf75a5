-- `register_replica::register::put_digest` meets its contract.
use mathlib.Core.Path.{◌≡◌, ◌∙◌}
use Prim.Native.Nat.{◌+◌, ◌*◌}
use native.Mathlib.Omega.{arith}
use lib.ListN.{length}
use Rattle.base.proofs.Stored.{stored_fits}
use Rattle.register_replica.proofs.register.put_digest.Goals as goal

pub returns : goal.returns
returns c =
    let x = c.args in
    let at = 32 * c.place-at.result in
    let wide : length x.prepared.digest ≡ 32 = omega arith in
    let next : at + 32 ≡ 32 * x.prepared.client.id.0 = omega arith in
    c.put.ensures ∙ stored_fits at x.prepared.digest x.digests.now (omega arith) ∙ rw (wide, next, c.place-at.ensures.place)
