-- `client::shown::Shown::card_stands` meets its contract.
use mathlib.Core.Path.{sym, ap, ◌∙◌}
use Prim.Native.Nat.{ℕ}
use lib.Dec.{eqb}
use Rattle.base.proofs.Apart.{apart}
use Rattle.wire.proofs.MessageParts.{by_parts, proof_there}
use Rattle.client.proofs.shown.Shown.card_stands.Goals as goal

pub returns : goal.returns
returns c =
    let proof = c.args.self.proof.now in
    let some = sym c.is_empty.ensures ∙ c.if-is_empty.false in
    let there = proof_there proof c.args.self.whole (λ e. apart (let none = ap (λ (n : ℕ). eqb n 0) e in cc)) in
    rw (there.is, (by_parts proof there.whole).digest, ← c.digest.ensures) c.stands_under.ensures
