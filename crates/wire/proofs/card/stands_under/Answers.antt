-- `wire::card::stands_under` meets its contract.
use Rattle.std.proofs.Common.{sym, ◌∙◌, arith}
use Rattle.wire.specs.Sha256.{sha256}
use Rattle.wire.proofs.card.Digests.{checked_is, card_short}
use Rattle.wire.proofs.card.stands_under.Goals as goal

pub hash_short-requires : goal.hash_short-requires
hash_short-requires c =
    let good = sym (checked_is c.args.card.now c.check.result c.check.ensures) ∙ sym c.is_ok.ensures.value ∙ c.if-is_ok.true in
    omega (arith, card_short c.args.card.now good)

pub returns-then-is_ok : goal.returns-then-is_ok
unfolding sha256
returns-then-is_ok c =
    let good = sym (checked_is c.args.card.now c.check.result c.check.ensures) ∙ sym c.is_ok.ensures.value ∙ c.if-is_ok.true in
    rw good (rw c.hash_short.ensures at c.same_hash.ensures)

pub returns-else-is_ok : goal.returns-else-is_ok
returns-else-is_ok c =
    let bad = sym (checked_is c.args.card.now c.check.result c.check.ensures) ∙ sym c.is_ok.ensures.value ∙ c.if-is_ok.false in
    rw (bad, c.if-is_ok.false)
