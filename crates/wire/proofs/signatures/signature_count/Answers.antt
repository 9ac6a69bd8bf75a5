-- `wire::signatures::signature_count` meets its contract.
use Rattle.std.proofs.Common.{sym, ◌∙◌, arith}
use Rattle.wire.proofs.MessageSignatures.{signatures_counted, few_signatures, no_signatures}
use Rattle.wire.proofs.signatures.signature_count.Goals as goal

pub returns-in-Ok : goal.returns-in-Ok
returns-in-Ok c =
    let a = c.args in
    let known = sym c.in-Ok.ensures in
    (c.count_in.ensures ∙ sym (signatures_counted a.party a.bytes.now _ known), omega (arith, c.count_in.ensures, few_signatures a.party a.bytes.now _ known))

pub returns-in-Err : goal.returns-in-Err
returns-in-Err c = (sym (no_signatures _ _ _ (sym c.in-Err.ensures)), omega arith)
