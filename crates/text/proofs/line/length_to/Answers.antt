-- What `position` finds, or else the length.
use Rattle.std.proofs.Common.{rules, eqb, ◌∙◌}
use Rattle.std.proofs.lemmas.Iterator.{YieldsList-from_slice}
use Rattle.std.proofs.lemmas.Iterator.Search.{position_from_yields_List}
use Rattle.text.proofs.Lines.{length_to_found, length_to_inside}
use Rattle.text.proofs.line.length_to.Goals as goal

pub returns : goal.returns
returns c =
    let found = position_from_yields_List (λ byte. eqb byte c.args.mark) _ _ c.position.result c.position.ensures.ran (YieldsList-from_slice c.args.text.now c.iter.ensures.rest) (λ x b q k. search rules) in
    let value = c.unwrap_or.ensures ∙ length_to_found c.args.mark c.args.text.now c.position.result found in
    record { value = value; inside = rw value (length_to_inside c.args.mark c.args.text.now) }
