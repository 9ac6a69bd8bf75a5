-- `play::output::put_line` meets its contract.
use mathlib.Core.Path.{ap, ◌∙◌}
use mathlib.Core.List.{List}
use Prim.Native.Nat.{ℕ, min}
use lib.ListN.{take}
use Rattle.text.specs.Decimal.{decimal}
use Rattle.text.proofs.Putting.{then, same_bytes}
use Rattle.base.specs.Refusal.{outcome}
use Rattle.play.specs.Output.{line}
use Rattle.play.proofs.output.put_line.Goals as goal

pub returns : goal.returns
unfolding line
returns c =
    let a = c.args in
    let card = c.front-card.ensures ∙ ap (λ (k : ℕ). take k a.saying.card) (c.min.ensures ∙ ap (λ (n : ℕ). min n 17) c.from.ensures) in
    let whole = then (then (then (same_bytes (ap (λ (n : ℕ). decimal n) c.from-2.ensures) c.put_number-numbered.ensures) c.put-space.ensures) c.put_said-words.ensures) c.put.ensures in
    same_bytes (ap (λ (shown : List ℕ). line a.number (outcome a.saying.what) shown) card) whole
