-- `wire::checks::all_genuine` meets its contract.
use Rattle.std.proofs.Common.{◌≡◌, ℕ, ◌+◌, ◌-◌, ◌*◌, ◌/◌, Bool, List, take, take_all, length-drop, ◌&&◌, eqb, length, drop, sym, ap, ◌∙◌, arith, get_or, eq-eqb, ne_eqb}
use lib.Seq.{drop-length}
use Rattle.wire.specs.Checks.{all, genuine}
use Rattle.wire.proofs.Verdicts.{all_step, four_genuine, four_forged}
use Rattle.wire.proofs.checks.all_genuine.Goals as goal

pub returns-then-four_at-ne-FOUR_ONES : goal.returns-then-four_at-ne-FOUR_ONES
returns-then-four_at-ne-FOUR_ONES c =
    let s = c.args.verdicts.now in
    sym (c.loop-i.invariant ∙ four_forged s (λ i. omega (arith, c.type_inv.verdicts i)) (4 * c.loop-i.i) (omega arith) (λ e. c.if-four_at-ne-FOUR_ONES.true (c.four_at.ensures ∙ e)))

pub loop-i-preserved : goal.loop-i-preserved
loop-i-preserved c =
    let s = c.args.verdicts.now in
    let i = c.loop-i.i in
    let next : 4 * (i + 1) ≡ 4 * i + 4 = omega arith in
    c.loop-i.invariant ∙ four_genuine s (λ k. omega (arith, c.type_inv.verdicts k)) (4 * i) (omega arith) (sym c.four_at.ensures ∙ c.if-four_at-ne-FOUR_ONES.false) ∙ rw next

-- The part behind the fours.
abbrev part : List ℕ → List ℕ
part s = let behind = 4 * (length s / 4) in take (length s - behind) (drop behind s)

pub loop-verdict-init : goal.loop-verdict-init
loop-verdict-init c =
    let s = c.args.verdicts.now in
    let behind = 4 * (length s / 4) in
    let past : 4 * c.loop-i.i ≡ behind = omega arith in
    (rw past at c.loop-i.invariant) ∙ ap genuine (sym (take_all (length s - behind) (drop behind s) (rw length-drop (omega arith))))

pub returns-then-verdict-ne1 : goal.returns-then-verdict-ne1
returns-then-verdict-ne1 c =
    let l = c.loop-verdict in
    let s = part c.args.verdicts.now in
    let i = l.verdict-index in
    sym (l.invariant ∙ all_step (λ v. eqb v 1) s i c.loop-verdict-test.true ∙ ap (λ (r : Bool). r && genuine (drop (i + 1) s)) (ne_eqb (get_or s i 0) 1 c.if-verdict-ne1.true))

pub loop-verdict-preserved : goal.loop-verdict-preserved
loop-verdict-preserved c =
    let l = c.loop-verdict in
    let s = part c.args.verdicts.now in
    let i = l.verdict-index in
    l.invariant ∙ all_step (λ v. eqb v 1) s i c.loop-verdict-test.true ∙ ap (λ (r : Bool). r && genuine (drop (i + 1) s)) (eq-eqb (get_or s i 0) 1 c.if-verdict-ne1.false)

pub returns : goal.returns
unfolding all
returns c =
    let l = c.loop-verdict in
    let s = part c.args.verdicts.now in
    let past : l.verdict-index ≡ length s = omega (arith, c.loop-verdict-test.false, l.auto.verdict-index-end) in
    sym (l.invariant ∙ rw (past, drop-length s))
