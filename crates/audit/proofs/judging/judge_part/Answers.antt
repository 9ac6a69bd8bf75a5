-- `audit::judging::judge_part` meets its contract.
use native.Mathlib.Omega.{arith}
use Rattle.audit.proofs.Parts.{start, ended, turned}
use Rattle.audit.proofs.judging.judge_part.Goals as goal

pub loop-places-init : goal.loop-places-init
loop-places-init c = start _ _

pub returns-in_default : goal.returns-in_default
returns-in_default c =
    ended c.loop-places.invariant c.behind-rest.ensures c.in_default.ensures c.ending-finding.ensures (λ i. omega (arith, c.type_inv.part i))

pub returns-in_default-check_entry : goal.returns-in_default-check_entry
returns-in_default-check_entry c =
    (turned c.loop-places.invariant c.behind-rest.ensures c.in-Some.ensures c.check_entry.ensures (λ i. omega (arith, c.type_inv.part i))).differs c.in_default-check_entry.is c.args.last

pub loop-places-smaller : goal.loop-places-smaller
loop-places-smaller c =
    let t = turned c.loop-places.invariant c.behind-rest.ensures c.in-Some.ensures c.check_entry.ensures (λ i. omega (arith, c.type_inv.part i)) in
    omega (arith, t.rises, t.stays)

pub loop-places-preserved : goal.loop-places-preserved
loop-places-preserved c =
    (turned c.loop-places.invariant c.behind-rest.ensures c.in-Some.ensures c.check_entry.ensures (λ i. omega (arith, c.type_inv.part i))).further _ c.in-Some-check_entry.is
