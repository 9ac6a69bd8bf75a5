-- `lms::tree::candidate_root` meets its contract.
use mathlib.Core.Path.{◌≡◌, ◌∙◌}
use native.Mathlib.Omega.{arith}
use lib.ListN.{length-take, length-drop}
use Rattle.lms.specs.Lms.{identifier, Tc}
use Rattle.lms.proofs.Laying.{identifier_filled}
use Rattle.lms.proofs.tree.candidate_root.Goals as goal

pub candidate_key-key-requires : goal.candidate_key-key-requires
candidate_key-key-requires c = (omega arith, rw (c.between-one_time.ensures, length-take, length-drop) (omega arith))

pub returns : goal.returns
unfolding Tc
returns c =
    let I : c.array-identifier.result ≡ identifier c.args.key.now = c.array-identifier.ensures ∙ rw c.between.ensures (identifier_filled c.args.key.now (omega arith)) in
    c.climb.ensures ∙ rw (c.leaf.ensures, c.candidate_key-key.ensures, c.between-one_time.ensures, c.four_at-q.ensures, I)
