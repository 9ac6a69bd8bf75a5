-- `load_message`: after j turns the first j words are the block's, and the others as before.
use Rattle.std.proofs.Common.{◌+◌, ◌*◌, refl, ◌∙◌, arith, length-set, drop-set-lt}
use Rattle.wire.specs.Sha256.{words}
use Rattle.wire.proofs.sha256.padding.Padded.{word_message, load_next}
use Rattle.wire.proofs.sha256.padding.load_message.Goals as goal

pub loop-j-init : goal.loop-j-init
unfolding words
loop-j-init c = (omega arith, refl, refl)

pub loop-j-preserved : goal.loop-j-preserved
loop-j-preserved c =
    let l = c.loop-j in
    let a = c.args in
    let m = a.message.now in (
      simp length-set (omega arith),
      load_next m l.w a.i l.j _ (omega arith) (omega arith) l.invariant.1 (c.from_four.ensures ∙ word_message m (64 * a.i + 4 * l.j) (omega arith)),
      drop-set-lt a.full l.w l.j _ (omega arith) ∙ l.invariant.2,
    )
