-- `load_padding` stores the first word and the last; those between are zero.
use Rattle.std.proofs.Common.{◌≡◌, ◌+◌, arith, length-set}
use Rattle.wire.proofs.sha256.padding.Padded.{load_next, padding_there}
use Rattle.wire.proofs.sha256.padding.load_padding.Goals as goal

pub returns-then-full-lt15 : goal.returns-then-full-lt15
returns-then-full-lt15 c =
    let a = c.args in (
      simp length-set c.requires.4,
      padding_there a.message.now c.requires.0 a.i (omega arith) a.w.now c.requires.4 a.full _ _ (omega arith) (omega arith) c.requires.6 c.requires.5
          c.padding_word.ensures c.padding_word-then-full-lt15.ensures,
    )

-- The only word of the padding is the block's last.
pub returns-else-full-lt15 : goal.returns-else-full-lt15
returns-else-full-lt15 c =
    let a = c.args in
    let e : a.full + 1 ≡ 16 = omega arith in (
      simp length-set c.requires.4,
      rw e at (load_next a.message.now a.w.now a.i a.full _ (omega arith) (omega arith) c.requires.5 c.padding_word.ensures),
    )
