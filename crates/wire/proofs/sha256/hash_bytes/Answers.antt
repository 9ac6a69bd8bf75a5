-- `hash_bytes`: after i turns the bytes of the first i words are written.
use Rattle.std.proofs.Common.{◌≡◌, refl, sym, ◌∙◌, arith, take_all}
use borrow.Rule.Slice.PartMut.{same_len_mid}
use Rattle.wire.specs.Sha256.{hash_bytes}
use Rattle.wire.proofs.sha256.HashBytes.{word_bytes}
use Rattle.wire.proofs.sha256.hash_bytes.Goals as goal

pub loop-i-init : goal.loop-i-init
unfolding hash_bytes
loop-i-init c = (refl, refl)

pub loop-i-preserved : goal.loop-i-preserved
loop-i-preserved c =
    let l = c.loop-i in
    (same_len_mid _ _ _ _ c.copy_from_slice.auto.self ∙ l.invariant.0, word_bytes c.args.hash.now l.bytes _ l.i l.invariant.1 (c.copy_from_slice.ensures.after ∙ c.to_four.ensures))

pub returns : goal.returns
returns c =
    let l = c.loop-i in
    let all : l.i ≡ 8 = omega arith in
    sym (take_all 32 l.bytes (omega arith)) ∙ (rw all at l.invariant.1)
