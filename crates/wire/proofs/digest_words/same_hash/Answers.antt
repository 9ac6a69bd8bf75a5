-- `wire::digest_words::same_hash` meets its contract: after i turns the first i words agree.
use Rattle.std.proofs.Common.{◌≡◌, length, sym, refl, ap, ◌∙◌, arith, take_all}
use Rattle.base.specs.Same.{same}
use Rattle.base.proofs.Same.{same_itself, same_differ}
use Rattle.wire.specs.Sha256.{hash_bytes}
use Rattle.wire.proofs.DigestBytes.{hash_length}
use Rattle.wire.proofs.Words.{word_more, word_differs}
use Rattle.wire.proofs.digest_words.same_hash.Goals as goal

pub returns-then-bytes-ne-DIGEST : goal.returns-then-bytes-ne-DIGEST
returns-then-bytes-ne-DIGEST c =
    let x = c.args in
    let long = hash_length x.hash.now 8 in
    sym (same_differ (hash_bytes x.hash.now 8) x.bytes.now (λ e. c.if-bytes-ne-DIGEST.true (omega (arith, ap length e, long))))

pub loop-i-init : goal.loop-i-init
unfolding hash_bytes
loop-i-init c = refl

pub returns-then-not-same_word : goal.returns-then-not-same_word
returns-then-not-same_word c =
    let l = c.loop-i in
    let x = c.args in
    sym (word_differs x.hash.now x.bytes.now l.i (omega arith) (omega arith) l.invariant (sym c.same_word.ensures ∙ c.if-not-same_word.true))

pub loop-i-preserved : goal.loop-i-preserved
loop-i-preserved c =
    let l = c.loop-i in
    let x = c.args in
    word_more x.hash.now x.bytes.now l.i (omega arith) l.invariant (sym c.same_word.ensures ∙ c.if-not-same_word.false)

pub returns : goal.returns
returns c =
    let l = c.loop-i in
    let x = c.args in
    let end : l.i ≡ 8 = omega arith in
    let equal : x.bytes.now ≡ hash_bytes x.hash.now 8 = sym (take_all 32 x.bytes.now (omega arith)) ∙ (rw end at l.invariant) in
    sym (ap (same (hash_bytes x.hash.now 8)) equal ∙ same_itself (hash_bytes x.hash.now 8))
