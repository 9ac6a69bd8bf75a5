-- `play::input::keep` meets its contract. Whoever keeps what is left has kept all.
use mathlib.Core.Path.{◌≡◌, refl, ◌∙◌}
use mathlib.Core.List.{List}
use Prim.Native.Nat.{ℕ}
use native.Mathlib.Omega.{arith}
use lib.ListN.{length, drop}
use lib.Seq.{drop-length}
use Rattle.text.proofs.Putting.{then, nothing, same_bytes}
use Rattle.play.specs.Input.{after, kept_of, Keeps}
use Rattle.play.specs.declared.input.Kept.{Kept}
use Rattle.play.proofs.Keeping.{after_more, kept_more}
use Rattle.play.proofs.input.keep.Goals as goal

-- All of the piece is kept.
ended : (script : List ℕ) (next : Kept) (piece : List ℕ) (i : ℕ) → i ≡ length piece → Keeps next (drop i piece) script next script
unfolding after kept_of
ended script next piece i e = record { place_is = rw (e, drop-length piece); puts = rw (e, drop-length piece) (nothing script next.length) }

pub loop-byte-init : goal.loop-byte-init
loop-byte-init c = (omega arith, refl, refl, λ f new p. p)

pub loop-byte-preserved : goal.loop-byte-preserved
loop-byte-preserved c =
    let l = c.loop-byte in
    let a = c.args in
    let kept = c.keep_byte-next.ensures in
    let next = c.keep_byte-next.result.place in (
      omega arith,
      omega arith,
      after_more l.next.place next a.piece.now l.byte-index (omega arith) kept.place_is ∙ l.invariant.2,
      λ f new later. l.invariant.3 f new (same_bytes (kept_more l.next.place next a.piece.now l.byte-index (omega arith) kept.place_is) (then kept.puts later)),
    )

pub returns : goal.returns
returns c =
    let l = c.loop-byte in
    let a = c.args in
    let e = ended l.script l.next a.piece.now l.byte-index (omega arith) in
    record { place_is = e.place_is ∙ l.invariant.2; puts = l.invariant.3 l.next.length l.script e.puts }
