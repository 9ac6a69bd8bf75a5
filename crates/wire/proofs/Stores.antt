-- Bytes stored one after the other, and a whole message so written. Assumes nothing.
use Rattle.std.proofs.Common.{◌≡◌, ℕ, ◌+◌, ◌<◌, ◌≤◌, true, false, leb, List, ◌++◌, length, take, drop, sym, ap, ◌∙◌, subst, append_assoc, arith, length-append, length-drop, length-take-le, drop-drop, take_at, le-leb}
use borrow.Author.Tests.{lt-leb}
use lib.Seq.{drop-append-add}
use Rattle.base.specs.Outcome.{accepted, refused}
use Rattle.base.proofs.Outcome.{guard_passes, guard_refuses}
use Rattle.wire.specs.Message.{longest}
use Rattle.wire.specs.Putting.{Put}
use Rattle.wire.specs.Writing.{Wrote}

-- Two stores, the second where the first ends, are one.
pub then : {old : List ℕ} {at : ℕ} {s : List ℕ} {m next : ℕ} {mid t : List ℕ} {k next' : ℕ} {new : List ℕ}
    → Put old at s m next mid → Put mid next t k next' new → Put old at (s ++ t) (m + k) next' new
then {old} {at} {s} {m} {next} {mid} {t} {k} {next'} {new} a b =
    let p : List ℕ = take at old ++ s in
    let q : List ℕ = drop (at + length s) old in
    let room = a.room in
    let ends = a.behind in
    let front : length p ≡ next = length-append (take at old) s ∙ rw (length-take-le at old (omega arith)) (sym ends) in
    let whole : length (s ++ t) ≡ length s + length t = length-append s t in
    let same : length mid ≡ length old = ap length a.holds ∙ length-append p q ∙ rw length-drop (omega arith) in
    let kept : take next (p ++ q) ≡ p = take_at p q next front in
    let e₁ : next + length t ≡ length p + length t = omega arith in
    let e₂ : at + length s + length t ≡ at + length (s ++ t) = omega arith in
    let back : drop (next + length t) (p ++ q) ≡ drop (at + length (s ++ t)) old =
    ap (λ (n : ℕ). drop n (p ++ q)) e₁ ∙ drop-append-add p q (length t) ∙ drop-drop (length t) (at + length s) old ∙ ap (λ (n : ℕ). drop n old) e₂ in
    record {
      behind = omega (arith, b.behind);
      short = omega (arith, a.short, b.short);
      room = omega (arith, b.room);
      holds =
          b.holds
          ∙ ap (λ (l : List ℕ). take next l ++ t ++ drop (next + length t) l) a.holds
          ∙ rw (kept, back) (ap (λ (l : List ℕ). l ++ drop (at + length (s ++ t)) old) (append_assoc (take at old) s t));
    }

-- The same bytes, said otherwise, within another bound.
pub restated : {old : List ℕ} {at : ℕ} {s t : List ℕ} {m next : ℕ} {new : List ℕ} (k : ℕ) → s ≡ t → m ≤ k → Put old at s m next new → Put old at t k next new
restated {old} {at} {s} {t} {m} {next} {new} k e wider a =
    let b : Put old at s k next new = record { behind = a.behind; short = omega (arith, a.short); room = a.room; holds = a.holds } in
    subst (λ (l : List ℕ). Put old at l k next new) e b

-- A message stored from the front of an output that is long enough.
pub wrote : {old s bytes : List ℕ} {most next : ℕ} {new : List ℕ} → s ≡ bytes → longest ≤ length old → Put old 0 s most next new → Wrote old bytes (accepted next) new
wrote {old} {s} {bytes} {most} {next} {new} e enough a =
    let b : Put old 0 bytes most next new = subst (λ (l : List ℕ). Put old 0 l most next new) e a in
    let all : next ≡ length bytes = omega (arith, b.behind) in
    let none : 0 + length bytes ≡ length bytes = omega arith in
    let roomy : leb longest (length old) ≡ true = le-leb longest (length old) enough in
    record { answered = rw all (sym (guard_passes 1 (leb longest (length old)) (accepted (length bytes)) roomy)); holds = b.holds ∙ rw (none, roomy) }

pub turned_down : {old bytes : List ℕ} → length old < longest → Wrote old bytes (refused 1) old
turned_down {old} {bytes} less =
    let short : leb longest (length old) ≡ false = lt-leb longest (length old) less in
    record { answered = sym (guard_refuses 1 (leb longest (length old)) (accepted (length bytes)) short); holds = rw short }
