-- Bytes put one after another are put together. Assumes nothing.
use mathlib.Core.Path.{◌≡◌, refl, sym, ap, ap₂, subst, ◌∙◌}
use mathlib.Core.Bool.{Bool, true, false}
use mathlib.Core.List.{List, [], ◌++◌, append_assoc, append-nil}
use Prim.Native.Nat.{ℕ, ◌+◌, ◌≤◌, ◌<◌}
use native.Mathlib.Omega.{arith}
use borrow.Author.Tests.{leb-true, leb-false}
use lib.Dec.{leb}
use lib.ListN.{length, take, drop, length-append, length-take, length-drop}
use lib.Seq.{take_all, take_at, take-length, length-take-le, take-append-le, take-append-add, take-paste, drop-paste, paste-zero, drop-drop}
use Rattle.text.specs.Put.{fitting, written, Puts}

module _ (old : List ℕ) (at : ℕ) (bytes : List ℕ) where
  pub written_length_lem : length (written old at bytes) ≡ length old
  unfolding written
  written_length_lem = simp (length-append, length-take, length-drop) (omega arith)

  -- Past the end there is no room.
  beyond : length old ≤ at → written old at bytes ≡ old
  unfolding written
  beyond h = let none : fitting old at bytes ≡ 0 = omega arith in rw none (sym (paste-zero old at bytes))

pub same_bytes : {old new x y : List ℕ} {at end : ℕ} → x ≡ y → Puts old at x end new → Puts old at y end new
same_bytes {old} {new} {x} {y} {at} {end} e = subst (λ (l : List ℕ). Puts old at l end new) e

pub nothing : (old : List ℕ) (at : ℕ) → Puts old at [] at old
unfolding written
nothing old at = let none : fitting old at [] ≡ 0 = omega arith in record { is = rw none (paste-zero old at []); ends = omega arith }

-- The front of two lists: all of the first, or none of the second.
fronts : (x y : List ℕ) (k m : ℕ) → k ≤ length x → (k < length x → m ≡ 0) → take (k + m) (x ++ y) ≡ take k x ++ take m y
fronts x y k m h full = go (leb (length x) k) refl
  where
    go : (b : Bool) → leb (length x) k ≡ b → take (k + m) (x ++ y) ≡ take k x ++ take m y
    go true e = let b = leb-true (length x) k e in let all : k ≡ length x = omega arith in rw (all, take-length x) (take-append-add x y m)
    go false e =
        let b = leb-false (length x) k e in
        let none : m ≡ 0 = full (omega arith) in
        let short : k + m ≡ k = omega arith in
        rw (short, none) (take-append-le k x y h ∙ sym (append-nil (take k x)))

module _ {old : List ℕ} {at : ℕ} {x y : List ℕ} {e f : ℕ} {mid new : List ℕ} (first : Puts old at x e mid) (second : Puts mid e y f new) where
  long : length mid ≡ length old
  long = ap length first.is ∙ written_length_lem old at x

  count : fitting old at (x ++ y) ≡ fitting old at x + fitting mid e y
  count = let l = long in let m = first.ends in simp length-append (omega arith)

  inside : at ≤ length old → new ≡ written old at (x ++ y)
  unfolding written
  inside h =
      let k = fitting old at x in
      let m = fitting mid e y in
      let l = long in
      let ends = first.ends in
      let front : take e mid ≡ take at old ++ take k x = rw (first.ends, first.is) (take-paste old at x k h (omega arith)) in
      let behind : drop e mid ≡ drop (at + k) old = rw (first.ends, first.is) (drop-paste old at x k h (omega arith)) in
      let place : at + k + m ≡ at + (k + m) = omega arith in
      let rest : drop (e + m) mid ≡ drop (at + (k + m)) old = sym (drop-drop m e mid) ∙ (ap (drop m) behind ∙ (drop-drop m (at + k) old ∙ ap (λ (n : ℕ). drop n old) place)) in
      let both : take (fitting old at (x ++ y)) (x ++ y) ≡ take k x ++ take m y = rw (count) (fronts x y k m (omega arith) (λ less. omega arith)) in
      second.is
      ∙ (ap₂ (λ (a b : List ℕ). a ++ take m y ++ b) front rest
      ∙ rw (both, count, append_assoc (take at old) (take k x) (take m y)))

  pub then : Puts old at (x ++ y) f new
  then = record { is = go (leb at (length old)) refl; ends = let l = long in let a = first.ends in let b = second.ends in rw count (omega arith) }
    where
      go : (b : Bool) → leb at (length old) ≡ b → new ≡ written old at (x ++ y)
      go true e = inside (leb-true at (length old) e)
      go false b =
          let far = leb-false at (length old) b in
          let l = long in
          let a = first.ends in
          second.is ∙ (beyond mid e y (omega arith) ∙ (first.is ∙ (beyond old at x (omega arith) ∙ sym (beyond old at (x ++ y) (omega arith)))))

-- What was put in front stands there, as far as there was room.
pub put_front : (bytes old : List ℕ) (n : ℕ) (new : List ℕ) → Puts old 0 bytes n new → take n new ≡ take (length old) bytes
unfolding written
put_front bytes old n new c =
    let k = fitting old 0 bytes in
    let here : n ≡ k = omega (arith, c.ends) in
    rw c.is (take_at (take k bytes) (drop (0 + k) old) n (length-take-le k bytes (omega arith) ∙ sym here) ∙ go (leb (length bytes) (length old)) refl)
  where
    go : (b : Bool) → leb (length bytes) (length old) ≡ b → take (fitting old 0 bytes) bytes ≡ take (length old) bytes
    go true e =
        let h = leb-true (length bytes) (length old) e in
        take_all (fitting old 0 bytes) bytes (omega arith) ∙ sym (take_all (length old) bytes h)
    go false e = let h = leb-false (length bytes) (length old) e in let same : fitting old 0 bytes ≡ length old = omega arith in rw same

-- Bytes that fit stand in front, with the old ones behind.
pub put_all : {old bytes new : List ℕ} {end : ℕ} → length bytes ≤ length old → Puts old 0 bytes end new → (end ≡ length bytes) × (new ≡ bytes ++ drop (length bytes) old)
unfolding written
put_all {old} {bytes} room p =
    let count : fitting old 0 bytes ≡ length bytes = omega arith in
    let place : 0 + length bytes ≡ length bytes = omega arith in
    (p.ends ∙ omega arith, p.is ∙ rw (count, place, take-length bytes))
