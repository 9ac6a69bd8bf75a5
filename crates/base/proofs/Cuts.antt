-- Parts of bytes for places of any value, as the code cuts them. Assumes nothing.
use mathlib.Core.Path.{◌≡◌, refl, sym, ◌∙◌}
use mathlib.Core.Bool.{Bool, true, false}
use mathlib.Core.List.{List}
use Prim.Native.Nat.{ℕ, ◌-◌, ◌≤◌, ◌<◌, min}
use native.Mathlib.Omega.{arith}
use borrow.Author.Tests.{leb-true, leb-false}
use lib.Dec.{leb}
use lib.ListN.{length, take, drop, length-drop, drop_of_length-le}
use lib.Seq.{take_all, take-nil}
use Rattle.base.specs.Bytes.{between}

module _ (s : List ℕ) where
  -- A part is the same if its end is cut to the end of the bytes.
  front_cut : (n m : ℕ) (l : List ℕ) → length l ≤ n → length l ≤ m → take n l ≡ take m l
  front_cut n m l h k = take_all n l h ∙ sym (take_all m l k)

  pub take_cut : (n : ℕ) → take (min n (length s)) s ≡ take n s
  take_cut n = go (leb n (length s)) refl
    where
      go : (b : Bool) → leb n (length s) ≡ b → take (min n (length s)) s ≡ take n s
      go true e = let less = leb-true n (length s) e in let same : min n (length s) ≡ n = omega arith in rw same
      go false e = let more = leb-false n (length s) e in front_cut (min n (length s)) n s (omega arith) (omega arith)

  module _ (at end to from : ℕ) (ends : to ≡ min end (length s)) (starts : from ≡ min at to) where
    pub between_cut : take (to - from) (drop from s) ≡ between s at end
    between_cut = go (leb at to) refl
      where
        go : (b : Bool) → leb at to ≡ b → take (to - from) (drop from s) ≡ between s at end
        go true e =
            let less = leb-true at to e in
            let same : from ≡ at = omega arith in
            rw same (inner (leb end (length s)) refl)
          where
            inner : (b : Bool) → leb end (length s) ≡ b → take (to - at) (drop at s) ≡ between s at end
            inner true k = let within = leb-true end (length s) k in let all : to ≡ end = omega arith in rw all
            inner false k =
                let past = leb-false end (length s) k in
                let size = length-drop at s in
                front_cut (to - at) (end - at) (drop at s) (omega arith) (omega arith)
        go false e =
            let more = leb-false at to e in
            let none : to - from ≡ 0 = omega arith in
            rw none (outer more (leb end (length s)) refl)
          where
            outer : to < at → (b : Bool) → leb end (length s) ≡ b → take 0 (drop from s) ≡ between s at end
            outer more true k = let within = leb-true end (length s) k in let nothing : end - at ≡ 0 = omega arith in rw nothing
            outer more false k =
                let past = leb-false end (length s) k in
                let behind : length s ≤ at = omega arith in
                rw (drop_of_length-le s behind, take-nil (end - at))
