-- Ranges of numbers: the test from the bounds, and the bounds from the test. Assumes nothing.
use mathlib.Core.Path.{◌≡◌}
use mathlib.Core.Bool.{true, false, and-false}
use Prim.Native.Nat.{ℕ, ◌≤◌, ◌<◌}
use borrow.Author.Tests.{le-leb, lt-leb, leb-true}
use lib.Dec.{leb}
use Rattle.base.specs.Range.{within}
use Rattle.std.proofs.lemmas.Bool.{and_parts}

module _ (low high x : ℕ) where
  pub inside : low ≤ x → x ≤ high → within low high x ≡ true
  unfolding within
  inside l h = rw (le-leb low x l, le-leb x high h)

  pub below : x < low → within low high x ≡ false
  unfolding within
  below h = rw (lt-leb low x h)

  pub above : high < x → within low high x ≡ false
  unfolding within
  above h = rw (lt-leb x high h) (and-false (leb low x))

  pub bounds : within low high x ≡ true → (low ≤ x) × (x ≤ high)
  unfolding within
  bounds h = let both = and_parts (leb low x) (leb x high) h in (leb-true low x both.0, leb-true x high both.1)
