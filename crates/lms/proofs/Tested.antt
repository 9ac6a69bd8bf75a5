-- The tests in front of the check. Assumes nothing.
use mathlib.Core.Path.{◌≡◌}
use mathlib.Core.Bool.{true}
use mathlib.Core.List.{List}
use Prim.Native.Nat.{ℕ, ◌≤◌, ◌<◌}
use native.Mathlib.Omega.{arith}
use borrow.Author.Tests.{le-leb}
use lib.ListN.{length}
use Rattle.base.specs.Same.{same}
use Rattle.std.proofs.lemmas.Bool.Decides.{nat_tests}
use Rattle.lms.specs.Lms.{identifier, root, leaf_number, is_public_key, signature_formed, Tc, genuine}

pub public_key_long : (key : List ℕ) → is_public_key key ≡ true → length key ≡ 56
unfolding is_public_key
public_key_long key e = grind (arith, nat_tests)

pub signature_long : (signature : List ℕ) → signature_formed signature ≡ true → length signature ≡ 1292
unfolding signature_formed
signature_long signature e = grind (arith, nat_tests)

pub low_leaf : (signature : List ℕ) → signature_formed signature ≡ true → leaf_number signature < 32
unfolding signature_formed
low_leaf signature e = grind (arith, nat_tests)

module _ (key message signature : List ℕ) where
  pub genuine_when : is_public_key key ≡ true → signature_formed signature ≡ true → length message ≤ 4042
      → genuine key message signature ≡ same (Tc (identifier key) (leaf_number signature) message signature) (root key)
  unfolding genuine
  genuine_when e f h = rw (e, f, le-leb (length message) 4042 h)
