-- A withdrawal order of client 4, and a key under which it is good: the law `key_for` gives it, and it stays a name, so that no hash of the check is
-- computed. Assumes nothing.
use mathlib.Core.Path.{◌≡◌, refl}
use mathlib.Core.Bool.{true}
use mathlib.Core.List.{List, ◌∷◌, ◌++◌}
use Prim.Native.Nat.{ℕ, ◌≤◌}
use native.Mathlib.Omega.{arith}
use lib.Dec.{lit≤}
use lib.ListN.{length, replicate}
use Rattle.base.proofs.BigEndian.{bytes_append, bytes_to_bytes}
use Rattle.base.specs.BigEndian.{Bytes, from_bytes}
use Rattle.base.specs.Outcome.{accepted, guard}
use Rattle.base.specs.Range.{within}
use Rattle.base.specs.Same.{same}
use Rattle.lms.proofs.KeyFor.{length_Tc, bytes_Tc, public_key_is, key_for}
use Rattle.lms.specs.LmOts.{u32str, LMOTS_SHA256_N32_W8, number}
use Rattle.lms.specs.Lms.{LMS_SHA256_M32_H5, public_key, leaf_number, is_public_key, Tc}
use Rattle.protocol.proofs.ArrayLaws.{bytes_zeros}
use Rattle.protocol.specs.Order.{ordered}
use Rattle.wire.specs.Order.{client_named, order_covered, order_signature, is_order}
use Rattle.witness.proofs.Cast.{client_4}

-- Order number 1, and a signature of leaf 0 with its two type codes and zeros besides.
unfoldable pub order : List ℕ
order = 0x00 ∷ 0x03 ∷ 4 ∷ 0 ∷ 0 ∷ 0 ∷ 1 ∷ (0 ∷ 0 ∷ 0 ∷ 0 ∷ 0 ∷ 0 ∷ 0 ∷ 4 ∷ (replicate 1120 0 ++ (0 ∷ 0 ∷ 0 ∷ 5 ∷ replicate 160 0)))

-- The key of a tree with this identifier whose root is what Algorithm 6a makes of the signature.
abbrev I : List ℕ
I = replicate 16 0

abbrev T : List ℕ
T = Tc I (leaf_number (order_signature order)) (order_covered order) (order_signature order)

unfoldable pub key : List ℕ
key = public_key I T

long : length T ≡ 32
long = length_Tc I (leaf_number (order_signature order)) (order_covered order) (order_signature order)

key_bytes : Bytes key
unfolding key public_key
key_bytes =
    bytes_append (u32str LMS_SHA256_M32_H5) _ (bytes_to_bytes 4 LMS_SHA256_M32_H5)
    (bytes_append (u32str LMOTS_SHA256_N32_W8) _ (bytes_to_bytes 4 LMOTS_SHA256_N32_W8)
    (bytes_append I T (bytes_zeros 16) (bytes_Tc I (leaf_number (order_signature order)) (order_covered order) (order_signature order))))

pub is_key : (is_public_key key ≡ true) × Bytes key
unfolding key
is_key = (public_key_is I T refl long, key_bytes)

-- ---- The order is good under it

is_order_lem : is_order order ≡ true
unfolding is_order order same within
is_order_lem = refl

sized : length (order_signature order) ≡ 1292
unfolding order
sized = refl

one_time : number (order_signature order) 4 ≡ 4
unfolding order from_bytes
one_time = refl

tree : number (order_signature order) 1128 ≡ 5
unfolding order from_bytes
tree = refl

leaf : leaf_number (order_signature order) ≡ 0
unfolding order from_bytes
leaf = refl

short : length (order_covered order) ≤ 4042
unfolding order
short = lit≤ tt

pub names : client_named order ≡ client_4
unfolding order
names = refl

pub good : ordered key order ≡ accepted client_4
unfolding key ordered guard
good = rw (is_order_lem, key_for I (order_covered order) (order_signature order) refl sized one_time tree (let first = leaf in omega arith) short, names)
