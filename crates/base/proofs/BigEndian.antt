-- Numbers as bytes: writing then reading, and reading then writing, at every width. Assumes nothing.
use mathlib.Core.Path.{◌≡◌, refl, ap, ◌∙◌}
use mathlib.Core.List.{List, [], ◌∷◌, ◌++◌, append-nil, append_assoc}
use Prim.Native.Nat.{ℕ, zero, suc, ◌+◌, ◌*◌, ◌/◌, ◌%◌, ◌^◌, ◌≤◌, ◌<◌}
use native.Mathlib.Nat.{pow-suc}
use native.Mathlib.Numerals.{add-one}
use native.Mathlib.Omega.{arith}
use lib.ListN.{length, get_or, take, drop, replicate, length-append, replicate-append-replicate}
use lib.Seq.{take-suc, take-length, get_or-drop}
use Rattle.base.specs.BigEndian.{appended, from_bytes, to_bytes, Bytes}

appended_snoc : (n : ℕ) (bs : List ℕ) (b : ℕ) → appended n (bs ++ b ∷ []) ≡ appended n bs * 256 + b
appended_snoc n [] b = refl
appended_snoc n (x ∷ bs) b = appended_snoc (n * 256 + x) bs b

pub from_bytes_snoc : (bs : List ℕ) (b : ℕ) → from_bytes (bs ++ b ∷ []) ≡ from_bytes bs * 256 + b
unfolding from_bytes
from_bytes_snoc bs b = appended_snoc 0 bs b

pub length_to_bytes : (width n : ℕ) → length (to_bytes width n) ≡ width
unfolding to_bytes
length_to_bytes zero n = refl
length_to_bytes (suc width) n = rw (length-append, length_to_bytes width (n / 256)) (omega arith)

-- Writing then reading returns the number, if it fits the width.
pub from_bytes_to_bytes : (width n : ℕ) → n < 256 ^ width → from_bytes (to_bytes width n) ≡ n
unfolding to_bytes from_bytes
from_bytes_to_bytes zero n h = omega (arith, h)
from_bytes_to_bytes (suc width) n h =
    let e = pow-suc 256 width in
    from_bytes_snoc (to_bytes width (n / 256)) (n % 256) ∙ rw (from_bytes_to_bytes width (n / 256) (omega (arith, h, e))) (omega arith)

-- Reading then writing returns the bytes.
to_bytes_front : (bs : List ℕ) → Bytes bs → (k : ℕ) → k ≤ length bs → to_bytes k (from_bytes (take k bs)) ≡ take k bs
unfolding to_bytes
to_bytes_front bs small zero h = refl
to_bytes_front bs small (suc k) h =
    let b = get_or bs k 0 in
    let low = small k in
    let n = from_bytes (take k bs) in
    let high : (n * 256 + b) / 256 ≡ n = omega arith in
    let last : (n * 256 + b) % 256 ≡ b = omega arith in
    rw (take-suc bs k 0 h, from_bytes_snoc, high, last, to_bytes_front bs small k (omega arith))

pub to_bytes_from_bytes : (bs : List ℕ) → Bytes bs → to_bytes (length bs) (from_bytes bs) ≡ bs
to_bytes_from_bytes bs small = rw take-length at (to_bytes_front bs small (length bs) (omega arith))

-- The number of some bytes fits their width.
from_bytes_front : (bs : List ℕ) → Bytes bs → (k : ℕ) → k ≤ length bs → from_bytes (take k bs) < 256 ^ k
unfolding from_bytes
from_bytes_front bs small zero h = omega arith
from_bytes_front bs small (suc k) h =
    let low = small k in
    let before = from_bytes_front bs small k (omega arith) in
    let e = pow-suc 256 k in
    rw (take-suc bs k 0 h, from_bytes_snoc) (omega (arith, e))

pub from_bytes_below : (bs : List ℕ) → Bytes bs → from_bytes bs < 256 ^ length bs
from_bytes_below bs small = rw take-length at (from_bytes_front bs small (length bs) (omega arith))

-- What is written are bytes.
pub bytes_append : (xs ys : List ℕ) → Bytes xs → Bytes ys → Bytes (xs ++ ys)
bytes_append [] ys hx hy i = hy i
bytes_append (x ∷ xs) ys hx hy zero = hx 0
bytes_append (x ∷ xs) ys hx hy (suc i) = bytes_append xs ys (λ j. hx (suc j)) hy i

pub bytes_to_bytes : (width n : ℕ) → Bytes (to_bytes width n)
unfolding to_bytes
bytes_to_bytes zero n i = omega arith
bytes_to_bytes (suc width) n i = bytes_append (to_bytes width (n / 256)) (n % 256 ∷ []) (bytes_to_bytes width (n / 256)) one i
  where
    one : Bytes (n % 256 ∷ [])
    one zero = omega arith
    one (suc j) = omega arith

pub bytes_drop : (n : ℕ) (l : List ℕ) → Bytes l → Bytes (drop n l)
bytes_drop n l small i = rw get_or-drop (small (n + i))

pub bytes_take : (n : ℕ) (l : List ℕ) → Bytes l → Bytes (take n l)
bytes_take zero l small i = omega arith
bytes_take (suc n) [] small i = omega arith
bytes_take (suc n) (x ∷ l) small zero = small 0
bytes_take (suc n) (x ∷ l) small (suc i) = bytes_take n l (λ j. small (suc j)) i

to_bytes_zero : (width : ℕ) → to_bytes width 0 ≡ replicate width 0
unfolding to_bytes
to_bytes_zero zero = refl
to_bytes_zero (suc width) = rw (to_bytes_zero width) (replicate-append-replicate width 1 0 ∙ ap (λ (n : ℕ). replicate n 0) (add-one width))

-- A number that fits fewer bytes than it is written in has zero bytes in front.
pub to_bytes_zeros : (more width n : ℕ) → n < 256 ^ width → to_bytes (more + width) n ≡ replicate more 0 ++ to_bytes width n
unfolding to_bytes
to_bytes_zeros more zero n h =
    let e : n ≡ 0 = omega (arith, h) in
    let f : more + 0 ≡ more = omega arith in
    rw (e, f, append-nil) (to_bytes_zero more)
to_bytes_zeros more (suc width) n h =
    let e : more + suc width ≡ suc (more + width) = omega arith in
    let p = pow-suc 256 width in
    rw (e, to_bytes_zeros more width (n / 256) (omega (arith, h, p)), append_assoc)
