-- What masks hold and how many. Assumes nothing.
use mathlib.Core.Path.{◌≡◌, refl, ap, ◌∙◌}
use mathlib.Core.Bool.{false}
use Prim.Native.Nat.{ℕ, zero, suc, ◌+◌, ◌-◌, ◌*◌, ◌/◌, ◌%◌, ◌^◌, ◌≤◌, ◌<◌}
use native.Mathlib.Nat.{mod-lt}
use native.Mathlib.Omega.{arith}
use lib.Count.{ones, ones_cat}
use lib.Dec.{eqb}
use lib.Pow.{pow_pos, mod-pow-add}
use Rattle.base.specs.declared.party.ReplicaId.{ReplicaId}
use Rattle.base.specs.declared.replica_set.ReplicaSet.{ReplicaSet}
use Rattle.base.specs.Counting.{replica, one, count}
use Rattle.base.specs.ReplicaSet.{empty, has, with}
use Rattle.base.proofs.Counting.{or_is, count_agree, count_one_more}
use Rattle.base.proofs.Digits.{digit}
use Rattle.base.proofs.Mask.{in_zero, in_put}
use Rattle.base.proofs.Range.{inside}

-- A member's bit.
has_digit : (set : ReplicaSet) (i : ℕ) → 1 ≤ i → i ≤ 16 → has set (replica i) ≡ digit (i - 1) set.0
unfolding has
has_digit set i low high = rw (inside 1 16 i low high)

-- A set with one replica more has that one and what it had.
pub has_with : (set : ReplicaSet) (x : ReplicaId) (i : ℕ) → 1 ≤ i → i ≤ 16 → has (with set x) (replica i) ≡ or_is x (has set) (replica i)
unfolding has with
has_with set x i low high = in_put 1 16 set.0 x.0 i (inside 1 16 i low high)

-- A set with one new member has one more.
pub with_new : (n : ℕ) (set : ReplicaSet) (x : ReplicaId) → n ≤ 16 → 1 ≤ x.0 → x.0 ≤ n → has set x ≡ false → count n (has (with set x)) ≡ suc (count n (has set))
with_new n set x small low high new =
    count_agree n (has (with set x)) (or_is x (has set)) (λ i li hi. has_with set x i li (omega arith))
    ∙ count_one_more n x (has set) low high new

pub has_empty : (i : ReplicaId) → has empty i ≡ false
unfolding has
has_empty i = in_zero 1 16 i.0

one_ones : (d : ℕ) → d < 2 → one (eqb d 1) ≡ ones d
unfolding ones
one_ones zero h = refl
one_ones (suc zero) h = refl
one_ones (suc (suc d)) h = absurd (omega arith)

-- The members among 1 to n are the ones among the mask's last n digits.
pub count_ones : (n : ℕ) (set : ReplicaSet) → n ≤ 16 → count n (has set) ≡ ones (set.0 % 2 ^ n)
unfolding count
count_ones zero set h = let none : set.0 % 1 ≡ 0 = omega arith in rw none no_ones
  where
    no_ones : 0 ≡ ones 0
    no_ones = unfold ones in refl
count_ones (suc n) set h =
    let m = set.0 in
    let d = m / 2 ^ n % 2 in
    let same : suc n - 1 ≡ n = omega arith in
    let top : has set (replica (suc n)) ≡ digit n m = has_digit set (suc n) (omega arith) (omega arith) ∙ ap (λ (k : ℕ). digit k m) same in
    let split : m % 2 ^ suc n ≡ d * 2 ^ n + m % 2 ^ n = ap (λ (k : ℕ). m % 2 ^ k) (omega arith) ∙ mod-pow-add m 1 n in
    rw (top, split, ones_cat n d (m % 2 ^ n) (mod-lt m (pow_pos n)), count_ones n set (omega arith), one_ones d (omega arith))
