-- Falling factorials: some, few enough for the code's numbers, and factor by factor. Assumes nothing.
use mathlib.Core.Path.{◌≡◌}
use Prim.Native.Nat.{ℕ, zero, suc, ◌-◌, ◌*◌, ◌^◌, ◌≤◌, ◌<◌}
use native.Mathlib.Nat.{pow-suc, mul-le-mul, pow-le-pow_right}
use native.Mathlib.Omega.{arith}
use Rattle.deliveries.specs.ShortRuns.{falling_factorial}

pub factorial_some : (n k : ℕ) → k ≤ n → 0 < falling_factorial n k
factorial_some n zero h = omega arith
factorial_some zero (suc k) h = absurd (omega arith)
factorial_some (suc n) (suc k) h =
    let less : suc n - 1 ≡ n = omega arith in
    let some = factorial_some n k (omega arith) in
    rw less (omega arith)

factorial_power : (n k : ℕ) → n ≤ 8 → falling_factorial n k ≤ 8 ^ k
factorial_power n zero h = omega arith
factorial_power n (suc k) h = let p = pow-suc 8 k in let both = mul-le-mul h (factorial_power (n - 1) k (omega arith)) in omega arith

-- At most 8^8.
pub factorial_few : (n k : ℕ) → n ≤ 8 → k ≤ 8 → falling_factorial n k ≤ 16_777_216
factorial_few n k h few =
    let power = factorial_power n k h in
    let most : 8 ^ k ≤ 8 ^ 8 = pow-le-pow_right (omega arith) few in
    omega arith

pub factorial_step : (n k : ℕ) → 0 < k → n * falling_factorial (n - 1) (k - 1) ≡ falling_factorial n k
factorial_step n zero h = absurd (omega arith)
factorial_step n (suc k) h = let less : suc k - 1 ≡ k = omega arith in rw less
