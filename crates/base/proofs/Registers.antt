-- Where registers stand: each at a place of its own, below 16. Assumes nothing.
use mathlib.Core.Path.{◌≡◌, refl, ap}
use mathlib.Core.Bool.{Bool, true, false, cond}
use Prim.Native.Nat.{ℕ, ◌-◌, ◌<◌}
use native.Mathlib.Omega.{arith}
use Rattle.base.specs.Party.{is_register, register_place}
use Rattle.base.specs.declared.party.RegisterId.{RegisterId}
use Rattle.base.proofs.Range.{bounds}

pub place_of : (id : RegisterId) → is_register id ≡ true → register_place id ≡ id.0 - 1
place_of id e = rw e

pub place_below : (id : RegisterId) → register_place id < 16
place_below id = go (is_register id) refl
  where
    go : (t : Bool) → is_register id ≡ t → cond t (id.0 - 1) 0 < 16
    go true e = let range = bounds 1 16 id.0 e in omega (arith, range.1)
    go false e = omega arith

-- Two registers do not share a place.
pub place_injective : (id id' : RegisterId) → is_register id ≡ true → is_register id' ≡ true → register_place id ≡ register_place id' → id ≡ id'
place_injective id id' in_range_lem in_range' e =
    let range = bounds 1 16 id.0 in_range_lem in
    let range' = bounds 1 16 id'.0 in_range' in
    let there = place_of id in_range_lem in
    let there' = place_of id' in_range' in
    let number : id.0 ≡ id'.0 = omega (arith, range.0, range'.0) in
    ap (λ (n : ℕ). register n) number
  where
    register : ℕ → RegisterId
    register n = record { 0 = n }
