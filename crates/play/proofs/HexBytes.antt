-- Pairs of hex digits write bytes. Assumes nothing.
use Rattle.std.proofs.Common.{Option, Some, None, IfSome}
use mathlib.Core.Path.{◌≡◌, refl}
use mathlib.Core.Bool.{Bool, true, false, cond}
use mathlib.Core.List.{List}
use Prim.Native.Nat.{ℕ, zero, suc, ◌-◌, ◌<◌}
use native.Mathlib.Omega.{arith}
use lib.ListN.{get_or, drop}
use Rattle.base.specs.BigEndian.{Bytes}
use Rattle.base.specs.Range.{within}
use Rattle.base.proofs.Range.{bounds}
use Rattle.text.specs.Hex.{hex_value, joined, pair_value, pairs_from, hex_pairs}
use Rattle.protocol.proofs.ArrayLaws.{bytes_none, bytes_cons}

abbrev Below : ℕ → Option ℕ → Type 0
Below n value = IfSome value (λ (v : ℕ). v < n)

hex_low : (byte : ℕ) → Below 16 (hex_value byte)
unfolding hex_value
hex_low byte = go (within 48 57 byte) refl (within 65 70 byte) refl (within 97 102 byte) refl
  where
    go : (a : Bool) → within 48 57 byte ≡ a → (b : Bool) → within 65 70 byte ≡ b → (c : Bool) → within 97 102 byte ≡ c
        → Below 16 (cond a (Some (byte - 48)) (cond b (Some (byte - 55)) (cond c (Some (byte - 87)) None)))
    go true e b f c g = let range = bounds 48 57 byte e in omega arith
    go false e true f c g = let range = bounds 65 70 byte f in omega arith
    go false e false f true g = let range = bounds 97 102 byte g in omega arith
    go false e false f false g = tt

pair_low : (high low : Option ℕ) → Below 16 high → Below 16 low → Below 256 (joined high low)
pair_low None low h l = tt
pair_low (Some high) None h l = tt
pair_low (Some high) (Some low) h l = omega arith

pairs_bytes : (pair : Option ℕ) (later : List ℕ) → Below 256 pair → Bytes later → Bytes (pairs_from pair later)
pairs_bytes None later h l = bytes_none
pairs_bytes (Some byte) later h l = bytes_cons byte later h l

pub hex_bytes : (room : ℕ) (line : List ℕ) → Bytes (hex_pairs room line)
unfolding hex_pairs pair_value
hex_bytes zero line = bytes_none
hex_bytes (suc room) line =
    pairs_bytes (joined (hex_value (get_or line 0 0)) (hex_value (get_or line 1 0))) (hex_pairs room (drop 2 line))
    (pair_low (hex_value (get_or line 0 0)) (hex_value (get_or line 1 0)) (hex_low (get_or line 0 0)) (hex_low (get_or line 1 0))) (hex_bytes room (drop 2 line))
