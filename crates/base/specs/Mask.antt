-- Sets of the numbers low to high as masks: low is the lowest bit.
use Rattle.std.specs.Prelude.{Bool, ◌&&◌, cond, ℕ, ◌-◌, ◌^◌}
use Rattle.std.specs.Int.Bits.{bit_or}
use Rattle.base.specs.BitMap.{bit}
use Rattle.base.specs.Range.{within}

-- No number outside low to high is in a mask,
abbrev pub in_mask : ℕ → ℕ → ℕ → ℕ → Bool
in_mask low high mask i = within low high i && bit mask (i - low)

-- and none can be put in.
abbrev pub put_in : ℕ → ℕ → ℕ → ℕ → ℕ
put_in low high mask i = cond (within low high i) (bit_or mask (2 ^ (i - low))) mask
