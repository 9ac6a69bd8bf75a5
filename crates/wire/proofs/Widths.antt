-- Numbers of so many bytes, read and written again. Assumes nothing.
use Rattle.std.proofs.Common.{◌≡◌, ℕ, ◌^◌, ◌<◌, List, length}
use Rattle.base.specs.BigEndian.{from_bytes, to_bytes, Bytes}
use Rattle.base.proofs.BigEndian.{to_bytes_from_bytes, from_bytes_below}

-- So many bytes: the number read from them, written again.
pub rewritten : (width : ℕ) (bytes : List ℕ) → length bytes ≡ width → Bytes bytes → to_bytes width (from_bytes bytes) ≡ bytes
rewritten width bytes size small = rw (← size) (to_bytes_from_bytes bytes small)

pub below : (width : ℕ) (bytes : List ℕ) → length bytes ≡ width → Bytes bytes → from_bytes bytes < 256 ^ width
below width bytes size small = rw (← size) (from_bytes_below bytes small)
