-- A digest is 32 bytes. Assumes nothing.
use Rattle.std.proofs.Common.{◌≡◌, ℕ, zero, suc, ◌*◌, ◌/◌, List, length, get_or, refl, arith, length-append}
use Rattle.base.specs.BigEndian.{to_bytes, Bytes}
use Rattle.base.proofs.BigEndian.{length_to_bytes, bytes_to_bytes, bytes_append}
use Rattle.wire.specs.Message.{IsDigest}
use Rattle.wire.specs.Sha256.{hash_value, hash_bytes, padded, sha256}

pub hash_length : (hash : List ℕ) (n : ℕ) → length (hash_bytes hash n) ≡ 4 * n
unfolding hash_bytes
hash_length hash zero = refl
hash_length hash (suc n) = rw (length-append, length_to_bytes, hash_length hash n) (omega arith)

hash_bytes_lem : (hash : List ℕ) (n : ℕ) → Bytes (hash_bytes hash n)
unfolding hash_bytes
hash_bytes_lem hash zero i = omega arith
hash_bytes_lem hash (suc n) i = bytes_append (hash_bytes hash n) (to_bytes 4 (get_or hash n 0)) (hash_bytes_lem hash n) (bytes_to_bytes 4 (get_or hash n 0)) i

pub digest_fits : (message : List ℕ) → IsDigest (sha256 message)
unfolding sha256
digest_fits message =
    let hash = hash_value (padded message) (length (padded message) / 64) in
    (hash_length hash 8, hash_bytes_lem hash 8)
