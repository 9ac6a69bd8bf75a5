-- Arrays that some bytes fill from the front, zeros behind them. Assumes nothing.
use mathlib.Core.Path.{◌≡◌, refl, sym, ap, ◌∙◌}
use mathlib.Core.Bool.{Bool, true, false}
use mathlib.Core.List.{List, ◌++◌, append_assoc, append-nil}
use Prim.Native.Nat.{ℕ, ◌+◌, ◌-◌, ◌≤◌}
use native.Mathlib.Nat.{zero-add}
use native.Mathlib.Omega.{arith}
use borrow.Author.Tests.{leb-true, leb-false}
use lib.Dec.{leb}
use lib.ListN.{length, take, drop, replicate, length-append, length-take, length-replicate}
use lib.Seq.{length-take-le, take-append-le, take-append-add, take-append_seam, drop-append-add, take_at, take_all}
use Rattle.std.proofs.lemmas.List.{drop-replicate, take-replicate}
use Rattle.base.specs.Bytes.{stored, filled}
use Rattle.base.proofs.Stored.{stored_fits}

abbrev pub zeros : ℕ → List ℕ
zeros n = replicate n 0

module _ (width : ℕ) (bytes : List ℕ) where
  pub filled_length : length (filled width bytes) ≡ width
  filled_length = simp (length-take, length-append, length-replicate) (omega arith)

  pub filled_whole : length bytes ≡ width → filled width bytes ≡ bytes
  filled_whole e = take_at bytes (zeros width) width e

  -- What fits stands in front.
  pub filled_zeros : length bytes ≤ width → filled width bytes ≡ bytes ++ zeros (width - length bytes)
  filled_zeros h =
      let split : width ≡ length bytes + (width - length bytes) = omega arith in
      ap (λ (n : ℕ). take n (bytes ++ zeros width)) split ∙ take-append-add bytes (zeros width) (width - length bytes)
      ∙ ap (λ (l : List ℕ). bytes ++ l) (take-replicate (width - length bytes) width 0 (omega arith))

  -- The bytes, as many as fit, stored in zeros.
  pub filled_stored : stored 0 (take width bytes) (zeros width) ≡ filled width bytes
  filled_stored = go (leb (length bytes) width) refl
    where
      go : (b : Bool) → leb (length bytes) width ≡ b → stored 0 (take width bytes) (zeros width) ≡ filled width bytes
      go true e =
          let fits = leb-true (length bytes) width e in
          let room : 0 + length bytes ≤ length (zeros width) = rw length-replicate (omega arith) in
          rw (take_all width bytes fits, stored_fits 0 bytes (zeros width) room, zero-add, drop-replicate) (sym (filled_zeros fits))
      go false e =
          let more = leb-false (length bytes) width e in
          let size : length (take width bytes) ≡ width = length-take-le width bytes (omega arith) in
          let room : 0 + length (take width bytes) ≤ length (zeros width) = rw (size, length-replicate) (omega arith) in
          let none : width - width ≡ 0 = omega arith in
          rw (stored_fits 0 (take width bytes) (zeros width) room, size, zero-add, drop-replicate, none)
          (append-nil (take width bytes) ∙ sym (take-append-le width bytes (zeros width) (omega arith)))

-- Bytes stored right behind others.
pub filled_more : (width : ℕ) (bytes block : List ℕ) → length bytes + length block ≤ width
    → take (length bytes) (filled width bytes) ++ (block ++ drop (length bytes + length block) (filled width bytes)) ≡ filled width (bytes ++ block)
filled_more width bytes block h =
    let rest = zeros (width - length bytes) in
    let both : length (bytes ++ block) ≡ length bytes + length block = length-append bytes block in
    let less : width - length bytes - length block ≡ width - length (bytes ++ block) = omega arith in
    rw (filled_zeros width bytes (omega arith), take-append_seam bytes rest, drop-append-add bytes rest (length block), drop-replicate, less, ← append_assoc)
    (sym (filled_zeros width (bytes ++ block) (omega arith)))
