-- Where length-prefixed bytes stand, from what the code finds on its way. Assumes nothing.
use mathlib.Core.Path.{◌≡◌, sym, ◌∙◌}
use mathlib.Core.List.{List, [], ◌∷◌}
use Prim.Native.Nat.{ℕ, suc, ◌+◌, ◌-◌, ◌≤◌, ◌<◌}
use native.Mathlib.Numerals.{add-one}
use native.Mathlib.Omega.{arith}
use lib.ListN.{length, get_or, drop, length-drop}
use lib.Seq.{drop-cons, drop-drop}
use Rattle.std.specs.declared.option.Option.TheVariants.{Some, None}
use Rattle.base.specs.BigEndian.{from_bytes}
use Rattle.audit.specs.Log.{length_in}
use Rattle.audit.specs.Reading.{FindsPrefixed}
use Rattle.audit.proofs.Readers.{prefixed_whole, prefixed_cut}

module _ (bytes : List ℕ) (at : ℕ) where
  -- The two bytes there as a number.
  abbrev pub two_at : ℕ
  two_at = from_bytes (get_or bytes at 0 ∷ get_or bytes (at + 1) 0 ∷ [])

  length_there : at + 2 ≤ length bytes → two_at ≡ length_in (drop at bytes)
  length_there h =
      let first = drop-cons bytes at 0 (omega arith) in
      let second = drop-cons bytes (suc at) 0 (omega arith) in
      rw (add-one at, first, second)

  pub no_length : length bytes < at + 2 → FindsPrefixed bytes at None
  no_length h = record { is = sym (prefixed_cut (drop at bytes) (omega (arith, length-drop at bytes))); inside = omega arith }

  pub prefixed_missing : at + 2 ≤ length bytes → length bytes < at + 2 + two_at → FindsPrefixed bytes at None
  prefixed_missing there h =
      record { is = sym (prefixed_cut (drop at bytes) (omega (arith, length-drop at bytes, length_there there))); inside = omega arith }

  pub prefixed_there : (n : ℕ) → n ≡ two_at → at + 2 + n ≤ length bytes → FindsPrefixed bytes at (Some (record { start = at + 2; end = at + 2 + n }))
  prefixed_there n is h =
      let count : n ≡ length_in (drop at bytes) = is ∙ length_there (omega arith) in
      let whole = prefixed_whole (drop at bytes) (omega (arith, length-drop at bytes, count)) in
      let width : at + 2 + n - (at + 2) ≡ n = omega arith in
      let end : at + (2 + n) ≡ at + 2 + n = omega arith in
      record { is = sym (whole ∙ rw (← count, drop-drop 2 at bytes, drop-drop (2 + n) at bytes, end, width)); inside = h }
