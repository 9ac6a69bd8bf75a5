-- A chain's next step, and the next chain's end behind those before it. Assumes nothing.
use mathlib.Core.Path.{◌≡◌, refl, sym, ap, ◌∙◌}
use mathlib.Core.List.{List, ◌∷◌, ◌++◌}
use Prim.Native.Nat.{ℕ, suc, ◌+◌, ◌-◌, ◌*◌, ◌≤◌, ◌<◌}
use native.Mathlib.Numerals.{add-one}
use native.Mathlib.Omega.{arith}
use lib.ListN.{length, take}
use Rattle.base.specs.Bytes.{stored}
use Rattle.wire.specs.Sha256.{sha256}
use Rattle.lms.specs.LmOts.{u8str, byte, head, chain, y, zs}
use Rattle.lms.proofs.Laying.{laid}
use Rattle.lms.proofs.Values.{one_byte, coef_8}

module _ (front : List ℕ) (a : ℕ) (start : List ℕ) where
  pub chain_start : chain front a (a - a) start ≡ start
  unfolding chain
  chain_start = let none : a - a ≡ 0 = omega arith in rw none

  chain_suc : (k : ℕ) → chain front a (suc k) start ≡ sha256 (front ++ (u8str (a + k) ++ chain front a k start))
  unfolding chain
  chain_suc k = refl

  pub chain_next : (j : ℕ) → a ≤ j → j < 256 → chain front a (j + 1 - a) start ≡ sha256 (front ++ (j ∷ chain front a (j - a) start))
  chain_next j h small =
      let n : j + 1 - a ≡ suc (j - a) = omega arith in
      let m : a + (j - a) ≡ j = omega arith in
      rw (n, chain_suc (j - a), m, one_byte j small)

module _ (I : List ℕ) (q : ℕ) (S signature : List ℕ) (i : ℕ) (small : byte S i < 256) where
  zs_suc : zs I q S signature (i + 1) ≡ zs I q S signature i ++ chain (head I q i) (byte S i) (255 - byte S i) (y signature i)
  unfolding zs
  zs_suc = rw (add-one i, coef_8 S i small)

  pub zs_next : (l l' z : List ℕ) → take (32 * i) l ≡ zs I q S signature i → 32 * (i + 1) ≤ length l
      → z ≡ chain (head I q i) (byte S i) (255 - byte S i) (y signature i) → length z ≡ 32 → l' ≡ stored (32 * i) z l
      → take (32 * (i + 1)) l' ≡ zs I q S signature (i + 1)
  zs_next l l' z before room e size put =
      laid (32 * i) (32 * (i + 1)) l l' (zs I q S signature i) z before (omega arith) room put
      ∙ ap (λ (x : List ℕ). zs I q S signature i ++ x) e ∙ sym zs_suc
