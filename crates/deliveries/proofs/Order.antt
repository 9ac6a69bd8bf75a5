-- The order of deliveries, and of runs by their first difference, is one: irreflexive, transitive, and of two different runs of one length one is
-- before the other. Assumes nothing.
use mathlib.Core.Path.{◌≡◌, refl, sym, ap₂, subst, ◌∙◌}
use mathlib.Core.Bool.{Bool, true, false}
use mathlib.Core.Logic.{◌⊎◌, inl, inr, ◌≢◌}
use mathlib.Core.List.{List, [], ◌∷◌}
use Prim.Native.Nat.{ℕ, ◌<◌}
use native.Mathlib.Omega.{arith}
use borrow.Author.Tests.{ltb-true, ltb-false}
use lib.Dec.{ltb}
use lib.ListN.{length}
use Rattle.deliveries.specs.ShortRuns.{Delivery, Earlier, Before}
use Rattle.deliveries.proofs.Others.{same_delivery}

-- ---- Deliveries

pub not_itself : (d : Delivery) → Earlier d d → ⊥
not_itself d (inl h) = omega arith
not_itself d (inr h) = omega arith

pub earlier_still : (d e f : Delivery) → Earlier d e → Earlier e f → Earlier d f
earlier_still d e f (inl h) (inl k) = inl (omega arith)
earlier_still d e f (inl h) (inr k) = inl (omega arith)
earlier_still d e f (inr h) (inl k) = inl (omega arith)
earlier_still d e f (inr h) (inr k) = inr (omega arith)

-- Two numbers are in order or equal.
pub compared : (a b : ℕ) → (a < b) ⊎ ((a ≡ b) ⊎ (b < a))
compared a b = go (ltb a b) refl (ltb b a) refl
  where
    go : (x : Bool) → ltb a b ≡ x → (y : Bool) → ltb b a ≡ y → (a < b) ⊎ ((a ≡ b) ⊎ (b < a))
    go true e y f = inl (ltb-true a b e)
    go false e true f = inr (inr (ltb-true b a f))
    go false e false f = inr (inl (let h = ltb-false a b e in let k = ltb-false b a f in omega arith))

ordered : (d e : Delivery) → Earlier d e ⊎ ((d ≡ e) ⊎ Earlier e d)
ordered d e = go (compared d.message e.message) (compared d.replica.0 e.replica.0)
  where
    go : (d.message < e.message) ⊎ ((d.message ≡ e.message) ⊎ (e.message < d.message))
        → (d.replica.0 < e.replica.0) ⊎ ((d.replica.0 ≡ e.replica.0) ⊎ (e.replica.0 < d.replica.0)) → Earlier d e ⊎ ((d ≡ e) ⊎ Earlier e d)
    go (inl less) r = inl (inl less)
    go (inr (inr more)) r = inr (inr (inl more))
    go (inr (inl m)) (inl less) = inl (inr (m, less))
    go (inr (inl m)) (inr (inl r)) = inr (inl (same_delivery d e m r))
    go (inr (inl m)) (inr (inr more)) = inr (inr (inr (sym m, more)))

-- ---- Runs

pub irreflexive : (run : List Delivery) → Before run run → ⊥
irreflexive [] h = h
irreflexive (d ∷ run) (inl h) = not_itself d h
irreflexive (d ∷ run) (inr h) = irreflexive run h.1

pub transitive : (a b c : List Delivery) → Before a b → Before b c → Before a c
transitive [] b c h k = absurd h
transitive (d ∷ a) [] c h k = absurd h
transitive (d ∷ a) (e ∷ b) [] h k = absurd k
transitive (d ∷ a) (e ∷ b) (f ∷ c) (inl h) (inl k) = inl (earlier_still d e f h k)
transitive (d ∷ a) (e ∷ b) (f ∷ c) (inl h) (inr k) = inl (subst (Earlier d) k.0 h)
transitive (d ∷ a) (e ∷ b) (f ∷ c) (inr h) (inl k) = inl (subst (λ (x : Delivery). Earlier x f) (sym h.0) k)
transitive (d ∷ a) (e ∷ b) (f ∷ c) (inr h) (inr k) = inr (h.0 ∙ k.0, transitive a b c h.1 k.1)

pub total : (a b : List Delivery) → length a ≡ length b → a ≢ b → Before a b ⊎ Before b a
total [] [] long differ = absurd (differ refl)
total [] (e ∷ b) long differ = absurd (omega arith)
total (d ∷ a) [] long differ = absurd (omega arith)
total (d ∷ a) (e ∷ b) long differ = go (total a b (omega arith)) (ordered d e)
  where
    behind : d ≡ e → Before a b ⊎ Before b a → Before (d ∷ a) (e ∷ b) ⊎ Before (e ∷ b) (d ∷ a)
    behind same (inl h) = inl (inr (same, h))
    behind same (inr h) = inr (inr (sym same, h))

    go : (a ≢ b → Before a b ⊎ Before b a) → Earlier d e ⊎ ((d ≡ e) ⊎ Earlier e d) → Before (d ∷ a) (e ∷ b) ⊎ Before (e ∷ b) (d ∷ a)
    go rest (inl h) = inl (inl h)
    go rest (inr (inl same)) = behind same (rest (λ later. differ (ap₂ (λ (x : Delivery) (run : List Delivery). x ∷ run) same later)))
    go rest (inr (inr h)) = inr (inl h)
