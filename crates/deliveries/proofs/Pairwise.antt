-- Lists in which the one in front stands so to each one behind. Assumes nothing.
use mathlib.Core.Path.{◌≡◌, refl, sym, ap₂, subst, ◌∙◌}
use mathlib.Core.Logic.{◌⊎◌, inl, inr, ◌≢◌}
use mathlib.Core.List.Memᴰ
use mathlib.Core.List.Memᴰ.{head as here}
use mathlib.Core.List.Memᴰ.{tail as there}
use mathlib.Core.List.{List, [], ◌∷◌, ◌++◌, map, flat_map, Memᴰ as In}
use Prim.Native.Nat.{ℕ, zero, suc, ◌<◌}
use native.Mathlib.Omega.{arith}
use lib.ListN.{length, get_or}
use Rattle.deliveries.specs.ShortRuns.{Pairwise}
use Rattle.deliveries.proofs.Lists.{first_and_rest, of_flat, in_at}

module _ {A : Type 0} (R : A → A → Type 0) where
  pub pairwise_then : (S : A → A → Type 0) → ((a b : A) → R a b → S a b) → (l : List A) → Pairwise R l → Pairwise S l
  pairwise_then S then [] p = tt
  pairwise_then S then (a ∷ l) p = (λ b m. then a b (p.0 b m), pairwise_then S then l p.1)

  pub pairwise_at : (d : A) (l : List A) → Pairwise R l → (i j : ℕ) → i < j → j < length l → R (get_or l i d) (get_or l j d)
  pairwise_at d [] p i j h inside = absurd (omega arith)
  pairwise_at d (a ∷ l) p i zero h inside = absurd (omega arith)
  pairwise_at d (a ∷ l) p zero (suc j) h inside = p.0 (get_or l j d) (in_at d l j (omega arith))
  pairwise_at d (a ∷ l) p (suc i) (suc j) h inside = pairwise_at d l p.1 i j (omega arith) (omega arith)

  pairwise_append : (x y : List A) → Pairwise R x → Pairwise R y → ((a b : A) → In a x → In b y → R a b) → Pairwise R (x ++ y)
  pairwise_append [] y px py across = py
  pairwise_append (a ∷ x) y px py across =
      (λ b m. go b (Memᴰ.append_cases x m), pairwise_append x y px.1 py (λ c b mc mb. across c b (there mc) mb))
    where
      go : (b : A) → In b x ⊎ In b y → R a b
      go b (inl m) = px.0 b m
      go b (inr m) = across a b (here refl) m

  module _ {C : Type 0} where
    pub pairwise_map : (S : C → C → Type 0) (f : C → A) → ((c e : C) → S c e → R (f c) (f e)) → (l : List C) → Pairwise S l → Pairwise R (map f l)
    pairwise_map S f maps [] p = tt
    pairwise_map S f maps (c ∷ l) p =
        (λ b m. let o = Memᴰ.of_map f l m in subst (R (f c)) o.2 (maps c o.0 (p.0 o.0 o.1)), pairwise_map S f maps l p.1)

    -- Each piece so in itself, and the members of one so to those of the later ones.
    pub pairwise_flat : (S : C → C → Type 0) (f : C → List A) → ((c e : C) → S c e → (a b : A) → In a (f c) → In b (f e) → R a b)
        → (l : List C) → Pairwise S l → ((c : C) → In c l → Pairwise R (f c)) → Pairwise R (flat_map f l)
    unfolding flat_map
    pairwise_flat S f across [] p each = tt
    pairwise_flat S f across (c ∷ l) p each =
        pairwise_append (f c) (flat_map f l) (each c (here refl)) (pairwise_flat S f across l p.1 (λ e m. each e (there m)))
        (λ a b ma mb. let o = of_flat f l mb in across c o.0 (p.0 o.0 o.1) a b ma o.2)

  -- ---- Where R is an order

  -- Each before the next.
  abbrev pub Steps : List A → Type 0
  Steps [] = Unit {0}
  Steps (a ∷ []) = Unit {0}
  Steps (a ∷ b ∷ l) = R a b × Steps (b ∷ l)

  module _ (transitive : (a b c : A) → R a b → R b c → R a c) where
    pub from_steps : (l : List A) → Steps l → Pairwise R l
    from_steps [] s = tt
    from_steps (a ∷ []) s = (λ b m. absurd (Memᴰ.not-nil m), tt)
    from_steps (a ∷ b ∷ l) s =
        let later = from_steps (b ∷ l) s.1 in
        (first_and_rest (R a) s.0 (λ c m. transitive a b c s.0 (later.0 c m)), later)

    module _ (irreflexive : (a : A) → R a a → ⊥) where
      -- Who is there but not first is behind.
      behind : {a b : A} {l : List A} → b ≢ a → In b (a ∷ l) → In b l
      behind other (here e) = absurd (other e)
      behind other (there m) = m

      later_other : {a b : A} {l : List A} → Pairwise R (a ∷ l) → In b l → b ≢ a
      later_other {a} {b} p m e = irreflexive a (subst (R a) e (p.0 b m))

      same_first : {a b : A} {x y : List A} → Pairwise R (a ∷ x) → Pairwise R (b ∷ y) → In a (b ∷ y) → In b (a ∷ x) → a ≡ b
      same_first px py (here e) n = e
      same_first px py (there m) (here e) = sym e
      same_first {a} {b} px py (there m) (there n) = absurd (irreflexive a (transitive a b a (px.0 b n) (py.0 a m)))

      -- Two lists in order that have the same members are one.
      pub same_members : (x y : List A) → Pairwise R x → Pairwise R y → ((a : A) → In a x → In a y) → ((a : A) → In a y → In a x) → x ≡ y
      same_members [] [] px py to from = refl
      same_members [] (b ∷ y) px py to from = absurd (Memᴰ.not-nil (from b (here refl)))
      same_members (a ∷ x) [] px py to from = absurd (Memᴰ.not-nil (to a (here refl)))
      same_members (a ∷ x) (b ∷ y) px py to from =
          let first = same_first px py (to a (here refl)) (from b (here refl)) in
          ap₂ (λ (c : A) (l : List A). c ∷ l) first
          (same_members x y px.1 py.1
          (λ c m. behind (λ e. later_other px m (e ∙ sym first)) (to c (there m)))
          (λ c m. behind (λ e. later_other py m (e ∙ first)) (from c (there m))))
