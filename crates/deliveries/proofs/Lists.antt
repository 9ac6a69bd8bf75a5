-- Lists that are made piece by piece: what is in them, how long they are, and what stands at a place. Assumes nothing.
use mathlib.Core.Path.{◌≡◌, refl, sym, subst, ◌∙◌}
use mathlib.Core.Logic.{◌⊎◌, inl, inr}
use mathlib.Core.List.Memᴰ
use mathlib.Core.List.Memᴰ.{head as here}
use mathlib.Core.List.Memᴰ.{tail as there}
use mathlib.Core.List.{List, [], ◌∷◌, flat_map, Memᴰ as In}
use Prim.Native.Nat.{ℕ, zero, suc, ◌+◌, ◌*◌, ◌<◌}
use native.Mathlib.Omega.{arith}
use lib.ListN.{length, get_or, length-append, get_or-append}
use lib.Seq.{get_or-append-add}

-- What holds of the first one and of each behind it.
pub first_and_rest : {A : Type 0} (P : A → Type 0) {x : A} {l : List A} → P x → ((a : A) → In a l → P a) → (a : A) → In a (x ∷ l) → P a
first_and_rest P first rest a (here e) = subst P (sym e) first
first_and_rest P first rest a (there m) = rest a m

module _ {A B : Type 0} (f : A → List B) where
  pub in_flat : {b : B} {a : A} {l : List A} → In a l → In b (f a) → In b (flat_map f l)
  unfolding flat_map
  in_flat {b} (here {xs = xs} e) m = Memᴰ.append_left (flat_map f xs) (subst (λ (c : A). In b (f c)) e m)
  in_flat (there {x = x} h) m = Memᴰ.append_right (f x) (in_flat h m)

  pub of_flat : {b : B} (l : List A) → In b (flat_map f l) → (a : A) × In a l × In b (f a)
  unfolding flat_map
  of_flat [] m = absurd (Memᴰ.not-nil m)
  of_flat {b} (x ∷ l) m = go (of_flat l) (Memᴰ.append_cases (f x) m)
    where
      go : (In b (flat_map f l) → (a : A) × In a l × In b (f a)) → In b (f x) ⊎ In b (flat_map f l) → (a : A) × In a (x ∷ l) × In b (f a)
      go later (inl h) = (x, here refl, h)
      go later (inr h) = let r = later h in (r.0, there r.1, r.2)

  -- ---- Pieces of one length

  pub length_flat : (n : ℕ) (l : List A) → ((a : A) → In a l → length (f a) ≡ n) → length (flat_map f l) ≡ length l * n
  unfolding flat_map
  length_flat n [] same = omega arith
  length_flat n (x ∷ l) same = rw (length-append (f x) (flat_map f l), same x (here refl), length_flat n l (λ a m. same a (there m))) (omega arith)

  pub at_flat : (n : ℕ) (l : List A) (a : A) (b : B) (q r : ℕ) → ((x : A) → In x l → length (f x) ≡ n) → q < length l → r < n
      → get_or (flat_map f l) (q * n + r) b ≡ get_or (f (get_or l q a)) r b
  unfolding flat_map
  at_flat n [] a b q r same h k = absurd (omega arith)
  at_flat n (x ∷ l) a b zero r same h k =
      let long = same x (here refl) in
      let place : 0 * n + r ≡ r = omega arith in
      rw place (get_or-append (f x) (flat_map f l) b r (omega arith))
  at_flat n (x ∷ l) a b (suc q) r same h k =
      let long = same x (here refl) in
      let place : suc q * n + r ≡ length (f x) + (q * n + r) = omega arith in
      rw place (get_or-append-add (f x) (flat_map f l) (q * n + r) b ∙ at_flat n l a b q r (λ y m. same y (there m)) (omega arith) k)

-- What stands at a place of a list is in it.
pub in_at : {A : Type 0} (d : A) (l : List A) (i : ℕ) → i < length l → In (get_or l i d) l
in_at d [] i h = absurd (omega arith)
in_at d (x ∷ l) zero h = here refl
in_at d (x ∷ l) (suc i) h = there (in_at d l i (omega arith))
