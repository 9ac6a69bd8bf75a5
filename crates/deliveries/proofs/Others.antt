-- All but one of some deliveries: who is there, in what order, how many, and where. Assumes nothing.
use mathlib.Core.Path.{◌≡◌, refl, sym, ap, subst, ◌∙◌}
use mathlib.Core.Bool.{Bool, true, false}
use mathlib.Core.Logic.{◌≢◌}
use mathlib.Core.List.Memᴰ
use mathlib.Core.List.Memᴰ.{head as here}
use mathlib.Core.List.Memᴰ.{tail as there}
use mathlib.Core.List.{List, [], ◌∷◌, ◌++◌, Memᴰ as In}
use Prim.Native.Nat.{ℕ, zero, suc, ◌<◌}
use native.Mathlib.Omega.{arith}
use borrow.Author.Tests.{eqb-true, eq-eqb}
use lib.ListN.{length, get_or, take, drop}
use Rattle.base.proofs.Apart.{apart}
use Rattle.base.proofs.Booleans.{and_true_both}
use Rattle.deliveries.specs.ShortRuns.{Delivery, Pairwise, alike, others}
use Rattle.deliveries.proofs.Lists.{first_and_rest, in_at}

pub same_delivery : (d e : Delivery) → d.message ≡ e.message → d.replica.0 ≡ e.replica.0 → d ≡ e
same_delivery d e m r = λ i. record { message = m i; replica = record { 0 = r i } }

alike_same : (d e : Delivery) → alike d e ≡ true → d ≡ e
unfolding alike
alike_same d e h =
    let both = and_true_both _ _ h in
    same_delivery d e (eqb-true d.message e.message both.0) (eqb-true d.replica.0 e.replica.0 both.1)

alike_itself : (d : Delivery) → alike d d ≡ true
unfolding alike
alike_itself d = rw (eq-eqb d.message d.message refl, eq-eqb d.replica.0 d.replica.0 refl)

module _ (d e : Delivery) (l : List Delivery) where
  left_out : alike d e ≡ true → others d (e ∷ l) ≡ others d l
  unfolding others
  left_out h = rw h

  stays : alike d e ≡ false → others d (e ∷ l) ≡ e ∷ others d l
  unfolding others
  stays h = rw h

  -- The first of a list is the one left out, or it stays: what holds in both cases holds.
  first : (P : List Delivery → Type 0) → (d ≡ e → P (others d l)) → (d ≢ e → P (e ∷ others d l)) → P (others d (e ∷ l))
  first P same other = go (alike d e) refl
    where
      go : (b : Bool) → alike d e ≡ b → P (others d (e ∷ l))
      go true h = subst P (sym (left_out h)) (same (alike_same d e h))
      go false h = subst P (sym (stays h)) (other (λ k. let both : true ≡ false = sym (alike_itself d) ∙ (ap (alike d) k ∙ h) in apart (cc)))

pub of_others : {d : Delivery} (l : List Delivery) (e : Delivery) → In e (others d l) → In e l × (d ≢ e)
unfolding others
of_others [] e = λ m. absurd (Memᴰ.not-nil m)
of_others {d} (x ∷ l) e =
    let behind : (b : Delivery) → In b (others d l) → In b (x ∷ l) × (d ≢ b) = λ b m. let r = of_others l b m in (there r.0, r.1) in
    first d x l (λ rest. In e rest → In e (x ∷ l) × (d ≢ e)) (λ out. behind e) (λ stays. first_and_rest (λ b. In b (x ∷ l) × (d ≢ b)) (here refl, stays) behind e)

pub into_others : {d e : Delivery} {l : List Delivery} → In e l → d ≢ e → In e (others d l)
into_others {d} {e} (here {x = x} {xs = l} same) other = first d x l (In e) (λ out. absurd (other (out ∙ sym same))) (λ stays. here same)
into_others {d} {e} (there {x = x} {xs = l} m) other = let rest = into_others m other in first d x l (In e) (λ out. rest) (λ stays. there rest)

pub others_pairwise : (R : Delivery → Delivery → Type 0) (d : Delivery) (l : List Delivery) → Pairwise R l → Pairwise R (others d l)
unfolding others
others_pairwise R d [] p = tt
others_pairwise R d (x ∷ l) p =
    let rest = others_pairwise R d l p.1 in
    first d x l (Pairwise R) (λ out. rest) (λ stays. (λ e m. p.0 e (of_others l e m).0, rest))

-- Who is not there is not left out.
absent : (d : Delivery) (l : List Delivery) → ((e : Delivery) → In e l → d ≢ e) → others d l ≡ l
unfolding others
absent d [] none = refl
absent d (x ∷ l) none =
    first d x l (λ rest. rest ≡ x ∷ l) (λ out. absurd (none x (here refl) out)) (λ stays. ap (λ (rest : List Delivery). x ∷ rest) (absent d l (λ e m. none e (there m))))

-- ---- Of different deliveries

pub fewer : {d : Delivery} {l : List Delivery} → In d l → Pairwise ◌≢◌ l → suc (length (others d l)) ≡ length l
fewer {d} (here {x = x} {xs = l} same) p =
    let all = absent d l (λ e m k. p.0 e m (sym same ∙ k)) in
    first d x l (λ rest. suc (length rest) ≡ suc (length l)) (λ out. ap (λ (rest : List Delivery). suc (length rest)) all) (λ stays. absurd (stays same))
fewer {d} (there {x = x} {xs = l} m) p =
    first d x l (λ rest. suc (length rest) ≡ suc (length l)) (λ out. absurd (p.0 d m (sym out))) (λ stays. ap suc (fewer m p.1))

pub others_at : (l : List Delivery) → Pairwise ◌≢◌ l → (d : Delivery) (q : ℕ) → q < length l → others (get_or l q d) l ≡ take q l ++ drop (suc q) l
others_at [] p d q h = absurd (omega arith)
others_at (x ∷ l) p d zero h =
    first x x l (λ rest. rest ≡ l) (λ out. absent x l p.0) (λ stays. absurd (stays refl))
others_at (x ∷ l) p d (suc q) h =
    let e = get_or l q d in
    first e x l (λ rest. rest ≡ x ∷ (take q l ++ drop (suc q) l))
    (λ out. absurd (p.0 e (in_at d l q (omega arith)) (sym out)))
    (λ stays. ap (λ (rest : List Delivery). x ∷ rest) (others_at l p.1 d q (omega arith)))
