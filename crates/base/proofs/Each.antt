-- What holds of each member of a list. Assumes nothing.
use mathlib.Core.Path.{sym, subst}
use mathlib.Core.List.Memᴰ.{head as here}
use mathlib.Core.List.Memᴰ.{tail as there}
use mathlib.Core.List.{List, [], ◌∷◌, ◌++◌, Memᴰ as In}

abbrev pub EachOf : {A : Type 0} → (A → Type 0) → List A → Type 0
EachOf P [] = Unit {0}
EachOf P (x ∷ xs) = P x × EachOf P xs

module _ {A : Type 0} (P : A → Type 0) where
  pub each_front : (a b : List A) → EachOf P (a ++ b) → EachOf P a
  each_front [] b h = tt
  each_front (x ∷ a) b h = (h.0, each_front a b h.1)

  pub each_back : (a b : List A) → EachOf P (a ++ b) → EachOf P b
  each_back [] b h = h
  each_back (x ∷ a) b h = each_back a b h.1

  pub each_both : (a b : List A) → EachOf P a → EachOf P b → EachOf P (a ++ b)
  each_both [] b ha hb = hb
  each_both (x ∷ a) b ha hb = (ha.0, each_both a b ha.1 hb)

  pub each_then : (Q : A → Type 0) → ((x : A) → P x → Q x) → (a : List A) → EachOf P a → EachOf Q a
  each_then Q then [] h = tt
  each_then Q then (x ∷ a) h = (then x h.0, each_then Q then a h.1)

  pub each_in : {x : A} {a : List A} → In x a → EachOf P a → P x
  each_in (here e) h = subst P (sym e) h.0
  each_in (there m) h = each_in m h.1
