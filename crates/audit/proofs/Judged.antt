-- A log is judged entry by entry. Assumes nothing.
use mathlib.Core.Path.{◌≡◌, refl, sym, ap}
use mathlib.Core.Bool.{cond}
use mathlib.Core.List.{List, [], ◌∷◌}
use mathlib.Core.Option.{Option, none, some}
use Prim.Native.Nat.{ℕ, zero, suc, ◌≤◌}
use native.Mathlib.Omega.{arith}
use lib.ListN.{length}
use Rattle.protocol.specs.Events.{expected, bank_after}
use Rattle.protocol.specs.declared.replica.Bank.{Bank}
use Rattle.audit.specs.Log.{LogEntry, Front, agrees, entry_in, Judgement, right, wrong, judged_by, judged_within, judged_from}
use Rattle.audit.proofs.Entries.{entry_shorter}

within_end : (k : ℕ) (bank : Bank) (number : ℕ) → judged_within k bank number [] ≡ right
unfolding judged_within
within_end zero bank number = refl
within_end (suc k) bank number = refl

-- Any bound that is at least the length says the same.
abbrev Enough : ℕ → Type 0
Enough k = (j : ℕ) (bank : Bank) (number : ℕ) (bytes : List ℕ) → length bytes ≤ k → length bytes ≤ j → judged_within k bank number bytes ≡ judged_within j bank number bytes

one_more : (k : ℕ) → Enough k → Enough (suc k)
unfolding judged_within
one_more k enough j bank number [] h h' = sym (within_end j bank number)
one_more k enough zero bank number (b ∷ bytes) h h' = absurd (omega arith)
one_more k enough (suc j) bank number (b ∷ bytes) h h' = go (entry_in (b ∷ bytes)) (λ e s. let shorter = entry_shorter (b ∷ bytes) e s in enough j _ _ e.rest (omega arith) (omega arith))
  where
    go : (o : Option (Front LogEntry)) → ((e : Front LogEntry) → o ≡ some e → judged_within k (bank_after bank e.item.received) (suc number) e.rest ≡ judged_within j (bank_after bank e.item.received) (suc number) e.rest)
        → judged_by bank number o (λ next rest. judged_within k next (suc number) rest) ≡ judged_by bank number o (λ next rest. judged_within j next (suc number) rest)
    go none alike = refl
    go (some e) alike = ap (λ (next : Judgement). cond (agrees (expected bank e.item.received) e.item.recorded) next (wrong number)) (alike e refl)

within_enough : (k : ℕ) → Enough k
unfolding judged_within
within_enough zero j bank number [] h h' = sym (within_end j bank number)
within_enough zero j bank number (b ∷ bytes) h h' = absurd (omega arith)
within_enough (suc k) j bank number bytes h h' = one_more k (λ j bank number bytes. within_enough k j bank number bytes) j bank number bytes h h'

module _ (bank : Bank) (number : ℕ) where
  pub judged_end : judged_from bank number [] ≡ right
  unfolding judged_from
  judged_end = within_end 0 bank number

  pub judged_none : (bytes : List ℕ) → (bytes ≡ [] → ⊥) → entry_in bytes ≡ none → judged_from bank number bytes ≡ wrong number
  unfolding judged_from judged_within
  judged_none [] some_there e = absurd (some_there refl)
  judged_none (b ∷ bytes) some_there e = rw e

  pub judged_some : (bytes : List ℕ) (e : Front LogEntry) → entry_in bytes ≡ some e
      → judged_from bank number bytes ≡ cond (agrees (expected bank e.item.received) e.item.recorded) (judged_from (bank_after bank e.item.received) (suc number) e.rest) (wrong number)
  unfolding judged_from judged_within
  judged_some [] e s = absurd (omega (arith, entry_shorter [] e s))
  judged_some (b ∷ bytes) e s = rw s (ap (λ (next : Judgement). cond (agrees (expected bank e.item.received) e.item.recorded) next (wrong number)) (within_enough (length bytes) (length e.rest) _ _ e.rest (omega (arith, entry_shorter (b ∷ bytes) e s)) (omega arith)))
