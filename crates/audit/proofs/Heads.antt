-- A log's head. Assumes nothing.
use mathlib.Core.Path.{◌≡◌, sym, ap, ◌∙◌}
use mathlib.Core.List.{List, [], ◌∷◌, ◌++◌}
use Prim.Native.Nat.{ℕ, ◌≤◌, ◌<◌}
use native.Mathlib.Omega.{arith}
use borrow.Author.Tests.{le-leb, lt-leb}
use lib.Dec.{leb}
use lib.ListN.{length, drop, length-append, take-append-drop}
use lib.Seq.{take_at, drop_at}
use Rattle.base.specs.Outcome.{Outcome, accepted, refused, ◌>>=◌}
use Rattle.base.specs.declared.party.ReplicaId.{ReplicaId}
use Rattle.base.proofs.Outcome.{guard_passes, guard_refuses}
use Rattle.protocol.specs.Bank.{fresh_bank, bank_setup}
use Rattle.protocol.proofs.SetUp.{made_fresh, set_up_key}
use Rattle.bank.specs.Making.{new_bank}
use Rattle.audit.specs.Judging.{begun}
use Rattle.audit.specs.Log.{judged_from, head_length, fault_bound_in, replica_id_in, key_in, set_up_in, fresh_in, head_outcome, judged_if_set_up, judged}
use Rattle.audit.specs.Replaying.{head_bytes}

module _ (log : List ℕ) where
  pub short_refused : length log < head_length → head_outcome log ≡ refused 16
  short_refused h = guard_refuses 16 (leb head_length (length log)) (set_up_in log) (lt-leb head_length (length log) h)

  pub long_set_up : head_length ≤ length log → head_outcome log ≡ set_up_in log
  long_set_up h = guard_passes 16 (leb head_length (length log)) (set_up_in log) (le-leb head_length (length log) h)

  -- What the code sets up: nothing from a short head,
  pub begins_short : length log < head_length → refused 16 ≡ begun log
  unfolding begun
  begins_short h = ap (λ (o : Outcome (Unit {0})). o >>= λ ready. accepted (fresh_in log)) (sym (short_refused h))

  -- and what a longer one says.
  pub begins_long : head_length ≤ length log → new_bank (fault_bound_in log) (replica_id_in log) (key_in log) ≡ begun log
  unfolding begun
  begins_long h =
      made_fresh (fault_bound_in log) (replica_id_in log) (key_in log)
      ∙ ap (λ (o : Outcome (Unit {0})). o >>= λ ready. accepted (fresh_in log)) (sym (long_set_up h))

-- A log is its head and what is behind it.
pub head_split : (log : List ℕ) → head_length ≤ length log → log ≡ head_bytes (fault_bound_in log) (replica_id_in log) (key_in log) ++ drop head_length log
head_split [] long = absurd (omega arith)
head_split (f ∷ []) long = absurd (omega arith)
head_split (f ∷ id ∷ bytes) long = ap (λ (l : List ℕ). f ∷ id ∷ l) (sym (take-append-drop 56 bytes))

-- A good head, and what is behind it.
pub judged_head : (f : ℕ) (id : ReplicaId) (key bytes : List ℕ) → bank_setup f id key ≡ accepted tt → judged (head_bytes f id key ++ bytes) ≡ judged_from (fresh_bank f id key) 1 bytes
unfolding judged
judged_head f id key bytes good =
    let log = head_bytes f id key ++ bytes in
    let size = set_up_key f id key good in
    let same_key : key_in log ≡ key = take_at key bytes 56 size in
    let behind : drop head_length log ≡ bytes = drop_at key bytes 56 size in
    let set_up : head_outcome log ≡ accepted tt = long_set_up log (omega (arith, size, length-append key bytes)) ∙ ap (bank_setup f id) same_key ∙ good in
    ap (λ (o : Outcome (Unit {0})). judged_if_set_up o (judged_from (fresh_in log) 1 (drop head_length log))) set_up
    ∙ ap (λ (k : List ℕ). judged_from (fresh_bank f id k) 1 (drop head_length log)) same_key
    ∙ ap (judged_from (fresh_bank f id key) 1) behind
