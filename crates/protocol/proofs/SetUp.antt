-- What a replica can be set up with. Assumes nothing.
use mathlib.Core.Path.{◌≡◌, refl}
use mathlib.Core.Logic.{◌⊎◌, inl, inr}
use mathlib.Core.Bool.{Bool, true, false}
use mathlib.Core.List.{List}
use Prim.Native.Nat.{ℕ, ◌<◌}
use native.Mathlib.Omega.{arith}
use lib.ListN.{length}
use Rattle.base.specs.Outcome.{Outcome, accepted, refused, guard, ◌>>=◌}
use Rattle.base.specs.Party.{replica_count, is_fault_bound, is_replica}
use Rattle.base.specs.declared.party.ReplicaId.{ReplicaId}
use Rattle.base.proofs.Apart.{apart}
use Rattle.base.proofs.Range.{bounds}
use Rattle.lms.specs.Lms.{is_public_key}
use Rattle.lms.proofs.Tested.{public_key_long}
use Rattle.protocol.specs.Bank.{fresh_bank, bank_if_set_up, bank_setup, made_bank}
use Rattle.protocol.specs.declared.replica.Bank.{Bank}

-- The three tests, each with 16.
abbrev all_pass : Bool → Bool → Bool → Outcome (Unit {0})
all_pass a b c = guard 16 a (guard 16 b (accepted (tt {0}))) >>= λ ready. guard 16 c (accepted tt)

module _ (f : ℕ) (id : ReplicaId) (key : List ℕ) where
  pub set_up_passes : is_fault_bound f ≡ true → is_replica f id ≡ true → is_public_key key ≡ true → bank_setup f id key ≡ accepted tt
  unfolding guard
  set_up_passes a b c = rw (a, b, c)

  pub set_up_passed : bank_setup f id key ≡ accepted tt → (is_fault_bound f ≡ true) × (is_replica f id ≡ true) × (is_public_key key ≡ true)
  unfolding guard
  set_up_passed e = go (is_fault_bound f) (is_replica f id) (is_public_key key) e
    where
      go : (a b c : Bool) → all_pass a b c ≡ accepted (tt {0}) → (a ≡ true) × (b ≡ true) × (c ≡ true)
      go true true true e = (refl, refl, refl)
      go true true false e = apart (cc)
      go true false c e = apart (cc)
      go false b c e = apart (cc)

  -- It is refused with 16 alone.
  pub set_up_cases : (bank_setup f id key ≡ accepted tt) ⊎ (bank_setup f id key ≡ refused 16)
  unfolding guard
  set_up_cases = go (is_fault_bound f) (is_replica f id) (is_public_key key)
    where
      go : (a b c : Bool) → (all_pass a b c ≡ accepted (tt {0})) ⊎ (all_pass a b c ≡ refused 16)
      go true true true = inl refl
      go true true false = inr refl
      go true false c = inr refl
      go false b c = inr refl

  -- The bank that is made where it is not refused is a fresh one.
  pub made_fresh : (bank_setup f id key >>= λ ready. accepted (made_bank f id key)) ≡ (bank_setup f id key >>= λ ready. accepted (fresh_bank f id key))
  unfolding made_bank
  made_fresh = go (bank_setup f id key) (fresh_bank f id key)
    where
      go : (setup : Outcome (Unit {0})) (fresh : Bank) → (setup >>= λ ready. accepted (bank_if_set_up setup fresh)) ≡ (setup >>= λ ready. accepted fresh)
      go (accepted ready) fresh = refl
      go (refused number) fresh = refl

  module _ (good : bank_setup f id key ≡ accepted tt) where
    pub set_up_id : id.0 < 256
    set_up_id = omega (arith, (bounds 1 (replica_count f) id.0 (set_up_passed good).1).1)

    pub set_up_key : length key ≡ 56
    set_up_key = public_key_long key (set_up_passed good).2
