-- Every log that a correct replica writes is accepted. Assumes nothing.
use mathlib.Core.Path.{◌≡◌, refl, ap, subst, ◌∙◌}
use mathlib.Core.Bool.{Bool, true, false, ◌&&◌, cond}
use mathlib.Core.List.{List, [], ◌∷◌}
use mathlib.Core.Option.{some}
use Prim.Native.Nat.{ℕ, suc, ◌+◌}
use native.Mathlib.Omega.{arith}
use borrow.Author.Tests.{eq-eqb, eqb-true}
use lib.Dec.{eqb}
use lib.ListN.{get_elem?}
use Rattle.base.specs.Outcome.{accepted}
use Rattle.base.specs.declared.party.ReplicaId.{ReplicaId}
use Rattle.protocol.specs.Bank.{fresh_bank, bank_setup}
use Rattle.protocol.specs.Events.{ReplicaEvent, expected, bank_after}
use Rattle.protocol.specs.declared.replica.Bank.{Bank}
use Rattle.protocol.proofs.GoodBank.{GoodBank, fresh_good, event_keeps}
use Rattle.protocol.proofs.SetUp.{set_up_passes, set_up_id}
use Rattle.run.specs.Run.{Event, at_replica, at_client, Run, event, bank_at, answer_to}
use Rattle.run.proofs.Turns.{same_replica, good_bank}
use Rattle.audit.specs.Log.{LogEntry, right, judged}
use Rattle.audit.specs.Own.{entry_for, is_logged, entries_for, log_of, AllHandBytes, entry_in_run, entries_in_run, log_in_run}
use Rattle.audit.specs.Replaying.{AllAgree}
use Rattle.audit.proofs.Answered.{Answered, answered, entry_agrees}
use Rattle.audit.proofs.Exactly.{replays_right}

-- ---- All calls

-- A call and those behind it, logged or not.
one_call : (signature : List ℕ) (bank : Bank) (call : ReplicaEvent) (later : List LogEntry) → Answered signature bank call → AllAgree (bank_after bank call) later
    → (b : Bool) → is_logged call ≡ b → AllAgree bank (cond b (entry_for bank call signature ∷ later) later)
unfolding AllAgree
one_call signature bank call later a rest true e = (entry_agrees signature bank call e a, rest)
one_call signature bank call later a rest false e = subst (λ (b : Bank). AllAgree b later) (a.unlogged e) rest

all_agree : (calls : List ReplicaEvent) (bank : Bank) (signatures : ℕ → List ℕ) (at : ℕ) → GoodBank bank → AllHandBytes calls → AllAgree bank (entries_for bank calls signatures at)
unfolding AllAgree entries_for
all_agree [] bank signatures at good small = tt
all_agree (call ∷ calls) bank signatures at good small =
    one_call (signatures at) bank call _ (answered (signatures at) bank good call small.0)
    (all_agree calls (bank_after bank call) signatures (suc at) (event_keeps bank good call small.0) small.1) (is_logged call) refl

pub own_log : (f : ℕ) (id : ReplicaId) (key : List ℕ) → bank_setup f id key ≡ accepted tt → (calls : List ReplicaEvent) → AllHandBytes calls → (signatures : ℕ → List ℕ)
    → judged (log_of f id key calls signatures) ≡ right
own_log f id key good calls small signatures =
    replays_right (log_of f id key calls signatures)
    (record {
      f = f;
      id = id;
      key = key;
      entries = entries_for (fresh_bank f id key) calls signatures 0;
      set_up = good;
      agree = all_agree calls (fresh_bank f id key) signatures 0 (fresh_good f id key (set_up_id f id key good)) small;
      written = refl;
    })

-- ---- In a run

good_set_up : (R : Run) (id : ReplicaId) → R.correct_replica id ≡ true → bank_setup R.f id (R.office_key id) ≡ accepted tt
good_set_up R id correct = set_up_passes R.f id (R.office_key id) R.f_in_range (R.replicas_in_range id correct) (R.keys_in_range id correct).0

module _ (R : Run) (id : ReplicaId) (correct : R.correct_replica id ≡ true) (signatures : ℕ → List ℕ) where
  -- The first of these events is event t.
  abbrev From : ℕ → List Event → Type 0
  From t events = (k : ℕ) → event R (t + k) ≡ get_elem? events k

  first : (t : ℕ) (e : Event) (events : List Event) → From t (e ∷ events) → event R t ≡ some e
  first t e events from = let same : t + 0 ≡ t = omega arith in subst (λ (k : ℕ). event R k ≡ some e) same (from 0)

  others : (t : ℕ) (e : Event) (events : List Event) → From t (e ∷ events) → From (suc t) events
  others t e events from k = let same : t + suc k ≡ suc t + k = omega arith in subst (λ (n : ℕ). event R n ≡ get_elem? events k) same (from (suc k))

  own_event : (t : ℕ) (e : ReplicaEvent) (later : List LogEntry) → event R t ≡ some (at_replica id e) → AllAgree (bank_at R id (suc t)) later
      → AllAgree (bank_at R id t) (cond (is_logged e) (entry_in_run R id signatures t e ∷ later) later)
  unfolding bank_at answer_to expected
  own_event t e later q rest =
      one_call (signatures t) (bank_at R id t) e later (answered (signatures t) (bank_at R id t) (good_bank R id correct t).good e (R.have_bytes t (at_replica id e) q))
      (rw (q, eq-eqb id.0 id.0 refl) at rest) (is_logged e) refl

  all_in_run : (t : ℕ) (events : List Event) → From t events → AllAgree (bank_at R id t) (entries_in_run R id signatures t events)
  unfolding AllAgree entries_in_run bank_at
  all_in_run t [] from = tt
  all_in_run t (at_client at e ∷ events) from =
      subst (λ (bank : Bank). AllAgree bank (entries_in_run R id signatures (suc t) events)) (rw (first t (at_client at e) events from)) (all_in_run (suc t) events (others t (at_client at e) events from))
  all_in_run t (at_replica at e ∷ events) from = go (eqb at.0 id.0) refl (all_in_run (suc t) events (others t (at_replica at e) events from))
    where
      go : (b : Bool) → eqb at.0 id.0 ≡ b → AllAgree (bank_at R id (suc t)) (entries_in_run R id signatures (suc t) events)
          → AllAgree (bank_at R id t) (cond (b && is_logged e) (entry_in_run R id signatures t e ∷ entries_in_run R id signatures (suc t) events) (entries_in_run R id signatures (suc t) events))
      go true k rest =
          let same = same_replica at id (eqb-true at.0 id.0 k) in
          own_event t e _ (first t (at_replica at e) events from ∙ ap (λ (i : ReplicaId). some (at_replica i e)) same) rest
      go false k rest = subst (λ (bank : Bank). AllAgree bank (entries_in_run R id signatures (suc t) events)) (rw (first t (at_replica at e) events from, k)) rest

  -- What a correct replica logs of its events in a run, with the run's own answers, is accepted.
  pub own_log_in_run : judged (log_in_run R id signatures) ≡ right
  unfolding bank_at
  own_log_in_run =
      replays_right (log_in_run R id signatures)
      (record {
        f = R.f;
        id = id;
        key = R.office_key id;
        entries = entries_in_run R id signatures 0 R.events;
        set_up = good_set_up R id correct;
        agree = all_in_run 0 R.events (λ k. let same : 0 + k ≡ k = omega arith in ap (event R) same);
        written = refl;
      })
