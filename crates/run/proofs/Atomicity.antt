-- Reads and writes are atomic. Assumes nothing.
use mathlib.Core.Path.{◌≡◌, refl, sym, ap, ◌∙◌}
use mathlib.Core.Logic.{◌⊎◌, inl, inr, ⊎_elim}
use mathlib.Core.Bool.{Bool, true, false}
use Prim.Native.Nat.{ℕ, ◌%◌, ◌≤◌, ◌<◌}
use native.Mathlib.Omega.{arith}
use native.Mathlib.Nat.{eq-or-lt_of_le}
use Rattle.base.specs.Timestamp.{number}
use Rattle.base.specs.declared.party.RegisterId.{RegisterId}
use Rattle.base.proofs.Apart.{apart}
use Rattle.wire.specs.Acceptance.{client}
use Rattle.protocol.specs.Parts.{start_card}
use Rattle.run.specs.ReadsFrom.{Write}
use Rattle.run.specs.Atomicity.{Operation, read, write, faulty_write, is_write, placed_at, operation_card, BeginsAt, EndsAt, Same, done_at, Precedes, LastWrite, Atomic}
use Rattle.run.specs.Claims.{Finished, Before}
use Rattle.run.specs.Premises.{Premises}
use Rattle.run.specs.Run.{Run}
use Rattle.run.proofs.Turns.{same_client}
use Rattle.run.proofs.Demand3.{start_shows}
use Rattle.run.proofs.Order.{three_ways, finish, settled_by, rises, one_card, same_operation, total as claimed, not_itself, before_both}
use Rattle.run.proofs.ReadsFrom.{reads_from}
use Rattle.run.proofs.Writes.{correct_writer, chosen, finished_write, finished_with}

module _ (R : Run) (x : RegisterId) (P : Premises R) where
  -- ---- Writes

  own_client : (w : Write R x) → w.timestamp % 256 ≡ w.id.0
  own_client w = (chosen R x P w).own

  -- What was finished before a write began has a smaller timestamp.
  write_above : (o : Finished R x) (w : Write R x) → o.finished < w.begun → number o.timestamp < w.timestamp
  write_above o w l = (chosen R x P w).above (number o.timestamp) (settled_by R x P o w.begun l)

  -- ---- The order

  same : (a b : Operation R x) → Same R x a b → (placed_at R x a ≡ placed_at R x b) × (operation_card R x a ≡ operation_card R x b)
  same (read o r) (read o' r') e = let one = same_operation R x o o' e in (ap number one.same_timestamp, one.same_card)
  same (read o r) (write w s) e = absurd e
  same (read o r) (faulty_write o' r' p f) e = absurd e
  same (write w s) (read o r) e = absurd e
  same (write w (o, at, of)) (write w' (o', at', of')) e = (e, sym of ∙ one_card R x P o o' (at ∙ e ∙ sym at') ∙ of')
  same (write w s) (faulty_write o r p f) e = absurd e
  same (faulty_write o r p f) (read o' r') e = absurd e
  same (faulty_write o r p f) (write w s) e = absurd e
  same (faulty_write o r p f) (faulty_write o' r' p' f') e = (e, one_card R x P o o' e)

  irreflexive : (a : Operation R x) → Precedes R x a a → ⊥
  irreflexive a = not_itself (placed_at R x a) (is_write R x a) (done_at R x a)

  transitive : (a b c : Operation R x) → Precedes R x a b → Precedes R x b c → Precedes R x a c
  transitive a b c = before_both (placed_at R x a) (placed_at R x b) (placed_at R x c) (is_write R x a) (is_write R x b) (is_write R x c) (done_at R x a) (done_at R x b) (done_at R x c)

  abbrev Laid : Operation R x → Operation R x → Type 0
  Laid a b = Same R x a b ⊎ (Precedes R x a b ⊎ Precedes R x b a)

  -- By their timestamps, if these differ.
  by_timestamp : (a b : Operation R x) → (placed_at R x a ≡ placed_at R x b → Laid a b) → Laid a b
  by_timestamp a b same = three_ways {P = Laid a b} (placed_at R x a) (placed_at R x b) (λ l. inr (inl (inl l))) same (λ l. inr (inr (inl l)))

  -- A faulty client's timestamp is no write's of a correct client.
  not_faulty : {A : Type 0} (w : Write R x) (o : Finished R x) → R.correct_client o.timestamp.client ≡ false → w.timestamp ≡ number o.timestamp → A
  not_faulty w o f e =
      let own = own_client w in
      let fits = (finish R x P o).fits in
      let same : w.id ≡ o.timestamp.client = same_client w.id o.timestamp.client (omega arith) in
      let c : R.correct_client o.timestamp.client ≡ true = rw same at (correct_writer R x w) in
      apart (cc)

  -- Two reads, as the claims lay them.
  laid_reads : (o o' : Finished R x) (r : o.is_write_lem ≡ false) (r' : o'.is_write_lem ≡ false) → Before R x o o' → Precedes R x (read o r) (read o' r')
  laid_reads o o' r r' it = rw (r, r') at it

  total : (a b : Operation R x) → Laid a b
  total (read o r) (read o' r') = ⊎_elim inl (λ it. inr (⊎_elim (λ y. inl (laid_reads o o' r r' y)) (λ y. inr (laid_reads o' o r' r y)) it)) (claimed R x P o o')
  total (read o r) (write w s) = by_timestamp (read o r) (write w s) (λ e. inr (inr (inr (sym e, tt))))
  total (read o r) (faulty_write o' r' p f) = by_timestamp (read o r) (faulty_write o' r' p f) (λ e. inr (inr (inr (sym e, tt))))
  total (write w s) (read o r) = by_timestamp (write w s) (read o r) (λ e. inr (inl (inr (e, tt))))
  total (write w s) (write w' s') = by_timestamp (write w s) (write w' s') (λ e. inl e)
  total (write w s) (faulty_write o r p f) = by_timestamp (write w s) (faulty_write o r p f) (λ e. not_faulty w o f e)
  total (faulty_write o r p f) (read o' r') = by_timestamp (faulty_write o r p f) (read o' r') (λ e. inr (inl (inr (e, tt))))
  total (faulty_write o r p f) (write w s) = by_timestamp (faulty_write o r p f) (write w s) (λ e. not_faulty w o f (sym e))
  total (faulty_write o r p f) (faulty_write o' r' p' f') = by_timestamp (faulty_write o r p f) (faulty_write o' r' p' f') (λ e. inl e)

  -- ---- It extends "ended before the other began"

  extends : (a b : Operation R x) (t t' : ℕ) → EndsAt R x a t → BeginsAt R x b t' → t < t' → Precedes R x a b
  extends (read o r) (read o' r') t t' e b l =
      let after = o'.after in
      ⊎_elim (λ z. inr (z, omega arith)) (λ z. inl z) (eq-or-lt_of_le (rises R x P o o' (omega arith)))
  extends (read o r) (write w s) t t' e b l = inl (write_above o w (omega arith))
  extends (read o r) (faulty_write o' r' p f) t t' e b l = absurd b
  extends (write w s) (read o' r') t t' (o, same, e) b l =
      let is = finished_with R x P w o same in
      ⊎_elim (λ z. inr (sym is ∙ z, tt)) (λ z. inl (omega arith)) (eq-or-lt_of_le (rises R x P o o' (omega arith)))
  extends (write w s) (write w' s') t t' (o, same, e) b l =
      let is = finished_with R x P w o same in
      let above = write_above o w' (omega arith) in
      inl (omega arith)
  extends (write w s) (faulty_write o' r' p f) t t' e b l = absurd b
  extends (faulty_write o r p f) b t t' e b' l = absurd e

  -- ---- A read shows the last write before it

  -- A write at a read's timestamp is the last one before it.
  last_at_lem : (w : Operation R x) (o : Finished R x) (r : o.is_write_lem ≡ false) → is_write R x w ≡ true → placed_at R x w ≡ number o.timestamp → LastWrite R x w (read o r)
  last_at_lem w o r is e = record { is_write_lem = is; precedes = inr (e, rw is tt); is_last = λ w' is' l. go w' is' l }
    where
      go : (w' : Operation R x) → is_write R x w' ≡ true → Precedes R x w' (read o r) → Same R x w' w ⊎ Precedes R x w' w
      go w' is' (inl l) = inr (inl (omega arith))
      go w' is' (inr k) = by (total w' w)
        where
          by : Laid w' w → Same R x w' w ⊎ Precedes R x w' w
          by (inl it) = inl it
          by (inr (inl it)) = inr it
          by (inr (inr (inl l))) = let same = k.0 in absurd (omega arith)
          by (inr (inr (inr it))) = absurd (rw (is, is') at it.1)

  reads_last : (o : Finished R x) (r : o.is_write_lem ≡ false) → 1 ≤ number o.timestamp → (w : Operation R x) × LastWrite R x w (read o r) × (operation_card R x w ≡ o.card)
  reads_last o r p = go (R.correct_client o.timestamp.client) refl
    where
      go : (b : Bool) → R.correct_client o.timestamp.client ≡ b → (w : Operation R x) × LastWrite R x w (read o r) × (operation_card R x w ≡ o.card)
      go true c = let (w, id_is, timestamp_is, card_is, before) = reads_from R x P o c in
          let it : Operation R x = write w (o, sym timestamp_is, sym card_is) in
          (it, last_at_lem it o r refl timestamp_is, card_is)
      go false f = (faulty_write o r p f, last_at_lem (faulty_write o r p f) o r refl refl, refl)

  write_positive : (w : Operation R x) → is_write R x w ≡ true → 1 ≤ placed_at R x w
  write_positive (read o r) e = apart (cc)
  write_positive (write w s) e = (chosen R x P w).positive
  write_positive (faulty_write o r p f) e = p

  reads_start : (o : Finished R x) (r : o.is_write_lem ≡ false) → number o.timestamp ≡ 0 → (o.card ≡ start_card) × ((w : Operation R x) → is_write R x w ≡ true → Precedes R x w (read o r) → ⊥)
  reads_start o r e = (start_shows R x P o e, none_before)
    where
      none_before : (w : Operation R x) → is_write R x w ≡ true → Precedes R x w (read o r) → ⊥
      none_before w is (inl l) = omega arith
      none_before w is (inr k) = let p = write_positive w is in let same = k.0 in omega arith

  pub atomic : Atomic R x
  atomic =
      record {
        has_write = finished_write R x P;
        same = same;
        irreflexive = irreflexive;
        transitive = transitive;
        total = total;
        extends = extends;
        reads_last = reads_last;
        reads_start = reads_start;
      }
