-- What a round with the schedule's next word beside it does, on plain lists. Assumes nothing.
use Rattle.std.proofs.Common.{◌≡◌, ℕ, zero, suc, ◌+◌, ◌<◌, ◌≤◌, List, length, get_or, take, set, sym, refl, ap, ◌∙◌, add-one, arith, get_or-set_other, get_or-take}
use Rattle.wire.specs.declared.sha256.rounds.WorkingVariables.{WorkingVariables}
use Rattle.wire.specs.Sha256.{◌⊞◌, Ch, Maj, Σ₀, Σ₁, K, T₁, T₂, next_word, schedule, round, rounds}
use Rattle.wire.proofs.sha256.Stores.{store_next}

-- The next word reads only words before it.
reads_before : (w : List ℕ) (t : ℕ) → next_word (take (t + 16) w) t ≡ next_word w t
unfolding next_word
reads_before w t =
    rw (
      get_or-take (t + 16) w (t + 14) 0 (omega arith),
      get_or-take (t + 16) w (t + 9) 0 (omega arith),
      get_or-take (t + 16) w (t + 1) 0 (omega arith),
      get_or-take (t + 16) w t 0 (omega arith),
    )

-- A store of the next word makes the schedule one word longer.
schedule_next : (m w : List ℕ) (t : ℕ) → t + 16 < length w → take (t + 16) w ≡ schedule m t → take (t + 1 + 16) (set w (t + 16) (next_word w t)) ≡ schedule m (t + 1)
unfolding schedule
schedule_next m w t h e =
    let shift : t + 1 + 16 ≡ t + 16 + 1 = omega arith in
    let word : next_word w t ≡ next_word (schedule m t) t = sym (reads_before w t) ∙ ap (λ (l : List ℕ). next_word l t) e in
    rw shift (store_next w (t + 16) (next_word w t) (schedule m t) h e ∙ rw (add-one t, word))

-- The first t rounds read only words before t.
rounds_set : (w : List ℕ) (v : WorkingVariables) (j x t : ℕ) → t ≤ j → rounds (set w j x) v t ≡ rounds w v t
unfolding rounds
rounds_set w v j x zero h = refl
rounds_set w v j x (suc t) h =
    rw (get_or-set_other w j t x 0 (λ e. absurd (omega (arith, e, h))), rounds_set w v j x t (omega (arith, h)))

-- After t rounds from `start` on the words m: the schedule is t words longer, and v are the variables.
pub record Turned (m : List ℕ) (start : WorkingVariables) (w : List ℕ) (v : WorkingVariables) (t : ℕ) : Type 0 where
  pub size : length w ≡ 64
  pub scheduled : take (t + 16) w ≡ schedule m t
  pub variables : v ≡ rounds w start t

-- One more round, with its store.
pub turn : {m : List ℕ} {start : WorkingVariables} {w w' : List ℕ} {v v' : WorkingVariables} {t : ℕ} (n : ℕ) → n ≡ t + 1 → t < 48 → Turned m start w v t
    → v' ≡ round (get_or K t 0) (get_or w t 0) v → w' ≡ set w (t + 16) (next_word w t) → length w' ≡ 64 → Turned m start w' v' n
unfolding rounds
turn {m} {start} {w} {w'} {v} {v'} {t} n e h i x y s =
    let l = i.size in
    let same : get_or (set w (t + 16) (next_word w t)) t 0 ≡ get_or w t 0 = get_or-set_other w (t + 16) t (next_word w t) 0 (λ q. absurd (omega (arith, q))) in
    let before : rounds (set w (t + 16) (next_word w t)) start t ≡ rounds w start t = rounds_set w start (t + 16) (next_word w t) t (omega arith) in
    record {
      size = s;
      scheduled = rw (e, y) (schedule_next m w t (omega arith) i.scheduled);
      variables = rw (e, y, add-one t, same, before, ← i.variables) x;
    }

-- One more round, with the schedule whole.
pub round_next : (w : List ℕ) (start : WorkingVariables) (t n : ℕ) {v v' : WorkingVariables} → n ≡ t + 1 → v ≡ rounds w start t → v' ≡ round (get_or K t 0) (get_or w t 0) v
    → v' ≡ rounds w start n
unfolding rounds
round_next w start t n e i x = rw (e, add-one t, ← i) x

-- The sums of a round, as its steps add them.
pub t1_sum : (e f g h k w : ℕ) → h ⊞ Σ₁ e ⊞ Ch e f g ⊞ k ⊞ w ≡ T₁ e f g h k w
unfolding T₁
t1_sum e f g h k w = refl

pub t2_sum : (a b c : ℕ) → Σ₀ a ⊞ Maj a b c ≡ T₂ a b c
unfolding T₂
t2_sum a b c = refl
