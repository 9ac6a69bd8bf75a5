-- The runs of one delivery, a run's text, and how many runs there are of each length, by computation. Assumes nothing.
use mathlib.Core.Path.{◌≡◌, refl}
use mathlib.Core.List.{[], ◌∷◌, flat_map}
use lib.ListN.{length}
use Rattle.text.specs.Decimal.{digits_within}
use Rattle.deliveries.specs.ShortRuns.{delivery, deliveries, alike, others, runs_of, runs, run_at, opening, delivery_line, run_text}
use Rattle.deliveries.proofs.Runs.{how_many_lem}

-- "message first, then holder"
pub runs_1 : runs 1
    ≡ (delivery 1 1 ∷ []) ∷ (delivery 1 2 ∷ []) ∷ (delivery 1 3 ∷ []) ∷ (delivery 1 4 ∷ [])
    ∷ (delivery 2 1 ∷ []) ∷ (delivery 2 2 ∷ []) ∷ (delivery 2 3 ∷ []) ∷ (delivery 2 4 ∷ []) ∷ []
unfolding runs_of others alike deliveries flat_map
runs_1 = refl

-- "There are 8, 56, 336 and 1,680 runs."
pub counted : (length (runs 1) ≡ 8) × (length (runs 2) ≡ 56) × (length (runs 3) ≡ 336) × (length (runs 4) ≡ 1_680)
counted = (how_many_lem 1, how_many_lem 2, how_many_lem 3, how_many_lem 4)

pub counted_8 : length (runs 8) ≡ 40_320
counted_8 = how_many_lem 8

-- The second run, message 1 to holder 2: `w 1 0000`, `r 2`, `h 2 1`.
pub second_text : run_text (run_at 1 1) ≡ 119 ∷ 32 ∷ 49 ∷ 32 ∷ 48 ∷ 48 ∷ 48 ∷ 48 ∷ 10 ∷ 114 ∷ 32 ∷ 50 ∷ 10 ∷ 104 ∷ 32 ∷ 50 ∷ 32 ∷ 49 ∷ 10 ∷ []
unfolding runs_of others alike deliveries flat_map run_text opening delivery_line digits_within
second_text = refl
