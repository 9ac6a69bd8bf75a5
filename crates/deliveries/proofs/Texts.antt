-- The text of the runs: each line byte by byte, and how long all of it is. Assumes nothing.
use mathlib.Core.Path.{◌≡◌, sym, ap, ap₂, ◌∙◌}
use mathlib.Core.List.{List, [], ◌∷◌, ◌++◌}
use Prim.Native.Nat.{ℕ, ◌+◌, ◌*◌, ◌/◌, ◌%◌, ◌<◌}
use native.Mathlib.Omega.{arith}
use lib.ListN.{length, length-append}
use Rattle.text.proofs.Decimals.{one_digit}
use Rattle.deliveries.specs.ShortRuns.{Delivery, Possible, Legal, falling_factorial, runs, opening, delivery_line, run_text, text_of, printed}
use Rattle.deliveries.specs.Writing.{delivery_of}
use Rattle.deliveries.proofs.Lists.{length_flat}
use Rattle.deliveries.proofs.Runs.{sound, how_many_lem}

-- A line of a possible delivery has six bytes.
pub six : (d : Delivery) → Possible d → delivery_line d ≡ 104 ∷ 32 ∷ (48 + d.replica.0) ∷ 32 ∷ (48 + d.message) ∷ 10 ∷ []
unfolding delivery_line
six d p = rw (one_digit d.replica.0 (omega arith), one_digit d.message (omega arith))

-- The line of a delivery by its number.
pub line_of : (p : ℕ) → p < 8 → 104 ∷ 32 ∷ (49 + p % 4) ∷ 32 ∷ (49 + p / 4) ∷ 10 ∷ [] ≡ delivery_line (delivery_of p)
line_of p h =
    let h_is : 48 + (1 + p % 4) ≡ 49 + p % 4 = omega arith in
    let m_is : 48 + (1 + p / 4) ≡ 49 + p / 4 = omega arith in
    sym (six (delivery_of p) (omega arith) ∙ ap₂ (λ (a b : ℕ). 104 ∷ 32 ∷ a ∷ 32 ∷ b ∷ 10 ∷ []) h_is m_is)

-- 13 bytes of the opening lines, and six for each delivery.
length_text : (k : ℕ) (run : List Delivery) → Legal k run → length (run_text run) ≡ 13 + 6 * k
unfolding run_text opening
length_text k run legal =
    let lines = length_flat delivery_line 6 run (λ d m. ap length (six d (legal.possible d m))) in
    let many = legal.so_many in
    rw lines (omega arith)

length_text_of : (k : ℕ) → length (text_of k) ≡ falling_factorial 8 k * (13 + 6 * k)
unfolding text_of
length_text_of k = length_flat run_text (13 + 6 * k) (runs k) (λ run m. length_text k run (sound k run m)) ∙ ap (λ (n : ℕ). n * (13 + 6 * k)) (how_many_lem k)

pub printed_length : length printed ≡ 74_128
unfolding printed
printed_length =
    length-append (text_of 1 ++ text_of 2 ++ text_of 3) (text_of 4)
    ∙ (ap₂ ◌+◌ (length-append (text_of 1 ++ text_of 2) (text_of 3) ∙ ap₂ ◌+◌ (length-append (text_of 1) (text_of 2) ∙ ap₂ ◌+◌ (length_text_of 1) (length_text_of 2)) (length_text_of 3)) (length_text_of 4))
