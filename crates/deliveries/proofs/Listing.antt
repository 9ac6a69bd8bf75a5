-- The runs put one after another: whoever puts those that are left has put all. Assumes nothing.
use mathlib.Core.Path.{◌≡◌, refl, ap, ◌∙◌}
use mathlib.Core.List.{List, [], ◌++◌, flat_map}
use Prim.Native.Nat.{ℕ, ◌+◌, ◌≤◌, ◌<◌}
use native.Mathlib.Numerals.{add-one}
use native.Mathlib.Omega.{arith}
use lib.ListN.{length, drop}
use lib.Seq.{drop-cons, drop-length}
use Rattle.text.specs.Put.{Puts}
use Rattle.text.proofs.Putting.{then, nothing, same_bytes, written_length_lem}
use Rattle.deliveries.specs.ShortRuns.{runs, run_at, run_text, text_of}

-- The first i runs with k deliveries have been put.
pub record Listing (old : List ℕ) (at k : ℕ) (new : List ℕ) (next i : ℕ) : Type 0 where
  pub count : i ≤ length (runs k)
  pub long : length new ≡ length old
  pub all : (end : ℕ) (final : List ℕ) → Puts new next (flat_map run_text (drop i (runs k))) end final → Puts old at (text_of k) end final

pub none_listed : (old : List ℕ) (at k : ℕ) → Listing old at k old at 0
unfolding text_of
none_listed old at k = record { count = omega arith; long = refl; all = λ end final p. p }

module _ {old : List ℕ} {at k : ℕ} {new : List ℕ} {next i : ℕ} (g : Listing old at k new next i) where
  pub next_listed : {new' : List ℕ} {next' : ℕ} → i < length (runs k) → Puts new next (run_text (run_at k i)) next' new' → Listing old at k new' next' (i + 1)
  unfolding flat_map
  next_listed h put =
      let more : run_text (run_at k i) ++ flat_map run_text (drop (i + 1) (runs k)) ≡ flat_map run_text (drop i (runs k)) = rw (drop-cons (runs k) i [] h, add-one) in
      record {
        count = omega arith;
        long = ap length put.is ∙ (written_length_lem new next (run_text (run_at k i)) ∙ g.long);
        all = λ end final p. g.all end final (same_bytes more (then put p));
      }

  pub all_listed : length (runs k) ≤ i → Puts old at (text_of k) next new
  unfolding flat_map
  all_listed past =
      let c = g.count in
      let e : i ≡ length (runs k) = omega arith in
      g.all next new (rw (e, drop-length (runs k)) (nothing new next))
