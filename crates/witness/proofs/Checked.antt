-- A run by its story, where all tests compute to true: it goes as told and meets the premises. Assumes nothing.
use mathlib.Core.Path.{◌≡◌, refl}
use mathlib.Core.Bool.{true}
use mathlib.Core.List.{List}
use Prim.Native.Nat.{ℕ, ◌≤◌}
use Rattle.base.specs.Counting.{count}
use Rattle.base.specs.Range.{within}
use Rattle.run.specs.Premises.{FewFaulty, Premises}
use Rattle.run.specs.Run.{Run}
use Rattle.witness.proofs.Cast.{cards, right_digests_lem, different_cards}
use Rattle.witness.proofs.Computing.{steps, digests}
use Rattle.witness.proofs.Replay.{plays, fresh_store, played}
use Rattle.witness.proofs.Story.{Line, each, well_told, has_bytes, told, Told, NoOtherCards, AllTrue, true_verdicts, new_nonces, premises_told}

-- All that a story's tests compute with.
unfoldable pub tests : Unit {0}
unfolding steps digests has_bytes plays true_verdicts new_nonces cards count within
tests = tt

-- Replicas 1 to r and clients 1 to c are correct.
pub record Checked (r c : ℕ) (story : List Line) : Type 0 where
  pub at_most_four : r ≤ 4
  pub at_most_96 : c ≤ 96
  pub well_told_lem : each (well_told r c) 0 story ≡ true
  pub answers : plays (fresh_store (told r c at_most_four at_most_96 story well_told_lem) c) story ≡ true
  pub few_faulty : FewFaulty (told r c at_most_four at_most_96 story well_told_lem)
  pub verdicts_true : AllTrue (told r c at_most_four at_most_96 story well_told_lem) story
  pub new_nonces_lem : new_nonces story ≡ true
  pub no_other_cards : NoOtherCards (told r c at_most_four at_most_96 story well_told_lem) story cards

abbrev pub run_of : {r c : ℕ} {story : List Line} → Checked r c story → Run
run_of {r} {c} {story} it = told r c it.at_most_four it.at_most_96 story it.well_told_lem

pub goes_as_told : {r c : ℕ} {story : List Line} (it : Checked r c story) → Told (run_of it) story
goes_as_told {r} {c} {story} it = played (run_of it) c story refl it.answers

pub meets_premises : {r c : ℕ} {story : List Line} (it : Checked r c story) → Premises (run_of it)
meets_premises {r} {c} {story} it =
    premises_told (run_of it) story (goes_as_told it) cards it.few_faulty it.verdicts_true it.new_nonces_lem it.no_other_cards right_digests_lem different_cards
