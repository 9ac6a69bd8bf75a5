-- All runs in front of an output, or none. Assumes nothing.
use mathlib.Core.Path.{ap}
use mathlib.Core.List.{List}
use Prim.Native.Nat.{ℕ, ◌≤◌, ◌<◌}
use native.Mathlib.Omega.{arith}
use borrow.Author.Tests.{le-leb, lt-leb}
use lib.ListN.{length}
use Rattle.text.specs.Put.{Puts}
use Rattle.text.proofs.Putting.{put_all}
use Rattle.deliveries.specs.ShortRuns.{printed}
use Rattle.deliveries.specs.Writing.{WritesAll}
use Rattle.std.specs.declared.option.Option.TheVariants.{None, Some}
use Rattle.deliveries.proofs.Texts.{printed_length}

module _ (old : List ℕ) where
  pub too_short : length old < 74_128 → WritesAll old None old
  too_short h = let long = printed_length in let short = lt-leb (length printed) (length old) (omega arith) in record { answered = rw short; holds = rw short }

  pub whole : {end : ℕ} {new : List ℕ} → 74_128 ≤ length old → Puts old 0 printed end new → WritesAll old (Some end) new
  whole h put =
      let long = printed_length in
      let room : length printed ≤ length old = omega arith in
      let all = put_all room put in
      let fits = le-leb (length printed) (length old) room in
      record { answered = rw fits (ap Some all.0); holds = rw fits all.1 }
