-- A message that is written, as the call that document 01 speaks of. Assumes nothing.
use mathlib.Core.Path.{◌≡◌, ◌∙◌}
use mathlib.Core.Bool.{true}
use mathlib.Core.List.{List}
use Prim.Native.Nat.{ℕ, ◌≤◌}
use borrow.Author.Tests.{le-leb}
use lib.Dec.{leb}
use lib.ListN.{length}
use Rattle.std.specs.declared.result.Result.{Result}
use Rattle.std.specs.declared.result.Result.TheVariants.{Ok, Err}
use Rattle.base.specs.Outcome.{accepted}
use Rattle.base.specs.Refusal.{outcome}
use Rattle.base.specs.declared.refusal.Refusal.{Refusal}
use Rattle.base.proofs.Outcome.{guard_passes}
use Rattle.base.proofs.Apart.{apart}
use Rattle.wire.specs.Message.{Message, longest}
use Rattle.wire.specs.Writing.{Wrote, unsigned, in_front}
use Rattle.protocol.specs.Client.{send, turn}
use Rattle.protocol.specs.declared.client.Client.{Client}
use Rattle.client.specs.Leaving.{sent_as, Takes}

-- Into an output that is long enough, for the register of the operation.
module _ (old new : List ℕ) (message : Message) (enough : longest ≤ length old) (next : Client) where
  roomy : leb longest (length old) ≡ true
  roomy = le-leb longest (length old) enough

  pub sends : (written : Result ℕ Refusal) → Wrote old (unsigned next.register message) (outcome written) new → Takes old (turn (send message) next) (sent_as written next) new
  sends (Ok n) w before =
      let bytes = unsigned next.register message in
      let same : new ≡ in_front bytes old = w.holds ∙ rw roomy in
      let size : n ≡ length bytes = let e = w.answered ∙ guard_passes 1 (leb longest (length old)) (accepted (length bytes)) roomy in cc in
      rw (same, size)
  sends (Err refusal) w before = let e = w.answered ∙ guard_passes 1 (leb longest (length old)) (accepted (length (unsigned next.register message))) roomy in apart (cc)
