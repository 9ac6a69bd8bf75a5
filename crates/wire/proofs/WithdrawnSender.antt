-- 23 in its place: what becomes of a message that passes 2 to 7. Assumes nothing.
use Rattle.std.proofs.Common.{◌≡◌, ℕ, true, false, List}
use Rattle.base.specs.Outcome.{accepted, refused, guard}
use Rattle.base.specs.Party.{is_register}
use Rattle.base.specs.declared.client_set.ClientSet.{ClientSet}
use Rattle.base.specs.declared.party.RegisterId.{RegisterId}
use Rattle.wire.specs.Acceptance.{sender_of, in_its_range, may_send, is_served, admits, admitted}
use Rattle.wire.specs.Checks.{one_verdict_each, own_genuine, checked}
use Rattle.wire.specs.Decode.{for_register, decode}
use Rattle.wire.specs.Message.{Message, kind_of}
use Rattle.wire.specs.declared.message.Party.{Party}

module _ (party : Party) (f : ℕ) (withdrawn : ClientSet) (bytes verdicts : List ℕ) (register : RegisterId) (message : Message)
    (decoded : decode party bytes ≡ accepted (for_register register message)) (ranged : in_its_range f (sender_of message) ≡ true)
    (may : may_send (kind_of message) (sender_of message) ≡ true) (registered : is_register register ≡ true) (each : one_verdict_each message verdicts ≡ true) where
  -- One that 8 refuses is refused with 8, whoever is withdrawn,
  pub forged_refused : own_genuine verdicts ≡ false → admitted party f withdrawn bytes verdicts ≡ refused 8
  unfolding admitted admits checked guard
  forged_refused own = rw (decoded, ranged, may, registered, each, own)

  -- and any other with 23 where its sender is withdrawn, whatever its kind and its proofs.
  pub withdrawn_refused : own_genuine verdicts ≡ true → is_served withdrawn (sender_of message) ≡ false → admitted party f withdrawn bytes verdicts ≡ refused 23
  unfolding admitted admits checked guard
  withdrawn_refused own gone = rw (decoded, ranged, may, registered, each, own, gone)
