-- What bars a beginning: tests 1, 20, 14 of the card, which the caller looked at, and 17.
use Rattle.std.specs.Prelude.{ℕ, leb}
use Rattle.base.specs.Outcome.{Outcome, accepted, guard, ◌>>=◌}
use Rattle.base.specs.Party.{is_register}
use Rattle.base.specs.declared.party.RegisterId.{RegisterId}
use Rattle.wire.specs.Message.{longest}
use Rattle.protocol.specs.Client.{may_begin}
use Rattle.protocol.specs.declared.client.Client.{Client}

-- The first of these that refuses, with room for so many bytes.
abbrev pub barred_by : Client → ℕ → RegisterId → Outcome (Unit {0}) → Outcome (Unit {0})
barred_by client room register card =
    guard 1 (leb longest room)
    (guard 20 (is_register register)
    (card >>= λ good.
    guard 17 (may_begin client)
    (accepted tt)))
