-- Document 02, #101: a viewing client (viewing desk), which only looks: "READ, then q CARDs, then done with the largest stamp, and no
-- write-back". Its record is a client's, and a view begins as a read does (`begin_read`).
use Rattle.std.specs.Prelude.{List, ℕ}
use Rattle.base.specs.ClientSet.{nobody}
use Rattle.base.specs.Outcome.{Outcome, refused, guard, ◌>>=◌}
use Rattle.base.specs.Party.{viewer_setup}
use Rattle.base.specs.declared.party.ClientId.{ClientId}
use Rattle.wire.specs.Acceptance.{admitted}
use Rattle.wire.specs.Message.{Message, READ-STAMP, PREPARE, WRITE, READ, STAMP, PREPARED, WRITTEN, CARD}
use Rattle.wire.specs.declared.message.Party.TheVariants.{Client as AtClient}
use Rattle.protocol.specs.Client.{fresh_client, client_if_set_up, done, Turn, turn, current_card, with_phase, AfterCards, on_card, unawaited, towards, ClientCall, client_answers}
use Rattle.protocol.specs.Parts.{card_stands}
use Rattle.protocol.specs.RegisterReplica.{with_output}
use Rattle.protocol.specs.declared.client.Client.{Client}
use Rattle.protocol.specs.declared.client.Phase.TheVariants.{Idle}

-- 16 as at a client, but for the number: then the record is that of no client.
abbrev pub made_viewer : ℕ → ClientId → ℕ → Client
made_viewer f id first_nonce = client_if_set_up (viewer_setup f id first_nonce) (fresh_client f id first_nonce)

-- "then done with the largest stamp, and no write-back", whichever replicas showed it.
unfoldable pub after_view : AfterCards
after_view best showed client = turn (done best (current_card client) client.signers) (with_phase Idle client)

-- The four replies, once 2 to 11 are passed: CARDs alone are awaited. The other kinds do not get here: 5 refuses them.
unfoldable pub on_viewer_reply : Client → Message → Outcome Turn
on_viewer_reply client (CARD sender nonce card proof addressed) =
    guard 14 (card_stands card proof)
    (on_card after_view client sender nonce card proof addressed client.phase)
on_viewer_reply client (STAMP sender nonce proof addressed) = unawaited
on_viewer_reply client (PREPARED sender timestamp digest) = unawaited
on_viewer_reply client (WRITTEN sender timestamp) = unawaited
on_viewer_reply client (READ-STAMP sender nonce) = refused 5
on_viewer_reply client (PREPARE sender timestamp digest proof last) = refused 5
on_viewer_reply client (WRITE sender card proof) = refused 5
on_viewer_reply client (READ sender nonce) = refused 5

-- A viewing client is handed bytes with verdicts.
unfoldable pub viewer_step : Client → List ℕ → List ℕ → Outcome Turn
viewer_step client bytes verdicts = admitted AtClient client.f nobody bytes verdicts >>= λ sent. on_viewer_reply (towards sent.0 client) sent.1

unfoldable pub viewer_call : Client → List ℕ → List ℕ → List ℕ → ClientCall
viewer_call client bytes verdicts old = client_answers client old (with_output old (viewer_step client bytes verdicts))
