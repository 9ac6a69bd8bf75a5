-- `client::handing::with_handed` meets its contract.
use mathlib.Core.Path.{◌≡◌, ap, ◌∙◌}
use lib.ListN.{length}
use Rattle.base.specs.Bytes.{filled}
use Rattle.base.specs.Timestamp.{of_number}
use Rattle.wire.specs.Layout.{entries_room}
use Rattle.wire.specs.Proof.{entries_bytes, proof_from}
use Rattle.client.proofs.HandedParts.{whole_timestamp, whole_count, whole_entries}
use Rattle.client.proofs.handing.with_handed.Goals as goal

pub returns : goal.returns
returns c =
    let proof = c.args.proof.now in
    let timestamp : c.timestamp.result ≡ of_number (proof_from 0 proof).timestamp = c.timestamp.ensures ∙ whole_timestamp proof c.requires in
    let count : c.entry_count.result ≡ length (proof_from 0 proof).entries = c.entry_count.ensures ∙ whole_count proof c.requires in
    let entries : c.array.result ≡ filled entries_room (entries_bytes (proof_from 0 proof).entries) = c.array.ensures ∙ ap (filled entries_room) (c.entries.ensures ∙ whole_entries proof c.requires) in
    c.with_written_for.ensures ∙ rw (timestamp, count, entries)
