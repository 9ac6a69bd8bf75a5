-- Replies and refusals as a call leaves them. Assumes nothing.
use mathlib.Core.Path.{◌≡◌, refl, sym, ap, ◌∙◌}
use mathlib.Core.Bool.{Bool, true, false, ◌&&◌, ◌||◌}
use mathlib.Core.List.{List}
use Prim.Native.Nat.{ℕ, ◌≤◌, ◌<◌}
use borrow.Author.Tests.{le-leb}
use lib.Dec.{eqb, leb, ltb}
use lib.ListN.{length}
use Rattle.std.specs.declared.result.Result.{Result}
use Rattle.std.specs.declared.result.Result.TheVariants.{Err}
use Rattle.base.specs.Outcome.{Outcome, accepted, refused, guard}
use Rattle.base.specs.Refusal.{number_of, outcome}
use Rattle.base.specs.Timestamp.{number, of_number, successor}
use Rattle.base.specs.declared.party.ClientId.{ClientId}
use Rattle.base.specs.declared.party.RegisterId.{RegisterId}
use Rattle.base.specs.declared.refusal.Refusal.{Refusal}
use Rattle.base.specs.declared.timestamp.Timestamp.{Timestamp}
use Rattle.base.proofs.Outcome.{guard_passes}
use Rattle.wire.specs.Card.{stands_under}
use Rattle.wire.specs.Layout.{card_room}
use Rattle.wire.specs.Message.{Message, PREPARED, WRITTEN, longest}
use Rattle.wire.specs.Parts.{Whole, digest_part, timestamp_part}
use Rattle.wire.specs.Proof.{prepared_from}
use Rattle.wire.specs.Writing.{Wrote, unsigned}
use Rattle.protocol.specs.RegisterReplica.{held_timestamp, Reply, answering, is_timestamp, raised, slot_is, slot_takes, with_written, with_slot, with_slots, holding, with_held, after_write, on_prepare, on_write, register_answers}
use Rattle.wire.proofs.MessageParts.{by_parts}
use Rattle.wire.proofs.card.Digests.{standing_under_short}
use Rattle.protocol.specs.declared.replica.Held.{Held}
use Rattle.protocol.specs.declared.replica.RegisterReplica.{RegisterReplica}
use Rattle.protocol.specs.declared.replica.Slots.{Slots}
use Rattle.register_replica.specs.Leaving.{keeping, Leaves}
use Rattle.register_replica.specs.Stepping.{Changes}
use Rattle.register_replica.specs.declared.Stepped.{Stepped}
use Rattle.register_replica.proofs.Slots.{admitted, not_admitted, kept}

-- A message that was written, for some register, into an output that is long enough.
pub sends : (register : RegisterId) (replica : RegisterReplica) (old new : List ℕ) (reply : Outcome Reply) (message : Message) (next : RegisterReplica) (stepped : Stepped)
    → reply ≡ answering message next → longest ≤ length old → Wrote old (unsigned register message) (outcome stepped.answer) new
    → stepped.replica ≡ next → Changes replica stepped → Leaves replica (register_answers register replica old reply) stepped new
sends register replica old new reply message next stepped o enough wrote same changes =
    let roomy = le-leb longest (length old) enough in
    rw o
    (record {
      answer = wrote.answered ∙ guard_passes 1 (leb longest (length old)) (accepted (length (unsigned register message))) roomy;
      next = same;
      output = wrote.holds ∙ rw roomy;
      changes = changes;
    })

pub sends_keeping : (register : RegisterId) (replica : RegisterReplica) (old new : List ℕ) (reply : Outcome Reply) (message : Message) (next : RegisterReplica) (answer : Result ℕ Refusal) (stepped : Stepped)
    → reply ≡ answering message next → longest ≤ length old → Wrote old (unsigned register message) (outcome answer) new
    → replica ≡ next → stepped ≡ keeping answer replica → Leaves replica (register_answers register replica old reply) stepped new
sends_keeping register replica old new reply message next answer stepped o enough wrote same s =
    rw s (sends register replica old new reply message next (keeping answer replica) o enough wrote same (record { only = refl }))

-- A refusal: its number alone.
pub refuses : (register : RegisterId) (replica : RegisterReplica) (old : List ℕ) (reply : Outcome Reply) (refusal : Refusal) (stepped : Stepped)
    → reply ≡ refused (number_of refusal) → stepped ≡ keeping (Err refusal) replica → Leaves replica (register_answers register replica old reply) stepped old
refuses register replica old reply refusal stepped e s = rw (e, s) (record { answer = refl; next = refl; output = refl; changes = record { only = refl } })

-- PREPARE, test by test.
module _ (replica : RegisterReplica) (client : ClientId) (timestamp : Timestamp) (digest : List ℕ) (shown last : ℕ)
    {follows : Bool} (asked : follows ≡ is_timestamp (number timestamp) (successor (of_number shown) client)) where
  abbrev slots : Slots
  slots = replica.register.slots

  pub not_successor : follows ≡ false → on_prepare replica client (number timestamp) digest shown last ≡ refused 13
  unfolding guard
  not_successor e = rw (← asked, e)

  module _ (right : follows ≡ true) (first : 1 ≤ client.0) (small : client.0 < 256) (written : Timestamp) (raises : number written ≡ raised last slots)
      {again admits : Bool} (is : again ≡ slot_is client (number timestamp) digest slots) (e : admits ≡ (again || slot_takes client (number timestamp) (number written) slots)) where
    abbrev after : Slots
    after = with_written (raised last slots) (with_slot client (number timestamp) digest slots)

    asks : admits ≡ (slot_is client (number timestamp) digest slots || slot_takes client (number timestamp) (raised last slots) slots)
    asks = rw (← is, ← raises) e

    pub not_taken : admits ≡ false → on_prepare replica client (number timestamp) digest shown last ≡ refused 15
    unfolding guard
    not_taken t = rw (← asked, right, not_admitted client (number timestamp) digest slots first small last (sym asks ∙ t))

    pub is_taken : admits ≡ true → on_prepare replica client (number timestamp) digest shown last ≡ answering (PREPARED replica.id (number timestamp) digest) (with_slots replica after)
    unfolding guard
    is_taken t = rw (← asked, right, admitted client (number timestamp) digest slots first small last (sym asks ∙ t))

    pub stays : slots.written.client.0 < 256 → {keeps : Bool} → keeps ≡ (eqb (number slots.written) (number written) && again) → keeps ≡ true → replica ≡ with_slots replica after
    stays fits k t =
        let both : (eqb (number slots.written) (raised last slots) && slot_is client (number timestamp) digest slots) ≡ true = rw (← is, ← raises) (sym k ∙ t) in
        ap (with_slots replica) (kept client (number timestamp) digest slots first small last fits both)

-- WRITE, test by test, from the parts of the prepared proof's bytes.
module _ (replica : RegisterReplica) (card proof : List ℕ) (whole : Whole 32 proof) where
  abbrev held : Held
  held = replica.register.held

  module _ {stands : Bool} {digest : List ℕ} (e : stands ≡ stands_under card digest) (d : digest ≡ digest_part 32 proof) where
    asked : stands_under card (prepared_from proof).digest ≡ stands
    asked = ap (stands_under card) ((by_parts proof whole).digest ∙ sym d) ∙ sym e

    pub wrong_card : stands ≡ false → on_write replica card (prepared_from proof) ≡ refused 14
    unfolding guard
    wrong_card t = rw (asked, t)

    pub right_card : stands ≡ true → {timestamp : Timestamp} → timestamp ≡ timestamp_part proof
        → on_write replica card (prepared_from proof) ≡ answering (WRITTEN replica.id (number timestamp)) (with_held replica (after_write card (prepared_from proof) held))
    unfolding guard
    right_card t shown = rw (asked, t, shown, ← (by_parts proof whole).timestamp)

    pub is_short : stands ≡ true → length card ≤ card_room
    is_short t = standing_under_short card (prepared_from proof).digest (asked ∙ t)

  module _ {later : Bool} {timestamp : Timestamp} (e : later ≡ ltb (number held.timestamp) (number timestamp)) (shown : timestamp ≡ timestamp_part proof) where
    compared : ltb (held_timestamp held) (prepared_from proof).timestamp ≡ later
    compared = ap (ltb (held_timestamp held)) ((by_parts proof whole).timestamp ∙ ap number (sym shown)) ∙ sym e

    pub not_later : later ≡ false → replica ≡ with_held replica (after_write card (prepared_from proof) held)
    unfolding after_write
    not_later t = rw (compared, t)

    pub is_later : later ≡ true → holding card (prepared_from proof) ≡ after_write card (prepared_from proof) held
    unfolding after_write
    is_later t = rw (compared, t)
