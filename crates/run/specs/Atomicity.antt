-- Atomic reads and writes of a register, in the usual sense (linearizability): one order of all its operations, as if each happened at one moment
-- between its beginning and its end. As usual, a write that was not finished, since it is under way or its client was made again, counts if it
-- took effect. Faulty clients have no events: for each timestamp of theirs that a read shows, a write of theirs is added (BFT-linearizability).
use Rattle.std.specs.Prelude.{◌≡◌, ◌⊎◌, Bool, true, false, List, ℕ, ◌<◌, ◌≤◌}
use Rattle.base.specs.Timestamp.{number}
use Rattle.base.specs.declared.party.RegisterId.{RegisterId}
use Rattle.wire.specs.Acceptance.{client}
use Rattle.protocol.specs.Parts.{start_card}
use Rattle.run.specs.Claims.{Finished, LiesBefore}
use Rattle.run.specs.ReadsFrom.{Write}
use Rattle.run.specs.Run.{Run}

module _ (R : Run) (x : RegisterId) where
  -- A write takes effect if a finished operation shows its timestamp and card, as every finished write does itself. Document 02, #106: a client
  -- that is made again may ask one timestamp twice, with two cards; only one of them can be shown, and the other write is never finished.
  abbrev pub TakesEffect : Write R x → Type 0
  TakesEffect w = (o : Finished R x) × (number o.timestamp ≡ w.timestamp) × (o.card ≡ w.card)

  -- What is put in order: the finished reads, the writes of correct clients that take effect, and for a read that shows a faulty client's
  -- timestamp a write of that client.
  pub data Operation : Type 0 where
    read : (o : Finished R x) → o.is_write_lem ≡ false → Operation
    write : (w : Write R x) → TakesEffect w → Operation
    faulty_write : (o : Finished R x) → o.is_write_lem ≡ false → 1 ≤ number o.timestamp → R.correct_client o.timestamp.client ≡ false → Operation

  abbrev pub is_write : Operation → Bool
  is_write (read o r) = false
  is_write (write w s) = true
  is_write (faulty_write o r p f) = true

  -- The timestamp at which it lies, and the card that it shows or writes.
  abbrev pub placed_at : Operation → ℕ
  placed_at (read o r) = number o.timestamp
  placed_at (write w s) = w.timestamp
  placed_at (faulty_write o r p f) = number o.timestamp

  abbrev pub operation_card : Operation → List ℕ
  operation_card (read o r) = o.card
  operation_card (write w s) = w.card
  operation_card (faulty_write o r p f) = o.card

  -- It begins with event t, and ends with event t. A write that is not finished does not end; a faulty client has no events.
  abbrev pub BeginsAt : Operation → ℕ → Type 0
  BeginsAt (read o r) t = o.begun ≡ t
  BeginsAt (write w s) t = w.begun ≡ t
  BeginsAt (faulty_write o r p f) t = ⊥

  abbrev pub EndsAt : Operation → ℕ → Type 0
  EndsAt (read o r) t = o.finished ≡ t
  EndsAt (write w s) t = (o : Finished R x) × (o.begun ≡ w.begun) × (o.finished ≡ t)
  EndsAt (faulty_write o r p f) t = ⊥

  -- Two that are one operation. Writes at one timestamp are one, of one client with one card, which it may have begun twice: made again in between.
  abbrev pub Same : Operation → Operation → Type 0
  Same (read o r) (read o' r') = o.begun ≡ o'.begun
  Same (read o r) (write w s) = ⊥
  Same (read o r) (faulty_write o' r' p' f') = ⊥
  Same (write w s) (read o r) = ⊥
  Same (write w s) (write w' s') = w.timestamp ≡ w'.timestamp
  Same (write w s) (faulty_write o r p f) = ⊥
  Same (faulty_write o r p f) (read o' r') = ⊥
  Same (faulty_write o r p f) (write w s) = ⊥
  Same (faulty_write o r p f) (faulty_write o' r' p' f') = number o.timestamp ≡ number o'.timestamp

  -- The order of the claims; only of two reads it matters when they finished.
  abbrev pub done_at : Operation → ℕ
  done_at (read o r) = o.finished
  done_at (write w s) = 0
  done_at (faulty_write o r p f) = 0

  abbrev pub Precedes : Operation → Operation → Type 0
  Precedes a b = LiesBefore (placed_at a) (is_write a) (done_at a) (placed_at b) (is_write b) (done_at b)

  -- The last write before an operation.
  pub record LastWrite (w a : Operation) : Type 0 where
    pub is_write_lem : is_write w ≡ true
    pub precedes : Precedes w a
    pub is_last : (w' : Operation) → is_write w' ≡ true → Precedes w' a → Same w' w ⊎ Precedes w' w

  pub record Atomic : Type 0 where
    -- All finished operations are there: reads as they are, and each write,
    pub has_write : (o : Finished R x) → o.is_write_lem ≡ true
        → (w : Write R x) × (w.id ≡ o.id) × (w.begun ≡ o.begun) × (w.timestamp ≡ number o.timestamp) × (w.card ≡ o.card)
    -- two that are one agree,
    pub same : (a b : Operation) → Same a b → (placed_at a ≡ placed_at b) × (operation_card a ≡ operation_card b)
    -- in a total order
    pub irreflexive : (a : Operation) → Precedes a a → ⊥
    pub transitive : (a b c : Operation) → Precedes a b → Precedes b c → Precedes a c
    pub total : (a b : Operation) → Same a b ⊎ (Precedes a b ⊎ Precedes b a)
    -- that extends "ended before the other began",
    pub extends : (a b : Operation) (t t' : ℕ) → EndsAt a t → BeginsAt b t' → t < t' → Precedes a b
    -- in which a read shows the card of the last write before it,
    pub reads_last : (o : Finished R x) (r : o.is_write_lem ≡ false) → 1 ≤ number o.timestamp → (w : Operation) × LastWrite w (read o r) × (operation_card w ≡ o.card)
    -- or the starting card where no write lies before it.
    pub reads_start : (o : Finished R x) (r : o.is_write_lem ≡ false) → number o.timestamp ≡ 0
        → (o.card ≡ start_card) × ((w : Operation) → is_write w ≡ true → Precedes w (read o r) → ⊥)
