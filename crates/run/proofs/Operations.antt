-- An operation from its beginning to its end: what holds in each phase. Assumes nothing.
use mathlib.Core.Path.{◌≡◌, refl, sym, ap, subst, subst₂, ◌∙◌}
use mathlib.Core.Logic.{◌⊎◌, inl, inr, ⊎_elim}
use mathlib.Core.Bool.{Bool, true, false, cond}
use mathlib.Core.List.{List}
use mathlib.Core.Option.{Option, none, some}
use Prim.Native.Nat.{ℕ, suc, ◌%◌, ◌≤◌, ◌<◌}
use native.Mathlib.Omega.{arith}
use borrow.Author.Tests.{eqb-true, leb-true, lt-leb}
use lib.Dec.{eqb, ltb}
use Rattle.std.specs.declared.option.Option.TheVariants.{Some}
use Rattle.base.specs.Counting.{count, replica as numbered}
use Rattle.base.specs.Outcome.{accepted}
use Rattle.base.specs.Party.{replica_count, quorum_size, is_writer}
use Rattle.base.specs.ReplicaSet.{empty, has, with, is_quorum}
use Rattle.base.specs.Same.{same}
use Rattle.base.specs.Timestamp.{number, of_number, successor}
use Rattle.base.specs.declared.party.ClientId.{ClientId}
use Rattle.base.specs.declared.party.RegisterId.{RegisterId}
use Rattle.base.specs.declared.party.ReplicaId.{ReplicaId}
use Rattle.base.specs.declared.replica_set.ReplicaSet.{ReplicaSet}
use Rattle.base.specs.declared.timestamp.Timestamp.{Timestamp}
use Rattle.base.proofs.Apart.{apart}
use Rattle.base.proofs.Booleans.{and_true_both, or_true}
use Rattle.base.proofs.Counting.{or_is, count_agree, count_none}
use Rattle.base.proofs.ReplicaSet.{has_with, has_empty}
use Rattle.base.proofs.Same.{same_equal}
use Rattle.base.proofs.Timestamps.{successor_number}
use Rattle.wire.specs.Card.{is_card}
use Rattle.wire.specs.Layout.{signature}
use Rattle.wire.specs.Message.{Message, READ-STAMP, READ, STAMP, PREPARED, WRITTEN, CARD}
use Rattle.wire.specs.Proof.{PreparedProof, signer_set}
use Rattle.wire.specs.Sha256.{sha256}
use Rattle.protocol.specs.Client.{Answer, send, waits, done, ended, Turn, current_card, best_of, showed_by}
use Rattle.protocol.specs.Parts.{start_card, card_stands}
use Rattle.protocol.specs.declared.client.Client.{Client}
use Rattle.protocol.specs.declared.client.Phase.{Phase}
use Rattle.protocol.specs.declared.client.Phase.TheVariants.{Idle, Stamps, Prepareds, Writtens, Cards, WriteBack}
use Rattle.protocol.proofs.Built.{Built}
use Rattle.protocol.proofs.ClientArrays.{best_least}
use Rattle.protocol.proofs.Fit.{TimestampFits}
use Rattle.wire.proofs.Tests7To11.{Passed, issued_positive}
use Rattle.protocol.proofs.ClientCases.{Leaves, better_card, better_signers, PhaseFits, ClientCase, stamp_counted, stamps_enough, stamps_ended, prepared_counted, prepareds_enough, written_counted, writtens_enough, card_counted, cards_agree, cards_viewed, cards_differ, back_counted, back_enough}
use Rattle.run.specs.Claims.{NotDone}
use Rattle.run.specs.Premises.{CardOfRun, Premises, Asks, for_stamps, for_cards}
use Rattle.wire.specs.Acceptance.{sender_of, replica}
use Rattle.run.specs.Run.{Run, held, client_at, answer_at, Correct, Said, makes, event}
use Rattle.run.proofs.Turns.{same_replica, correct_replica_range, correct_client_range, GoodClient, good_client, ClientStep, Heard}
use Rattle.run.proofs.SentMessages.{said_later, heard_said}
use Rattle.run.proofs.Slots.{Backed, quorum_later, shaped_quorum, meet, card_backed}
use Rattle.run.proofs.Held.{held_rises, written_held, Showed, stamp_showed, card_showed}
use Rattle.run.proofs.Nonces.{asked_since}
use Rattle.run.proofs.Stages.{prepared_for}
use Rattle.wire.specs.Parts.{prepared_timestamp, prepared_signers}

-- ---- The best of the replies

pub best_fits : (best : Timestamp) (proof : Option PreparedProof) → best.client.0 < 256 → (best_of best proof).client.0 < 256
best_fits best proof h = go (ltb (number best) (prepared_timestamp proof))
  where
    go : (b : Bool) → (cond b (of_number (prepared_timestamp proof)) best).client.0 < 256
    go true = omega arith
    go false = h

abbrev is_done : Answer → Bool
is_done (send message) = false
is_done waits = false
is_done (done timestamp card signers) = true
is_done ended = false

carried_fits : {timestamp : Timestamp} → TimestampFits timestamp → timestamp.client.0 < 256
carried_fits fits = fits.1

-- Nobody is in the empty set.
pub none_in : {A : Type 0} (id : ReplicaId) → has empty id ≡ true → A
none_in id h = let no_one = has_empty id in apart (cc)

-- So it is no quorum.
pub empty_few : (f : ℕ) → is_quorum f empty ≡ false
empty_few f =
    let none = count_agree (replica_count f) (has empty) (λ (i : ReplicaId). false) (λ i low high. has_empty (numbered i)) ∙ count_none (replica_count f) in
    lt-leb (quorum_size f) (count (replica_count f) (has empty)) (omega arith)

module _ (R : Run) (x : RegisterId) where
  -- What is true of each correct member of a set.
  abbrev pub Each : ReplicaSet → (ReplicaId → Type 0) → Type 0
  Each set Q = (id : ReplicaId) → has set id ≡ true → R.correct_replica id ≡ true → Q id

  -- One more member: the new one, or an old one.
  more : (Q : ReplicaId → Type 0) (sender : ReplicaId) (set : ReplicaSet) → (R.correct_replica sender ≡ true → Q sender) → Each set Q → Each (with set sender) Q
  more Q sender set new old id member c =
      let range = correct_replica_range R id c in
      let one_of : or_is sender (has set) id ≡ true = sym (has_with set sender id.0 range.0 (omega arith)) ∙ member in
      ⊎_elim
      (λ e. let is : sender ≡ id = same_replica sender id (sym (eqb-true id.0 sender.0 e)) in subst (λ (i : ReplicaId). R.correct_replica i ≡ true → Q i) is new c)
      (λ e. old id e c)
      (or_true (eqb id.0 sender.0) (has set id) one_of)

  -- A quorum whose correct members hold s or more before event t.
  pub record Settled (t s : ℕ) : Type 0 where
    pub who : ReplicaId → Bool
    pub enough : quorum_size R.f ≤ count (replica_count R.f) who
    pub hold : (id : ReplicaId) → who id ≡ true → R.correct_replica id ≡ true → s ≤ held R x id t

  pub settled_later : (t t' s : ℕ) → t ≤ t' → Settled t s → Settled t' s
  settled_later t t' s l a = record {
    who = a.who;
    enough = a.enough;
    hold = λ id k c. let then = a.hold id k c in let rose = held_rises R x id c t t' l in omega arith;
  }

  -- What a timestamp is shown with: the starting card and nobody, or a card of the run whose digest these replicas back.
  pub record Vouched (t s : ℕ) (card : List ℕ) (signers : ReplicaSet) : Type 0 where
    pub positive : 1 ≤ s
    pub backed : Backed R x t s (sha256 card) signers
    pub card_in_lem : CardOfRun R card

  abbrev pub Shown : ℕ → ℕ → List ℕ → ReplicaSet → Type 0
  Shown t s card signers = ((s ≡ 0) × (card ≡ start_card) × (signers ≡ empty)) ⊎ Vouched t s card signers

  pub shown_later : (t t' s : ℕ) (card : List ℕ) (signers : ReplicaSet) → t ≤ t' → Shown t s card signers → Shown t' s card signers
  shown_later t t' s card signers l (inl e) = inl e
  shown_later t t' s card signers l (inr v) = inr (record { positive = v.positive; backed = quorum_later R x t t' _ signers l v.backed; card_in_lem = v.card_in_lem })

  -- ---- The phases of a write of a card to the register, begun by a client at t₀

  abbrev pub Holds : ReplicaSet → ℕ → ℕ → Type 0
  Holds set s t = Each set (λ id. s ≤ held R x id t)

  pub holds_later : (set : ReplicaSet) (s t : ℕ) → Holds set s t → Holds set s (suc t)
  holds_later set s t h id k c = let then = h id k c in let rose = held_rises R x id c t (suc t) (omega arith) in omega arith

  -- The timestamp of a write: above all that was settled at t₀, and the client's own.
  pub record Chosen (id : ClientId) (t₀ s : ℕ) : Type 0 where
    pub positive : 1 ≤ s
    pub own : s % 256 ≡ id.0
    pub above : (s' : ℕ) → Settled t₀ s' → s' < s

  pub record Stamping (id : ClientId) (card : List ℕ) (t₀ : ℕ) (now : Client) (nonce best : ℕ) (counted : ReplicaSet) : Type 0 where
    pub card_is : current_card now ≡ card
    pub new : (client_at R id t₀).last_nonce < nonce
    pub seen : Each counted (λ r. held R x r t₀ ≤ best)

  pub record Preparing (id : ClientId) (card : List ℕ) (t₀ t : ℕ) (now : Client) (s : ℕ) (counted : ReplicaSet) : Type 0 where
    pub card_is : current_card now ≡ card
    pub digest_is : now.digest ≡ sha256 card
    pub chosen : Chosen id t₀ s
    -- So that the reply that makes a quorum makes one of exactly q.
    pub fewer : is_quorum R.f counted ≡ false
    pub signed : Each counted (λ r. Said R x (replica r) (PREPARED r s (sha256 card)) t)

  pub record Writing (id : ClientId) (card : List ℕ) (t₀ t : ℕ) (now : Client) (s : ℕ) (counted : ReplicaSet) : Type 0 where
    pub card_is : current_card now ≡ card
    pub chosen : Chosen id t₀ s
    pub backed : Backed R x t s (sha256 card) now.signers
    pub stored : Holds counted s t

  abbrev pub WriteIn : ClientId → List ℕ → ℕ → ℕ → Client → Phase → Type 0
  WriteIn id card t₀ t now Idle = ⊥
  WriteIn id card t₀ t now (Stamps nonce best counted) = Stamping id card t₀ now nonce (number best) counted
  WriteIn id card t₀ t now (Prepareds timestamp counted) = Preparing id card t₀ t now (number timestamp) counted
  WriteIn id card t₀ t now (Writtens timestamp counted) = Writing id card t₀ t now (number timestamp) counted
  WriteIn id card t₀ t now (Cards nonce best counted showed) = ⊥
  WriteIn id card t₀ t now (WriteBack timestamp counted) = ⊥

  write_later : (id : ClientId) (card : List ℕ) (t₀ t : ℕ) (now : Client) (phase : Phase) → WriteIn id card t₀ t now phase → WriteIn id card t₀ (suc t) now phase
  write_later id card t₀ t now Idle it = it
  write_later id card t₀ t now (Stamps nonce best counted) it = it
  write_later id card t₀ t now (Prepareds timestamp counted) it = record {
    card_is = it.card_is;
    digest_is = it.digest_is;
    chosen = it.chosen;
    fewer = it.fewer;
    signed = λ r k c. said_later R x (replica r) (PREPARED r (number timestamp) (sha256 card)) t (suc t) (omega arith) (it.signed r k c);
  }
  write_later id card t₀ t now (Writtens timestamp counted) it = record {
    card_is = it.card_is;
    chosen = it.chosen;
    backed = quorum_later R x t (suc t) _ now.signers (omega arith) it.backed;
    stored = holds_later counted (number timestamp) t it.stored;
  }
  write_later id card t₀ t now (Cards nonce best counted showed) it = it
  write_later id card t₀ t now (WriteBack timestamp counted) it = it

  -- ---- The phases of a read

  pub record Reading (id : ClientId) (t₀ t : ℕ) (now : Client) (nonce best : ℕ) (counted showed : ReplicaSet) : Type 0 where
    pub new : (client_at R id t₀).last_nonce < nonce
    pub seen : Each counted (λ r. held R x r t₀ ≤ best)
    pub shown_by : Holds showed best t
    pub is_shown : Shown t best (current_card now) now.signers

  pub record WritingBack (t₀ t : ℕ) (now : Client) (s : ℕ) (counted : ReplicaSet) : Type 0 where
    pub above : (s' : ℕ) → Settled t₀ s' → s' ≤ s
    pub stored : Holds counted s t
    pub is_shown : Shown t s (current_card now) now.signers

  abbrev pub ReadIn : ClientId → ℕ → ℕ → Client → Phase → Type 0
  ReadIn id t₀ t now Idle = ⊥
  ReadIn id t₀ t now (Stamps nonce best counted) = ⊥
  ReadIn id t₀ t now (Prepareds timestamp counted) = ⊥
  ReadIn id t₀ t now (Writtens timestamp counted) = ⊥
  ReadIn id t₀ t now (Cards nonce best counted showed) = Reading id t₀ t now nonce (number best) counted showed
  ReadIn id t₀ t now (WriteBack timestamp counted) = WritingBack t₀ t now (number timestamp) counted

  read_later : (id : ClientId) (t₀ t : ℕ) (now : Client) (phase : Phase) → ReadIn id t₀ t now phase → ReadIn id t₀ (suc t) now phase
  read_later id t₀ t now Idle it = it
  read_later id t₀ t now (Stamps nonce best counted) it = it
  read_later id t₀ t now (Prepareds timestamp counted) it = it
  read_later id t₀ t now (Writtens timestamp counted) it = it
  read_later id t₀ t now (Cards nonce best counted showed) it = record {
    new = it.new;
    seen = it.seen;
    shown_by = holds_later showed (number best) t it.shown_by;
    is_shown = shown_later t (suc t) (number best) (current_card now) now.signers (omega arith) it.is_shown;
  }
  read_later id t₀ t now (WriteBack timestamp counted) it = record {
    above = it.above;
    stored = holds_later counted (number timestamp) t it.stored;
    is_shown = shown_later t (suc t) (number timestamp) (current_card now) now.signers (omega arith) it.is_shown;
  }

  -- ---- Both kinds of operation; true for a write

  abbrev PhaseIn : Bool → ClientId → List ℕ → ℕ → ℕ → Client → Phase → Type 0
  PhaseIn true id card t₀ t now phase = WriteIn id card t₀ t now phase
  PhaseIn false id card t₀ t now phase = ReadIn id t₀ t now phase

  -- An operation's register is fixed from its beginning to its end.
  abbrev pub During : Bool → ClientId → List ℕ → ℕ → ℕ → Client → Phase → Type 0
  During w id card t₀ t now phase = (now.register ≡ x) × PhaseIn w id card t₀ t now phase

  pub during_later : (w : Bool) (id : ClientId) (card : List ℕ) (t₀ t : ℕ) (now : Client) (phase : Phase) → During w id card t₀ t now phase → During w id card t₀ (suc t) now phase
  during_later true id card t₀ t now phase (is, it) = (is, write_later id card t₀ t now phase it)
  during_later false id card t₀ t now phase (is, it) = (is, read_later id t₀ t now phase it)

  pub not_idle : {A : Type 0} (w : Bool) (id : ClientId) (card : List ℕ) (t₀ t : ℕ) (now : Client) → During w id card t₀ t now Idle → A
  not_idle true id card t₀ t now (is, it) = absurd it
  not_idle false id card t₀ t now (is, it) = absurd it

  -- The record after event t, from what the step leaves.
  pub moved : (w : Bool) (id : ClientId) (card : List ℕ) (t₀ t : ℕ) (turn : Turn) (phase : Phase) → ClientStep R id t turn → turn.next.phase ≡ phase
      → During w id card t₀ (suc t) turn.next phase → During w id card t₀ (suc t) (client_at R id (suc t)) (client_at R id (suc t)).phase
  moved w id card t₀ t turn phase step e it =
      subst (λ (after : Client). During w id card t₀ (suc t) after after.phase) (sym step.next_is) (subst (During w id card t₀ (suc t) turn.next) (sym e) it)

  -- Strict for a write.
  abbrev pub Above : Bool → ℕ → ℕ → Type 0
  Above true t₀ s = (s' : ℕ) → Settled t₀ s' → s' < s
  Above false t₀ s = (s' : ℕ) → Settled t₀ s' → s' ≤ s

  -- An operation of a client at its done, with timestamp, card and signers.
  pub record AtDone (w : Bool) (id : ClientId) (begun : List ℕ) (t₀ t : ℕ) (timestamp : Timestamp) (card : List ℕ) (signers : ReplicaSet) : Type 0 where
    pub fits : timestamp.client.0 < 256
    pub own : w ≡ true → (number timestamp % 256 ≡ id.0) × (card ≡ begun)
    pub settled : is_writer id ≡ true → Settled t (number timestamp)
    pub above : Above w t₀ (number timestamp)
    pub is_shown : Shown t (number timestamp) card signers

  -- Event t at the client while its operation is under way.
  pub data Next (w : Bool) (id : ClientId) (card : List ℕ) (t₀ t : ℕ) : Type 0 where
    goes_on : During w id card t₀ (suc t) (client_at R id (suc t)) (client_at R id (suc t)).phase
        → NotDone R t → Next w id card t₀ t
    -- A write had this timestamp.
    finishes : (timestamp : Timestamp) (shown : List ℕ) (signers : ReplicaSet) → answer_at R t ≡ accepted (done timestamp shown signers)
        → (w ≡ true → prepared_for (client_at R id t).phase ≡ some (number timestamp)) → AtDone w id card t₀ (suc t) timestamp shown signers → Next w id card t₀ t
    stops : w ≡ true → answer_at R t ≡ accepted ended → Next w id card t₀ t
    -- The client is made again.
    breaks_off : (nonce : ℕ) → event R t ≡ some (makes id nonce) → answer_at R t ≡ accepted waits → Next w id card t₀ t

  module _ (P : Premises R) (id : ClientId) (correct : R.correct_client id ≡ true) (t₀ t : ℕ) (register_is : (client_at R id t).register ≡ x) where
    abbrev now : Client
    now = client_at R id t

    -- What the client takes was said for the register of its operation.
    heard_for : (h : Heard R id t) (m : Message) → h.message ≡ m → Correct R (sender_of m) → Said R x (sender_of m) m t
    heard_for h m e c = subst (λ (y : RegisterId). Said R y (sender_of m) m t) register_is (heard_said R P id t h m e c)

    good : GoodClient R id now
    good = good_client R id correct t

    -- A quorum that answered since t₀, none with more than m: what was settled at t₀ is at most m.
    below : (m : ℕ) (counted : ReplicaSet) → quorum_size R.f ≤ count (replica_count R.f) (has counted) → Each counted (λ r. held R x r t₀ ≤ m) → (s : ℕ) → Settled t₀ s → s ≤ m
    below m counted enough seen s a =
        let c = meet R P.few_faulty (has counted) a.who enough a.enough in
        let low = seen c.at c.in_p c.in_r in
        let high = a.hold c.at c.in_q c.in_r in
        omega arith

    quorum : (counted : ReplicaSet) → is_quorum now.f counted ≡ true → quorum_size R.f ≤ count (replica_count R.f) (has counted)
    quorum counted q =
        let at_run : is_quorum R.f counted ≡ true = subst (λ (f : ℕ). is_quorum f counted ≡ true) good.f_is q in
        leb-true (quorum_size R.f) (count (replica_count R.f) (has counted)) at_run

    -- What a reply shows lies between what its replica held at t₀ and what it holds now.
    within_time : (sender : ReplicaId) → R.correct_replica sender ≡ true → (question : Message) (nonce shown : ℕ) → Asks id nonce question → (client_at R id t₀).last_nonce < nonce
        → Showed R x sender t question id shown → (held R x sender t₀ ≤ shown) × (shown ≤ held R x sender t)
    within_time sender c question nonce shown a new w =
        let since : t₀ ≤ w.asked.time = asked_since R id correct P t₀ w.time nonce x question a new w.asked in
        let asked_before = w.asked.earlier in
        let shown_before = w.earlier in
        let shows = w.shows in
        let from = held_rises R x sender c t₀ w.time (omega arith) in
        let to = held_rises R x sender c w.time t (omega arith) in
        (omega arith, omega arith)

    module _ (h : Heard R id t) (sender : ReplicaId) (nonce : ℕ) (proof : Option PreparedProof) (new : (client_at R id t₀).last_nonce < nonce) (c : R.correct_replica sender ≡ true) where
      stamp_within : h.message ≡ STAMP sender nonce proof now.id → (held R x sender t₀ ≤ prepared_timestamp proof) × (prepared_timestamp proof ≤ held R x sender t)
      stamp_within e =
          let is : h.message ≡ STAMP sender nonce proof id = e ∙ ap (STAMP sender nonce proof) good.id_is in
          within_time sender c (READ-STAMP id nonce) nonce (prepared_timestamp proof) (for_stamps refl) new
          (stamp_showed R x P sender c id correct nonce proof t (heard_for h (STAMP sender nonce proof id) is c))

      card_within : (card : List ℕ) → h.message ≡ CARD sender nonce card proof now.id → (held R x sender t₀ ≤ prepared_timestamp proof) × (prepared_timestamp proof ≤ held R x sender t)
      card_within card e =
          let is : h.message ≡ CARD sender nonce card proof id = e ∙ ap (CARD sender nonce card proof) good.id_is in
          within_time sender c (READ id nonce) nonce (prepared_timestamp proof) (for_cards refl) new
          (card_showed R x P sender c id correct nonce proof t card (heard_for h (CARD sender nonce card proof id) is c))

    seen_more : (sender : ReplicaId) (counted : ReplicaSet) (best : Timestamp) (proof : Option PreparedProof)
        → (R.correct_replica sender ≡ true → held R x sender t₀ ≤ prepared_timestamp proof) → Each counted (λ r. held R x r t₀ ≤ number best)
        → Each (with counted sender) (λ r. held R x r t₀ ≤ number (best_of best proof))
    seen_more sender counted best proof new old =
        let least = best_least best proof in
        more (λ r. held R x r t₀ ≤ number (best_of best proof)) sender counted
        (λ c. let l = new c in omega arith) (λ r k c. let l = old r k c in omega arith)

    pub stored_more : (h : Heard R id t) (sender : ReplicaId) (counted : ReplicaSet) (s : ℕ) → h.message ≡ WRITTEN sender s
        → Holds counted s t → Holds (with counted sender) s (suc t)
    stored_more h sender counted s e old =
        more (λ r. s ≤ held R x r (suc t)) sender counted
        (λ c. let then = written_held R x sender c t s (heard_for h (WRITTEN sender s) e c) in let rose = held_rises R x sender c t (suc t) (omega arith) in omega arith)
        (holds_later counted s t old)

    goes_to : (w : Bool) (card : List ℕ) (h : Heard R id t) (answer : Answer) (phase : Phase) → Leaves h.turn answer phase
        → is_done answer ≡ false → PhaseIn w id card t₀ (suc t) h.turn.next phase → Next w id card t₀ t
    goes_to w card h answer phase left not_done it =
        goes_on (moved w id card t₀ t h.turn phase h.step left.phase_is (h.facts.same_register ∙ register_is, it))
        (λ timestamp shown signers e. let is : answer ≡ done timestamp shown signers = cc (h.step.answer_is, left.answer_is) in apart (cc (ap is_done is)))

    done_is : (turn : Turn) (answer : Answer) (phase : Phase) → ClientStep R id t turn → Leaves turn answer phase → answer_at R t ≡ accepted answer
    done_is turn answer phase step left = step.answer_is ∙ ap accepted left.answer_is

    -- ---- A write takes a message

    take_stamp : (card : List ℕ) (h : Heard R id t) (sender : ReplicaId) (nonce : ℕ) (proof : Option PreparedProof) (best : Timestamp) (counted : ReplicaSet)
        → h.message ≡ STAMP sender nonce proof now.id → Stamping id card t₀ now nonce (number best) counted
        → Each (with counted sender) (λ r. held R x r t₀ ≤ number (best_of best proof))
    take_stamp card h sender nonce proof best counted e it =
        seen_more sender counted best proof (λ c. (stamp_within h sender nonce proof it.new c e).0) it.seen

    -- The successor of the best timestamp, for this client.
    choose : (best next : Timestamp) → best.client.0 < 256 → successor best now.id ≡ Some next → ((s : ℕ) → Settled t₀ s → s ≤ number best) → Chosen id t₀ (number next)
    choose best next fits e least =
        let is = successor_number best next now.id fits e in
        let same_id : now.id.0 ≡ id.0 = ap (λ (i : ClientId). i.0) good.id_is in
        let range = correct_client_range R id correct in
        record { positive = omega arith; own = omega arith; above = λ s a. let l = least s a in omega arith }

    take_prepared : (card : List ℕ) (h : Heard R id t) (sender : ReplicaId) (s : ℕ) (counted : ReplicaSet) → h.message ≡ PREPARED sender s now.digest
        → Preparing id card t₀ t now s counted → Each (with counted sender) (λ r. Said R x (replica r) (PREPARED r s (sha256 card)) (suc t))
    take_prepared card h sender s counted e it =
        let is : h.message ≡ PREPARED sender s (sha256 card) = e ∙ ap (PREPARED sender s) it.digest_is in
        more (λ r. Said R x (replica r) (PREPARED r s (sha256 card)) (suc t)) sender counted
        (λ c. said_later R x (replica sender) (PREPARED sender s (sha256 card)) t (suc t) (omega arith) (heard_for h (PREPARED sender s (sha256 card)) is c))
        (λ r k c. said_later R x (replica r) (PREPARED r s (sha256 card)) t (suc t) (omega arith) (it.signed r k c))

    -- The proof that is built of them.
    build_backed : (card : List ℕ) (h : Heard R id t) (sender : ReplicaId) (s : ℕ) (counted : ReplicaSet) (proof : PreparedProof) → h.message ≡ PREPARED sender s now.digest
        → Preparing id card t₀ t now s counted → (is_quorum now.f counted ≡ false → Built now.f (with counted sender) proof.entries)
        → Backed R x (suc t) s (sha256 card) (signer_set proof.entries)
    build_backed card h sender s counted proof e it built =
        let b : Built R.f (with counted sender) proof.entries =
        subst (λ (f : ℕ). is_quorum f counted ≡ false → Built f (with counted sender) proof.entries) good.f_is built it.fewer in
        shaped_quorum R x (suc t) _ proof.entries b.is_shaped (λ r k c. take_prepared card h sender s counted e it r (b.of_counted r k) c)

    still_backed : (card : List ℕ) (counted : ReplicaSet) (timestamp : Timestamp) → Writing id card t₀ t now (number timestamp) counted → Backed R x (suc t) (number timestamp) (sha256 card) now.signers
    still_backed card counted timestamp it = quorum_later R x t (suc t) _ now.signers (omega arith) it.backed

    write_heard : (card : List ℕ) → CardOfRun R card → (h : Heard R id t) → WriteIn id card t₀ t now now.phase → ClientCase now (signature h.bytes) h.message h.turn → Next true id card t₀ t
    write_heard card in_run h it (stamp_counted sender nonce proof best counted e phase new kept from left) =
        let y : Stamping id card t₀ now nonce (number best) counted = subst (WriteIn id card t₀ t now) phase it in
        goes_to true card h waits (Stamps nonce (best_of best proof) (with counted sender)) left refl
        (record { card_is = kept ∙ y.card_is; new = y.new; seen = take_stamp card h sender nonce proof best counted e y })
    write_heard card in_run h it (stamps_enough sender nonce proof best counted next shown last e phase new succ kept digest nobody of shows last_is left) =
        let y : Stamping id card t₀ now nonce (number best) counted = subst (WriteIn id card t₀ t now) phase it in
        let fits : TimestampFits best = subst PhaseFits phase good.phase_fits in
        goes_to true card h _ (Prepareds next empty) left refl
        (record {
          card_is = kept ∙ y.card_is;
          digest_is = digest ∙ ap sha256 y.card_is;
          chosen = choose (best_of best proof) next (best_fits best proof fits.1) succ
              (below (number (best_of best proof)) (with counted sender) (quorum (with counted sender) new.2) (take_stamp card h sender nonce proof best counted e y));
          fewer = empty_few R.f;
          signed = λ r k c. none_in r k;
        })
    write_heard card in_run h it (stamps_ended sender nonce proof best counted e phase none_next left) = stops refl (done_is h.turn ended Idle h.step left)
    write_heard card in_run h it (prepared_counted sender timestamp counted e phase new same_card signatures left) =
        let y : Preparing id card t₀ t now (number timestamp) counted = subst (WriteIn id card t₀ t now) phase it in
        goes_to true card h waits (Prepareds timestamp (with counted sender)) left refl
        (record {
          card_is = same_card.card_kept_lem ∙ y.card_is;
          digest_is = same_card.digest_kept ∙ y.digest_is;
          chosen = y.chosen;
          fewer = subst (λ (f : ℕ). is_quorum f (with counted sender) ≡ false) good.f_is new.2;
          signed = take_prepared card h sender (number timestamp) counted e y;
        })
    write_heard card in_run h it (prepareds_enough sender timestamp counted proof e phase new kept from built is left) =
        let y : Preparing id card t₀ t now (number timestamp) counted = subst (WriteIn id card t₀ t now) phase it in
        goes_to true card h _ (Writtens timestamp empty) left refl
        (record {
          card_is = kept ∙ y.card_is;
          chosen = y.chosen;
          backed = subst (Backed R x (suc t) (number timestamp) (sha256 card)) (sym from) (build_backed card h sender (number timestamp) counted proof e y built);
          stored = λ r k c. none_in r k;
        })
    write_heard card in_run h it (written_counted sender timestamp counted e phase new same_card signatures left) =
        let y : Writing id card t₀ t now (number timestamp) counted = subst (WriteIn id card t₀ t now) phase it in
        goes_to true card h waits (Writtens timestamp (with counted sender)) left refl
        (record {
          card_is = same_card.card_kept_lem ∙ y.card_is;
          chosen = y.chosen;
          backed = subst (Backed R x (suc t) (number timestamp) (sha256 card)) (sym same_card.signers_kept) (still_backed card counted timestamp y);
          stored = stored_more h sender counted (number timestamp) e y.stored;
        })
    write_heard card in_run h it (writtens_enough sender timestamp counted e phase new built written left) =
        let y : Writing id card t₀ t now (number timestamp) counted = subst (WriteIn id card t₀ t now) phase it in
        finishes timestamp (current_card now) now.signers (done_is h.turn (done timestamp (current_card now) now.signers) Idle h.step left) (λ w. ap prepared_for phase)
        (record {
          fits = carried_fits (subst PhaseFits phase good.phase_fits);
          own = λ w. (y.chosen.own, y.card_is);
          settled = λ w. record { who = has (with counted sender); enough = quorum (with counted sender) new.2; hold = stored_more h sender counted (number timestamp) e y.stored };
          above = y.chosen.above;
          is_shown = subst (λ (card : List ℕ). Shown (suc t) (number timestamp) card now.signers) (sym y.card_is)
              (inr (record { positive = y.chosen.positive; backed = still_backed card counted timestamp y; card_in_lem = in_run }));
        })
    write_heard card in_run h it (card_counted sender nonce card' proof best counted showed e phase new stands better from left) = absurd (subst (WriteIn id card t₀ t now) phase it)
    write_heard card in_run h it (cards_agree sender nonce card' proof best counted showed e phase new stands full left) = absurd (subst (WriteIn id card t₀ t now) phase it)
    write_heard card in_run h it (cards_viewed sender nonce card' proof best counted showed e phase new stands no_writer left) = absurd (subst (WriteIn id card t₀ t now) phase it)
    write_heard card in_run h it (cards_differ sender nonce card' proof best counted showed e phase new stands differ better from left) = absurd (subst (WriteIn id card t₀ t now) phase it)
    write_heard card in_run h it (back_counted sender timestamp counted e phase new same_card left) = absurd (subst (WriteIn id card t₀ t now) phase it)
    write_heard card in_run h it (back_enough sender timestamp counted e phase new left) = absurd (subst (WriteIn id card t₀ t now) phase it)

    -- ---- A read takes a message

    -- A CARD that a client takes carries a card of the run.
    heard_card : (h : Heard R id t) (sender : ReplicaId) (nonce : ℕ) (card : List ℕ) (proof : Option PreparedProof) → h.message ≡ CARD sender nonce card proof now.id → CardOfRun R card
    heard_card h sender nonce card proof e = record {
      time = t;
      carried = rw (h.event_is, h.admitted.decodes, e);
      not_refused = (h.turn.answer, h.step.answer_is);
    }

    card_shown_lem : (h : Heard R id t) (sender : ReplicaId) (nonce : ℕ) (card : List ℕ) (proof : Option PreparedProof) → h.message ≡ CARD sender nonce card proof now.id
        → card_stands card proof ≡ true → Shown t (prepared_timestamp proof) card (prepared_signers proof)
    card_shown_lem h sender nonce card none e stands = inl (refl, same_equal card start_card stands, refl)
    card_shown_lem h sender nonce card (some proof) e stands =
        let passed : Passed R.f h.message h.verdicts = subst (λ (f : ℕ). Passed f h.message h.verdicts) good.f_is h.facts.passed in
        let there : Passed R.f (CARD sender nonce card (some proof) now.id) h.verdicts = subst (λ (m : Message). Passed R.f m h.verdicts) e passed in
        let digest : sha256 card ≡ proof.digest = same_equal (sha256 card) proof.digest (and_true_both (is_card card) (same (sha256 card) proof.digest) stands).1 in
        inr (record {
          positive = issued_positive proof.timestamp there.prepared_issued;
          backed = subst (λ (d : List ℕ). Backed R x t proof.timestamp d (signer_set proof.entries)) (sym digest) (card_backed R x P id t h sender nonce card proof now.id register_is e passed);
          card_in_lem = heard_card h sender nonce card (some proof) e;
        })

    -- The best timestamp, card and signers after a CARD, and who showed it.
    record Taken (sender : ReplicaId) (card : List ℕ) (proof : Option PreparedProof) (best : Timestamp) (counted showed : ReplicaSet) : Type 0 where
      seen : Each (with counted sender) (λ r. held R x r t₀ ≤ number (best_of best proof))
      shown_by : Holds (showed_by best proof sender showed) (number (best_of best proof)) (suc t)
      is_shown : Shown (suc t) (number (best_of best proof)) (better_card best proof card now) (better_signers best proof now)

    take_card : (h : Heard R id t) (sender : ReplicaId) (nonce : ℕ) (card : List ℕ) (proof : Option PreparedProof) (best : Timestamp) (counted showed : ReplicaSet)
        → h.message ≡ CARD sender nonce card proof now.id → card_stands card proof ≡ true → Reading id t₀ t now nonce (number best) counted showed
        → Taken sender card proof best counted showed
    take_card h sender nonce card proof best counted showed e stands it = record {
      seen = seen_more sender counted best proof (λ c. (fresh c).0) it.seen;
      shown_by = both.0;
      is_shown = both.1;
    }
      where
        fresh : R.correct_replica sender ≡ true → (held R x sender t₀ ≤ prepared_timestamp proof) × (prepared_timestamp proof ≤ held R x sender t)
        fresh c = card_within h sender nonce proof it.new c card e

        Parts : Bool → Bool → Type 0
        Parts u v =
            Holds (cond u (with empty sender) (cond v (with showed sender) showed)) (number (cond u (of_number (prepared_timestamp proof)) best)) (suc t)
            × Shown (suc t) (number (cond u (of_number (prepared_timestamp proof)) best)) (cond u card (current_card now)) (cond u (prepared_signers proof) now.signers)

        old : Holds showed (number best) (suc t)
        old = holds_later showed (number best) t it.shown_by

        rose : (c : R.correct_replica sender ≡ true) → prepared_timestamp proof ≤ held R x sender (suc t)
        rose c = let l = (fresh c).1 in let r = held_rises R x sender c t (suc t) (omega arith) in omega arith

        kept : Shown (suc t) (number best) (current_card now) now.signers
        kept = shown_later t (suc t) (number best) (current_card now) now.signers (omega arith) it.is_shown

        whole : number (of_number (prepared_timestamp proof)) ≡ prepared_timestamp proof
        whole = omega arith

        go : (u v : Bool) → ltb (number best) (prepared_timestamp proof) ≡ u → eqb (number best) (prepared_timestamp proof) ≡ v → Parts u v
        go true v e₁ e₂ = (
          more (λ r. number (of_number (prepared_timestamp proof)) ≤ held R x r (suc t)) sender empty (λ c. let l = rose c in omega arith) (λ r k c. none_in r k),
          subst (λ (s : ℕ). Shown (suc t) s card (prepared_signers proof)) (sym whole) (shown_later t (suc t) (prepared_timestamp proof) card (prepared_signers proof) (omega arith) (card_shown_lem h sender nonce card proof e stands)),
        )
        go false true e₁ e₂ =
            let equal = eqb-true (number best) (prepared_timestamp proof) e₂ in
            (more (λ r. number best ≤ held R x r (suc t)) sender showed (λ c. let l = rose c in omega arith) old, kept)
        go false false e₁ e₂ = (old, kept)

        both : Parts (ltb (number best) (prepared_timestamp proof)) (eqb (number best) (prepared_timestamp proof))
        both = go (ltb (number best) (prepared_timestamp proof)) (eqb (number best) (prepared_timestamp proof)) refl refl

    read_heard : (card : List ℕ) (h : Heard R id t) → ReadIn id t₀ t now now.phase → ClientCase now (signature h.bytes) h.message h.turn → Next false id card t₀ t
    read_heard card₀ h it (stamp_counted sender nonce proof best counted e phase new kept from left) = absurd (subst (ReadIn id t₀ t now) phase it)
    read_heard card₀ h it (stamps_enough sender nonce proof best counted next shown last e phase new succ kept digest nobody of shows last_is left) = absurd (subst (ReadIn id t₀ t now) phase it)
    read_heard card₀ h it (stamps_ended sender nonce proof best counted e phase none_next left) = absurd (subst (ReadIn id t₀ t now) phase it)
    read_heard card₀ h it (prepared_counted sender timestamp counted e phase new same_card signatures left) = absurd (subst (ReadIn id t₀ t now) phase it)
    read_heard card₀ h it (prepareds_enough sender timestamp counted proof e phase new kept from built is left) = absurd (subst (ReadIn id t₀ t now) phase it)
    read_heard card₀ h it (written_counted sender timestamp counted e phase new same_card signatures left) = absurd (subst (ReadIn id t₀ t now) phase it)
    read_heard card₀ h it (writtens_enough sender timestamp counted e phase new built written left) = absurd (subst (ReadIn id t₀ t now) phase it)
    read_heard card₀ h it (card_counted sender nonce card proof best counted showed e phase new stands better from left) =
        let y : Reading id t₀ t now nonce (number best) counted showed = subst (ReadIn id t₀ t now) phase it in
        let q = take_card h sender nonce card proof best counted showed e stands y in
        goes_to false card₀ h waits (Cards nonce (best_of best proof) (with counted sender) (showed_by best proof sender showed)) left refl
        (record { new = y.new; seen = q.seen; shown_by = q.shown_by; is_shown = subst₂ (Shown (suc t) (number (best_of best proof))) (sym better) (sym from.signers_are) q.is_shown })
    read_heard card₀ h it (cards_agree sender nonce card proof best counted showed e phase new stands full left) =
        let y : Reading id t₀ t now nonce (number best) counted showed = subst (ReadIn id t₀ t now) phase it in
        let q = take_card h sender nonce card proof best counted showed e stands y in
        finishes (best_of best proof) (better_card best proof card now) (better_signers best proof now)
        (done_is h.turn (done (best_of best proof) (better_card best proof card now) (better_signers best proof now)) Idle h.step left) (λ w. apart (cc))
        (record {
          fits = best_fits best proof (carried_fits (subst PhaseFits phase good.phase_fits));
          own = λ w. apart (cc);
          settled = λ w. record { who = has (showed_by best proof sender showed); enough = quorum (showed_by best proof sender showed) full; hold = q.shown_by };
          above = below (number (best_of best proof)) (with counted sender) (quorum (with counted sender) new.2) q.seen;
          is_shown = q.is_shown;
        })
    read_heard card₀ h it (cards_viewed sender nonce card proof best counted showed e phase new stands no_writer left) =
        let y : Reading id t₀ t now nonce (number best) counted showed = subst (ReadIn id t₀ t now) phase it in
        let q = take_card h sender nonce card proof best counted showed e stands y in
        finishes (best_of best proof) (better_card best proof card now) (better_signers best proof now)
        (done_is h.turn (done (best_of best proof) (better_card best proof card now) (better_signers best proof now)) Idle h.step left) (λ w. apart (cc))
        (record {
          fits = best_fits best proof (carried_fits (subst PhaseFits phase good.phase_fits));
          own = λ w. apart (cc);
          settled = λ w. let none : is_writer id ≡ false = subst (λ (i : ClientId). is_writer i ≡ false) good.id_is no_writer in apart (cc);
          above = below (number (best_of best proof)) (with counted sender) (quorum (with counted sender) new.2) q.seen;
          is_shown = q.is_shown;
        })
    read_heard card₀ h it (cards_differ sender nonce card proof best counted showed e phase new stands differ better from left) =
        let y : Reading id t₀ t now nonce (number best) counted showed = subst (ReadIn id t₀ t now) phase it in
        let q = take_card h sender nonce card proof best counted showed e stands y in
        goes_to false card₀ h _ (WriteBack (best_of best proof) (showed_by best proof sender showed)) left refl
        (record {
          above = below (number (best_of best proof)) (with counted sender) (quorum (with counted sender) new.2) q.seen;
          stored = q.shown_by;
          is_shown = subst₂ (Shown (suc t) (number (best_of best proof))) (sym better) (sym from.signers_are) q.is_shown;
        })
    read_heard card₀ h it (back_counted sender timestamp counted e phase new same_card left) =
        let y : WritingBack t₀ t now (number timestamp) counted = subst (ReadIn id t₀ t now) phase it in
        goes_to false card₀ h waits (WriteBack timestamp (with counted sender)) left refl
        (record {
          above = y.above;
          stored = stored_more h sender counted (number timestamp) e y.stored;
          is_shown = subst₂ (Shown (suc t) (number timestamp)) (sym same_card.card_kept_lem) (sym same_card.signers_kept) (shown_later t (suc t) (number timestamp) (current_card now) now.signers (omega arith) y.is_shown);
        })
    read_heard card₀ h it (back_enough sender timestamp counted e phase new left) =
        let y : WritingBack t₀ t now (number timestamp) counted = subst (ReadIn id t₀ t now) phase it in
        finishes timestamp (current_card now) now.signers (done_is h.turn (done timestamp (current_card now) now.signers) Idle h.step left) (λ w. apart (cc))
        (record {
          fits = carried_fits (subst PhaseFits phase good.phase_fits);
          own = λ w. apart (cc);
          settled = λ w. record { who = has (with counted sender); enough = quorum (with counted sender) new.2; hold = stored_more h sender counted (number timestamp) e y.stored };
          above = y.above;
          is_shown = shown_later t (suc t) (number timestamp) (current_card now) now.signers (omega arith) y.is_shown;
        })

  pub heard_next : (P : Premises R) (id : ClientId) (correct : R.correct_client id ≡ true) (t₀ t : ℕ) (w : Bool) (card : List ℕ) → (w ≡ true → CardOfRun R card) → (h : Heard R id t)
      → During w id card t₀ t (client_at R id t) (client_at R id t).phase → Next w id card t₀ t
  heard_next P id correct t₀ t true card in_run h (is, it) = write_heard P id correct t₀ t is card (in_run refl) h it h.facts.case
  heard_next P id correct t₀ t false card in_run h (is, it) = read_heard P id correct t₀ t is card h it h.facts.case
