-- The course of an operation while it lasts: its register, its phase, the messages that it has sent and the timestamps that it was shown. What is
-- counted follows where it ends. Assumes nothing.
use mathlib.Core.Path.{◌≡◌, refl, sym, ap, subst, ◌∙◌}
use mathlib.Core.Bool.{Bool, true, false, cond}
use mathlib.Core.List.{List, [], ◌++◌, append-nil}
use mathlib.Core.Option.{Option, none, some}
use Prim.Native.Nat.{ℕ, zero, suc, ◌+◌, ◌/◌, ◌≤◌, ◌<◌}
use native.Mathlib.Omega.{arith}
use borrow.Author.Tests.{eqb-true}
use lib.Dec.{eqb}
use lib.ListN.{length, length-append}
use Rattle.std.specs.declared.option.Option.{Option as CodeOption}
use Rattle.std.specs.declared.option.Option.TheVariants.{Some, None}
use Rattle.base.specs.Counting.{one, count}
use Rattle.base.specs.Outcome.{Outcome, accepted}
use Rattle.base.specs.Party.{replica_count, quorum_size, is_replica, is_writer, is_register}
use Rattle.base.specs.ReplicaSet.{empty, with, is_quorum}
use Rattle.base.specs.Timestamp.{number, successor}
use Rattle.base.specs.declared.party.ClientId.{ClientId}
use Rattle.base.specs.declared.party.RegisterId.{RegisterId}
use Rattle.base.specs.declared.party.ReplicaId.{ReplicaId}
use Rattle.base.specs.declared.replica_set.ReplicaSet.{ReplicaSet}
use Rattle.base.specs.declared.timestamp.Timestamp.{Timestamp}
use Rattle.base.proofs.Apart.{apart}
use Rattle.base.proofs.Falling.{how_many}
use Rattle.base.proofs.Range.{bounds}
use Rattle.protocol.specs.Client.{Answer, send, waits, done, ended, Turn, best_of, showed_by}
use Rattle.protocol.specs.Events.{ClientEvent, write_begun, read_begun, reply_handed}
use Rattle.protocol.specs.declared.client.Client.{Client}
use Rattle.protocol.specs.declared.client.Phase.{Phase}
use Rattle.protocol.specs.declared.client.Phase.TheVariants.{Idle, Stamps, Prepareds, Writtens, Cards, WriteBack}
use Rattle.protocol.proofs.ClientCases.{is_over, Leaves, OneMore, PhaseFits, ClientCase, stamp_counted, stamps_enough, stamps_ended, prepared_counted, prepareds_enough, written_counted, writtens_enough, card_counted, cards_agree, cards_viewed, cards_differ, back_counted, back_enough}
use Rattle.run.specs.Claims.{Begins, GoesOn}
use Rattle.run.specs.Run.{Event, at_client, begins_write, begins_read, to_client, makes, Run, register_of, event, client_at, answer_at, At, Correct}
use Rattle.run.proofs.Operations.{best_fits}
use Rattle.run.proofs.Order.{begins_at}
use Rattle.run.proofs.Slots.{split_last}
use Rattle.run.proofs.Turns.{good_client, Silent, ClientStep, Heard, heard_register, ClientTurn, rested, wrote, asked, heard, made_again, took, client_turn_lem}
use Rattle.wire.specs.Acceptance.{client}
use Rattle.wire.specs.Decode.{for_register}
use Rattle.wire.specs.Layout.{signature}
use Rattle.wire.specs.Message.{Message, STAMP, WRITTEN, CARD}
use Rattle.wire.specs.Proof.{PreparedProof}
use Rattle.progress.specs.Counts.{Look, sent_in, card_shown, stamp_shown, taken_in, seen, are_all_same, largest, read_messages}
use Rattle.progress.specs.Operations.{Invocation, Lasts, Sends}
use Rattle.progress.proofs.CardsTaken.{CardsIn, best_shown_lem, card_taken, just, agree, differ}
use Rattle.progress.proofs.Counted.{counted_in, few_counted}
use Rattle.progress.proofs.Largest.{Best, none_best, largest_is}
use Rattle.progress.proofs.Members.{empty_count}
use Rattle.progress.proofs.Seen.{none_before, silent_seen, turn_seen}

-- ---- Phases

-- The messages that an operation has sent, by its phase.
abbrev pub so_far : Phase → ℕ
so_far Idle = 0
so_far (Stamps nonce best counted) = 1
so_far (Prepareds timestamp counted) = 2
so_far (Writtens timestamp counted) = 3
so_far (Cards nonce best counted showed) = 1
so_far (WriteBack timestamp counted) = 2

-- q CARDs of two timestamps or more.
abbrev pub Differ : ℕ → List ℕ → Type 0
Differ f cards = (length cards ≡ quorum_size f) × (are_all_same cards ≡ false)

-- A write (true) or a read in its phase, with the STAMPs and CARDs taken so far.
abbrev pub InCourse : ℕ → Bool → List ℕ → List ℕ → Phase → Type 0
InCourse f w stamps cards Idle = ⊥
InCourse f w stamps cards (Stamps nonce best counted) = (w ≡ true) × Best (number best) stamps
InCourse f w stamps cards (Prepareds timestamp counted) = w ≡ true
InCourse f w stamps cards (Writtens timestamp counted) = w ≡ true
InCourse f w stamps cards (Cards nonce best counted showed) = (w ≡ false) × CardsIn (replica_count f) cards (number best) counted showed
InCourse f w stamps cards (WriteBack timestamp counted) = (w ≡ false) × Differ f cards

-- A successor is missing behind the last count alone.
last_count : (best : Timestamp) (id : ClientId) → successor best id ≡ None → best.count ≡ 4_294_967_295
last_count best id e = go (eqb best.count 4_294_967_295) refl e
  where
    go : (b : Bool) → eqb best.count 4_294_967_295 ≡ b → cond {A = CodeOption Timestamp} b None (Some (record { count = best.count + 1; client = id })) ≡ None → best.count ≡ 4_294_967_295
    go true k e = eqb-true best.count 4_294_967_295 k
    go false k e = apart (cc)

-- ---- An operation

-- What goes on is not over.
pub not_over : (R : Run) (t : ℕ) (answer : Answer) → answer_at R t ≡ accepted answer → GoesOn R t → is_over answer ≡ false
not_over R t (send m) e on = refl
not_over R t waits e on = refl
not_over R t (done timestamp card signers) e on = absurd (on.not_done timestamp card signers e)
not_over R t ended e on = absurd (on.not_ended e)

module _ (R : Run) (x : RegisterId) (o : Invocation R x) where
  abbrev pub now_at : ℕ → Client
  now_at t = client_at R o.id t

  abbrev pub sent_by : ℕ → List Message
  sent_by t = seen R sent_in o.id o.begun t

  abbrev pub stamps_by : ℕ → List ℕ
  stamps_by t = seen R (taken_in stamp_shown) o.id o.begun t

  abbrev pub cards_by : ℕ → List ℕ
  cards_by t = seen R (taken_in card_shown) o.id o.begun t

  begun_at : At R o.begun (client o.id)
  begun_at = begins_at R x o.is_write_lem o.id o.begun o.begins

  pub begun_correct : R.correct_client o.id ≡ true
  begun_correct = subst (Correct R) begun_at.2 (R.at_correct o.begun begun_at.0 begun_at.1)

  -- What lasts has lasted, and what has just begun lasts.
  pub lasted : {t u : ℕ} → o.begun ≤ t → t ≤ u → Lasts R x o u → Lasts R x o t
  lasted l k lasts = record { has_begun = l; goes_on = λ v low high at. lasts.goes_on v low (omega arith) at }

  pub just_begun : {t : ℕ} → o.begun ≤ t → t ≤ suc o.begun → Lasts R x o t
  just_begun l k = record { has_begun = l; goes_on = λ v low high at. absurd (omega arith) }

  pub record Course (t : ℕ) : Type 0 where
    pub register_is : (now_at t).register ≡ x
    pub in_course : InCourse R.f o.is_write_lem (stamps_by t) (cards_by t) (now_at t).phase
    pub sent : length (sent_by t) ≡ so_far (now_at t).phase

  pub not_idle : {A : Type 0} (t : ℕ) → Course t → (now_at t).phase ≡ Idle → A
  not_idle t it e = absurd (subst (InCourse R.f o.is_write_lem (stamps_by t) (cards_by t)) e it.in_course)

  -- What its client does at an event: nothing, or it takes a message.
  pub data Step (t : ℕ) : Type 0 where
    waits_on : now_at (suc t) ≡ now_at t → Silent R (client o.id) t → Step t
    hears : Heard R o.id t → Step t

  pub step : (t : ℕ) → Course t → ((nonce : ℕ) → event R t ≡ some (makes o.id nonce) → answer_at R t ≡ accepted waits → ⊥) → Step t
  step t it not_made = go (client_turn_lem R o.id begun_correct t)
    where
      go : ClientTurn R o.id t → Step t
      go (rested same silent) = waits_on same silent
      go (wrote y card turn e b s) = not_idle t it b.was_idle
      go (asked y turn e b s) = not_idle t it b.was_idle
      go (heard h) = hears h
      go (made_again nonce e positive s) = absurd (not_made nonce e s.answer_is)
      go (took y bytes verdicts next e k s) = not_idle t it k.was_idle

  -- ---- A message is taken

  module _ (t : ℕ) (l : o.begun < t) (h : Heard R o.id t) (it : Course t) where
    abbrev now : Client
    now = client_at R o.id t

    abbrev pub turn : Turn
    turn = h.turn

    f_is : now.f ≡ R.f
    f_is = (good_client R o.id begun_correct t).f_is

    abbrev Was : Phase → Type 0
    Was phase = InCourse R.f o.is_write_lem (stamps_by t) (cards_by t) phase

    abbrev pub Next : Phase → Type 0
    Next phase = InCourse R.f o.is_write_lem (stamps_by (suc t)) (cards_by (suc t)) phase

    taken : (shown : Outcome (RegisterId × Message) → List ℕ) (m : Message) → h.message ≡ m
        → seen R (taken_in shown) o.id o.begun (suc t) ≡ seen R (taken_in shown) o.id o.begun t ++ shown (accepted (for_register now.register m))
    taken shown m e =
        turn_seen R (taken_in shown) o.id o.begun t (omega arith) (reply_handed h.bytes h.verdicts) turn.answer h.event_is h.step.answer_is
        ∙ ap (λ (more : List ℕ). seen R (taken_in shown) o.id o.begun t ++ more) (ap shown h.admitted.decodes ∙ ap (λ (k : Message). shown (accepted (for_register now.register k))) e)

    sent_now : (was : Phase) (answer : Answer) → now.phase ≡ was → turn.answer ≡ answer → length (sent_by (suc t)) ≡ so_far was + length (sent_in (reply_handed [] []) answer)
    sent_now was answer e a =
        ap length (turn_seen R sent_in o.id o.begun t (omega arith) (reply_handed h.bytes h.verdicts) answer h.event_is (h.step.answer_is ∙ ap accepted a))
        ∙ length-append (sent_by t) (sent_in (reply_handed h.bytes h.verdicts) answer) ∙ omega (arith, it.sent, ap so_far e, event_blind answer)
      where
        event_blind : (answer : Answer) → length (sent_in (reply_handed h.bytes h.verdicts) answer) ≡ length (sent_in (reply_handed [] []) answer)
        event_blind (send m) = refl
        event_blind waits = refl
        event_blind (done timestamp card signers) = refl
        event_blind ended = refl

    -- It goes on, or it is done or ended with so many messages.
    pub data Outcomes : Type 0 where
      goes : Next turn.next.phase → length (sent_by (suc t)) ≡ so_far turn.next.phase → is_over turn.answer ≡ false → Outcomes
      finished : (timestamp : Timestamp) (card : List ℕ) (signers : ReplicaSet) → turn.answer ≡ done timestamp card signers → (o.is_write_lem ≡ true → length (sent_by (suc t)) ≡ 3)
          → (o.is_write_lem ≡ false → is_writer o.id ≡ true → (length (cards_by (suc t)) ≡ quorum_size R.f) × (length (sent_by (suc t)) ≡ read_messages (cards_by (suc t)))) → Outcomes
      stopped : turn.answer ≡ ended → length (sent_by (suc t)) ≡ 1 → largest (stamps_by (suc t)) / 256 ≡ 4_294_967_295 → Outcomes

    on : (was is : Phase) (answer : Answer) → now.phase ≡ was → Leaves turn answer is → so_far was + length (sent_in (reply_handed [] []) answer) ≡ so_far is → is_over answer ≡ false → Next is → Outcomes
    on was is answer e left sum over next =
        goes (subst Next (sym left.phase_is) next) (sent_now was answer e left.answer_is ∙ sum ∙ ap so_far (sym left.phase_is)) (ap is_over left.answer_is ∙ over)

    -- A read is done after so many messages.
    read_done : (was : Phase) (n : ℕ) (timestamp : Timestamp) (card : List ℕ) (signers : ReplicaSet) → now.phase ≡ was → so_far was ≡ n → o.is_write_lem ≡ false → turn.answer ≡ done timestamp card signers
        → (is_writer o.id ≡ true → (length (cards_by (suc t)) ≡ quorum_size R.f) × (n ≡ read_messages (cards_by (suc t)))) → Outcomes
    read_done was n timestamp card signers e sum read a claims =
        finished timestamp card signers a (λ w. apart (cc)) (λ r writer.
        let both = claims writer in (both.0, sent_now was (done timestamp card signers) e a ∙ omega (arith, both.1)))

    quorum_here : (set : ReplicaSet) (b : Bool) → is_quorum now.f set ≡ b → is_quorum R.f set ≡ b
    quorum_here set b e = subst (λ (f : ℕ). is_quorum f set ≡ b) f_is e

    -- A CARD is taken in a read.
    record CardCame (sender : ReplicaId) (proof : Option PreparedProof) (best : Timestamp) (counted showed : ReplicaSet) : Type 0 where
      a_read : o.is_write_lem ≡ false
      cards_in : CardsIn (replica_count R.f) (cards_by (suc t)) (number (best_of best proof)) (with counted sender) (showed_by best proof sender showed)
      -- Where it makes a quorum.
      all_cards : is_quorum now.f (with counted sender) ≡ true → length (cards_by (suc t)) ≡ quorum_size R.f
      all_same : (b : Bool) → is_quorum now.f (with counted sender) ≡ true → is_quorum now.f (showed_by best proof sender showed) ≡ b → are_all_same (cards_by (suc t)) ≡ b

    card_came : (sender : ReplicaId) (nonce : ℕ) (c : List ℕ) (proof : Option PreparedProof) (best : Timestamp) (counted showed : ReplicaSet) {full : Bool} → h.message ≡ CARD sender nonce c proof now.id
        → now.phase ≡ Cards nonce best counted showed → OneMore now sender counted full → CardCame sender proof best counted showed
    card_came sender nonce c proof best counted showed e phase new =
        record { a_read = was.0; cards_in = cards; all_cards = λ full. just R.f _ _ counted _ sender in_range_lem new.1 few (quorum_here _ _ full) cards; all_same = same }
      where
        was : (o.is_write_lem ≡ false) × CardsIn (replica_count R.f) (cards_by t) (number best) counted showed
        was = subst Was phase it.in_course

        in_range_lem : is_replica R.f sender ≡ true
        in_range_lem = subst (λ (f : ℕ). is_replica f sender ≡ true) f_is new.0

        few : is_quorum R.f counted ≡ false
        few = ap (λ (p : Phase). is_quorum R.f (counted_in p)) (sym phase) ∙ few_counted R o.id begun_correct t

        cards : CardsIn (replica_count R.f) (cards_by (suc t)) (number (best_of best proof)) (with counted sender) (showed_by best proof sender showed)
        cards =
            let range = bounds 1 (replica_count R.f) sender.0 in_range_lem in
            rw (taken card_shown (CARD sender nonce c proof now.id) e) (card_taken (replica_count R.f) (omega arith) (cards_by t) sender proof best counted showed range.0 range.1 new.1 was.1)

        same : (b : Bool) → is_quorum now.f (with counted sender) ≡ true → is_quorum now.f (showed_by best proof sender showed) ≡ b → are_all_same (cards_by (suc t)) ≡ b
        same true full k = agree R.f _ _ counted _ sender in_range_lem new.1 few (quorum_here _ _ full) cards (quorum_here _ _ k)
        same false full k = differ R.f _ _ counted _ sender in_range_lem new.1 few (quorum_here _ _ full) cards (quorum_here _ _ k)

    -- The STAMPs with one more.
    stamps_best : (sender : ReplicaId) (nonce : ℕ) (proof : Option PreparedProof) (best : Timestamp) (counted : ReplicaSet) → h.message ≡ STAMP sender nonce proof now.id → now.phase ≡ Stamps nonce best counted
        → Best (number (best_of best proof)) (stamps_by (suc t))
    stamps_best sender nonce proof best counted e phase =
        rw (taken stamp_shown (STAMP sender nonce proof now.id) e) (best_shown_lem best proof (stamps_by t) (subst Was phase it.in_course).1)

    cards_kept : (sender : ReplicaId) (s : ℕ) → h.message ≡ WRITTEN sender s → cards_by (suc t) ≡ cards_by t
    cards_kept sender s e = taken card_shown (WRITTEN sender s) e ∙ append-nil (cards_by t)

    pub outcomes : ClientCase now (signature h.bytes) h.message turn → Outcomes
    outcomes (stamp_counted sender nonce proof best counted e phase new kept better left) =
        on _ _ _ phase left refl refl ((subst Was phase it.in_course).0, stamps_best sender nonce proof best counted e phase)
    outcomes (stamps_enough sender nonce proof best counted next shown last e phase new succ kept digest nobody shown_is shows last_is left) =
        on _ _ _ phase left refl refl (subst Was phase it.in_course).0
    outcomes (stamps_ended sender nonce proof best counted e phase none_next left) =
        let latest = best_of best proof in
        let small = best_fits best proof (subst PhaseFits phase (good_client R o.id begun_correct t).phase_fits).1 in
        let last = last_count latest now.id none_next in
        stopped left.answer_is (sent_now _ ended phase left.answer_is) (rw (largest_is (number latest) (stamps_by (suc t)) (stamps_best sender nonce proof best counted e phase)) (omega arith))
    outcomes (prepared_counted sender timestamp counted e phase new same signatures left) = on _ _ _ phase left refl refl (subst Was phase it.in_course)
    outcomes (prepareds_enough sender timestamp counted proof e phase new kept from built is left) = on _ _ _ phase left refl refl (subst Was phase it.in_course)
    outcomes (written_counted sender timestamp counted e phase new same signatures left) = on _ _ _ phase left refl refl (subst Was phase it.in_course)
    outcomes (writtens_enough sender timestamp counted e phase new built written left) =
        let a_write : o.is_write_lem ≡ true = subst Was phase it.in_course in
        finished _ _ _ left.answer_is (λ w. sent_now _ _ phase left.answer_is) (λ r writer. apart (cc))
    outcomes (card_counted sender nonce c proof best counted showed e phase new stands carried better left) =
        let came = card_came sender nonce c proof best counted showed e phase new in
        on _ _ _ phase left refl refl (came.a_read, came.cards_in)
    outcomes (cards_agree sender nonce c proof best counted showed e phase new stands full left) =
        let came = card_came sender nonce c proof best counted showed e phase new in
        read_done _ 1 _ _ _ phase refl came.a_read left.answer_is (λ writer. (came.all_cards new.2, rw (came.all_same true new.2 full)))
    outcomes (cards_viewed sender nonce c proof best counted showed e phase new stands no_writer left) =
        let came = card_came sender nonce c proof best counted showed e phase new in
        let viewer : is_writer o.id ≡ false = ap is_writer (sym (good_client R o.id begun_correct t).id_is) ∙ no_writer in
        read_done _ 1 _ _ _ phase refl came.a_read left.answer_is (λ writer. apart (cc))
    outcomes (cards_differ sender nonce c proof best counted showed e phase new stands differ carried better left) =
        let came = card_came sender nonce c proof best counted showed e phase new in
        on _ _ _ phase left refl refl (came.a_read, (came.all_cards new.2, came.all_same false new.2 differ))
    outcomes (back_counted sender timestamp counted e phase new same left) =
        let was : (o.is_write_lem ≡ false) × Differ R.f (cards_by t) = subst Was phase it.in_course in
        on _ _ _ phase left refl refl (was.0, subst (Differ R.f) (sym (cards_kept sender (number timestamp) e)) was.1)
    outcomes (back_enough sender timestamp counted e phase new left) =
        let was : (o.is_write_lem ≡ false) × Differ R.f (cards_by t) = subst Was phase it.in_course in
        read_done _ 2 _ _ _ phase refl was.0 left.answer_is (λ writer. rw (cards_kept sender (number timestamp) e, was.1.1) (was.1.0, refl))

  -- ---- From the beginning on

  -- Nothing is seen at it but the question that it sends.
  begun_course : (turn : Turn) (phase : Phase) (question : Message) (e : ClientEvent) → event R o.begun ≡ some (at_client o.id e) → taken_in stamp_shown e turn.answer ≡ [] → taken_in card_shown e turn.answer ≡ []
      → ClientStep R o.id o.begun turn → turn.answer ≡ send question → turn.next.register ≡ x → turn.next.phase ≡ phase → InCourse R.f o.is_write_lem [] [] phase → so_far phase ≡ 1 → Course (suc o.begun)
  begun_course turn phase question e q no_stamps no_cards s a r p it one =
      let to : (now_at (suc o.begun)).phase ≡ phase = ap (λ (next : Client). next.phase) s.next_is ∙ p in
      let stamps : stamps_by (suc o.begun) ≡ [] = first (taken_in stamp_shown) turn.answer s.answer_is ∙ no_stamps in
      let cards : cards_by (suc o.begun) ≡ [] = first (taken_in card_shown) turn.answer s.answer_is ∙ no_cards in
      record {
        register_is = ap (λ (next : Client). next.register) s.next_is ∙ r;
        in_course = rw (to, stamps, cards) it;
        sent = ap length (first sent_in (send question) (s.answer_is ∙ ap accepted a)) ∙ sym (ap so_far to ∙ one);
      }
    where
      first : {A : Type 0} (look : Look A) (answer : Answer) → answer_at R o.begun ≡ accepted answer → seen R look o.id o.begun (suc o.begun) ≡ look e answer
      first {A} look answer k = turn_seen R look o.id o.begun o.begun (omega arith) e answer q k ∙ ap (λ (before : List A). before ++ look e answer) (none_before R look o.id o.begun o.begun (omega arith))

  write_course : (card : List ℕ) → event R o.begun ≡ some (begins_write o.id x card) → o.is_write_lem ≡ true → (is_register x ≡ true) × Course (suc o.begun)
  write_course card q w = go (client_turn_lem R o.id begun_correct o.begun)
    where
      go : ClientTurn R o.id o.begun → (is_register x ≡ true) × Course (suc o.begun)
      go (rested same silent) = absurd (silent begun_at o.not_refused.0 o.not_refused.1)
      go (wrote y card' turn e b s) =
          let is : y ≡ x = cc in
          (ap is_register (sym is) ∙ b.registered, begun_course turn _ _ (write_begun y card') e refl refl s b.sends (b.register_is ∙ is) b.phase_is (w, none_best) refl)
      go (asked y turn e b s) = apart (cc)
      go (heard h) = apart (cc h.event_is)
      go (made_again nonce e positive s) = apart (cc)
      go (took y bytes verdicts next e it s) = apart (cc)

  read_course : event R o.begun ≡ some (begins_read o.id x) → o.is_write_lem ≡ false → (is_register x ≡ true) × Course (suc o.begun)
  read_course q r = go (client_turn_lem R o.id begun_correct o.begun)
    where
      no_cards : CardsIn (replica_count R.f) [] 0 empty empty
      no_cards = record { long = sym (empty_count (replica_count R.f)); is_best = none_best; top = unfold how_many in sym (empty_count (replica_count R.f)); part = λ i low high k. k }

      go : ClientTurn R o.id o.begun → (is_register x ≡ true) × Course (suc o.begun)
      go (rested same silent) = absurd (silent begun_at o.not_refused.0 o.not_refused.1)
      go (wrote y card turn e b s) = apart (cc)
      go (asked y turn e b s) =
          let is : y ≡ x = cc in
          (ap is_register (sym is) ∙ b.registered, begun_course turn _ _ (read_begun y) e refl refl s b.sends (b.register_is ∙ is) b.phase_is (r, no_cards) refl)
      go (heard h) = apart (cc h.event_is)
      go (made_again nonce e positive s) = apart (cc)
      go (took y bytes verdicts next e it s) = apart (cc)

  first_course : (is_register x ≡ true) × Course (suc o.begun)
  first_course = go o.is_write_lem o.begins refl
    where
      go : (w : Bool) → Begins R x w o.id (event R o.begun) → o.is_write_lem ≡ w → (is_register x ≡ true) × Course (suc o.begun)
      go true b w = write_course b.0 b.1 w
      go false b w = read_course b w

  -- Only a register's operation begins.
  pub begun_registered : is_register x ≡ true
  begun_registered = first_course.0

  -- Nothing is taken.
  silent_course : (t : ℕ) → o.begun ≤ t → now_at (suc t) ≡ now_at t → Silent R (client o.id) t → Course t → Course (suc t)
  silent_course t l same silent it =
      record {
        register_is = rw same it.register_is;
        in_course = rw (same, silent_seen R (taken_in stamp_shown) o.id o.begun t l silent, silent_seen R (taken_in card_shown) o.id o.begun t l silent) it.in_course;
        sent = rw (same, silent_seen R sent_in o.id o.begun t l silent) it.sent;
      }

  pub heard_at : (t : ℕ) (h : Heard R o.id t) → At R t (client o.id)
  heard_at t h = (to_client o.id h.bytes h.verdicts, h.event_is, refl)

  next_course : (t : ℕ) → o.begun < t → (At R t (client o.id) → GoesOn R t) → Course t → Course (suc t)
  next_course t l on it = go (step t it (λ nonce e a. (on (makes o.id nonce, e, refl)).not_made o.id nonce e (waits, a)))
    where
      go : Step t → Course (suc t)
      go (waits_on same silent) = silent_course t (omega arith) same silent it
      go (hears h) = by (outcomes t l h it h.facts.case)
        where
          by : Outcomes t l h it → Course (suc t)
          by (goes next sent over) =
              record { register_is = ap (λ (after : Client). after.register) h.step.next_is ∙ h.facts.same_register ∙ it.register_is; in_course = rw h.step.next_is next; sent = rw h.step.next_is sent }
          by (finished timestamp card signers a three read) = absurd ((on (heard_at t h)).not_done timestamp card signers (h.step.answer_is ∙ ap accepted a))
          by (stopped a one last) = absurd ((on (heard_at t h)).not_ended (h.step.answer_is ∙ ap accepted a))

  pub course : (t : ℕ) → o.begun < t → Lasts R x o t → Course t
  course zero l lasts = absurd (omega arith)
  course (suc t) l lasts =
      split_last o.begun t l
      (λ z. subst (λ (u : ℕ). Course (suc u)) z first_course.1)
      (λ z. next_course t z (λ at. lasts.goes_on t z (omega arith) at) (course t z (lasted (omega arith) (omega arith) lasts)))

  -- A message that its client takes comes after its beginning.
  pub heard_later : (u : ℕ) → Heard R o.id u → o.begun ≤ u → o.begun < u
  heard_later u h l = split_last o.begun u (omega arith) (λ z. absurd (not_first o.is_write_lem (subst (λ (v : ℕ). Begins R x o.is_write_lem o.id (event R v)) z o.begins))) (λ k. k)
    where
      not_first : (w : Bool) → Begins R x w o.id (event R u) → ⊥
      not_first true b = apart (cc (h.event_is, b.1))
      not_first false b = apart (cc h.event_is)

  -- Its messages are for its register.
  pub sends_for : (u : ℕ) (m : Message) (s : Sends R x o u m) → register_of s.by.0 ≡ x
  sends_for u m s = split_last o.begun u (omega (arith, s.lasts.has_begun)) first later
    where
      same : (e : Event) → event R u ≡ some e → s.by.0 ≡ e
      same e q = cc s.by.1

      of_beginning : (w : Bool) → Begins R x w o.id (event R u) → register_of s.by.0 ≡ x
      of_beginning true b = ap register_of (same (begins_write o.id x b.0) b.1)
      of_beginning false b = ap register_of (same (begins_read o.id x) b)

      first : o.begun ≡ u → register_of s.by.0 ≡ x
      first z = of_beginning o.is_write_lem (subst (λ (v : ℕ). Begins R x o.is_write_lem o.id (event R v)) z o.begins)

      later : o.begun < u → register_of s.by.0 ≡ x
      later l = go (course u l s.lasts) (step u (course u l s.lasts) (λ nonce e a. apart (cc s.answered)))
        where
          go : Course u → Step u → register_of s.by.0 ≡ x
          go it (waits_on kept silent) = absurd (silent s.by (send m) s.answered)
          go it (hears h) = heard_register R o.id u h s.by ∙ it.register_is
