-- Writes of correct clients: each PREPARE is of one write, and each finished write sent one. Two writes of a client that was made again may have one
-- timestamp. Assumes nothing.
use mathlib.Core.Path.{◌≡◌, refl, sym, ap, subst, ◌∙◌}
use mathlib.Core.Bool.{Bool, true, false}
use mathlib.Core.List.{List}
use mathlib.Core.Option.{Option, none, some}
use Prim.Native.Nat.{ℕ, zero, suc, ◌≤◌, ◌<◌}
use native.Mathlib.Omega.{arith}
use Rattle.base.specs.Outcome.{accepted}
use Rattle.base.specs.Timestamp.{number}
use Rattle.base.specs.declared.party.ClientId.{ClientId}
use Rattle.base.specs.declared.party.RegisterId.{RegisterId}
use Rattle.base.specs.declared.timestamp.Timestamp.{Timestamp}
use Rattle.base.proofs.Apart.{apart}
use Rattle.wire.specs.Acceptance.{client}
use Rattle.wire.specs.Message.{PREPARE}
use Rattle.wire.specs.Proof.{PreparedProof, WrittenProof}
use Rattle.wire.specs.Sha256.{sha256}
use Rattle.protocol.specs.Client.{Answer, send, waits, done, ended, current_card}
use Rattle.protocol.specs.declared.client.Client.{Client}
use Rattle.protocol.specs.declared.client.Phase.{Phase}
use Rattle.protocol.specs.declared.client.Phase.TheVariants.{Idle, Stamps, Prepareds, Writtens, Cards, WriteBack}
use Rattle.run.specs.ReadsFrom.{Write}
use Rattle.run.specs.Claims.{Begins, GoesOn, Finished, NotMade}
use Rattle.run.specs.Premises.{Accepted, CardOfRun, event_card, Premises}
use Rattle.run.specs.Run.{begins_write, to_client, register_of, Run, event, client_at, answer_at, At, Correct, makes}
use Rattle.run.proofs.Turns.{Silent, Heard, heard_register, ClientTurn, rested, wrote, asked, heard, client_turn_lem, made_again, took, good_client}
use Rattle.protocol.proofs.ClientCases.{is_over}
use Rattle.run.proofs.Stages.{is_stamping, prepared_for, is_prepare, Stage, stamping, prepares, keeps, finishes, others, stage}
use Rattle.run.proofs.Slots.{split_last}
use Rattle.run.proofs.Operations.{Chosen, WriteIn, During, goes_on, stops, finishes as ends, breaks_off}
use Rattle.run.proofs.Demand3.{write_shows}
use Rattle.run.proofs.Order.{three_ways, Turned, waits, acts, turned, stays, correct_of}

module _ (R : Run) (x : RegisterId) where
  -- An answer that ends nothing.
  not_over : (t : ℕ) (answer : Answer) → answer_at R t ≡ accepted answer → is_over answer ≡ false → NotMade R t → GoesOn R t
  not_over t answer e o not_made =
      record {
        not_done = λ timestamp card signers q. let is : answer ≡ done timestamp card signers = cc in apart (cc (o, ap is_over is));
        not_ended = λ q. let is : answer ≡ ended = cc in apart (cc (o, ap is_over is));
        not_made = not_made;
      }

  silent_goes_on : (t : ℕ) (id : ClientId) → Silent R (client id) t → At R t (client id) → GoesOn R t
  silent_goes_on t id silent at = record { not_done = λ timestamp card signers e. silent at (done timestamp card signers) e; not_ended = λ e. silent at ended e; not_made = λ i nonce q a. silent at a.0 a.1 }

  module _ (id : ClientId) (c : R.correct_client id ≡ true) where
    heard_stage : (t : ℕ) (h : Heard R id t) → Stage (client_at R id t) h.turn
    heard_stage t h = stage (client_at R id t) h.turn _ h.message h.facts.case

    next_phase : {A : Type 0} (of : Phase → A) (t : ℕ) (h : Heard R id t) → of (client_at R id (suc t)).phase ≡ of h.turn.next.phase
    next_phase of t h = ap (λ (now : Client). of now.phase) h.step.next_is

    heard_not_made : (t : ℕ) (h : Heard R id t) → NotMade R t
    heard_not_made t h i nonce q a = apart (cc h.event_is)

    -- ---- A client that gathers STAMPs for the register began a write of it

    record Stamped (t : ℕ) : Type 0 where
      card : List ℕ
      begun : ℕ
      begins : event R begun ≡ some (begins_write id x card)
      not_refused : Accepted R begun
      earlier : begun < t
      card_is : current_card (client_at R id t) ≡ card
      none_between : (u : ℕ) → begun < u → u < t → At R u (client id) → GoesOn R u

    -- One event more.
    stamped_on : (t : ℕ) → current_card (client_at R id (suc t)) ≡ current_card (client_at R id t) → (At R t (client id) → GoesOn R t) → Stamped t → Stamped (suc t)
    stamped_on t same here s =
        let before = s.earlier in
        record {
          card = s.card;
          begun = s.begun;
          begins = s.begins;
          not_refused = s.not_refused;
          earlier = omega arith;
          card_is = same ∙ s.card_is;
          none_between = λ u l l' at. split_last u t l' (λ e. rw e (here (rw e at at))) (λ k. s.none_between u l k at);
        }

    stamped : (t : ℕ) → is_stamping (client_at R id t).phase ≡ true → (client_at R id t).register ≡ x → Stamped t
    unfolding client_at
    stamped zero e is = apart (cc)
    stamped (suc t) e is = go (λ k l. stamped t k l) (client_turn_lem R id c t)
      where
        go : (is_stamping (client_at R id t).phase ≡ true → (client_at R id t).register ≡ x → Stamped t) → ClientTurn R id t → Stamped (suc t)
        go ih (rested same silent) =
            stamped_on t (ap current_card same) (silent_goes_on t id silent)
            (ih (sym (ap (λ (now : Client). is_stamping now.phase) same) ∙ e) (sym (ap (λ (now : Client). now.register) same) ∙ is))
        go ih (wrote y card turn q b s) =
            let for_it : y ≡ x = sym b.register_is ∙ sym (ap (λ (now : Client). now.register) s.next_is) ∙ is in
            record {
              card = card;
              begun = t;
              begins = q ∙ ap (λ (y : RegisterId). some (begins_write id y card)) for_it;
              not_refused = (turn.answer, s.answer_is);
              earlier = omega arith;
              card_is = ap current_card s.next_is ∙ b.card_is;
              none_between = λ u l l' at. absurd (omega arith);
            }
        go ih (asked y turn q b s) =
            let is : is_stamping (client_at R id (suc t)).phase ≡ false = ap (λ (now : Client). is_stamping now.phase) s.next_is ∙ ap is_stamping b.phase_is in
            apart (cc)
        go ih (made_again nonce q positive s) =
            let is : is_stamping (client_at R id (suc t)).phase ≡ false = ap (λ (now : Client). is_stamping now.phase) s.next_is in
            apart (cc)
        go ih (took y bytes verdicts next q it s) =
            let is : is_stamping (client_at R id (suc t)).phase ≡ false = ap (λ (now : Client). is_stamping now.phase) (s.next_is ∙ it.after_is) ∙ ap is_stamping it.was_idle in
            apart (cc)
        go ih (heard h) = by (heard_stage t h)
          where
            no : {A : Type 0} → is_stamping h.turn.next.phase ≡ false → A
            no k = let is = next_phase is_stamping t h in apart (cc)

            by : Stage (client_at R id t) h.turn → Stamped (suc t)
            by (stamping was no_timestamp none_next same answer) =
                stamped_on t (ap current_card h.step.next_is ∙ same) (λ at. not_over t waits (h.step.answer_is ∙ ap accepted answer) refl (heard_not_made t h))
                (ih was (sym h.facts.same_register ∙ sym (ap (λ (now : Client). now.register) h.step.next_is) ∙ is))
            by (prepares timestamp shown last was no_timestamp is for kept answer shows) = no is
            by (keeps timestamp was is no_stamps kept no_prepare goes) = no no_stamps
            by (finishes timestamp card signers entries was none_next is written answer) = no is
            by (others was none_next is no_prepare) = no is

    -- ---- A PREPARE is of a write

    record Sends (t s : ℕ) (d : List ℕ) : Type 0 where
      was_stamping : is_stamping (client_at R id t).phase ≡ true
      had_no_timestamp : prepared_for (client_at R id t).phase ≡ none
      has_timestamp : prepared_for (client_at R id (suc t)).phase ≡ some s
      digest_is : d ≡ sha256 (current_card (client_at R id t))

    sends : (t s : ℕ) (d : List ℕ) (shown : Option PreparedProof) (last : Option WrittenProof) → At R t (client id) → answer_at R t ≡ accepted (send (PREPARE id s d shown last)) → Sends t s d
    sends t s d shown last at e = go (client_turn_lem R id c t)
      where
        no : {A : Type 0} (answer : Answer) → answer_at R t ≡ accepted answer → is_prepare answer ≡ false → A
        no answer q k = let is : answer ≡ send (PREPARE id s d shown last) = cc in apart (cc (k, ap is_prepare is))

        go : ClientTurn R id t → Sends t s d
        go (rested same silent) = absurd (silent at (send (PREPARE id s d shown last)) e)
        go (wrote y card turn q b k) = no turn.answer k.answer_is (ap is_prepare b.sends)
        go (asked y turn q b k) = no turn.answer k.answer_is (ap is_prepare b.sends)
        go (made_again nonce q positive k) = no waits k.answer_is refl
        go (took y bytes verdicts next q it k) = no waits k.answer_is refl
        go (heard h) = by (heard_stage t h)
          where
            by : Stage (client_at R id t) h.turn → Sends t s d
            by (stamping was no_timestamp none_next same answer) = no h.turn.answer h.step.answer_is (ap is_prepare answer)
            by (prepares timestamp shown' last' was no_timestamp is for kept answer shows) =
                let same_timestamp : timestamp ≡ s = cc h.step.answer_is in
                let same_digest : d ≡ sha256 (current_card (client_at R id t)) = cc h.step.answer_is in
                record { was_stamping = was; had_no_timestamp = no_timestamp; has_timestamp = next_phase prepared_for t h ∙ for ∙ ap some same_timestamp; digest_is = same_digest }
            by (keeps timestamp was is no_stamps kept no_prepare goes) = no h.turn.answer h.step.answer_is no_prepare
            by (finishes timestamp card signers entries was none_next is written answer) = no h.turn.answer h.step.answer_is (ap is_prepare answer)
            by (others was none_next is no_prepare) = no h.turn.answer h.step.answer_is no_prepare

    -- What is answered to a message is for the client's register.
    sent_for_lem : (t s : ℕ) (d : List ℕ) (shown : Option PreparedProof) (last : Option WrittenProof) (at : At R t (client id)) → register_of at.0 ≡ x
        → answer_at R t ≡ accepted (send (PREPARE id s d shown last)) → (client_at R id t).register ≡ x
    sent_for_lem t s d shown last at is e = go (client_turn_lem R id c t)
      where
        no : {A : Type 0} (answer : Answer) → answer_at R t ≡ accepted answer → is_prepare answer ≡ false → A
        no answer q k = let is : answer ≡ send (PREPARE id s d shown last) = cc in apart (cc (k, ap is_prepare is))

        go : ClientTurn R id t → (client_at R id t).register ≡ x
        go (rested same silent) = absurd (silent at (send (PREPARE id s d shown last)) e)
        go (wrote y card turn q b k) = no turn.answer k.answer_is (ap is_prepare b.sends)
        go (asked y turn q b k) = no turn.answer k.answer_is (ap is_prepare b.sends)
        go (made_again nonce q positive k) = no waits k.answer_is refl
        go (took y bytes verdicts next q it k) = no waits k.answer_is refl
        go (heard h) = sym (heard_register R id t h at) ∙ is

    -- The write that a PREPARE for the register is of; the digest is its card's.
    pub write_of : (t s : ℕ) (d : List ℕ) (shown : Option PreparedProof) (last : Option WrittenProof) (at : At R t (client id)) → register_of at.0 ≡ x
        → answer_at R t ≡ accepted (send (PREPARE id s d shown last))
        → (w : Write R x) × (w.id ≡ id) × (w.timestamp ≡ s) × (sha256 w.card ≡ d) × (w.prepared ≡ t)
    write_of t s d shown last at is e =
        let q = sends t s d shown last at e in
        let b = stamped t q.was_stamping (sent_for_lem t s d shown last at is e) in
        let w : Write R x = record {
          id = id;
          card = b.card;
          begun = b.begun;
          begins = b.begins;
          not_refused = b.not_refused;
          timestamp = s;
          digest = d;
          shown = shown;
          last = last;
          prepared = t;
          after = b.earlier;
          at_client = at;
          prepares = e;
          none_between = b.none_between;
        } in
        (w, refl, refl, sym (q.digest_is ∙ ap sha256 b.card_is), refl)

    -- ---- A client that has its timestamp keeps it while the write goes on

    kept_on : (t s : ℕ) → prepared_for (client_at R id t).phase ≡ some s → (At R t (client id) → GoesOn R t) → prepared_for (client_at R id (suc t)).phase ≡ some s
    kept_on t s has goes = go (client_turn_lem R id c t)
      where
        no : {A : Type 0} → prepared_for (client_at R id t).phase ≡ none → A
        no k = apart (cc)

        go : ClientTurn R id t → prepared_for (client_at R id (suc t)).phase ≡ some s
        go (rested same silent) = ap (λ (after : Client). prepared_for after.phase) same ∙ has
        go (wrote y card turn q b k) = no (ap prepared_for b.was_idle)
        go (asked y turn q b k) = no (ap prepared_for b.was_idle)
        go (made_again nonce q positive k) = absurd ((goes (makes id nonce, q, refl)).not_made id nonce q (_, k.answer_is))
        go (took y bytes verdicts next q it k) = no (ap prepared_for it.was_idle)
        go (heard h) = by (heard_stage t h)
          where
            by : Stage (client_at R id t) h.turn → prepared_for (client_at R id (suc t)).phase ≡ some s
            by (stamping was no_timestamp none_next same answer) = no no_timestamp
            by (prepares timestamp shown last was no_timestamp is for kept answer shows) = no no_timestamp
            by (keeps timestamp was is no_stamps kept no_prepare goes') = let same : timestamp ≡ s = cc in next_phase prepared_for t h ∙ is ∙ ap some same
            by (finishes timestamp card signers entries was none_next is written answer) =
                absurd ((goes (to_client id h.bytes h.verdicts, h.event_is, refl)).not_done timestamp card signers (h.step.answer_is ∙ ap accepted answer))
            by (others was none_next is no_prepare) = no was

    -- ---- A write that has its timestamp has asked for it

    -- The write that began with event t₀, and sent its PREPARE with timestamp s.
    abbrev Asked : ℕ → List ℕ → ℕ → Type 0
    Asked t₀ card s = (w : Write R x) × (w.id ≡ id) × (w.begun ≡ t₀) × (w.timestamp ≡ s) × (w.card ≡ card)

    module _ (t₀ : ℕ) (card : List ℕ) (begins : event R t₀ ≡ some (begins_write id x card)) (a : Accepted R t₀) where
      first : prepared_for (client_at R id (suc t₀)).phase ≡ none
      first = go (client_turn_lem R id c t₀)
        where
          go : ClientTurn R id t₀ → prepared_for (client_at R id (suc t₀)).phase ≡ none
          go (rested same silent) = absurd (silent (begins_write id x card, begins, refl) a.0 a.1)
          go (wrote y card' turn q b k) = ap (λ (now : Client). prepared_for now.phase) k.next_is ∙ ap prepared_for b.phase_is
          go (asked y turn q b k) = apart (cc)
          go (made_again nonce q positive k) = apart (cc)
          go (took y bytes verdicts next q it k) = apart (cc)
          go (heard h) = apart (cc h.event_is)

      has_asked : (end : ℕ) → ((t : ℕ) → t₀ < t → t < end → At R t (client id) → GoesOn R t) → (t : ℕ) → t₀ < t → t ≤ end → (s : ℕ) → prepared_for (client_at R id t).phase ≡ some s → Asked t₀ card s
      has_asked end none_between zero l l' s has = absurd (omega arith)
      has_asked end none_between (suc t) l l' s has =
          split_last t₀ t l
          (λ e. let none_yet : prepared_for (client_at R id (suc t)).phase ≡ none = subst (λ (u : ℕ). prepared_for (client_at R id (suc u)).phase ≡ none) e first in apart (cc))
          (λ k. go k (λ had. has_asked end none_between t k (omega arith) s had) (client_turn_lem R id c t))
        where
          no : {A : Type 0} → prepared_for (client_at R id (suc t)).phase ≡ none → A
          no k = apart (cc)

          go : t₀ < t → (prepared_for (client_at R id t).phase ≡ some s → Asked t₀ card s) → ClientTurn R id t → Asked t₀ card s
          go k ih (rested same silent) = ih (sym (ap (λ (after : Client). prepared_for after.phase) same) ∙ has)
          go k ih (wrote y card' turn q b n) = no (ap (λ (now : Client). prepared_for now.phase) n.next_is ∙ ap prepared_for b.phase_is)
          go k ih (asked y turn q b n) = no (ap (λ (now : Client). prepared_for now.phase) n.next_is ∙ ap prepared_for b.phase_is)
          go k ih (made_again nonce q positive n) = no (ap (λ (now : Client). prepared_for now.phase) n.next_is)
          go k ih (took y bytes verdicts next q it n) = no (ap (λ (now : Client). prepared_for now.phase) (n.next_is ∙ it.after_is) ∙ ap prepared_for it.was_idle)
          go k ih (heard h) = by (heard_stage t h)
            where
              by : Stage (client_at R id t) h.turn → Asked t₀ card s
              by (stamping was no_timestamp none_next same answer) = no (next_phase prepared_for t h ∙ none_next)
              by (prepares timestamp shown last was no_timestamp is for kept answer shows) =
                  let there : prepared_for (client_at R id (suc t)).phase ≡ some timestamp = next_phase prepared_for t h ∙ for in
                  let same : timestamp ≡ s = cc in
                  let own = (good_client R id c t).id_is in
                  let digest = sha256 (current_card (client_at R id t)) in
                  let w : Write R x = record {
                    id = id;
                    card = card;
                    begun = t₀;
                    begins = begins;
                    not_refused = a;
                    timestamp = timestamp;
                    digest = digest;
                    shown = shown;
                    last = last;
                    prepared = t;
                    after = k;
                    at_client = (to_client id h.bytes h.verdicts, h.event_is, refl);
                    prepares = h.step.answer_is ∙ ap accepted answer ∙ ap (λ (i : ClientId). accepted (send (PREPARE i timestamp digest shown last))) own;
                    none_between = λ u l₁ l₂ at. none_between u l₁ (omega arith) at;
                  } in
                  (w, refl, refl, same, refl)
              by (keeps timestamp was is no_stamps kept no_prepare goes) =
                  let there : prepared_for (client_at R id (suc t)).phase ≡ some timestamp = next_phase prepared_for t h ∙ is in
                  ih (cc)
              by (finishes timestamp card' signers entries was none_next is written answer) = no (next_phase prepared_for t h ∙ none_next)
              by (others was none_next is no_prepare) = no (next_phase prepared_for t h ∙ none_next)

  -- ---- A write from its PREPARE on

  pub write_in_run : (w : Write R x) → CardOfRun R w.card
  write_in_run w = record { time = w.begun; carried = ap (event_card R) w.begins; not_refused = w.not_refused }

  pub correct_writer : (w : Write R x) → R.correct_client w.id ≡ true
  correct_writer w = subst (Correct R) w.at_client.2 (R.at_correct w.prepared w.at_client.0 w.at_client.1)

  -- The timestamp that a phase of a write has is the chosen one.
  chosen_in : (id : ClientId) (card : List ℕ) (t₀ t s : ℕ) (now : Client) (phase : Phase) → WriteIn R x id card t₀ t now phase → prepared_for phase ≡ some s → Chosen R x id t₀ s
  chosen_in id card t₀ t s now Idle it e = absurd it
  chosen_in id card t₀ t s now (Stamps nonce best counted) it e = apart (cc)
  chosen_in id card t₀ t s now (Prepareds timestamp counted) it e = let is : number timestamp ≡ s = cc in subst (Chosen R x id t₀) is it.chosen
  chosen_in id card t₀ t s now (Writtens timestamp counted) it e = let is : number timestamp ≡ s = cc in subst (Chosen R x id t₀) is it.chosen
  chosen_in id card t₀ t s now (Cards nonce best counted showed) it e = absurd it
  chosen_in id card t₀ t s now (WriteBack timestamp counted) it e = absurd it

  module _ (P : Premises R) (w : Write R x) where
    correct : R.correct_client w.id ≡ true
    correct = correct_writer w

    abbrev now : ℕ → Client
    now t = client_at R w.id t

    abbrev Under : ℕ → Type 0
    Under t = During R x true w.id w.card w.begun t (now t) (now t).phase

    turn_under : (t : ℕ) → Under t → Turned R x w.id correct true w.card w.begun t
    turn_under t it = turned R x w.id correct P true w.card (λ e. write_in_run w) w.begun t it

    under : (t : ℕ) → w.begun < t → t ≤ w.prepared → Under t
    under = stays R x P w.id correct true w.begun (w.card, w.begins) w.not_refused w.prepared w.none_between

    -- It has its timestamp after the PREPARE.
    sent : Sends w.id correct w.prepared w.timestamp w.digest
    sent = sends w.id correct w.prepared w.timestamp w.digest w.shown w.last w.at_client w.prepares

    first_under : Under (suc w.prepared)
    first_under = go (turn_under w.prepared (under w.prepared w.after (omega arith)))
      where
        go : Turned R x w.id correct true w.card w.begun w.prepared → Under (suc w.prepared)
        go (waits it silent) = it
        go (acts at (goes_on it not_done)) = it
        go (acts at (ends timestamp card signers e had it)) = apart (cc w.prepares)
        go (acts at (stops is_write_lem e)) = apart (cc w.prepares)
        go (acts at (breaks_off nonce q e)) = apart (cc w.prepares)

    pub chosen : Chosen R x w.id w.begun w.timestamp
    chosen = let t = suc w.prepared in chosen_in w.id w.card w.begun t w.timestamp (now t) (now t).phase first_under.1 sent.has_timestamp

    -- It has one PREPARE: it keeps its timestamp while it goes on.
    same_begins : (w' : Write R x) → w.begun ≡ w'.begun → (w.id ≡ w'.id) × (w.card ≡ w'.card)
    same_begins w' e =
        let here : event R w'.begun ≡ some (begins_write w.id x w.card) = ap (event R) (sym e) ∙ w.begins in
        (cc w'.begins, cc w'.begins)

    has_until : (end : ℕ) → ((t : ℕ) → w.begun < t → t < end → At R t (client w.id) → GoesOn R t) → (t : ℕ) → w.prepared < t → t ≤ end → prepared_for (now t).phase ≡ some w.timestamp
    has_until end none_between zero l l' = absurd (omega arith)
    has_until end none_between (suc t) l l' =
        split_last w.prepared t l
        (λ e. subst (λ (u : ℕ). prepared_for (now (suc u)).phase ≡ some w.timestamp) e sent.has_timestamp)
        (λ k. let after = w.after in kept_on w.id correct t w.timestamp (has_until end none_between t k (omega arith)) (λ at. none_between t (omega arith) l' at))

    none_later : (w' : Write R x) → w.begun ≡ w'.begun → w.prepared < w'.prepared → ⊥
    none_later w' e l =
        let same = (same_begins w' e).0 in
        let q = sends w'.id (correct_writer w') w'.prepared w'.timestamp w'.digest w'.shown w'.last w'.at_client w'.prepares in
        let had : prepared_for (client_at R w.id w'.prepared).phase ≡ none = rw same q.had_no_timestamp in
        let has = has_until w'.prepared (λ t b b' at. w'.none_between t (omega arith) b' (subst (λ (i : ClientId). At R t (client i)) same at)) w'.prepared l (omega arith) in
        apart (cc)

  -- So what begins with one event is one write.
  pub same_write : Premises R → (w w' : Write R x) → w.begun ≡ w'.begun → (w.timestamp ≡ w'.timestamp) × (w.card ≡ w'.card)
  same_write P w w' e =
      let prepared : w.prepared ≡ w'.prepared = three_ways w.prepared w'.prepared (λ l. absurd (none_later P w w' e l)) (λ k. k) (λ l. absurd (none_later P w' w (sym e) l)) in
      let there : answer_at R w.prepared ≡ accepted (send (PREPARE w'.id w'.timestamp w'.digest w'.shown w'.last)) = ap (answer_at R) prepared ∙ w'.prepares in
      (cc w.prepares, (same_begins P w w' e).1)

  -- ---- A finished write sent its PREPARE

  pub finished_write : Premises R → (o : Finished R x) → o.is_write_lem ≡ true
      → (w : Write R x) × (w.id ≡ o.id) × (w.begun ≡ o.begun) × (w.timestamp ≡ number o.timestamp) × (w.card ≡ o.card)
  finished_write P o is =
      let b : Begins R x true o.id (event R o.begun) = subst (λ (v : Bool). Begins R x v o.id (event R o.begun)) is o.begins in
      with b
    where
      c : R.correct_client o.id ≡ true
      c = correct_of R x o

      with : Begins R x true o.id (event R o.begun)
          → (w : Write R x) × (w.id ≡ o.id) × (w.begun ≡ o.begun) × (w.timestamp ≡ number o.timestamp) × (w.card ≡ o.card)
      with b =
          let in_run : CardOfRun R b.0 = record { time = o.begun; carried = ap (event_card R) b.1; not_refused = o.not_refused } in
          let during = stays R x P o.id c true o.begun b o.not_refused o.finished o.none_between o.finished o.after (omega arith) in
          let had = last (turned R x o.id c P true b.0 (λ e. in_run) o.begun o.finished during) in
          let (w, own, begun, timestamp, card) = has_asked o.id c o.begun b.0 b.1 o.not_refused o.finished o.none_between o.finished o.after (omega arith) (number o.timestamp) had in
          (w, own, begun, timestamp, card ∙ sym (write_shows R x P o b.0 b.1).0)
        where
          -- Its phase at its done.
          last : Turned R x o.id c true b.0 o.begun o.finished → prepared_for (client_at R o.id o.finished).phase ≡ some (number o.timestamp)
          last (waits it silent) = absurd (silent o.at_client (done o.timestamp o.card o.signers) o.is_done_lem)
          last (acts at (goes_on it not_done)) = absurd (not_done o.timestamp o.card o.signers o.is_done_lem)
          last (acts at (ends timestamp card signers e had it)) = let same : timestamp ≡ o.timestamp = cc o.is_done_lem in had refl ∙ ap (λ (t : Timestamp). some (number t)) same
          last (acts at (stops is_write_lem e)) = apart (cc o.is_done_lem)
          last (acts at (breaks_off nonce q e)) = apart (cc o.is_done_lem)

  -- The finished operation that begins as a write does is this write, with its timestamp.
  pub same_writer : (w : Write R x) (o : Finished R x) → o.begun ≡ w.begun → (o.id ≡ w.id) × (o.is_write_lem ≡ true)
  same_writer w o e = go o.is_write_lem o.begins
    where
      here : event R o.begun ≡ some (begins_write w.id x w.card)
      here = ap (event R) e ∙ w.begins

      go : (v : Bool) → Begins R x v o.id (event R o.begun) → (o.id ≡ w.id) × (v ≡ true)
      go true b = let q = b.1 in (cc, refl)
      go false b = apart (cc)

  pub finished_with : Premises R → (w : Write R x) (o : Finished R x) → o.begun ≡ w.begun → number o.timestamp ≡ w.timestamp
  finished_with P w o e =
      let (w', own, begun, timestamp, card) = finished_write P o (same_writer w o e).1 in
      sym timestamp ∙ (same_write P w' w (begun ∙ e)).0
