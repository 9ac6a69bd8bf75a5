-- Finished operations and their order. Assumes nothing.
use mathlib.Core.Path.{◌≡◌, refl, sym, ap, subst, subst₂, ◌∙◌}
use mathlib.Core.Logic.{◌⊎◌, inl, inr, ⊎_elim}
use mathlib.Core.Bool.{Bool, true, false, not}
use mathlib.Core.List.{List}
use mathlib.Core.Option.{Option, some}
use Prim.Native.Nat.{ℕ, zero, suc, ◌+◌, ◌%◌, ◌≤◌, ◌<◌}
use native.Mathlib.Omega.{arith}
use native.Mathlib.Nat.{eq-or-lt_of_le}
use Rattle.base.specs.Outcome.{accepted}
use Rattle.base.specs.Party.{is_client, is_writer, is_viewer}
use Rattle.base.specs.Timestamp.{number}
use Rattle.base.specs.declared.party.ClientId.{ClientId}
use Rattle.base.specs.declared.party.RegisterId.{RegisterId}
use Rattle.base.specs.declared.replica_set.ReplicaSet.{ReplicaSet}
use Rattle.base.specs.declared.timestamp.Timestamp.{Timestamp}
use Rattle.base.proofs.Booleans.{and_true_both}
use Rattle.base.proofs.Apart.{apart}
use Rattle.wire.specs.Sha256.{sha256}
use Rattle.protocol.specs.Client.{done, ended}
use Rattle.protocol.specs.Parts.{start_card}
use Rattle.protocol.specs.declared.client.Client.{Client}
use Rattle.protocol.specs.declared.client.Phase.TheVariants.{Idle}
use Rattle.run.specs.Claims.{Begins, NotDone, GoesOn, Finished, Viewed, ViewAfter, SameOperation, FinishedBefore, AtOneTimestamp, LiesBefore, Before, NotMade}
use Rattle.run.specs.Premises.{Accepted, CardOfRun, event_card, Premises}
use Rattle.wire.specs.Acceptance.{client}
use Rattle.run.specs.Run.{Event, begins_write, begins_read, to_client, Run, party_of, event, client_at, answer_at, At, Correct, makes}
use Rattle.run.proofs.Turns.{same_client, Silent, ClientTurn, rested, wrote, asked, heard, client_turn_lem, made_again, took}
use Rattle.run.proofs.Slots.{split_last, order, one_backed}
use Rattle.run.proofs.Operations.{none_in, Settled, settled_later, Shown, shown_later, During, during_later, not_idle, moved, Above, AtDone, Next, goes_on, finishes, stops, heard_next, breaks_off}

pub three_ways : {P : Type 0} (a b : ℕ) → (a < b → P) → (a ≡ b → P) → (b < a → P) → P
three_ways a b it y z = ⊎_elim (λ l. ⊎_elim y it (eq-or-lt_of_le l)) z (order a b)

-- ---- The order of places

pub not_itself : (s : ℕ) (w : Bool) (at : ℕ) → LiesBefore s w at s w at → ⊥
not_itself s w at (inl l) = omega arith
not_itself s w at (inr k) = go w k.1
  where
    go : (w : Bool) → AtOneTimestamp w w at at → ⊥
    go true it = it
    go false it = omega arith

chain : (w w' w'' : Bool) (a b c : ℕ) → AtOneTimestamp w w' a b → AtOneTimestamp w' w'' b c → AtOneTimestamp w w'' a c
chain true true w'' a b c it y = absurd it
chain true false true a b c it y = absurd y
chain true false false a b c it y = tt
chain false true w'' a b c it y = absurd it
chain false false true a b c it y = absurd y
chain false false false a b c it y = omega arith

pub before_both : (s s' s'' : ℕ) (w w' w'' : Bool) (at at' at'' : ℕ) → LiesBefore s w at s' w' at' → LiesBefore s' w' at' s'' w'' at'' → LiesBefore s w at s'' w'' at''
before_both s s' s'' w w' w'' at at' at'' (inl a) (inl b) = inl (omega arith)
before_both s s' s'' w w' w'' at at' at'' (inl a) (inr b) = let e = b.0 in inl (omega arith)
before_both s s' s'' w w' w'' at at' at'' (inr a) (inl b) = let e = a.0 in inl (omega arith)
before_both s s' s'' w w' w'' at at' at'' (inr a) (inr b) = inr (a.0 ∙ b.0, chain w w' w'' at at' at'' a.1 b.1)

module _ (R : Run) (x : RegisterId) where
  -- The card that a write was begun with.
  abbrev pub begun_with : (w : Bool) (id : ClientId) (e : Option Event) → Begins R x w id e → List ℕ
  begun_with true id e b = b.0
  begun_with false id e b = start_card

  -- The event of a beginning.
  pub begins_at : (w : Bool) (id : ClientId) (t : ℕ) → Begins R x w id (event R t) → At R t (client id)
  begins_at true id t b = (begins_write id x b.0, b.1, refl)
  begins_at false id t b = (begins_read id x, b, refl)

  pub begun_card : (w : Bool) (id : ClientId) (t : ℕ) (b : Begins R x w id (event R t)) → Accepted R t → w ≡ true → CardOfRun R (begun_with w id (event R t) b)
  begun_card true id t b a w = record { time = t; carried = ap (event_card R) b.1; not_refused = a }
  begun_card false id t b a w = apart (cc)

  module _ (id : ClientId) (c : R.correct_client id ≡ true) where
    start_write : (t₀ : ℕ) (card : List ℕ) → event R t₀ ≡ some (begins_write id x card) → Accepted R t₀
        → During R x true id card t₀ (suc t₀) (client_at R id (suc t₀)) (client_at R id (suc t₀)).phase
    start_write t₀ card e a = go (client_turn_lem R id c t₀)
      where
        go : ClientTurn R id t₀ → During R x true id card t₀ (suc t₀) (client_at R id (suc t₀)) (client_at R id (suc t₀)).phase
        go (rested same silent) = absurd (silent (begins_write id x card, e, refl) a.0 a.1)
        go (wrote y card' turn e' b s) =
            let is : card' ≡ card = cc in
            let for_it : y ≡ x = cc in
            moved R x true id card t₀ t₀ turn _ s b.phase_is (b.register_is ∙ for_it, record { card_is = b.card_is ∙ is; new = omega arith; seen = λ r k c. none_in r k })
        go (asked y turn e' b s) = apart (cc)
        go (heard h) = apart (cc h.event_is)
        go (made_again nonce e' positive s) = apart (cc)
        go (took y bytes verdicts next e' it s) = apart (cc)

    start_read : (t₀ : ℕ) → event R t₀ ≡ some (begins_read id x) → Accepted R t₀ → During R x false id start_card t₀ (suc t₀) (client_at R id (suc t₀)) (client_at R id (suc t₀)).phase
    start_read t₀ e a = go (client_turn_lem R id c t₀)
      where
        go : ClientTurn R id t₀ → During R x false id start_card t₀ (suc t₀) (client_at R id (suc t₀)) (client_at R id (suc t₀)).phase
        go (rested same silent) = absurd (silent (begins_read id x, e, refl) a.0 a.1)
        go (wrote y card' turn e' b s) = apart (cc)
        go (asked y turn e' b s) =
            let for_it : y ≡ x = cc in
            moved R x false id start_card t₀ t₀ turn _ s b.phase_is
            (b.register_is ∙ for_it, record { new = omega arith; seen = λ r k c. none_in r k; shown_by = λ r k c. none_in r k; is_shown = inl (refl, b.card_is, b.no_signers) })
        go (heard h) = apart (cc h.event_is)
        go (made_again nonce e' positive s) = apart (cc)
        go (took y bytes verdicts next e' it s) = apart (cc)

    pub start : (w : Bool) (t₀ : ℕ) (b : Begins R x w id (event R t₀)) → Accepted R t₀
        → During R x w id (begun_with w id (event R t₀) b) t₀ (suc t₀) (client_at R id (suc t₀)) (client_at R id (suc t₀)).phase
    start true t₀ b a = start_write t₀ b.0 b.1 a
    start false t₀ b a = start_read t₀ b a

    -- Event t while the client's operation is under way.
    pub data Turned (w : Bool) (card : List ℕ) (t₀ t : ℕ) : Type 0 where
      waits : During R x w id card t₀ (suc t) (client_at R id (suc t)) (client_at R id (suc t)).phase → Silent R (client id) t → Turned w card t₀ t
      acts : At R t (client id) → Next R x w id card t₀ t → Turned w card t₀ t

    pub turned : Premises R → (w : Bool) (card : List ℕ) → (w ≡ true → CardOfRun R card) → (t₀ t : ℕ) → During R x w id card t₀ t (client_at R id t) (client_at R id t).phase → Turned w card t₀ t
    turned P w card in_run t₀ t it = go (client_turn_lem R id c t)
      where
        busy : {A : Type 0} → (client_at R id t).phase ≡ Idle → A
        busy {A} e = not_idle R x w id card t₀ t (client_at R id t) (subst (During R x w id card t₀ t (client_at R id t)) e it)

        go : ClientTurn R id t → Turned w card t₀ t
        go (rested same silent) =
            waits (subst (λ (after : Client). During R x w id card t₀ (suc t) after after.phase) (sym same) (during_later R x w id card t₀ t (client_at R id t) (client_at R id t).phase it)) silent
        go (wrote y card' turn e b s) = busy b.was_idle
        go (asked y turn e b s) = busy b.was_idle
        go (heard h) = acts (to_client id h.bytes h.verdicts, h.event_is, refl) (heard_next R x P id c t₀ t w card in_run h it)
        go (made_again nonce e positive s) = acts (makes id nonce, e, refl) (breaks_off nonce e s.answer_is)
        go (took y bytes verdicts next e k s) = busy k.was_idle

    -- A busy client begins nothing.
    pub none_begun : (w w' : Bool) (card : List ℕ) (t₀ t : ℕ) → During R x w id card t₀ t (client_at R id t) (client_at R id t).phase → Begins R x w' id (event R t) → Accepted R t → ⊥
    none_begun w w' card t₀ t it b a = go (client_turn_lem R id c t)
      where
        busy : (client_at R id t).phase ≡ Idle → ⊥
        busy e = not_idle R x w id card t₀ t (client_at R id t) (subst (During R x w id card t₀ t (client_at R id t)) e it)

        no_message : (w' : Bool) (bytes verdicts : List ℕ) → event R t ≡ some (to_client id bytes verdicts) → Begins R x w' id (event R t) → ⊥
        no_message true bytes verdicts e b = apart (cc b.1)
        no_message false bytes verdicts e b = apart (cc)

        no_making : (w' : Bool) (nonce : ℕ) → event R t ≡ some (makes id nonce) → Begins R x w' id (event R t) → ⊥
        no_making true nonce e b = apart (cc b.1)
        no_making false nonce e b = apart (cc)

        go : ClientTurn R id t → ⊥
        go (rested same silent) = silent (begins_at w' id t b) a.0 a.1
        go (wrote y card' turn e b' s) = busy b'.was_idle
        go (asked y turn e b' s) = busy b'.was_idle
        go (heard h) = no_message w' h.bytes h.verdicts h.event_is b
        go (made_again nonce e positive s) = no_making w' nonce e b
        go (took y bytes verdicts next e k s) = busy k.was_idle

  correct_at : (id : ClientId) (t : ℕ) → At R t (client id) → R.correct_client id ≡ true
  correct_at id t at = subst (Correct R) at.2 (R.at_correct t at.0 at.1)

  pub correct_of : (o : Finished R x) → R.correct_client o.id ≡ true
  correct_of o = correct_at o.id o.finished o.at_client

  abbrev pub card_begun : Finished R x → List ℕ
  card_begun o = begun_with o.is_write_lem o.id (event R o.begun) o.begins

  -- What no event between beginning and end does: a read never ends for lack of a successor.
  abbrev Between : Bool → ℕ → Type 0
  Between true t = GoesOn R t
  Between false t = NotDone R t × NotMade R t

  between : (w : Bool) (t : ℕ) → GoesOn R t → Between w t
  between true t g = g
  between false t g = (g.not_done, g.not_made)

  between_done : (w : Bool) (t : ℕ) → Between w t → NotDone R t
  between_done true t g = g.not_done
  between_done false t g = g.0

  between_made : (w : Bool) (t : ℕ) → Between w t → NotMade R t
  between_made true t g = g.not_made
  between_made false t g = g.1

  between_ended : (w : Bool) (t : ℕ) → w ≡ true → Between w t → answer_at R t ≡ accepted ended → ⊥
  between_ended true t e g = g.not_ended
  between_ended false t e g = apart (cc)

  -- A viewing client is not made again.
  never_made : (id : ClientId) → is_viewer id ≡ true → (t : ℕ) → At R t (client id) → NotMade R t
  never_made id viewer t at id' nonce e a =
      let one : at.0 ≡ makes id' nonce = cc at.1 in
      let party : client id ≡ client id' = sym at.2 ∙ ap party_of one in
      let same : id ≡ id' = cc in
      let writer : is_writer id ≡ true = subst (λ (i : ClientId). is_writer i ≡ true) (sym same) (R.writers_made t id' nonce e) in
      let none : not (is_writer id) ≡ true = (and_true_both (is_client id) (not (is_writer id)) viewer).1 in
      apart (cc (ap not writer))

  module _ (P : Premises R) where
    -- An operation that began at t₀ is under way as long as nothing ends it.
    pub stays : (id : ClientId) (c : R.correct_client id ≡ true) (w : Bool) (t₀ : ℕ) (b : Begins R x w id (event R t₀)) (a : Accepted R t₀) (end : ℕ)
        → ((t : ℕ) → t₀ < t → t < end → At R t (client id) → Between w t) → (t : ℕ) → t₀ < t → t ≤ end
        → During R x w id (begun_with w id (event R t₀) b) t₀ t (client_at R id t) (client_at R id t).phase
    stays id c w t₀ b a end none_between zero l l' = absurd (omega arith)
    stays id c w t₀ b a end none_between (suc t) l l' =
        split_last t₀ t l
        (λ e. subst (λ (u : ℕ). Under (suc u)) e (start id c w t₀ b a))
        (λ k. go k (turned id c P w card (begun_card w id t₀ b a) t₀ t (stays id c w t₀ b a end none_between t k (omega arith))))
      where
        card : List ℕ
        card = begun_with w id (event R t₀) b

        Under : ℕ → Type 0
        Under u = During R x w id card t₀ u (client_at R id u) (client_at R id u).phase

        go : t₀ < t → Turned id c w card t₀ t → Under (suc t)
        go k (waits it silent) = it
        go k (acts at (goes_on it not_done)) = it
        go k (acts at (finishes timestamp shown signers e had it)) = absurd (between_done w t (none_between t k l' at) timestamp shown signers e)
        go k (acts at (breaks_off nonce e a)) = absurd (between_made w t (none_between t k l' at) id nonce e (_, a))
        go k (acts at (stops is_write_lem e)) = absurd (between_ended w t is_write_lem (none_between t k l' at) e)

    during : (o : Finished R x) (t : ℕ) → o.begun < t → t ≤ o.finished
        → During R x o.is_write_lem o.id (card_begun o) o.begun t (client_at R o.id t) (client_at R o.id t).phase
    during o = stays o.id (correct_of o) o.is_write_lem o.begun o.begins o.not_refused o.finished (λ t l l' at. between o.is_write_lem t (o.none_between t l l' at))

    -- What holds at the first done after a beginning.
    first_done : (id : ClientId) (w : Bool) (t₀ : ℕ) (b : Begins R x w id (event R t₀)) (a : Accepted R t₀) (end : ℕ) → t₀ < end → ((t : ℕ) → t₀ < t → t < end → At R t (client id) → Between w t)
        → At R end (client id) → (timestamp : Timestamp) (card : List ℕ) (signers : ReplicaSet) → answer_at R end ≡ accepted (done timestamp card signers)
        → AtDone R x w id (begun_with w id (event R t₀) b) t₀ (suc end) timestamp card signers
    first_done id w t₀ b a end l none_between at timestamp card signers e = go (turned id c P w begun (begun_card w id t₀ b a) t₀ end (stays id c w t₀ b a end none_between end l (omega arith)))
      where
        c : R.correct_client id ≡ true
        c = correct_at id end at

        begun : List ℕ
        begun = begun_with w id (event R t₀) b

        go : Turned id c w begun t₀ end → AtDone R x w id begun t₀ (suc end) timestamp card signers
        go (waits it silent) = absurd (silent at (done timestamp card signers) e)
        go (acts at (goes_on it not_done)) = absurd (not_done timestamp card signers e)
        go (acts at (breaks_off nonce e' a')) = apart (cc)
        go (acts at (finishes timestamp' card' signers' e' had it)) =
            let same_timestamp : timestamp' ≡ timestamp = cc in
            let same_card : card' ≡ card = cc in
            let same_signers : signers' ≡ signers = cc in
            subst₂ (AtDone R x w id begun t₀ (suc end) timestamp) same_card same_signers (subst (λ (s : Timestamp). AtDone R x w id begun t₀ (suc end) s card' signers') same_timestamp it)
        go (acts at (stops is_write_lem e')) = apart (cc)

    -- What holds of an operation when it finishes, and of a view.
    pub finish : (o : Finished R x) → AtDone R x o.is_write_lem o.id (card_begun o) o.begun (suc o.finished) o.timestamp o.card o.signers
    finish o = first_done o.id o.is_write_lem o.begun o.begins o.not_refused o.finished o.after (λ t l l' at. between o.is_write_lem t (o.none_between t l l' at)) o.at_client o.timestamp o.card o.signers o.is_done_lem

    pub view : (v : Viewed R x) → AtDone R x false v.id start_card v.begun (suc v.finished) v.timestamp v.card v.signers
    view v = first_done v.id false v.begun v.begins v.not_refused v.finished v.after (λ t l l' at. (v.none_between t l l' at, never_made v.id v.by_viewer t at)) v.at_client v.timestamp v.card v.signers v.is_done_lem

    -- ---- Timestamps rise

    above_all : (w : Bool) (t₀ s : ℕ) → Above R x w t₀ s → (s' : ℕ) → Settled R x t₀ s' → s' ≤ s
    above_all true t₀ s a s' z = let l = a s' z in omega arith
    above_all false t₀ s a s' z = a s' z

    pub above_write : (w : Bool) (t₀ s : ℕ) → w ≡ true → Above R x w t₀ s → (s' : ℕ) → Settled R x t₀ s' → s' < s
    above_write true t₀ s w a = a
    above_write false t₀ s w a = apart (cc)

    pub settled_by : (o : Finished R x) (t : ℕ) → o.finished < t → Settled R x t (number o.timestamp)
    settled_by o t l = settled_later R x (suc o.finished) t (number o.timestamp) l ((finish o).settled o.by_writer)

    pub rises : (o o' : Finished R x) → FinishedBefore R x o o' → number o.timestamp ≤ number o'.timestamp
    rises o o' l = above_all o'.is_write_lem o'.begun (number o'.timestamp) (finish o').above (number o.timestamp) (settled_by o o'.begun l)

    pub later_write : (o o' : Finished R x) → o'.is_write_lem ≡ true → FinishedBefore R x o o' → number o.timestamp < number o'.timestamp
    later_write o o' w l = above_write o'.is_write_lem o'.begun (number o'.timestamp) w (finish o').above (number o.timestamp) (settled_by o o'.begun l)

    -- A view is above all that was settled when it began.
    pub view_after : ViewAfter R x
    view_after o v l = (view v).above (number o.timestamp) (settled_by o v.begun l)

    pub in_order : (o o' : Finished R x) → FinishedBefore R x o o' → Before R x o' o → ⊥
    in_order o o' l (inl k) = let r = rises o o' l in omega arith
    in_order o o' l (inr k) = go o'.is_write_lem o.is_write_lem refl k.1
      where
        go : (w' w : Bool) → o'.is_write_lem ≡ w' → AtOneTimestamp w' w o'.finished o.finished → ⊥
        go true true e it = it
        go true false e it = let r = later_write o o' e l in let same = k.0 in omega arith
        go false true e it = it
        go false false e it = let a = o'.after in omega arith

    -- ---- One card for a timestamp

    module _ (card card' : List ℕ) (signers signers' : ReplicaSet) where
      same_shown : (t s : ℕ) → Shown R x t s card signers → Shown R x t s card' signers' → card ≡ card'
      same_shown t s (inl a) (inl b) = a.1 ∙ sym b.1
      same_shown t s (inl a) (inr b) = let z = a.0 in let p = b.positive in absurd (omega arith)
      same_shown t s (inr a) (inl b) = let z = b.0 in let p = a.positive in absurd (omega arith)
      same_shown t s (inr a) (inr b) =
          P.different_digests_lem card card' a.card_in_lem b.card_in_lem (one_backed R x P.few_faulty t s (sha256 card) (sha256 card') signers signers' a.backed b.backed)

      shown_alike : (t t' s s' : ℕ) → Shown R x t s card signers → Shown R x t' s' card' signers' → s ≡ s' → card ≡ card'
      shown_alike t t' s s' a b e =
          same_shown (t + t') s (shown_later R x t (t + t') s card signers (omega arith) a)
          (subst (λ (s : ℕ). Shown R x (t + t') s card' signers') (sym e) (shown_later R x t' (t + t') s' card' signers' (omega arith) b))

    pub one_card : (o o' : Finished R x) → number o.timestamp ≡ number o'.timestamp → o.card ≡ o'.card
    one_card o o' e = shown_alike o.card o'.card o.signers o'.signers (suc o.finished) (suc o'.finished) _ _ (finish o).is_shown (finish o').is_shown e

    -- A view at an operation's timestamp shows that operation's card.
    pub view_card : (o : Finished R x) (v : Viewed R x) → number o.timestamp ≡ number v.timestamp → o.card ≡ v.card
    view_card o v e = shown_alike o.card v.card o.signers v.signers (suc o.finished) (suc v.finished) _ _ (finish o).is_shown (view v).is_shown e

    -- ---- The order is total

    -- What a client begins after an operation began it begins after that finished.
    pub begun_after : (o : Finished R x) (t : ℕ) (w : Bool) → o.begun < t → Begins R x w o.id (event R t) → Accepted R t → o.finished < t
    begun_after o t w l b a = ⊎_elim (λ k. absurd (none_begun o.id (correct_of o) o.is_write_lem w (card_begun o) o.begun t (during o t l k) b a)) (λ k. k) (order t o.finished)

    one_after : (o o' : Finished R x) → o.id ≡ o'.id → o.begun < o'.begun → o.finished < o'.begun
    one_after o o' e l = begun_after o o'.begun o'.is_write_lem l (rw e o'.begins) o'.not_refused

    one_write : (o o' : Finished R x) → o.is_write_lem ≡ true → o'.is_write_lem ≡ true → number o.timestamp ≡ number o'.timestamp → o.begun ≡ o'.begun
    one_write o o' w w' e =
        let own = ((finish o).own w).0 in
        let own' = ((finish o').own w').0 in
        let same : o.id ≡ o'.id = same_client o.id o'.id (sym own ∙ ap (λ (s : ℕ). s % 256) e ∙ own') in
        three_ways o.begun o'.begun
        (λ l. let r = later_write o o' w' (one_after o o' same l) in absurd (omega arith)) (λ k. k)
        (λ l. let r = later_write o' o w (one_after o' o (sym same) l) in absurd (omega arith))

    same_end : (o o' : Finished R x) → o.finished ≡ o'.finished → o.begun ≡ o'.begun
    same_end o o' e =
        let at = o.at_client in
        let at' = o'.at_client in
        let here : event R o.finished ≡ some at'.0 = ap (event R) e ∙ at'.1 in
        let one_event : at.0 ≡ at'.0 = cc in
        let party : client o.id ≡ client o'.id = sym at.2 ∙ ap party_of one_event ∙ at'.2 in
        let same : o.id ≡ o'.id = cc in
        let after = o.after in
        let after' = o'.after in
        three_ways o.begun o'.begun
        (λ l. let r = one_after o o' same l in absurd (omega arith)) (λ k. k)
        (λ l. let r = one_after o' o (sym same) l in absurd (omega arith))

    abbrev Laid : Finished R x → Finished R x → Type 0
    Laid o o' = (o.begun ≡ o'.begun) ⊎ (Before R x o o' ⊎ Before R x o' o)

    pub total : (o o' : Finished R x) → Laid o o'
    total o o' =
        three_ways {P = Laid o o'} (number o.timestamp) (number o'.timestamp) (λ l. inr (inl (inl l)))
        (λ e. go e o.is_write_lem o'.is_write_lem refl refl) (λ l. inr (inr (inl l)))
      where
        go : number o.timestamp ≡ number o'.timestamp → (w w' : Bool) → o.is_write_lem ≡ w → o'.is_write_lem ≡ w' → Laid o o'
        go e true true q q' = inl (one_write o o' q q' e)
        go e true false q q' = inr (inl (inr (e, rw (q, q') tt)))
        go e false true q q' = inr (inr (inr (sym e, rw (q, q') tt)))
        go e false false q q' =
            three_ways {P = Laid o o'} o.finished o'.finished (λ l. inr (inl (inr (e, rw (q, q') l)))) (λ k. inl (same_end o o' k)) (λ l. inr (inr (inr (sym e, rw (q, q') l))))

  -- ---- What needs no premise

  -- Operations that begin with one event are of one client and kind,
  same_begins : (o o' : Finished R x) → o.begun ≡ o'.begun → (o.id ≡ o'.id) × (o.is_write_lem ≡ o'.is_write_lem)
  same_begins o o' e = go o.is_write_lem o'.is_write_lem o.begins (rw (← e) at o'.begins)
    where
      go : (w w' : Bool) → Begins R x w o.id (event R o.begun) → Begins R x w' o'.id (event R o.begun) → (o.id ≡ o'.id) × (w ≡ w')
      go true true b b' = let it = b.1 in let y = b'.1 in (cc, refl)
      go true false b b' = let it = b.1 in apart (cc)
      go false true b b' = let y = b'.1 in apart (cc)
      go false false b b' = (cc, refl)

  -- and neither ends before the other,
  earliest : (o o' : Finished R x) → o.id ≡ o'.id → o.begun ≡ o'.begun → o.finished < o'.finished → ⊥
  earliest o o' i e l =
      let after = o.after in
      (o'.none_between o.finished (omega arith) l (subst (λ (id : ClientId). At R o.finished (client id)) i o.at_client)).not_done o.timestamp o.card o.signers o.is_done_lem

  -- so they are one.
  pub same_operation : (o o' : Finished R x) → o.begun ≡ o'.begun → SameOperation R x o o'
  same_operation o o' e =
      let (same_id, same_kind) = same_begins o o' e in
      let ends : o.finished ≡ o'.finished = three_ways o.finished o'.finished (λ l. absurd (earliest o o' same_id e l)) (λ k. k) (λ l. absurd (earliest o' o (sym same_id) (sym e) l)) in
      let there : answer_at R o.finished ≡ accepted (done o'.timestamp o'.card o'.signers) = ap (answer_at R) ends ∙ o'.is_done_lem in
      record { same_id = same_id; same_kind = same_kind; same_end = ends; same_timestamp = cc o.is_done_lem; same_card = cc o.is_done_lem; same_signers = cc o.is_done_lem }

  pub irreflexive : (o : Finished R x) → Before R x o o → ⊥
  irreflexive o = not_itself (number o.timestamp) o.is_write_lem o.finished

  pub transitive : (o o' o'' : Finished R x) → Before R x o o' → Before R x o' o'' → Before R x o o''
  transitive o o' o'' =
      before_both (number o.timestamp) (number o'.timestamp) (number o''.timestamp) o.is_write_lem o'.is_write_lem o''.is_write_lem o.finished o'.finished o''.finished
