-- What an event does to a party's record: it is kept, or the party steps, with the step and its facts. Assumes nothing.
use mathlib.Core.Path.{◌≡◌, refl, sym, ap, subst, ◌∙◌}
use mathlib.Core.Logic.{⊎_elim}
use mathlib.Core.Bool.{Bool, true, false, cond}
use mathlib.Core.List.{List}
use mathlib.Core.Option.{Option, none, some}
use Prim.Native.Nat.{ℕ, zero, suc, ◌+◌, ◌≤◌}
use native.Mathlib.Omega.{arith}
use native.Mathlib.Nat.{eq-or-lt_of_le, le_of_suc-le-suc}
use borrow.Author.Tests.{eqb-true, eqb-false, eq-eqb}
use lib.Dec.{eqb}
use Rattle.base.specs.BigEndian.{Bytes}
use Rattle.base.specs.ClientSet.{nobody}
use Rattle.base.specs.Outcome.{Outcome, accepted, refused}
use Rattle.base.specs.Party.{replica_count, is_writer, is_register, register_place}
use Rattle.base.specs.declared.client_set.ClientSet.{ClientSet}
use Rattle.base.specs.declared.party.ClientId.{ClientId}
use Rattle.base.specs.declared.party.RegisterId.{RegisterId}
use Rattle.base.specs.declared.party.ReplicaId.{ReplicaId}
use Rattle.base.proofs.Apart.{apart}
use Rattle.base.proofs.Range.{bounds}
use Rattle.base.proofs.Registers.{place_below, place_injective}
use Rattle.wire.specs.Decode.{register_in}
use Rattle.wire.specs.Layout.{signature}
use Rattle.wire.specs.Message.{Message, READ-STAMP, READ}
use Rattle.wire.proofs.AdmittedMessage.{Admitted}
use Rattle.wire.proofs.OneForm.{found_register, decoded_fits, decoded_signature}
use Rattle.wire.proofs.Tests7To11.{Passed}
use Rattle.wire.specs.declared.message.Party.TheVariants.{Replica as AtReplica, Client as AtClient}
use Rattle.base.specs.ReplicaSet.{empty}
use Rattle.base.specs.Timestamp.{start}
use Rattle.protocol.specs.Parts.{start_card}
use Rattle.protocol.specs.Bank.{bank_part, with_bank_part, place_in, bank_step}
use Rattle.protocol.specs.Client.{Answer, send, waits, Turn, fresh_client, begin_write, begin_read, on_reply, client_step}
use Rattle.protocol.specs.Handing.{making, take_proof, ProofTaken}
use Rattle.protocol.specs.Order.{with_withdrawn, take_order}
use Rattle.protocol.specs.RegisterReplica.{Reply, on_request}
use Rattle.protocol.specs.Viewer.{on_viewer_reply, viewer_step}
use Rattle.protocol.specs.declared.client.Client.{Client}
use Rattle.protocol.specs.declared.client.Phase.{Phase}
use Rattle.protocol.specs.declared.client.Phase.TheVariants.{Stamps, Cards}
use Rattle.protocol.specs.declared.replica.Bank.{Bank}
use Rattle.protocol.specs.declared.replica.RegisterReplica.{RegisterReplica}
use Rattle.protocol.proofs.BankFacts.{part_elsewhere, part_there}
use Rattle.protocol.proofs.Fit.{ClientFits}
use Rattle.protocol.proofs.FreshRecords.{fresh_client_fits}
use Rattle.protocol.proofs.GoodBank.{GoodBank, fresh_good, MessageTaken, message_taken, order_keeps, message_keeps}
use Rattle.protocol.proofs.Handing.{making_accepted, takes_proof, taken_fits}
use Rattle.protocol.proofs.OrderFacts.{took as order_took}
use Rattle.protocol.proofs.RegisterFacts.{RegisterFacts}
use Rattle.protocol.proofs.ClientCases.{Begun, PhaseFits, ClientFacts}
use Rattle.protocol.proofs.ClientFacts.{begins_write as begins_write_facts, begins_read as begins_read_facts, client_facts, viewer_facts}
use Rattle.protocol.proofs.Towards.{client_takes_lem, viewer_takes}
use Rattle.wire.specs.Acceptance.{Sender, replica, client}
use Rattle.protocol.specs.Events.{ReplicaEvent, ClientEvent, request_handed, order_handed, write_begun, read_begun, reply_handed, made, proof_handed, BankTurn, bank_turn, order_turn, on_replica_event, next_bank, bank_answer, handed_step, taking_turn, on_client_event, next_client, client_answer}
use Rattle.run.specs.Run.{Event, at_replica, at_client, begins_write, begins_read, to_replica, order_to, to_client, makes, proof_to, Run, party_of, register_of, event, bank_at, register_replica_at, register_at, client_at, answer_to, answer_at, At}

-- Ids are told by their numbers.
pub same_replica : (a b : ReplicaId) → a.0 ≡ b.0 → a ≡ b
same_replica a b e = ap (λ (n : ℕ). record { 0 = n }) e

pub same_client : (a b : ClientId) → a.0 ≡ b.0 → a ≡ b
same_client a b e = ap (λ (n : ℕ). record { 0 = n }) e

-- What each event keeps stays from then on.
pub onwards : {P : ℕ → Type 0} → ((t : ℕ) → P t → P (suc t)) → (u t : ℕ) → u ≤ t → P u → P t
onwards {P} keeps u zero l h = let z : u ≡ 0 = omega arith in subst P z h
onwards {P} keeps u (suc t) l h = ⊎_elim (λ z. subst P z h) (λ z. keeps t (onwards keeps u t (le_of_suc-le-suc z) h)) (eq-or-lt_of_le l)

-- What a client makes of a message that 2 to 11 let through, with the message's own signature.
abbrev pub client_takes : ClientId → Client → List ℕ → Message → Outcome Turn
client_takes id before own message = cond (is_writer id) (on_reply before own message) (on_viewer_reply before message)

module _ (R : Run) where
  -- The party answers nothing at event t: it is not its event, or it is refused.
  abbrev pub Silent : Sender → ℕ → Type 0
  Silent party t = At R t party → (answer : Answer) → answer_at R t ≡ accepted answer → ⊥

  -- It sends nothing: it answers nothing, or takes an order.
  abbrev pub SendsNothing : Sender → ℕ → Type 0
  SendsNothing party t = At R t party → (message : Message) → answer_at R t ≡ accepted (send message) → ⊥

  -- There is no event, or it is another party's.
  no_event : (t : ℕ) (party : Sender) → event R t ≡ none → Silent party t
  no_event t party q at answer a = apart (cc at.1)

  elsewhere : (t : ℕ) (party : Sender) (e : Event) → event R t ≡ some e → (party_of e ≡ party → ⊥) → Silent party t
  elsewhere t party e q other at answer a = let same : e ≡ at.0 = cc at.1 in other (ap party_of same ∙ at.2)

  -- ---- Replicas, with all their registers

  pub correct_replica_range : (id : ReplicaId) → R.correct_replica id ≡ true → (1 ≤ id.0) × (id.0 ≤ replica_count R.f)
  correct_replica_range id c = bounds 1 (replica_count R.f) id.0 (R.replicas_in_range id c)

  pub record GoodBankOf (id : ReplicaId) (before : Bank) : Type 0 where
    pub f_is : before.f ≡ R.f
    pub id_is : before.id ≡ id
    pub key_is : before.key ≡ R.office_key id
    pub good : GoodBank before

  -- A replica takes a message: its register steps, and is put back.
  record BankStep (id : ReplicaId) (t : ℕ) : Type 0 where
    bytes : List ℕ
    verdicts : List ℕ
    reply : Reply
    event_is : event R t ≡ some (to_replica id bytes verdicts)
    taken : MessageTaken (bank_at R id t) bytes verdicts reply
    next_is : bank_at R id (suc t) ≡ with_bank_part (place_in bytes) reply.next (bank_at R id t)
    answer_is : answer_at R t ≡ accepted (send reply.message)

  data WholeTurn (id : ReplicaId) (t : ℕ) : Type 0 where
    -- The registers stay: an order changes the withdrawn clients alone.
    all_rest : (withdrawn : ClientSet) → bank_at R id (suc t) ≡ with_withdrawn withdrawn (bank_at R id t) → SendsNothing (replica id) t → WholeTurn id t
    one_steps : BankStep id t → WholeTurn id t

  -- The whole bank stays.
  stays : (id : ReplicaId) (t : ℕ) → bank_at R id (suc t) ≡ bank_at R id t → Silent (replica id) t → WholeTurn id t
  stays id t same silent = all_rest (bank_at R id t).withdrawn same (λ at message a. silent at (send message) a)

  -- What an event leaves of its replica, and its answer.
  pub bank_outcome : (id : ReplicaId) (t : ℕ) (e : ReplicaEvent) (out : Outcome BankTurn) → event R t ≡ some (at_replica id e)
      → on_replica_event e (bank_at R id t) ≡ out → (bank_at R id (suc t) ≡ next_bank (bank_at R id t) out) × (answer_at R t ≡ bank_answer out)
  unfolding bank_at answer_to
  bank_outcome id t e out q is = (rw (q, eq-eqb id.0 id.0 refl, is), rw (q, is))

  refused_stays : (id : ReplicaId) (t : ℕ) (e : ReplicaEvent) (n : ℕ) → event R t ≡ some (at_replica id e) → on_replica_event e (bank_at R id t) ≡ refused n → WholeTurn id t
  refused_stays id t e n q is = let both = bank_outcome id t e (refused n) q is in stays id t both.0 (λ at answer a. apart (cc both.1))

  bank_here : (id : ReplicaId) (t : ℕ) (bytes verdicts : List ℕ) → GoodBankOf id (bank_at R id t) → event R t ≡ some (to_replica id bytes verdicts) → WholeTurn id t
  bank_here id t bytes verdicts good e = go (bank_step (bank_at R id t) bytes verdicts) refl
    where
      go : (out : Outcome Reply) → bank_step (bank_at R id t) bytes verdicts ≡ out → WholeTurn id t
      go (refused n) q = refused_stays id t (request_handed bytes verdicts) n e (ap (bank_turn (place_in bytes) (bank_at R id t)) q)
      go (accepted reply) q =
          let both = bank_outcome id t (request_handed bytes verdicts) _ e (ap (bank_turn (place_in bytes) (bank_at R id t)) q) in
          one_steps (record {
            bytes = bytes;
            verdicts = verdicts;
            reply = reply;
            event_is = e;
            taken = message_taken (bank_at R id t) good.good bytes verdicts reply (R.have_bytes t (to_replica id bytes verdicts) e) q;
            next_is = both.0;
            answer_is = both.1;
          })

  bank_ordered : (id : ReplicaId) (t : ℕ) (order : List ℕ) → event R t ≡ some (order_to id order) → WholeTurn id t
  bank_ordered id t order e = go (take_order (bank_at R id t) order) refl
    where
      go : (out : Outcome Bank) → take_order (bank_at R id t) order ≡ out → WholeTurn id t
      go (refused n) q = refused_stays id t (order_handed order) n e (ap order_turn q)
      go (accepted next) q =
          let both = bank_outcome id t (order_handed order) _ e (ap order_turn q) in
          all_rest _ (both.0 ∙ (order_took (bank_at R id t) order next q).next_is) (λ at message a. apart (cc both.1))

  own_bank_turn : (id : ReplicaId) (t : ℕ) → GoodBankOf id (bank_at R id t) → (e : ReplicaEvent) → event R t ≡ some (at_replica id e) → WholeTurn id t
  own_bank_turn id t good (request_handed bytes verdicts) q = bank_here id t bytes verdicts good q
  own_bank_turn id t good (order_handed order) q = bank_ordered id t order q

  bank_turn_of : (id : ReplicaId) (t : ℕ) → GoodBankOf id (bank_at R id t) → (e : Option Event) → event R t ≡ e → WholeTurn id t
  unfolding bank_at
  bank_turn_of id t good none q = stays id t (rw q) (no_event t (replica id) q)
  bank_turn_of id t good (some (at_client at e)) q = stays id t (rw q) (elsewhere t (replica id) (at_client at e) q (λ p. apart (cc)))
  bank_turn_of id t good (some (at_replica at e)) q = go (eqb at.0 id.0) refl
    where
      go : (b : Bool) → eqb at.0 id.0 ≡ b → WholeTurn id t
      go true k =
          let same = same_replica at id (eqb-true at.0 id.0 k) in
          own_bank_turn id t good e (q ∙ ap (λ (i : ReplicaId). some (at_replica i e)) same)
      go false k =
          stays id t (rw (q, k)) (elsewhere t (replica id) (at_replica at e) q
          (λ p. let same : at ≡ id = cc in eqb-false at.0 id.0 k (ap (λ (i : ReplicaId). i.0) same)))

  pub good_bank : (id : ReplicaId) → R.correct_replica id ≡ true → (t : ℕ) → GoodBankOf id (bank_at R id t)
  unfolding bank_at
  good_bank id c zero =
      let range = correct_replica_range id c in
      record { f_is = refl; id_is = refl; key_is = refl; good = fresh_good R.f id (R.office_key id) (omega arith) }
  good_bank id c (suc t) = go (good_bank id c t) (bank_turn_of id t (good_bank id c t) (event R t) refl)
    where
      go : GoodBankOf id (bank_at R id t) → WholeTurn id t → GoodBankOf id (bank_at R id (suc t))
      go own (all_rest withdrawn same silent) =
          subst (GoodBankOf id) (sym same) (record { f_is = own.f_is; id_is = own.id_is; key_is = own.key_is; good = order_keeps (bank_at R id t) own.good withdrawn })
      go own (one_steps s) =
          subst (GoodBankOf id) (sym s.next_is)
          (record { f_is = own.f_is; id_is = own.id_is; key_is = own.key_is; good = message_keeps (bank_at R id t) own.good s.bytes s.verdicts s.reply s.taken })

  -- ---- One register of a replica: it steps with the messages at its place, and rests with all others

  module _ (x : RegisterId) where
    -- The replica's event t is for this register, and answered with this message.
    abbrev pub Answers : ReplicaId → ℕ → Message → Type 0
    Answers id t message = (at : At R t (replica id)) × (register_of at.0 ≡ x) × (answer_at R t ≡ accepted (send message))

    pub record RegisterStep (id : ReplicaId) (t : ℕ) : Type 0 where
      pub bytes : List ℕ
      pub verdicts : List ℕ
      pub message : Message
      pub reply : Reply
      pub event_is : event R t ≡ some (to_replica id bytes verdicts)
      pub admitted : Admitted AtReplica (bank_at R id t).f (bank_at R id t).withdrawn bytes verdicts (register_in bytes) message
      pub placed : place_in bytes ≡ register_place x
      pub stepped : on_request (register_replica_at R x id t) message ≡ accepted reply
      pub facts : RegisterFacts (register_replica_at R x id t) verdicts message reply
      pub next_is : register_at R x id (suc t) ≡ reply.next.register
      pub answer_is : answer_at R t ≡ accepted (send reply.message)

    pub data RegisterTurn (id : ReplicaId) (t : ℕ) : Type 0 where
      rests : register_at R x id (suc t) ≡ register_at R x id t → ((message : Message) → Answers id t message → ⊥) → RegisterTurn id t
      steps : RegisterStep id t → RegisterTurn id t

    -- The step of a message at this register's place, and of one at another.
    here : (id : ReplicaId) (t : ℕ) → GoodBankOf id (bank_at R id t) → (s : BankStep id t) → place_in s.bytes ≡ register_place x → RegisterStep id t
    here id t good s e = record {
      bytes = s.bytes;
      verdicts = s.verdicts;
      message = s.taken.message;
      reply = s.reply;
      event_is = s.event_is;
      admitted = s.taken.admitted;
      placed = e;
      stepped = subst (λ (at : ℕ). on_request (bank_part at (bank_at R id t)) s.taken.message ≡ accepted s.reply) e s.taken.stepped;
      facts = subst (λ (at : ℕ). RegisterFacts (bank_part at (bank_at R id t)) s.verdicts s.taken.message s.reply) e s.taken.facts;
      next_is =
          ap (λ (bank : Bank). (bank_part (register_place x) bank).register) s.next_is
          ∙ subst (λ (at : ℕ). (bank_part (register_place x) (with_bank_part at s.reply.next (bank_at R id t))).register ≡ s.reply.next.register) (sym e)
          (part_there (bank_at R id t) (register_place x) s.reply.next (omega (arith, good.good.long, place_below x)));
      answer_is = s.answer_is;
    }

    away : (id : ReplicaId) (t : ℕ) (s : BankStep id t) → (place_in s.bytes ≡ register_place x → ⊥) → RegisterTurn id t
    away id t s other =
        rests
        (ap (λ (bank : Bank). (bank_part (register_place x) bank).register) s.next_is
        ∙ ap (λ (part : RegisterReplica). part.register) (part_elsewhere (bank_at R id t) (place_in s.bytes) s.reply.next (register_place x) (λ e. other (sym e))))
        (λ message (at, is, a).
        let one : at.0 ≡ to_replica id s.bytes s.verdicts = cc (at.1, s.event_is) in
        other (ap register_place (sym (ap register_of one) ∙ is)))

    pub register_turn : (id : ReplicaId) → R.correct_replica id ≡ true → (t : ℕ) → RegisterTurn id t
    register_turn id c t = go (bank_turn_of id t (good_bank id c t) (event R t) refl)
      where
        go : WholeTurn id t → RegisterTurn id t
        go (all_rest withdrawn same silent) = rests (ap (λ (bank : Bank). (bank_part (register_place x) bank).register) same) (λ message (at, is, a). silent at message a)
        go (one_steps s) = by (eqb (place_in s.bytes) (register_place x)) refl
          where
            by : (b : Bool) → eqb (place_in s.bytes) (register_place x) ≡ b → RegisterTurn id t
            by true e = steps (here id t (good_bank id c t) s (eqb-true (place_in s.bytes) (register_place x) e))
            by false e = away id t s (eqb-false (place_in s.bytes) (register_place x) e)

    -- A replica that answers for the register has stepped with it,
    pub register_step_lem : (id : ReplicaId) → R.correct_replica id ≡ true → (t : ℕ) (message : Message) → Answers id t message → RegisterStep id t
    register_step_lem id c t message a = go (register_turn id c t)
      where
        go : RegisterTurn id t → RegisterStep id t
        go (rests same silent) = absurd (silent message a)
        go (steps s) = s

    -- with a message for it.
    pub step_register : (id : ReplicaId) (t : ℕ) (s : RegisterStep id t) (message : Message) → Answers id t message → register_in s.bytes ≡ x
    step_register id t s message (at, is, a) = let one : at.0 ≡ to_replica id s.bytes s.verdicts = cc (at.1, s.event_is) in sym (ap register_of one) ∙ is

    -- So is every step of what is a register.
    pub step_for : is_register x ≡ true → (id : ReplicaId) (t : ℕ) (s : RegisterStep id t) → register_in s.bytes ≡ x
    step_for registered id t s = place_injective (register_in s.bytes) x s.admitted.registered registered s.placed

    -- Its message passed with the run's f.
    pub step_passed : (id : ReplicaId) → R.correct_replica id ≡ true → (t : ℕ) (s : RegisterStep id t) → Passed R.f s.message s.verdicts
    step_passed id c t s = subst (λ (f : ℕ). Passed f s.message s.verdicts) (good_bank id c t).f_is s.facts.passed

  -- ---- Clients

  pub correct_client_range : (id : ClientId) → R.correct_client id ≡ true → (1 ≤ id.0) × (id.0 ≤ 96)
  correct_client_range id c = bounds 1 96 id.0 (R.clients_in_range id c).0

  pub record GoodClient (id : ClientId) (before : Client) : Type 0 where
    pub f_is : before.f ≡ R.f
    pub id_is : before.id ≡ id
    pub fits : ClientFits before
    pub phase_fits : PhaseFits before.phase

  pub record ClientStep (id : ClientId) (t : ℕ) (turn : Turn) : Type 0 where
    pub next_is : client_at R id (suc t) ≡ turn.next
    pub answer_is : answer_at R t ≡ accepted turn.answer

  -- A client takes a message for its operation's register.
  pub record Heard (id : ClientId) (t : ℕ) : Type 0 where
    pub bytes : List ℕ
    pub verdicts : List ℕ
    pub message : Message
    pub turn : Turn
    pub event_is : event R t ≡ some (to_client id bytes verdicts)
    pub admitted : Admitted AtClient (client_at R id t).f nobody bytes verdicts (client_at R id t).register message
    pub stepped : client_takes id (client_at R id t) (signature bytes) message ≡ accepted turn
    pub facts : ClientFacts (client_at R id t) (signature bytes) verdicts message turn
    pub step : ClientStep id t turn

  pub heard_register : (id : ClientId) (t : ℕ) (h : Heard id t) (at : At R t (client id)) → register_of at.0 ≡ (client_at R id t).register
  heard_register id t h at =
      let one : at.0 ≡ to_client id h.bytes h.verdicts = cc (at.1, h.event_is) in
      ap register_of one ∙ found_register AtClient h.bytes (client_at R id t).register h.message h.admitted.decodes

  -- What begins at a client at event t.
  abbrev pub WriteBegun : ClientId → ℕ → RegisterId → List ℕ → Turn → Type 0
  WriteBegun id t x card turn =
      Begun (client_at R id t) x (READ-STAMP (client_at R id t).id ((client_at R id t).last_nonce + 1)) (Stamps ((client_at R id t).last_nonce + 1) start empty) card turn

  abbrev pub ReadBegun : ClientId → ℕ → RegisterId → Turn → Type 0
  ReadBegun id t x turn =
      Begun (client_at R id t) x (READ (client_at R id t).id ((client_at R id t).last_nonce + 1)) (Cards ((client_at R id t).last_nonce + 1) start empty empty) start_card turn

  pub data ClientTurn (id : ClientId) (t : ℕ) : Type 0 where
    rested : client_at R id (suc t) ≡ client_at R id t → Silent (client id) t → ClientTurn id t
    wrote : (x : RegisterId) (card : List ℕ) (turn : Turn) → event R t ≡ some (begins_write id x card) → WriteBegun id t x card turn → ClientStep id t turn → ClientTurn id t
    asked : (x : RegisterId) (turn : Turn) → event R t ≡ some (begins_read id x) → ReadBegun id t x turn → ClientStep id t turn → ClientTurn id t
    heard : Heard id t → ClientTurn id t
    -- Document 02, #106: it is made again, whatever it was doing; or, idle, it takes a written proof.
    made_again : (nonce : ℕ) → event R t ≡ some (makes id nonce) → 1 ≤ nonce → ClientStep id t (record { answer = waits; next = fresh_client R.f id nonce }) → ClientTurn id t
    took : (x : RegisterId) (bytes verdicts : List ℕ) (next : Client) → event R t ≡ some (proof_to id x bytes verdicts) → ProofTaken (client_at R id t) x bytes next
        → ClientStep id t (record { answer = waits; next = next }) → ClientTurn id t

  -- What an event at a client leaves, by its outcome.
  pub record Left (id : ClientId) (t : ℕ) (out : Outcome Turn) : Type 0 where
    pub next_is : client_at R id (suc t) ≡ next_client (client_at R id t) out
    pub answer_is : answer_at R t ≡ client_answer out

  pub client_outcome_lem : (id : ClientId) (t : ℕ) (e : ClientEvent) → event R t ≡ some (at_client id e) → Left id t (on_client_event R.f id e (client_at R id t))
  unfolding client_at answer_to
  client_outcome_lem id t e q = record { next_is = rw (q, eq-eqb id.0 id.0 refl); answer_is = rw q }

  -- Refused, or accepted with a turn.
  by_outcome : (id : ClientId) (t : ℕ) (out : Outcome Turn) → Left id t out → ((turn : Turn) → out ≡ accepted turn → ClientStep id t turn → ClientTurn id t) → ClientTurn id t
  by_outcome id t (refused n) left next = rested left.next_is (λ at answer a. apart (cc left.answer_is))
  by_outcome id t (accepted turn) left next = next turn refl (record { next_is = left.next_is; answer_is = left.answer_is })

  by_taking : (id : ClientId) (t : ℕ) (out : Outcome Client) → Left id t (taking_turn out)
      → ((next : Client) → out ≡ accepted next → ClientStep id t (record { answer = waits; next = next }) → ClientTurn id t) → ClientTurn id t
  by_taking id t (refused n) left next = rested left.next_is (λ at answer a. apart (cc left.answer_is))
  by_taking id t (accepted after) left next = next after refl (record { next_is = left.next_is; answer_is = left.answer_is })

  -- What a client takes, at either engine: the message, the step itself, and its facts.
  abbrev pub TakesMessage : (List ℕ → Message → Outcome Turn) → Client → List ℕ → List ℕ → Turn → Type 0
  TakesMessage engine before bytes verdicts turn =
      (message : Message) × Admitted AtClient before.f nobody bytes verdicts before.register message × (engine (signature bytes) message ≡ accepted turn) × ClientFacts before (signature bytes) verdicts message turn

  writer_takes : (before : Client) (bytes verdicts : List ℕ) (turn : Turn) → ClientFits before → PhaseFits before.phase → Bytes bytes → client_step before bytes verdicts ≡ accepted turn
      → TakesMessage (on_reply before) before bytes verdicts turn
  writer_takes before bytes verdicts turn fits phase_fits small e =
      let (message, a, taken) = client_takes_lem before bytes verdicts turn e in (
        message,
        a,
        taken,
        client_facts before (signature bytes) verdicts message turn fits phase_fits (decoded_fits AtClient bytes before.register message a.decodes small)
            (decoded_signature AtClient bytes before.register message a.decodes small) a.ranged a.passed taken,
      )

  view_takes : (before : Client) (bytes verdicts : List ℕ) (turn : Turn) → ClientFits before → PhaseFits before.phase → Bytes bytes → is_writer before.id ≡ false
      → viewer_step before bytes verdicts ≡ accepted turn → TakesMessage (λ own. on_viewer_reply before) before bytes verdicts turn
  view_takes before bytes verdicts turn fits phase_fits small no_writer e =
      let (message, a, taken) = viewer_takes before bytes verdicts turn e in (
        message,
        a,
        taken,
        viewer_facts before (signature bytes) verdicts message turn fits phase_fits no_writer (decoded_fits AtClient bytes before.register message a.decodes small) a.ranged a.passed taken,
      )

  pub handed_takes : (id : ClientId) (before : Client) (bytes verdicts : List ℕ) (turn : Turn) → GoodClient id before → Bytes bytes → handed_step id before bytes verdicts ≡ accepted turn
      → TakesMessage (client_takes id before) before bytes verdicts turn
  handed_takes id before bytes verdicts turn good small e = go (is_writer id) refl e
    where
      go : (w : Bool) → is_writer id ≡ w → cond w (client_step before bytes verdicts) (viewer_step before bytes verdicts) ≡ accepted turn
          → TakesMessage (λ own message. cond w (on_reply before own message) (on_viewer_reply before message)) before bytes verdicts turn
      go true q e = writer_takes before bytes verdicts turn good.fits good.phase_fits small e
      go false q e = view_takes before bytes verdicts turn good.fits good.phase_fits small (subst (λ (i : ClientId). is_writer i ≡ false) (sym good.id_is) q) e

  client_here : (id : ClientId) (t : ℕ) (bytes verdicts : List ℕ) → GoodClient id (client_at R id t) → event R t ≡ some (to_client id bytes verdicts) → ClientTurn id t
  client_here id t bytes verdicts good e = by_outcome id t (handed_step id (client_at R id t) bytes verdicts) (client_outcome_lem id t (reply_handed bytes verdicts) e) (λ turn q step.
      let taken = handed_takes id (client_at R id t) bytes verdicts turn good (R.have_bytes t (to_client id bytes verdicts) e) q in
      heard (record { bytes = bytes; verdicts = verdicts; message = taken.0; turn = turn; event_is = e; admitted = taken.1; stepped = taken.2; facts = taken.3; step = step }))

  -- Its own event,
  own_turn : (id : ClientId) (t : ℕ) → GoodClient id (client_at R id t) → (e : ClientEvent) → event R t ≡ some (at_client id e) → ClientTurn id t
  own_turn id t good (write_begun x card) q =
      by_outcome id t (begin_write (client_at R id t) x card) (client_outcome_lem id t (write_begun x card) q) (λ turn k step.
      wrote x card turn q (begins_write_facts (client_at R id t) x card turn good.fits (R.have_bytes t (begins_write id x card) q) k) step)
  own_turn id t good (read_begun x) q =
      by_outcome id t (begin_read (client_at R id t) x) (client_outcome_lem id t (read_begun x) q) (λ turn k step.
      asked x turn q (begins_read_facts (client_at R id t) x turn good.fits k) step)
  own_turn id t good (reply_handed bytes verdicts) q = client_here id t bytes verdicts good q
  own_turn id t good (made nonce) q =
      by_taking id t (making R.f id nonce) (client_outcome_lem id t (made nonce) q) (λ next k step.
      let (writer, positive, is) = (making_accepted R.f id nonce).holds next k in
      made_again nonce q positive (subst (λ (after : Client). ClientStep id t (record { answer = waits; next = after })) is step))
  own_turn id t good (proof_handed x bytes verdicts) q =
      by_taking id t (take_proof (client_at R id t) x bytes verdicts) (client_outcome_lem id t (proof_handed x bytes verdicts) q) (λ next k step.
      took x bytes verdicts next q (takes_proof (client_at R id t) x bytes verdicts next good.fits.written_long (R.have_bytes t (proof_to id x bytes verdicts) q) k) step)

  -- or another's.
  client_turn_of : (id : ClientId) (t : ℕ) → GoodClient id (client_at R id t) → (e : Option Event) → event R t ≡ e → ClientTurn id t
  unfolding client_at
  client_turn_of id t good none q = rested (rw q) (no_event t (client id) q)
  client_turn_of id t good (some (at_replica at e)) q = rested (rw q) (elsewhere t (client id) (at_replica at e) q (λ p. apart (cc)))
  client_turn_of id t good (some (at_client at e)) q = go (eqb at.0 id.0) refl
    where
      go : (b : Bool) → eqb at.0 id.0 ≡ b → ClientTurn id t
      go true k = own_turn id t good e (q ∙ ap (λ (i : ClientId). some (at_client i e)) (same_client at id (eqb-true at.0 id.0 k)))
      go false k = rested (rw (q, k)) (elsewhere t (client id) (at_client at e) q (λ p. let same : at ≡ id = cc in eqb-false at.0 id.0 k (ap (λ (i : ClientId). i.0) same)))

  begun_good : (id : ClientId) (t : ℕ) (x : RegisterId) (question : Message) (phase : Phase) (card : List ℕ) (turn : Turn) → GoodClient id (client_at R id t) → PhaseFits phase
      → Begun (client_at R id t) x question phase card turn → ClientStep id t turn → GoodClient id (client_at R id (suc t))
  begun_good id t x question phase card turn good fits b s =
      rw s.next_is (record { f_is = b.same_f ∙ good.f_is; id_is = b.same_id ∙ good.id_is; fits = b.fits; phase_fits = rw b.phase_is fits })

  pub good_client : (id : ClientId) → R.correct_client id ≡ true → (t : ℕ) → GoodClient id (client_at R id t)
  unfolding client_at
  good_client id c zero =
      let range = correct_client_range id c in
      let nonce = R.clients_in_range id c in
      record { f_is = refl; id_is = refl; fits = fresh_client_fits R.f id (R.first_nonce_lem id) (omega arith) nonce.2; phase_fits = tt }
  good_client id c (suc t) = go (good_client id c t) (client_turn_of id t (good_client id c t) (event R t) refl)
    where
      go : GoodClient id (client_at R id t) → ClientTurn id t → GoodClient id (client_at R id (suc t))
      go good (rested same silent) = rw same good
      go good (wrote x card turn e b s) = begun_good id t x _ _ card turn good (omega arith) b s
      go good (asked x turn e b s) = begun_good id t x _ _ start_card turn good (omega arith) b s
      go good (heard h) = let facts = h.facts in rw h.step.next_is (record { f_is = facts.same_f ∙ good.f_is; id_is = facts.same_id ∙ good.id_is; fits = facts.fits; phase_fits = facts.phase_fits })
      go good (made_again nonce e positive s) =
          let range = correct_client_range id c in
          rw s.next_is (record { f_is = refl; id_is = refl; fits = fresh_client_fits R.f id nonce (omega arith) (R.have_bytes t (makes id nonce) e); phase_fits = tt })
      go good (took x bytes verdicts next e it s) =
          rw s.next_is
          (record {
            f_is = ap (λ (after : Client). after.f) it.after_is ∙ good.f_is;
            id_is = ap (λ (after : Client). after.id) it.after_is ∙ good.id_is;
            fits = taken_fits (client_at R id t) x bytes next good.fits (R.have_bytes t (proof_to id x bytes verdicts) e) it;
            phase_fits = subst PhaseFits (sym (ap (λ (after : Client). after.phase) it.after_is)) good.phase_fits;
          })

  pub client_turn_lem : (id : ClientId) → R.correct_client id ≡ true → (t : ℕ) → ClientTurn id t
  client_turn_lem id c t = client_turn_of id t (good_client id c t) (event R t) refl
