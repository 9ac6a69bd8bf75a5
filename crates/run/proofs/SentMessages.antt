-- What correct parties sent, as messages: legal, and what true verdicts say of a message that passed. Assumes nothing.
use mathlib.Core.Path.{◌≡◌, refl, sym, ap, subst, ◌∙◌}
use mathlib.Core.Logic.{⊎_elim}
use mathlib.Core.Bool.{true}
use mathlib.Core.List.{List, [], ◌∷◌, ◌++◌}
use mathlib.Core.Option.{some}
use Prim.Native.Nat.{ℕ, suc, ◌+◌, ◌≤◌, ◌<◌}
use native.Mathlib.Omega.{arith}
use borrow.Author.Tests.{eqb-true}
use lib.Dec.{eqb, leb}
use lib.ListN.{length, drop}
use Rattle.base.specs.Outcome.{accepted}
use Rattle.base.specs.Party.{is_register}
use Rattle.base.specs.Rising.{listed}
use Rattle.base.specs.declared.party.ClientId.{ClientId}
use Rattle.base.specs.declared.party.RegisterId.{RegisterId}
use Rattle.base.specs.declared.party.ReplicaId.{ReplicaId}
use Rattle.base.proofs.Apart.{apart}
use Rattle.base.proofs.Booleans.{and_true_both, or_true}
use Rattle.base.proofs.Each.{EachOf}
use Rattle.base.proofs.Range.{bounds}
use Rattle.wire.specs.Checks.{prepared_of, written_of, entries_of, all, one_verdict_each, own_genuine, genuine}
use Rattle.wire.specs.Decode.{for_register, decode, register_in}
use Rattle.wire.specs.Message.{Message, READ-STAMP, READ, body, Legal}
use Rattle.wire.specs.Proof.{Entry, signers}
use Rattle.wire.specs.Signatures.{Signature, signed_by, prepared_signatures, written_signatures, signatures_if_there, signatures_of}
use Rattle.wire.proofs.MessageSignatures.{length_signatures}
use Rattle.wire.proofs.OneForm.{found_register, decoded_register, decoded_legal}
use Rattle.wire.proofs.RoundTrip.{body_message, body_register}
use Rattle.wire.proofs.Tests7To11.{Passed}
use Rattle.wire.specs.declared.message.Party.TheVariants.{Replica as AtReplica, Client as AtClient}
use Rattle.protocol.specs.Client.{send}
use Rattle.protocol.proofs.ClientCases.{LegalAnswer}
use Rattle.protocol.proofs.Fit.{LegalMessage}
use Rattle.run.specs.Premises.{TrueVerdicts, TrueFor, TrueAt, Premises}
use Rattle.wire.specs.Acceptance.{sender_of, Sender, replica, client}
use Rattle.run.specs.Run.{Event, begins_write, begins_read, to_replica, to_client, register_of, Run, event, client_at, answer_at, At, Correct, Said, Sent}
use Rattle.run.proofs.Bodies.{covered}
use Rattle.run.proofs.Turns.{same_replica, Answers, RegisterStep, register_step_lem, step_register, ClientTurn, rested, wrote, asked, heard, client_turn_lem, Heard, made_again, took}

module _ (R : Run) where
  pub said_later : (x : RegisterId) (party : Sender) (message : Message) (t t' : ℕ) → t ≤ t' → Said R x party message t → Said R x party message t'
  said_later x party message t t' l s = let before = s.earlier in record { time = s.time; earlier = omega arith; by = s.by; register_is = s.register_is; answered = s.answered }

  -- A replica that said a message answered with it.
  pub said_answers : (x : RegisterId) (id : ReplicaId) (message : Message) (t : ℕ) (e : Said R x (replica id) message t) → Answers R x id e.time message
  said_answers x id message t e = (e.by, e.register_is, e.answered)

  register_byte : (x : RegisterId) → is_register x ≡ true → x.0 < 256
  register_byte x e = let range = bounds 1 16 x.0 e in omega (arith, range.1)

  -- What a correct party sends is legal, for the register of its event.
  pub sent_legal : (party : Sender) → Correct R party → (t : ℕ) (message : Message) (at : At R t party) → answer_at R t ≡ accepted (send message) → Legal (register_of at.0) message
  sent_legal (replica id) c t m at a =
      let s = register_step_lem R (register_of at.0) id c t m (at, refl, a) in
      let same : s.reply.message ≡ m = cc s.answer_is in
      let small = decoded_register AtReplica s.bytes (register_in s.bytes) s.message s.admitted.decodes (R.have_bytes t (to_replica id s.bytes s.verdicts) s.event_is) in
      subst LegalMessage same s.facts.legal (register_of at.0) (subst (λ (x : RegisterId). x.0 < 256) (step_register R (register_of at.0) id t s m (at, refl, a)) small)
  sent_legal (client id) c t m at a = go (client_turn_lem R id c t)
    where
      -- The event is this one, and so its register.
      here : (e : Event) → event R t ≡ some e → (register_of e).0 < 256 → LegalMessage m → Legal (register_of at.0) m
      here e q small legal = let one : e ≡ at.0 = cc at.1 in legal (register_of at.0) (subst (λ (x : RegisterId). x.0 < 256) (ap register_of one) small)

      go : ClientTurn R id t → Legal (register_of at.0) m
      go (rested same silent) = absurd (silent at (send m) a)
      go (wrote x card turn e b s) =
          let same : READ-STAMP (client_at R id t).id ((client_at R id t).last_nonce + 1) ≡ m = cc (s.answer_is, b.sends) in
          here (begins_write id x card) e (register_byte x b.registered) (subst LegalMessage same b.legal)
      go (asked x turn e b s) =
          let same : READ (client_at R id t).id ((client_at R id t).last_nonce + 1) ≡ m = cc (s.answer_is, b.sends) in
          here (begins_read id x) e (register_byte x b.registered) (subst LegalMessage same b.legal)
      go (heard h) =
          let same : h.turn.answer ≡ send m = cc h.step.answer_is in
          let own = (client_at R id t).register in
          let small = decoded_register AtClient h.bytes own h.message h.admitted.decodes (R.have_bytes t (to_client id h.bytes h.verdicts) h.event_is) in
          here (to_client id h.bytes h.verdicts) h.event_is (subst (λ (x : RegisterId). x.0 < 256) (sym (found_register AtClient h.bytes own h.message h.admitted.decodes)) small)
          (subst LegalAnswer same h.facts.legal)
      go (made_again nonce e positive s) = apart (cc s.answer_is)
      go (took x bytes verdicts next e it s) = apart (cc s.answer_is)

  -- A correct party that sent the bytes of a legal message for a register sent that message for it.
  pub said : (party : Sender) → Correct R party → (x : RegisterId) (message : Message) → Legal x message → (t : ℕ) → Sent R party (body x message) t → Said R x party message t
  said party c x m legal t s =
      let by = s.said in
      let sent : Legal s.register s.message = subst (λ (y : RegisterId). Legal y s.message) by.register_is (sent_legal party c by.time s.message by.by by.answered) in
      let same_register = body_register s.register x s.message m sent.fits legal.fits s.same_bytes sent.register_fits legal.register_fits in
      let same_message = body_message s.register x s.message m sent.fits legal.fits s.same_bytes in
      subst (λ (y : RegisterId). Said R y party m t) same_register (subst (λ (n : Message). Said R s.register party n t) same_message by)

  -- ---- True verdicts

  own_sent : (t : ℕ) (signature : Signature) (signatures : List Signature) (verdicts : List ℕ) → own_genuine verdicts ≡ true → TrueVerdicts R t (signature ∷ signatures) verdicts
      → Correct R signature.signer → Sent R signature.signer signature.covers t
  unfolding TrueVerdicts
  own_sent t s ss [] e h c = apart (cc)
  own_sent t s ss (v ∷ vs) e h c = h.0 (eqb-true v 1 e) c

  -- A signature, if it is a correct party's, is of a message that the party sent before event t.
  abbrev pub WasSent : ℕ → Signature → Type 0
  WasSent t s = Correct R s.signer → Sent R s.signer s.covers t

  abbrev pub EachSent : ℕ → List Signature → Type 0
  EachSent t ss = EachOf (WasSent t) ss

  -- So it is where true verdicts are all 1,
  pub each_sent : (t : ℕ) (ss : List Signature) (vs : List ℕ) → length ss ≤ length vs → genuine vs ≡ true → TrueVerdicts R t ss vs → EachSent t ss
  unfolding TrueVerdicts all
  each_sent t [] vs l g h = tt
  each_sent t (s ∷ ss) [] l g h = absurd (omega arith)
  each_sent t (s ∷ ss) (v ∷ vs) l g h =
      let ones = and_true_both (eqb v 1) (all (λ v. eqb v 1) vs) g in
      (h.0 (eqb-true v 1 ones.0), each_sent t ss vs (omega arith) ones.1 h.1)

  -- as those on the entries of a message are that passes 7 to 11.
  pub inside_sent : (f t : ℕ) (bytes verdicts : List ℕ) (x : RegisterId) (m : Message) → Passed f m verdicts → TrueVerdicts R t (signatures_of bytes (for_register x m)) verdicts
      → EachSent t (signatures_if_there (prepared_signatures x) (prepared_of m) ++ signatures_if_there (written_signatures x) (written_of m))
  unfolding one_verdict_each TrueVerdicts
  inside_sent f t bytes verdicts x m passed h = go verdicts long passed.entries_genuine h
    where
      entries : List Signature
      entries = signatures_if_there (prepared_signatures x) (prepared_of m) ++ signatures_if_there (written_signatures x) (written_of m)

      long : length verdicts ≡ suc (length entries)
      long =
          let each = and_true_both (eqb (length verdicts) (1 + length (entries_of m))) (all (λ v. leb v 1) verdicts) passed.one_each in
          eqb-true (length verdicts) (1 + length (entries_of m)) each.0 ∙ sym (length_signatures bytes x m)

      go : (vs : List ℕ) → length vs ≡ suc (length entries) → genuine (drop 1 vs) ≡ true → TrueVerdicts R t (signatures_of bytes (for_register x m)) vs → EachSent t entries
      go [] l g h = absurd (omega arith)
      go (v ∷ vs) l g h = each_sent t entries vs (omega arith) g h.1

  -- Of entries with the signatures of a message: each correct signer sent its own.
  pub entry_sent : (t : ℕ) (x : RegisterId) (message : ReplicaId → Message) (entries : List Entry) → EachSent t (signed_by x message entries)
      → (id : ReplicaId) → listed (signers entries) id ≡ true → R.correct_replica id ≡ true → Sent R (replica id) (body x (message id)) t
  unfolding listed
  entry_sent t x message [] h id m c = apart (cc)
  entry_sent t x message (entry ∷ entries) h id m c =
      ⊎_elim
      (λ e. let same : entry.signer ≡ id = same_replica entry.signer id (sym (eqb-true id.0 entry.signer.0 e)) in
      subst (λ (i : ReplicaId). R.correct_replica i ≡ true → Sent R (replica i) (body x (message i)) t) same h.0 c)
      (λ e. entry_sent t x message entries h.1 id e c)
      (or_true (eqb id.0 entry.signer.0) (listed (signers entries) id) m)

  -- All verdicts that are handed over in the run are true.
  abbrev pub AllTrue : Type 0
  AllTrue = (t : ℕ) → TrueAt R t (event R t)

  -- Those that a replica takes a message with.
  pub step_true : AllTrue → (x : RegisterId) (id : ReplicaId) (t : ℕ) (s : RegisterStep R x id t)
      → TrueVerdicts R t (signatures_of s.bytes (for_register (register_in s.bytes) s.message)) s.verdicts
  unfolding TrueAt
  step_true truth x id t s =
      let there : TrueFor R t s.bytes s.verdicts (decode AtReplica s.bytes) = subst (TrueAt R t) s.event_is (truth t) in
      subst (TrueFor R t s.bytes s.verdicts) s.admitted.decodes there

  module _ (P : Premises R) where
    -- The message that a client takes at event t was sent by its sender, for the client's register.
    pub heard_true : (id : ClientId) (t : ℕ) (h : Heard R id t) → TrueVerdicts R t (signatures_of h.bytes (for_register (client_at R id t).register h.message)) h.verdicts
    unfolding TrueAt
    heard_true id t h =
        let there : TrueFor R t h.bytes h.verdicts (decode AtClient h.bytes) = subst (TrueAt R t) h.event_is (P.true_verdicts_lem t) in
        subst (TrueFor R t h.bytes h.verdicts) h.admitted.decodes there

    pub heard_legal : (id : ClientId) (t : ℕ) (h : Heard R id t) → Legal (client_at R id t).register h.message
    heard_legal id t h = decoded_legal AtClient h.bytes (client_at R id t).register h.message h.admitted.decodes (R.have_bytes t (to_client id h.bytes h.verdicts) h.event_is)

    pub heard_said : (id : ClientId) (t : ℕ) (h : Heard R id t) (m : Message) → h.message ≡ m → Correct R (sender_of m) → Said R (client_at R id t).register (sender_of m) m t
    heard_said id t h m e = subst (λ (n : Message). Correct R (sender_of n) → Said R (client_at R id t).register (sender_of n) n t) e own
      where
        own : Correct R (sender_of h.message) → Said R (client_at R id t).register (sender_of h.message) h.message t
        own c =
            let small = R.have_bytes t (to_client id h.bytes h.verdicts) h.event_is in
            let sent = own_sent t _ _ h.verdicts h.facts.passed.own (heard_true id t h) c in
            said (sender_of h.message) c (client_at R id t).register h.message (heard_legal id t h) t
            (subst (λ (b : List ℕ). Sent R (sender_of h.message) b t) (covered AtClient h.bytes (client_at R id t).register h.message small h.admitted.decodes) sent)

    -- So was the message that a replica takes, for the register that it is for.
    pub step_said : (x : RegisterId) (id : ReplicaId) (t : ℕ) (s : RegisterStep R x id t) (reply : Message) → Answers R x id t reply → (m : Message) → s.message ≡ m
        → Correct R (sender_of m) → Said R x (sender_of m) m t
    step_said x id t s reply a m e c =
        subst (λ (y : RegisterId). Said R y (sender_of m) m t) (step_register R x id t s reply a)
        (subst (λ (n : Message). Correct R (sender_of n) → Said R (register_in s.bytes) (sender_of n) n t) e own c)
      where
        own : Correct R (sender_of s.message) → Said R (register_in s.bytes) (sender_of s.message) s.message t
        own c =
            let small = R.have_bytes t (to_replica id s.bytes s.verdicts) s.event_is in
            let sent = own_sent t _ _ s.verdicts s.facts.passed.own (step_true P.true_verdicts_lem x id t s) c in
            let legal = decoded_legal AtReplica s.bytes (register_in s.bytes) s.message s.admitted.decodes small in
            said (sender_of s.message) c (register_in s.bytes) s.message legal t
            (subst (λ (b : List ℕ). Sent R (sender_of s.message) b t) (covered AtReplica s.bytes (register_in s.bytes) s.message small s.admitted.decodes) sent)
