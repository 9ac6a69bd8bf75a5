-- What a correct replica replied to an operation's message, and was handed to the operation's client while it was awaited: the client had counted the
-- replica, or takes the reply. Assumes nothing.
use mathlib.Core.Path.{◌≡◌, refl, sym, ap, ap₂, subst, ◌∙◌}
use mathlib.Core.Logic.{◌⊎◌, inl, inr}
use mathlib.Core.Bool.{Bool, true, false, cond}
use mathlib.Core.List.{List}
use mathlib.Core.Option.{some}
use Prim.Native.Nat.{ℕ}
use borrow.Author.Tests.{eq-eqb}
use Rattle.base.specs.BigEndian.{Bytes}
use Rattle.base.specs.ClientSet.{nobody}
use Rattle.base.specs.Outcome.{Outcome, accepted, ◌>>=◌}
use Rattle.base.specs.Party.{is_writer}
use Rattle.base.specs.ReplicaSet.{has}
use Rattle.base.specs.declared.party.ClientId.{ClientId}
use Rattle.base.specs.declared.party.RegisterId.{RegisterId}
use Rattle.base.specs.declared.party.ReplicaId.{ReplicaId}
use Rattle.protocol.specs.Client.{Turn, on_reply, towards, client_step}
use Rattle.protocol.specs.Events.{reply_handed, handed_step, client_answer}
use Rattle.protocol.specs.Viewer.{on_viewer_reply, viewer_step}
use Rattle.protocol.specs.declared.client.Client.{Client}
use Rattle.protocol.proofs.RegisterFacts.{ReplyTo}
use Rattle.run.specs.Premises.{Accepted}
use Rattle.run.specs.Run.{to_replica, to_client, Run, event, register_replica_at, client_at, At}
use Rattle.run.proofs.Turns.{good_bank, good_client, client_takes, client_outcome_lem, Heard, register_step_lem}
use Rattle.wire.specs.Acceptance.{replica, client, sender_of, admits, admitted}
use Rattle.wire.specs.Decode.{for_register, decode, taker_of, register_in}
use Rattle.wire.specs.Layout.{signature}
use Rattle.wire.specs.Message.{Message, READ-STAMP, PREPARE, WRITE, READ, STAMP, PREPARED, WRITTEN, CARD, encode}
use Rattle.wire.specs.Signatures.{Signature}
use Rattle.wire.specs.declared.message.Party.TheVariants.{Replica as AtReplica, Client as AtClient}
use Rattle.wire.proofs.AdmittedMessage.{passed_admits}
use Rattle.wire.proofs.OneForm.{found_register}
use Rattle.wire.proofs.Tests7To11.{Passed}
use Rattle.progress.specs.Delivery.{Replied}
use Rattle.progress.specs.Operations.{Invocation, Sends}
use Rattle.progress.specs.Verdicts.{Judged}
use Rattle.progress.proofs.Awaited.{AwaitsNow, takes_reply}
use Rattle.progress.proofs.Counted.{counted_in}
use Rattle.progress.proofs.Course.{begun_correct, begun_registered, sends_for}
use Rattle.progress.proofs.NotRefused.{reads, still_sound, boxed_passes}
use Rattle.progress.proofs.Requests.{Request, request}
use Rattle.progress.proofs.Sound.{to_a_client}

-- What 2 to 11 let through for the operation's register is taken in the client's phase.
let_through : (id : ClientId) (now : Client) (x : RegisterId) (r : Message) (bytes verdicts : List ℕ) → now.register ≡ x → decode AtClient bytes ≡ accepted (for_register x r)
    → admits now.f nobody verdicts (for_register x r) ≡ accepted (for_register x r) → handed_step id now bytes verdicts ≡ client_takes id now (signature bytes) r
unfolding client_step viewer_step admitted
let_through id now x r bytes verdicts is decoded lets =
    ap₂ (λ (a b : Outcome Turn). cond (is_writer id) a b) (through (λ (client : Client) (sent : RegisterId × Message). on_reply client (signature bytes) sent.1))
    (through (λ (client : Client) (sent : RegisterId × Message). on_viewer_reply client sent.1))
  where
    itself : towards x now ≡ now
    itself = rw (eq-eqb x.0 now.register.0 (ap (λ (y : RegisterId). y.0) (sym is))) refl

    through : (next : Client → RegisterId × Message → Outcome Turn) → ((decode AtClient bytes >>= admits now.f nobody verdicts) >>= λ sent. next (towards sent.0 now) sent) ≡ next now (for_register x r)
    through next =
        ap (λ (out : Outcome (RegisterId × Message)). (out >>= admits now.f nobody verdicts) >>= λ sent. next (towards sent.0 now) sent) decoded
        ∙ ap (λ (out : Outcome (RegisterId × Message)). out >>= λ sent. next (towards sent.0 now) sent) lets
        ∙ ap (λ (client : Client). next client (for_register x r)) itself

module _ (R : Run) (x : RegisterId) {Made : Signature → Type 0} (o : Invocation R x) (u t : ℕ) (m : Message) (s : Sends R x o u m) (id : ReplicaId) (c : R.correct_replica id ≡ true) (r : Replied R x Made o u m t id) where
  correct : R.correct_client o.id ≡ true
  correct = begun_correct R x o

  ask : Request o.id m
  ask = request R o.id correct u m s.by s.answered

  -- ---- At the replica

  abbrev handed_over : List ℕ
  handed_over = encode x m r.handed.signature

  decoded : decode AtReplica handed_over ≡ accepted (for_register x m)
  decoded =
      reads R x (client o.id) correct u m s.by (sends_for R x o u m s) s.answered r.handed.signature r.long (R.have_bytes r.handed.i (to_replica id handed_over r.handed.verdicts) r.handed.event_is) AtReplica ask.taken_by

  abbrev at_replica : At R r.handed.i (replica id)
  at_replica = (to_replica id handed_over r.handed.verdicts, r.handed.event_is, refl)

  for : register_in handed_over ≡ x
  for = found_register AtReplica handed_over x m decoded

  is_reply : ReplyTo (register_replica_at R x id r.handed.i) m r.reply
  is_reply =
      let step = register_step_lem R x id c r.handed.i r.reply (at_replica, for, r.replies) in
      let same_bytes : step.bytes ≡ handed_over = cc (step.event_is, r.handed.event_is) in
      let pair : for_register (register_in step.bytes) step.message ≡ for_register x m = cc (step.admitted.decodes, decoded) in
      let same : step.message ≡ m = ap (λ (p : RegisterId × Message). p.1) pair in
      let replies : step.reply.message ≡ r.reply = cc (step.answer_is, r.replies) in
      subst (λ (n : Message). ReplyTo (register_replica_at R x id r.handed.i) m n) replies (subst (λ (n : Message). ReplyTo (register_replica_at R x id r.handed.i) n step.reply.message) same step.facts.reply_is)

  from_replica : (sender_of r.reply ≡ replica id) × (taker_of r.reply ≡ AtClient)
  from_replica = go m is_reply
    where
      same : (register_replica_at R x id r.handed.i).id ≡ id
      same = (good_bank R id c r.handed.i).id_is

      go : (n : Message) → ReplyTo (register_replica_at R x id r.handed.i) n r.reply → (sender_of r.reply ≡ replica id) × (taker_of r.reply ≡ AtClient)
      go (READ-STAMP by nonce) e = (ap sender_of e ∙ ap replica same, ap taker_of e)
      go (PREPARE by timestamp digest proof last) e = (ap sender_of e ∙ ap replica same, ap taker_of e)
      go (WRITE by card proof) e = (ap sender_of e ∙ ap replica same, ap taker_of e)
      go (READ by nonce) e = (ap sender_of e ∙ ap replica same, ap taker_of e)
      go (STAMP by nonce proof addressed) e = absurd e
      go (PREPARED by timestamp digest) e = absurd e
      go (WRITTEN by timestamp) e = absurd e
      go (CARD by nonce card proof addressed) e = absurd e

  -- ---- At the client

  abbrev j : ℕ
  j = r.delivered.j

  abbrev now : Client
  now = client_at R o.id j

  abbrev returned : List ℕ
  returned = encode x r.reply r.delivered.signature

  small : Bytes returned
  small = R.have_bytes j (to_client o.id returned r.delivered.verdicts) r.delivered.event_is

  reply_decoded : decode AtClient returned ≡ accepted (for_register x r.reply)
  reply_decoded = reads R x (replica id) c r.handed.i r.reply at_replica for r.replies r.delivered.signature r.delivered.boxed.long small AtClient from_replica.1

  pub returned_at : (v : ℕ) → j ≡ v → At R v (client o.id)
  returned_at v z = (to_client o.id returned r.delivered.verdicts, ap (event R) (sym z) ∙ r.delivered.event_is, refl)

  -- A message that the client takes then is this reply.
  pub heard_reply : (v : ℕ) → j ≡ v → (h : Heard R o.id v) → sender_of h.message ≡ replica id
  unfolding returned_at
  heard_reply v z h =
      let handed : event R v ≡ some (to_client o.id returned r.delivered.verdicts) = (returned_at v z).1 in
      let same_bytes : h.bytes ≡ returned = cc h.event_is in
      let pair : for_register (client_at R o.id v).register h.message ≡ for_register x r.reply = cc (h.admitted.decodes, reply_decoded) in
      ap (λ (p : RegisterId × Message). sender_of p.1) pair ∙ from_replica.0

  pub counted_or_taken : Judged R Made → now.register ≡ x → AwaitsNow now m → (has (counted_in now.phase) id ≡ true) ⊎ Accepted R j
  counted_or_taken judged is awaits = go (has (counted_in now.phase) id) refl
    where
      good_f : now.f ≡ R.f
      good_f = (good_client R o.id correct j).f_is

      same_id : now.id ≡ o.id
      same_id = (good_client R o.id correct j).id_is

      passed : Passed R.f r.reply r.delivered.verdicts
      passed =
          boxed_passes R x (replica id) c r.handed.i r.reply at_replica for r.replies r.delivered.signature r.delivered.boxed.long small judged r.delivered.boxed from_replica.0 j r.delivered.after_given AtClient
          from_replica.1 r.delivered.verdicts (to_a_client R j o.id returned r.delivered.verdicts x r.reply r.delivered.event_is reply_decoded)

      lets : admits now.f nobody r.delivered.verdicts (for_register x r.reply) ≡ accepted (for_register x r.reply)
      lets =
          passed_admits now.f nobody r.delivered.verdicts x r.reply (rw (from_replica.0, good_f) (R.replicas_in_range id c)) (rw from_replica.0 refl) (begun_registered R x o) (rw from_replica.0 refl)
          (subst (λ (f : ℕ). Passed f r.reply r.delivered.verdicts) (sym good_f) passed)

      go : (b : Bool) → has (counted_in now.phase) id ≡ b → (has (counted_in now.phase) id ≡ true) ⊎ Accepted R j
      go true k = inl k
      go false k =
          let stands = (still_sound R x (replica id) c r.handed.i r.reply at_replica for r.replies r.delivered.signature r.delivered.boxed.long small j r.delivered.after_given).stands in
          let (turn, taken) = takes_reply now (signature returned) id (register_replica_at R x id r.handed.i) m r.reply (good_bank R id c r.handed.i).id_is awaits ask.may_send_lem is_reply stands k in
          let stepped = let_through o.id now x r.reply returned r.delivered.verdicts is reply_decoded lets in
          let is_taken = subst (λ (i : ClientId). client_takes i now (signature returned) r.reply ≡ accepted turn) same_id taken in
          inr (turn.answer, (client_outcome_lem R o.id j (reply_handed returned r.delivered.verdicts) r.delivered.event_is).answer_is ∙ ap client_answer (stepped ∙ is_taken))
