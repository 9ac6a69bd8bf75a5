-- A correct replica does not refuse a message of a correct client's operation while that lasts. Assumes nothing.
use mathlib.Core.Path.{◌≡◌, refl, sym, ap, subst, ◌∙◌}
use mathlib.Core.Bool.{true, false, not}
use mathlib.Core.List.{List, ◌++◌}
use mathlib.Core.Option.{some}
use Prim.Native.Nat.{ℕ, suc, ◌-◌, ◌<◌}
use lib.ListN.{length, take}
use lib.Seq.{drop_at}
use Rattle.base.specs.BigEndian.{Bytes}
use Rattle.base.specs.ClientSet.{has}
use Rattle.base.specs.Outcome.{Outcome, accepted, ◌>>=◌}
use Rattle.base.specs.Party.{is_writer, register_place}
use Rattle.base.specs.Timestamp.{of_number, successor}
use Rattle.base.specs.declared.party.RegisterId.{RegisterId}
use Rattle.base.specs.declared.party.ReplicaId.{ReplicaId}
use Rattle.base.proofs.Apart.{apart}
use Rattle.base.proofs.BigEndian.{bytes_drop}
use Rattle.base.proofs.Outcome.{guard_passes}
use Rattle.protocol.specs.Bank.{place_in, bank_part, bank_step}
use Rattle.protocol.specs.Client.{send}
use Rattle.protocol.specs.Events.{request_handed, bank_turn}
use Rattle.protocol.specs.Parts.{card_stands}
use Rattle.protocol.specs.RegisterReplica.{Reply, with_slots, answering, is_timestamp, on_request, register_step}
use Rattle.protocol.specs.declared.replica.RegisterReplica.{RegisterReplica}
use Rattle.protocol.specs.declared.replica.Slots.{Slots}
use Rattle.run.specs.Premises.{Premises}
use Rattle.run.specs.Run.{to_replica, Run, register_of, event, bank_at, register_replica_at, register_at, answer_at, At, Correct, Sent}
use Rattle.run.specs.Withdrawals.{withdrawn_at}
use Rattle.run.proofs.Bodies.{covered}
use Rattle.run.proofs.SentMessages.{sent_legal}
use Rattle.run.proofs.Turns.{good_bank, bank_outcome}
use Rattle.wire.specs.Acceptance.{Sender, client, sender_of, in_its_range, is_served, admits, admitted}
use Rattle.wire.specs.Decode.{for_register, decode, taker_of}
use Rattle.wire.specs.Message.{Message, READ-STAMP, PREPARE, WRITE, READ, STAMP, PREPARED, WRITTEN, CARD, IsSignature, Legal, body, encode}
use Rattle.wire.specs.Parts.{prepared_timestamp, timestamp_if_there}
use Rattle.wire.specs.Signatures.{Signature}
use Rattle.wire.specs.declared.message.Party.{Party}
use Rattle.wire.specs.declared.message.Party.TheVariants.{Replica as AtReplica}
use Rattle.wire.proofs.AdmittedMessage.{passed_admits}
use Rattle.wire.proofs.OneForm.{found_register}
use Rattle.wire.proofs.RoundTrip.{decode_encode, signature_encode}
use Rattle.wire.proofs.Tests7To11.{Passed}
use Rattle.progress.specs.Delivery.{Boxed}
use Rattle.progress.specs.Operations.{OneLaptop, Invocation, Lasts, Sends}
use Rattle.progress.specs.Verdicts.{Judged}
use Rattle.progress.proofs.Course.{begun_correct, begun_registered, sends_for}
use Rattle.progress.proofs.KeptSound.{sent_sound}
use Rattle.progress.proofs.Requests.{Request, request}
use Rattle.progress.proofs.SlotOpen.{Opens, slot_open}
use Rattle.progress.proofs.Sound.{Stands, own_signature, Sound, sound_later, Came, to_a_replica, passes}

-- ---- What a correct party sent, with a signature behind it

module _ (R : Run) (x : RegisterId) (party : Sender) (c : Correct R party) (u : ℕ) (m : Message) (at : At R u party) (for : register_of at.0 ≡ x) (sent : answer_at R u ≡ accepted (send m)) (own : List ℕ) (long : length own ≡ 64)
    (bytes : Bytes (encode x m own)) where
  legal : Legal x m
  legal = subst (λ (y : RegisterId). Legal y m) for (sent_legal R party c u m at sent)

  own_fits : IsSignature own
  unfolding encode
  own_fits = (long, subst Bytes (drop_at (body x m) own (length (body x m)) refl) (bytes_drop (length (body x m)) (body x m ++ own) bytes))

  -- Its taker reads it as it was sent.
  pub reads : (taker : Party) → taker_of m ≡ taker → decode taker (encode x m own) ≡ accepted (for_register x m)
  reads taker to = ap (λ (p : Party). decode p (encode x m own)) (sym to) ∙ decode_encode x m own legal own_fits

  -- It is sound at every later event,
  pub still_sound : (t : ℕ) → u < t → Sound R x t m
  still_sound t l = sound_later R x (suc u) t m l (subst (λ (y : RegisterId). Sound R y (suc u) m) for (sent_sound R party c u m at sent))

  -- and passes 7 to 11 where it comes with a signature that its box made.
  pub boxed_passes : {Made : Signature → Type 0} → Judged R Made → Boxed R x Made party m own → sender_of m ≡ party → (t : ℕ) → u < t → (taker : Party) → taker_of m ≡ taker → (verdicts : List ℕ)
      → Came R t (encode x m own) verdicts x m → Passed R.f m verdicts
  boxed_passes {Made} judged boxed by t l taker to verdicts came =
      let front : take (length (encode x m own) - 64) (encode x m own) ≡ body x m = covered taker (encode x m own) x m bytes (reads taker to) in
      let same : record { signer = party; covers = body x m; bytes = own } ≡ own_signature (encode x m own) m = sym (rw (by, front, signature_encode x m own legal own_fits) refl) in
      let said : Sent R party (take (length (encode x m own) - 64) (encode x m own)) t =
      record { register = x; message = m; said = record { time = u; earlier = l; by = at; register_is = for; answered = sent }; same_bytes = sym front } in
      passes R t (encode x m own) verdicts x m came judged (still_sound t l) (subst (Correct R) (sym by) c) (subst (λ (p : Sender). Sent R p (take (length (encode x m own) - 64) (encode x m own)) t) (sym by) said)
      (subst Made same boxed.made)

-- ---- What a replica takes

-- The slot takes it, if it is a PREPARE.
abbrev SlotTakes : Slots → Message → Type 0
SlotTakes slots (READ-STAMP id nonce) = Unit {0}
SlotTakes slots (PREPARE id timestamp digest proof last) = Opens id timestamp digest (timestamp_if_there last) slots
SlotTakes slots (WRITE id card proof) = Unit {0}
SlotTakes slots (READ id nonce) = Unit {0}
SlotTakes slots (STAMP id nonce proof addressed) = Unit {0}
SlotTakes slots (PREPARED id timestamp digest) = Unit {0}
SlotTakes slots (WRITTEN id timestamp) = Unit {0}
SlotTakes slots (CARD id nonce card proof addressed) = Unit {0}

takes : (before : RegisterReplica) (m : Message) → taker_of m ≡ AtReplica → Stands m → SlotTakes before.register.slots m → (reply : Reply) × (on_request before m ≡ accepted reply)
unfolding on_request
takes before (READ-STAMP id nonce) to stands slot = (_, refl)
takes before (PREPARE id timestamp digest proof last) to stands slot = (
  _,
  guard_passes 13 (is_timestamp timestamp (successor (of_number (prepared_timestamp proof)) id)) _ stands
      ∙ ap (λ (out : Outcome Slots). out >>= λ slots. answering (PREPARED before.id timestamp digest) (with_slots before slots)) slot.1,
)
takes before (WRITE id card proof) to stands slot = (_, guard_passes 14 (card_stands card (some proof)) _ stands)
takes before (READ id nonce) to stands slot = (_, refl)
takes before (STAMP id nonce proof addressed) to stands slot = apart (cc)
takes before (PREPARED id timestamp digest) to stands slot = apart (cc)
takes before (WRITTEN id timestamp) to stands slot = apart (cc)
takes before (CARD id nonce card proof addressed) to stands slot = apart (cc)

module _ (R : Run) (x : RegisterId) (P : Premises R) {Made : Signature → Type 0} (judged : Judged R Made) where
  slot_takes_lem : (o : Invocation R x) (u t : ℕ) (m : Message) (id : ReplicaId) → R.correct_replica id ≡ true → Sends R x o u m → u < t → Lasts R x o t → OneLaptop R o.id 0 t → Request o.id m
      → SlotTakes (register_at R x id t).slots m
  slot_takes_lem o u t (READ-STAMP by nonce) id c s l lasts one ask = tt
  slot_takes_lem o u t (PREPARE by timestamp digest proof last) id c s l lasts one ask =
      let same : by ≡ o.id = cc ask.sender_is in
      let writer : is_writer o.id ≡ true = ap is_writer (sym same) ∙ ask.may_send_lem in
      subst (λ (i : _). Opens i timestamp digest (timestamp_if_there last) (register_at R x id t).slots) (sym same)
      (slot_open R P x o u t timestamp digest proof last id c writer (subst (λ (i : _). Sends R x o u (PREPARE i timestamp digest proof last)) same s) l lasts one)
  slot_takes_lem o u t (WRITE by card proof) id c s l lasts one ask = tt
  slot_takes_lem o u t (READ by nonce) id c s l lasts one ask = tt
  slot_takes_lem o u t (STAMP by nonce proof addressed) id c s l lasts one ask = tt
  slot_takes_lem o u t (PREPARED by timestamp digest) id c s l lasts one ask = tt
  slot_takes_lem o u t (WRITTEN by timestamp) id c s l lasts one ask = tt
  slot_takes_lem o u t (CARD by nonce card proof addressed) id c s l lasts one ask = tt

  pub not_refused : (o : Invocation R x) (u t : ℕ) (m : Message) (id : ReplicaId) (own verdicts : List ℕ) → Sends R x o u m → u < t → Lasts R x o t → OneLaptop R o.id 0 t
      → has (withdrawn_at R id t) o.id ≡ false → Boxed R x Made (client o.id) m own → event R t ≡ some (to_replica id (encode x m own) verdicts) → (reply : Message) × (answer_at R t ≡ accepted (send reply))
  unfolding bank_step register_step admitted
  not_refused o u t m id own verdicts s l lasts one served boxed e =
      let correct = begun_correct R x o in
      let c : R.correct_replica id ≡ true = R.at_correct t (to_replica id (encode x m own) verdicts) e in
      let bytes = R.have_bytes t (to_replica id (encode x m own) verdicts) e in
      let ask = request R o.id correct u m s.by s.answered in
      let for = sends_for R x o u m s in
      let decoded = reads R x (client o.id) correct u m s.by for s.answered own boxed.long bytes AtReplica ask.taken_by in
      let came = to_a_replica R t id (encode x m own) verdicts x m e decoded in
      let passed = boxed_passes R x (client o.id) correct u m s.by for s.answered own boxed.long bytes judged boxed ask.sender_is t l AtReplica ask.taken_by verdicts came in
      let sound = still_sound R x (client o.id) correct u m s.by for s.answered own boxed.long bytes t l in
      let bank = bank_at R id t in
      let place : place_in (encode x m own) ≡ register_place x = ap register_place (found_register AtReplica (encode x m own) x m decoded) in
      let (reply, taken) = takes (register_replica_at R x id t) m ask.taken_by sound.stands (slot_takes_lem o u t m id c s l lasts one ask) in
      let at_place : on_request (bank_part (place_in (encode x m own)) bank) m ≡ accepted reply = ap (λ (at : ℕ). on_request (bank_part at bank) m) place ∙ taken in
      let lets : admits bank.f bank.withdrawn verdicts (for_register x m) ≡ accepted (for_register x m) =
      passed_admits bank.f bank.withdrawn verdicts x m (ap (in_its_range bank.f) ask.sender_is ∙ (R.clients_in_range o.id correct).0) ask.may_send_lem (begun_registered R x o)
      (ap (is_served bank.withdrawn) ask.sender_is ∙ ap not served) (subst (λ (f : ℕ). Passed f m verdicts) (sym (good_bank R id c t).f_is) passed) in
      let next : RegisterId × Message → Outcome Reply = λ sent. on_request (bank_part (place_in (encode x m own)) bank) sent.1 in
      let stepped : bank_step bank (encode x m own) verdicts ≡ accepted reply =
      ap (λ (out : Outcome (RegisterId × Message)). (out >>= admits bank.f bank.withdrawn verdicts) >>= next) decoded ∙ ap (λ (out : Outcome (RegisterId × Message)). out >>= next) lets ∙ at_place in
      (reply.message, (bank_outcome R id t (request_handed (encode x m own) verdicts) _ e (ap (bank_turn (place_in (encode x m own)) bank) stepped)).1)
