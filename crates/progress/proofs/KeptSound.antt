-- What a correct client keeps is sound, and so are its messages: the proofs that it shows passed 9 to 11 with it, or are built of replies that did.
-- Assumes nothing.
use mathlib.Core.Path.{◌≡◌, refl, sym, ap, subst, ◌∙◌}
use mathlib.Core.Bool.{Bool, true, false, cond}
use mathlib.Core.List.{List, []}
use mathlib.Core.Option.{Option, some}
use Prim.Native.Nat.{ℕ, zero, suc, ◌+◌, ◌≤◌, ◌<◌, ◌/◌, ◌%◌}
use native.Mathlib.Omega.{arith}
use borrow.Author.Tests.{eq-eqb, eqb-true, eqb-false, ltb-true, ltb-false, le-leb, ne_eqb}
use lib.Dec.{eqb, leb, ltb}
use lib.ListN.{length, get_or, set, get_or-replicate}
use lib.Seq.{get_or-set_same}
use Rattle.std.specs.declared.option.Option.TheVariants.{Some}
use Rattle.base.specs.BigEndian.{Bytes}
use Rattle.base.specs.Outcome.{Outcome, accepted, refused}
use Rattle.base.specs.Party.{replica_count, is_register, register_place}
use Rattle.base.specs.ReplicaSet.{empty, with, is_quorum}
use Rattle.base.specs.Timestamp.{number, of_number, successor}
use Rattle.base.specs.declared.party.ClientId.{ClientId}
use Rattle.base.specs.declared.party.RegisterId.{RegisterId}
use Rattle.base.specs.declared.party.ReplicaId.{ReplicaId}
use Rattle.base.specs.declared.replica_set.ReplicaSet.{ReplicaSet}
use Rattle.base.specs.declared.timestamp.Timestamp.{Timestamp}
use Rattle.base.proofs.Apart.{apart}
use Rattle.base.proofs.Booleans.{and_true_both}
use Rattle.base.proofs.Range.{bounds, inside}
use Rattle.base.proofs.Registers.{place_below, place_injective}
use Rattle.base.proofs.Same.{same_itself}
use Rattle.base.proofs.Timestamps.{of_number_number, successor_number}
use Rattle.protocol.specs.Client.{Answer, send, waits, done, ended, Turn, current_card, best_proof, best_shown, no_written, written_in_place, written_kept, nothing_written, keeping, best_of, showed_by}
use Rattle.protocol.specs.Events.{proof_handed, taking_turn}
use Rattle.protocol.specs.Handing.{take_proof, ProofTaken}
use Rattle.protocol.specs.Parts.{start_card, card_stands}
use Rattle.protocol.specs.RegisterReplica.{is_timestamp}
use Rattle.protocol.specs.declared.client.Client.{Client}
use Rattle.protocol.specs.declared.client.Phase.{Phase}
use Rattle.protocol.specs.declared.client.Phase.TheVariants.{Idle, Stamps, Prepareds, Writtens, Cards, WriteBack}
use Rattle.protocol.specs.declared.client.Written.{Written}
use Rattle.protocol.proofs.Accepts.{Accepts, by_value, by_guard, by_next}
use Rattle.protocol.proofs.ClientArrays.{built_fit, built_few, signature_put}
use Rattle.protocol.proofs.ClientCases.{is_writing, is_over, Leaves, OneMore, better_card, better_proof, signatures_with, entries_with, PhaseFits, ClientCase, stamp_counted, stamps_enough, stamps_ended, prepared_counted, prepareds_enough, written_counted, writtens_enough, card_counted, cards_agree, cards_viewed, cards_differ, back_counted, back_enough}
use Rattle.protocol.proofs.LastWritten.{keeping_shown}
use Rattle.run.specs.Run.{Event, begins_write, begins_read, to_client, proof_to, Run, register_of, event, client_at, answer_at, At, Correct}
use Rattle.run.proofs.Bodies.{covered}
use Rattle.run.proofs.Operations.{best_fits}
use Rattle.run.proofs.Turns.{GoodClient, good_client, ClientStep, Heard, heard_register, Silent, Left, client_outcome_lem, ClientTurn, rested, wrote, asked, heard, made_again, took, client_turn_lem}
use Rattle.wire.specs.Acceptance.{Sender, replica, client, sender_of}
use Rattle.wire.specs.Card.{is_card}
use Rattle.wire.specs.Checks.{shaped, issued, all}
use Rattle.wire.specs.Layout.{signature}
use Rattle.wire.specs.Message.{Message, READ-STAMP, READ, STAMP, PREPARED, WRITTEN, CARD, body}
use Rattle.wire.specs.Parts.{prepared_timestamp}
use Rattle.wire.specs.Proof.{PreparedProof, WrittenProof}
use Rattle.wire.specs.Sha256.{sha256}
use Rattle.wire.specs.Signatures.{signed_by, prepared_signatures, written_signatures, handed_signatures}
use Rattle.wire.proofs.AdmittedProof.{AdmittedProof, proof_passed}
use Rattle.wire.proofs.MessageSignatures.{length_signed}
use Rattle.wire.proofs.OneForm.{decoded_signature}
use Rattle.wire.proofs.Tests7To11.{Passed, issued_positive}
use Rattle.wire.specs.declared.message.Party.TheVariants.{Client as AtClient}
use Rattle.progress.proofs.Counted.{counted_in, few_counted}
use Rattle.progress.proofs.Found.{Found, EachFound, all_found}
use Rattle.progress.proofs.Gathered.{Collected, none_collected, collected_later, one_collected, built_found}
use Rattle.progress.proofs.HeldSound.{replied_sound}
use Rattle.progress.proofs.Requests.{sends_writer}
use Rattle.progress.proofs.Sound.{Stands, ProofSound, none_sound, proof_later, Sound, sound_later, Came, to_a_client, taken_sound, own_found}

-- A successor's number is issued.
successor_issued : (best next : Timestamp) (id : ClientId) → best.client.0 < 256 → 1 ≤ id.0 → id.0 ≤ 64 → successor best id ≡ Some next → issued (number next) ≡ true
successor_issued best next id fits low high e =
    let is = successor_number best next id fits e in
    let count : 1 ≤ number next / 256 = omega arith in
    let own : number next % 256 ≡ id.0 = omega arith in
    rw (le-leb 1 (number next / 256) count, own, inside 1 64 id.0 low high) refl

-- At 0.0 all that were counted showed it.
all_showed : (best : Timestamp) (proof : Option PreparedProof) (sender : ReplicaId) (counted showed : ReplicaSet) → (number best ≡ 0 → showed ≡ counted)
    → number (best_of best proof) ≡ 0 → showed_by best proof sender showed ≡ with counted sender
all_showed best proof sender counted showed h = go (ltb (number best) (prepared_timestamp proof)) (eqb (number best) (prepared_timestamp proof)) refl refl
  where
    go : (u v : Bool) → ltb (number best) (prepared_timestamp proof) ≡ u → eqb (number best) (prepared_timestamp proof) ≡ v
        → number (cond u (of_number (prepared_timestamp proof)) best) ≡ 0 → cond u (with empty sender) (cond v (with showed sender) showed) ≡ with counted sender
    go true v e k z = let l = ltb-true (number best) (prepared_timestamp proof) e in absurd (omega arith)
    go false true e k z = ap (λ (set : ReplicaSet). with set sender) (h z)
    go false false e k z =
        let l = ltb-false (number best) (prepared_timestamp proof) e in
        let same = eq-eqb (number best) (prepared_timestamp proof) (omega arith) in
        apart (cc)

module _ (R : Run) where
  abbrev PreparedSound : RegisterId → ℕ → Option PreparedProof → Type 0
  PreparedSound x t proof = ProofSound R (prepared_signatures x) t proof

  -- ---- What is kept

  -- The written proofs, each for its register.
  abbrev LastSound : ℕ → List Written → Type 0
  LastSound t kept = (y : RegisterId) → is_register y ≡ true → ProofSound R (written_signatures y) t (written_kept (get_or kept (register_place y) no_written))

  last_later : (t : ℕ) (kept : List Written) → LastSound t kept → LastSound (suc t) kept
  last_later t kept h y registered = proof_later R t (suc t) (written_kept (get_or kept (register_place y) no_written)) (omega arith) (h y registered)

  -- Another one of a register, the others as they were.
  last_changed : (t : ℕ) (before after : Client) (x : RegisterId) → is_register x ≡ true → ((at : ℕ) → (at ≡ register_place x → ⊥) → written_in_place at after ≡ written_in_place at before)
      → ProofSound R (written_signatures x) t (written_kept (written_in_place (register_place x) after)) → LastSound t before.written → LastSound t after.written
  last_changed t before after x registered others new h y known = go (eqb (register_place y) (register_place x)) refl
    where
      go : (b : Bool) → eqb (register_place y) (register_place x) ≡ b → ProofSound R (written_signatures y) t (written_kept (written_in_place (register_place y) after))
      go true e = rw (place_injective y x known registered (eqb-true (register_place y) (register_place x) e)) new
      go false e = rw (others (register_place y) (eqb-false (register_place y) (register_place x) e)) (h y known)

  -- By phase, in an operation of a register.
  record StampsSound (x : RegisterId) (t : ℕ) (now : Client) (best : Timestamp) : Type 0 where
    is_card_lem : is_card (current_card now) ≡ true
    best_sound : PreparedSound x t (best_shown now best)

  record PreparedsSound (x : RegisterId) (t : ℕ) (now : Client) (timestamp : Timestamp) (counted : ReplicaSet) : Type 0 where
    is_card_lem : is_card (current_card now) ≡ true
    digest_is : now.digest ≡ sha256 (current_card now)
    is : issued (number timestamp) ≡ true
    collected : Collected R x (λ r. PREPARED r (number timestamp) now.digest) t counted now.signatures

  record WrittensSound (x : RegisterId) (t : ℕ) (now : Client) (timestamp : Timestamp) (counted : ReplicaSet) : Type 0 where
    is : issued (number timestamp) ≡ true
    collected : Collected R x (λ r. WRITTEN r (number timestamp)) t counted now.signatures

  record CardsSound (x : RegisterId) (t : ℕ) (now : Client) (best : Timestamp) (counted showed : ReplicaSet) : Type 0 where
    best_sound : PreparedSound x t (best_shown now best)
    stands : card_stands (current_card now) (best_shown now best) ≡ true
    at_start : number best ≡ 0 → showed ≡ counted

  abbrev PhaseSound : RegisterId → ℕ → Client → Phase → Type 0
  PhaseSound x t now Idle = Unit {0}
  PhaseSound x t now (Stamps nonce best counted) = StampsSound x t now best
  PhaseSound x t now (Prepareds timestamp counted) = PreparedsSound x t now timestamp counted
  PhaseSound x t now (Writtens timestamp counted) = WrittensSound x t now timestamp counted
  PhaseSound x t now (Cards nonce best counted showed) = CardsSound x t now best counted showed
  PhaseSound x t now (WriteBack timestamp counted) = Unit {0}

  best_later : (x : RegisterId) (t : ℕ) (now : Client) (best : Timestamp) → PreparedSound x t (best_shown now best) → PreparedSound x (suc t) (best_shown now best)
  best_later x t now best s = proof_later R t (suc t) (best_shown now best) (omega arith) s

  phase_later : (x : RegisterId) (t : ℕ) (now : Client) (phase : Phase) → PhaseSound x t now phase → PhaseSound x (suc t) now phase
  phase_later x t now Idle s = tt
  phase_later x t now (Stamps nonce best counted) s = record { is_card_lem = s.is_card_lem; best_sound = best_later x t now best s.best_sound }
  phase_later x t now (Prepareds timestamp counted) s =
      record { is_card_lem = s.is_card_lem; digest_is = s.digest_is; is = s.is; collected = collected_later R x _ t counted now.signatures s.collected }
  phase_later x t now (Writtens timestamp counted) s = record { is = s.is; collected = collected_later R x _ t counted now.signatures s.collected }
  phase_later x t now (Cards nonce best counted showed) s = record { best_sound = best_later x t now best s.best_sound; stands = s.stands; at_start = s.at_start }
  phase_later x t now (WriteBack timestamp counted) s = tt

  record ClientSound (t : ℕ) (now : Client) : Type 0 where
    last : LastSound t now.written
    phase : PhaseSound now.register t now now.phase

  abbrev AnswerSound : RegisterId → ℕ → Answer → Type 0
  AnswerSound x t (send message) = Sound R x t message
  AnswerSound x t waits = Unit {0}
  AnswerSound x t (done timestamp card signers) = Unit {0}
  AnswerSound x t ended = Unit {0}

  nothing_written_lem : (t : ℕ) → LastSound t nothing_written
  nothing_written_lem t y registered = subst (λ (w : Written). ProofSound R (written_signatures y) t (written_kept w)) (sym (get_or-replicate 16 (register_place y) _ no_written (place_below y))) (none_sound R)

  -- A question, which shows no proof.
  question_sound : (x : RegisterId) (t : ℕ) (id : ClientId) (nonce : ℕ) → Sound R x t (READ-STAMP id nonce) × Sound R x t (READ id nonce)
  question_sound x t id nonce = (
    record { prepared = none_sound R; written = none_sound R; field_issued = refl; stands = tt },
    record { prepared = none_sound R; written = none_sound R; field_issued = refl; stands = tt },
  )

  -- ---- A message is taken

  module _ (id : ClientId) (correct : R.correct_client id ≡ true) (t : ℕ) where
    abbrev now : Client
    now = client_at R id t

    abbrev x : RegisterId
    x = (client_at R id t).register

    good : GoodClient R id now
    good = good_client R id correct t

    record TurnSound (turn : Turn) : Type 0 where
      last : LastSound (suc t) turn.next.written
      phase : PhaseSound x (suc t) turn.next turn.next.phase
      answer : AnswerSound x (suc t) turn.answer

    module _ (h : Heard R id t) (s : ClientSound t now) where
      came : Came R t h.bytes h.verdicts x h.message
      came = to_a_client R t id h.bytes h.verdicts x h.message h.event_is h.admitted.decodes

      small : Bytes h.bytes
      small = R.have_bytes t (to_client id h.bytes h.verdicts) h.event_is

      passed : Passed R.f h.message h.verdicts
      passed = subst (λ (f : ℕ). Passed f h.message h.verdicts) good.f_is h.facts.passed

      taken : (m : Message) → h.message ≡ m → Stands m → Sound R x (suc t) m
      taken m e stands = subst (Sound R x (suc t)) e (taken_sound R t h.bytes h.verdicts x h.message came passed (subst Stands (sym e) stands))

      -- The better of two sound proofs is sound.
      better_sound : (best : Timestamp) (proof : Option PreparedProof) → PreparedSound x (suc t) proof → PreparedSound x t (best_shown now best) → PreparedSound x (suc t) (better_proof best proof now)
      better_sound best proof new old = go (ltb (number best) (prepared_timestamp proof))
        where
          go : (b : Bool) → PreparedSound x (suc t) (cond b proof (best_shown now best))
          go true = new
          go false = best_later x t now best old

      better_stands : (best : Timestamp) (card : List ℕ) (proof : Option PreparedProof) → card_stands card proof ≡ true → card_stands (current_card now) (best_shown now best) ≡ true
          → card_stands (better_card best proof card now) (better_proof best proof now) ≡ true
      better_stands best card proof new old = go (ltb (number best) (prepared_timestamp proof))
        where
          go : (b : Bool) → card_stands (cond b card (current_card now)) (cond b proof (best_shown now best)) ≡ true
          go true = new
          go false = old

      -- A reply's own signature is kept beside those that came before it.
      more : (message : ReplicaId → Message) (sender : ReplicaId) (counted : ReplicaSet) (full : Bool) → h.message ≡ message sender → sender_of (message sender) ≡ replica sender → OneMore now sender counted full
          → Collected R x message t counted now.signatures → Collected R x message (suc t) (with counted sender) (signatures_with now sender (signature h.bytes))
      more message sender counted full e by new old =
          let range = bounds 1 (replica_count now.f) sender.0 new.0 in
          let own = own_found R t h.bytes h.verdicts x h.message came passed.own in
          let found : Found R (suc t) (record { signer = replica sender; covers = body x (message sender); bytes = signature h.bytes }) =
          subst (λ (p : Sender). Found R (suc t) (record { signer = p; covers = body x (message sender); bytes = signature h.bytes })) by
          (subst (λ (m : Message). Found R (suc t) (record { signer = sender_of m; covers = body x m; bytes = signature h.bytes })) e
          (subst (λ (front : List ℕ). Found R (suc t) (record { signer = sender_of h.message; covers = front; bytes = signature h.bytes })) (covered AtClient h.bytes x h.message small h.admitted.decodes) own)) in
          one_collected R x message t counted now.signatures (signature h.bytes) sender range.0 (omega arith) good.fits.signatures_fit
          (decoded_signature AtClient h.bytes x h.message h.admitted.decodes small).0 found old

      -- The entries that are built of a quorum's.
      built_sound : (message : ReplicaId → Message) (sender : ReplicaId) (counted : ReplicaSet) → Collected R x message (suc t) (with counted sender) (signatures_with now sender (signature h.bytes))
          → EachFound R (suc t) (signed_by x message (entries_with now sender counted (signature h.bytes)))
      built_sound message sender counted all_of = built_found R x message (suc t) (with counted sender) (signatures_with now sender (signature h.bytes)) (replica_count now.f) (omega arith) all_of

      few : (phase : Phase) → now.phase ≡ phase → is_quorum now.f (counted_in phase) ≡ false
      few phase e = subst (λ (f : ℕ). is_quorum f (counted_in phase) ≡ false) (sym good.f_is) (ap (λ (p : Phase). is_quorum R.f (counted_in p)) (sym e) ∙ few_counted R id correct t)

      -- What a step leaves.
      leaves : {answer : Answer} {phase : Phase} → Leaves h.turn answer phase → h.turn.next.written ≡ now.written → PhaseSound x (suc t) h.turn.next phase → AnswerSound x (suc t) answer
          → TurnSound h.turn
      leaves left kept phase answer = record {
        last = subst (LastSound (suc t)) (sym kept) (last_later t now.written s.last);
        phase = subst (PhaseSound x (suc t) h.turn.next) (sym left.phase_is) phase;
        answer = subst (AnswerSound x (suc t)) (sym left.answer_is) answer;
      }

      abbrev Was : Phase → Type 0
      Was phase = PhaseSound x t now phase

      heard_sound : ClientCase now (signature h.bytes) h.message h.turn → TurnSound h.turn
      heard_sound (stamp_counted sender nonce proof best counted e phase new kept better left) =
          let y : StampsSound x t now best = subst Was phase s.phase in
          let came = taken (STAMP sender nonce proof now.id) e tt in
          leaves left (h.facts.written_kept_lem (ap is_writing phase))
          (record { is_card_lem = ap is_card kept ∙ y.is_card_lem; best_sound = subst (PreparedSound x (suc t)) (sym better.proof_is) (better_sound best proof came.prepared y.best_sound) }) tt
      heard_sound (stamps_enough sender nonce proof best counted next shown last e phase new succ kept digest nobody shown_is shows last_is left) =
          let y : StampsSound x t now best = subst Was phase s.phase in
          let came = taken (STAMP sender nonce proof now.id) e tt in
          let latest = best_of best proof in
          let fits : latest.client.0 < 256 = best_fits best proof (subst PhaseFits phase good.phase_fits).1 in
          let range = bounds 1 64 id.0 (sends_writer R id t h _ left.answer_is) in
          let for_id : successor latest id ≡ Some next = ap (successor latest) (sym good.id_is) ∙ succ in
          let is = successor_issued latest next id fits range.0 range.1 for_id in
          let whole : of_number (prepared_timestamp shown) ≡ latest = ap of_number shows ∙ of_number_number latest fits in
          leaves left (h.facts.written_kept_lem (ap is_writing phase))
          (record { is_card_lem = ap is_card kept ∙ y.is_card_lem; digest_is = digest ∙ ap sha256 (sym kept); is = is; collected = none_collected R x _ (suc t) h.turn.next.signatures })
          (record {
            prepared = subst (PreparedSound x (suc t)) (sym shown_is) (better_sound best proof came.prepared y.best_sound);
            written = subst (ProofSound R (written_signatures x) (suc t)) (sym last_is) (last_later t now.written s.last x h.admitted.registered);
            field_issued = is;
            stands = ap (λ (b : Timestamp). is_timestamp (number next) (successor b now.id)) whole ∙ ap (is_timestamp (number next)) succ ∙ eq-eqb (number next) (number next) refl;
          })
      heard_sound (stamps_ended sender nonce proof best counted e phase none_next left) = leaves left (h.facts.written_kept_lem (ap is_writing phase)) tt tt
      heard_sound (prepared_counted sender timestamp counted e phase new same signatures left) =
          let y : PreparedsSound x t now timestamp counted = subst Was phase s.phase in
          leaves left (h.facts.written_kept_lem (ap is_writing phase))
          (record {
            is_card_lem = ap is_card same.card_kept_lem ∙ y.is_card_lem;
            digest_is = same.digest_kept ∙ y.digest_is ∙ ap sha256 (sym same.card_kept_lem);
            is = y.is;
            collected = rw (same.digest_kept, signatures) (more (λ r. PREPARED r (number timestamp) now.digest) sender counted false e refl new y.collected);
          }) tt
      heard_sound (prepareds_enough sender timestamp counted proof e phase new kept from built is left) =
          let y : PreparedsSound x t now timestamp counted = subst Was phase s.phase in
          let message : ReplicaId → Message = λ r. PREPARED r (number timestamp) now.digest in
          let shape = subst (λ (f : ℕ). shaped f proof.entries ≡ true) good.f_is (built (few (Prepareds timestamp counted) phase)).is_shaped in
          let found = built_sound message sender counted (more message sender counted true e refl new y.collected) in
          leaves left (h.facts.written_kept_lem (ap is_writing phase))
          (record { is = y.is; collected = none_collected R x _ (suc t) h.turn.next.signatures })
          (record {
            prepared = record { shape = shape; is = rw is y.is; found = rw is found };
            written = none_sound R;
            field_issued = refl;
            stands = rw (is, y.is_card_lem, y.digest_is) (same_itself (sha256 (current_card now)));
          })
      heard_sound (written_counted sender timestamp counted e phase new same signatures left) =
          let y : WrittensSound x t now timestamp counted = subst Was phase s.phase in
          leaves left (h.facts.written_stays (ap is_over left.answer_is))
          (record { is = y.is; collected = rw signatures (more (λ r. WRITTEN r (number timestamp)) sender counted false e refl new y.collected) }) tt
      heard_sound (writtens_enough sender timestamp counted e phase new built written left) =
          let y : WrittensSound x t now timestamp counted = subst Was phase s.phase in
          let message : ReplicaId → Message = λ r. WRITTEN r (number timestamp) in
          let own = signature h.bytes in
          let entries = entries_with now sender counted own in
          let range = bounds 1 (replica_count now.f) sender.0 new.0 in
          let fit = signature_put now.signatures own sender range.0 (omega arith) good.fits.signatures_fit (decoded_signature AtClient h.bytes x h.message h.admitted.decodes small) in
          let new_there : written_in_place (register_place x) h.turn.next ≡ keeping true timestamp entries =
          ap (λ (list : List Written). get_or list (register_place x) no_written) written ∙ get_or-set_same now.written (register_place x) _ no_written (omega (arith, good.fits.written_long, place_below x)) in
          let shown = keeping_shown true timestamp entries (issued_positive (number timestamp) y.is) (built_fit (replica_count now.f) (with counted sender) (signatures_with now sender own) (omega arith) fit)
          (built_few (replica_count now.f) (with counted sender) (signatures_with now sender own)) in
          let shape = subst (λ (f : ℕ). shaped f entries ≡ true) good.f_is (built (few (Writtens timestamp counted) phase)).is_shaped in
          record {
            last = last_changed (suc t) now h.turn.next x h.admitted.registered h.facts.others_written
                (rw (new_there, shown) (record { shape = shape; is = y.is; found = built_sound message sender counted (more message sender counted true e refl new y.collected) }))
                (last_later t now.written s.last);
            phase = subst (PhaseSound x (suc t) h.turn.next) (sym left.phase_is) tt;
            answer = subst (AnswerSound x (suc t)) (sym left.answer_is) tt;
          }
      heard_sound (card_counted sender nonce card proof best counted showed e phase new stands carried better left) =
          let y : CardsSound x t now best counted showed = subst Was phase s.phase in
          let came = taken (CARD sender nonce card proof now.id) e stands in
          leaves left (h.facts.written_kept_lem (ap is_writing phase))
          (record {
            best_sound = subst (PreparedSound x (suc t)) (sym better.proof_is) (better_sound best proof came.prepared y.best_sound);
            stands = rw (carried, better.proof_is) (better_stands best card proof stands y.stands);
            at_start = all_showed best proof sender counted showed y.at_start;
          }) tt
      heard_sound (cards_agree sender nonce card proof best counted showed e phase new stands full left) = leaves left (h.facts.written_kept_lem (ap is_writing phase)) tt tt
      heard_sound (cards_viewed sender nonce card proof best counted showed e phase new stands no_writer left) = leaves left (h.facts.written_kept_lem (ap is_writing phase)) tt tt
      heard_sound (cards_differ sender nonce card proof best counted showed e phase new stands differ carried better left) =
          let y : CardsSound x t now best counted showed = subst Was phase s.phase in
          let came = taken (CARD sender nonce card proof now.id) e stands in
          let latest = best_of best proof in
          let shown = best_proof h.turn.next latest in
          -- At 0.0 all q showed it, and then nothing is written back.
          let positive : number latest ≡ 0 → ⊥ = λ z. let all_of = ap (is_quorum now.f) (all_showed best proof sender counted showed y.at_start z) ∙ new.2 in apart (cc) in
          let there : better_proof best proof now ≡ some shown = sym better.proof_is ∙ rw (ne_eqb (number latest) 0 positive) in
          leaves left (h.facts.written_kept_lem (ap is_writing phase)) tt
          (record {
            prepared = subst (PreparedSound x (suc t)) there (better_sound best proof came.prepared y.best_sound);
            written = none_sound R;
            field_issued = refl;
            stands = subst (λ (p : Option PreparedProof). card_stands (better_card best proof card now) p ≡ true) there (better_stands best card proof stands y.stands);
          })
      heard_sound (back_counted sender timestamp counted e phase new same left) = leaves left (h.facts.written_kept_lem (ap is_writing phase)) tt tt
      heard_sound (back_enough sender timestamp counted e phase new left) = leaves left (h.facts.written_kept_lem (ap is_writing phase)) tt tt

    -- ---- A written proof is handed over

    handed_sound : (y : RegisterId) (bytes verdicts : List ℕ) (next : Client) → event R t ≡ some (proof_to id y bytes verdicts) → ProofTaken now y bytes next
        → ClientStep R id t (record { answer = waits; next = next }) → LastSound t now.written → LastSound (suc t) next.written
    unfolding take_proof handed_signatures
    handed_sound y bytes verdicts next e it step last =
        let admitted = passed (take_proof now y bytes verdicts) refl (client_outcome_lem R id t (proof_handed y bytes verdicts) e) in
        let shape = subst (λ (f : ℕ). shaped f it.proof.entries ≡ true) good.f_is admitted.is_shaped in
        last_changed (suc t) now next y admitted.registered it.others_kept (rw (it.shown 0 Idle []) (record { shape = shape; is = admitted.is_issued_lem; found = found admitted })) (last_later t now.written last)
      where
        accepts : Accepts (λ after. (proof : WrittenProof) × AdmittedProof now.f y bytes verdicts proof) (take_proof now y bytes verdicts)
        accepts = by_next {Q = AdmittedProof now.f y bytes verdicts} (record { holds = proof_passed now.f y bytes verdicts }) (λ proof passed. by_guard 17 (λ may. by_value (proof, passed)))

        -- The proof that was taken passed 7 and 9 to 11,
        passed : (out : Outcome Client) → take_proof now y bytes verdicts ≡ out → Left R id t (taking_turn out) → AdmittedProof now.f y bytes verdicts it.proof
        passed (refused n) q left = apart (cc (left.answer_is, step.answer_is))
        passed (accepted after) q left =
            let (proof, admitted) = accepts.holds after q in
            let same : proof ≡ it.proof = cc (admitted.reads, it.reads) in
            subst (AdmittedProof now.f y bytes verdicts) same admitted

        -- so its entries were found genuine.
        found : AdmittedProof now.f y bytes verdicts it.proof → EachFound R (suc t) (written_signatures y it.proof)
        found admitted =
            let each = and_true_both (eqb (length verdicts) (length it.proof.entries)) (all (λ v. leb v 1) verdicts) admitted.one_each in
            let long = eqb-true (length verdicts) (length it.proof.entries) each.0 in
            all_found R t (written_signatures y it.proof) verdicts (λ s v b. rw (e, it.reads) b) (omega (arith, length_signed y (λ r. WRITTEN r it.proof.timestamp) it.proof.entries)) admitted.all_genuine

    -- ---- Any event

    -- The record is kept and nothing answered, or the client has a turn.
    data Acts : Type 0 where
      rests : client_at R id (suc t) ≡ now → Silent R (client id) t → Acts
      turns : (turn : Turn) → ClientStep R id t turn → ClientSound (suc t) turn.next
          → ((m : Message) → turn.answer ≡ send m → (at : At R t (client id)) → Sound R (register_of at.0) (suc t) m) → Acts

    -- A question begins an operation.
    begins : (e : Event) → event R t ≡ some e → (turn : Turn) (question : Message) → ClientStep R id t turn → turn.answer ≡ send question → ClientSound (suc t) turn.next
        → Sound R (register_of e) (suc t) question → Acts
    begins e q turn question step a sound asks = turns turn step sound (λ m is at.
        let one : e ≡ at.0 = cc at.1 in
        let same : question ≡ m = cc in
        subst (λ (here : Event). Sound R (register_of here) (suc t) m) one (subst (Sound R (register_of e) (suc t)) same asks))

    acts : ClientSound t now → Acts
    acts s = go (client_turn_lem R id correct t)
      where
        -- Another phase, with the written proofs as they were.
        in_phase : (next : Client) (phase : Phase) → next.written ≡ now.written → next.phase ≡ phase → PhaseSound next.register (suc t) next phase → ClientSound (suc t) next
        in_phase next phase kept is sound =
            record { last = subst (LastSound (suc t)) (sym kept) (last_later t now.written s.last); phase = subst (PhaseSound next.register (suc t) next) (sym is) sound }

        go : ClientTurn R id t → Acts
        go (rested same silent) = rests same silent
        go (wrote y card turn e b step) =
            begins (begins_write id y card) e turn _ step b.sends
            (in_phase turn.next _ b.written_kept_lem b.phase_is (record { is_card_lem = ap is_card b.card_is ∙ b.is_card_lem; best_sound = none_sound R })) (question_sound y (suc t) now.id (now.last_nonce + 1)).0
        go (asked y turn e b step) =
            begins (begins_read id y) e turn _ step b.sends
            (in_phase turn.next _ b.written_kept_lem b.phase_is (record { best_sound = none_sound R; stands = rw b.card_is (same_itself start_card); at_start = λ z. refl })) (question_sound y (suc t) now.id (now.last_nonce + 1)).1
        go (heard h) =
            let it = heard_sound h s h.facts.case in
            let same = h.facts.same_register in
            turns h.turn h.step
            (record { last = it.last; phase = subst (λ (y : RegisterId). PhaseSound y (suc t) h.turn.next h.turn.next.phase) (sym same) it.phase })
            (λ m a at. subst (λ (y : RegisterId). Sound R y (suc t) m) (sym (heard_register R id t h at)) (subst (AnswerSound x (suc t)) a it.answer))
        go (made_again nonce e positive step) = turns _ step (record { last = nothing_written_lem (suc t); phase = tt }) (λ m a at. apart (cc))
        go (took y bytes verdicts next e it step) =
            turns _ step (record { last = handed_sound y bytes verdicts next e it step s.last; phase = subst (PhaseSound next.register (suc t) next) (sym idle) tt }) (λ m a at. apart (cc))
          where
            idle : next.phase ≡ Idle
            idle = ap (λ (after : Client). after.phase) it.after_is ∙ it.was_idle

  client_sound : (id : ClientId) → R.correct_client id ≡ true → (t : ℕ) → ClientSound t (client_at R id t)
  unfolding client_at
  client_sound id c zero = record { last = nothing_written_lem 0; phase = tt }
  client_sound id c (suc t) = go (client_sound id c t) (acts id c t (client_sound id c t))
    where
      go : ClientSound t (client_at R id t) → Acts id c t → ClientSound (suc t) (client_at R id (suc t))
      go s (rests same silent) = rw same (record { last = last_later t (client_at R id t).written s.last; phase = phase_later (client_at R id t).register t (client_at R id t) (client_at R id t).phase s.phase })
      go s (turns turn step sound sends) = rw step.next_is sound

  -- What a correct party sends is sound, for the register of its event.
  pub sent_sound : (party : Sender) → Correct R party → (t : ℕ) (m : Message) (at : At R t party) → answer_at R t ≡ accepted (send m) → Sound R (register_of at.0) (suc t) m
  sent_sound (replica id) c t m at a = sound_later R (register_of at.0) t (suc t) m (omega arith) (replied_sound R id c t m at a)
  sent_sound (client id) c t m at a = go (acts id c t (client_sound id c t))
    where
      go : Acts id c t → Sound R (register_of at.0) (suc t) m
      go (rests same silent) = absurd (silent at (send m) a)
      go (turns turn step sound sends) = sends m (cc step.answer_is) at
