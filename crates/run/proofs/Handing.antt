-- Document 02, #106: a written proof that a client takes for a register is what its next PREPARE for the register shows. Assumes nothing.
use mathlib.Core.Path.{◌≡◌, refl, sym, ap, subst, ◌∙◌}
use mathlib.Core.Bool.{Bool, true, false}
use mathlib.Core.List.{List, []}
use mathlib.Core.Option.{Option, none, some}
use Prim.Native.Nat.{ℕ, zero, suc, ◌<◌}
use native.Mathlib.Omega.{arith}
use borrow.Author.Tests.{eqb-true, eqb-false}
use lib.Dec.{eqb}
use lib.ListN.{get_or}
use Rattle.base.specs.Outcome.{accepted}
use Rattle.base.specs.Party.{register_place}
use Rattle.base.specs.declared.party.ClientId.{ClientId}
use Rattle.base.specs.declared.party.RegisterId.{RegisterId}
use Rattle.base.proofs.Apart.{apart}
use Rattle.wire.specs.Acceptance.{client}
use Rattle.wire.specs.Message.{PREPARE}
use Rattle.wire.specs.Proof.{PreparedProof, WrittenProof, read_proof}
use Rattle.wire.specs.Sha256.{sha256}
use Rattle.protocol.specs.Client.{Answer, send, waits, no_written, current_card, written_in_place, written_kept}
use Rattle.protocol.specs.declared.client.Client.{Client}
use Rattle.protocol.specs.declared.client.Phase.{Phase}
use Rattle.protocol.specs.declared.client.Phase.TheVariants.{Idle, Stamps, Prepareds, Writtens, Cards, WriteBack}
use Rattle.protocol.specs.declared.client.Written.{Written}
use Rattle.protocol.proofs.ClientCases.{is_writing}
use Rattle.run.specs.Handing.{Undisturbed, NextShows}
use Rattle.run.specs.Premises.{Accepted}
use Rattle.run.specs.Run.{to_client, proof_to, register_of, Run, event, client_at, answer_at, At}
use Rattle.run.proofs.Slots.{split_last}
use Rattle.run.proofs.Stages.{prepared_for, is_prepare, Stage, stamping, prepares, keeps, finishes, others, stage}
use Rattle.run.proofs.Turns.{Heard, heard_register, ClientTurn, rested, wrote, asked, heard, made_again, took, client_turn_lem, good_client}

-- A client without a timestamp gathers no WRITTENs of a write.
pub not_writing : (phase : Phase) → prepared_for phase ≡ none → is_writing phase ≡ false
not_writing Idle e = refl
not_writing (Stamps nonce best counted) e = refl
not_writing (Prepareds timestamp counted) e = refl
not_writing (Writtens timestamp counted) e = apart (cc)
not_writing (Cards nonce best counted showed) e = refl
not_writing (WriteBack timestamp counted) e = refl

module _ (R : Run) (id : ClientId) (c : R.correct_client id ≡ true) (x : RegisterId) where
  abbrev place : ℕ
  place = register_place x

  abbrev now : ℕ → Client
  now t = client_at R id t

  -- The register's proof is this one, and no write of the register has a timestamp.
  record Kept (last : Written) (t : ℕ) : Type 0 where
    is_kept : written_in_place place (now t) ≡ last
    no_timestamp : register_place (now t).register ≡ place → prepared_for (now t).phase ≡ none

  -- One event more, which does not disturb it.
  stays : (last : Written) (t : ℕ) → Undisturbed R id x t → Kept last t → Kept last (suc t)
  stays last t quiet kept = go (client_turn_lem R id c t)
    where
      -- The proofs stay as they are, and no timestamp comes.
      same : (now (suc t)).written ≡ (now t).written → prepared_for (now (suc t)).phase ≡ none → Kept last (suc t)
      same e none_next = record { is_kept = ap (λ (list : List Written). get_or list place no_written) e ∙ kept.is_kept; no_timestamp = λ at. none_next }

      at_heard : (h : Heard R id t) → At R t (client id)
      at_heard h = (to_client id h.bytes h.verdicts, h.event_is, refl)

      -- A message for the register itself.
      here : (h : Heard R id t) → register_place (now t).register ≡ place → Stage (now t) h.turn → Kept last (suc t)
      here h e s = same (ap (λ (after : Client). after.written) h.step.next_is ∙ h.facts.written_kept_lem (not_writing (now t).phase had_none)) (ap (λ (after : Client). prepared_for after.phase) h.step.next_is ∙ by s)
        where
          had_none : prepared_for (now t).phase ≡ none
          had_none = kept.no_timestamp e

          by : Stage (now t) h.turn → prepared_for h.turn.next.phase ≡ none
          by (stamping was no_timestamp none_next same answer) = none_next
          by (prepares timestamp shown last was no_timestamp is for same_card answer shows) =
              absurd (quiet.no_prepare (at_heard h) (ap register_place (heard_register R id t h (at_heard h)) ∙ e) timestamp (sha256 (current_card (now t))) shown last
              (h.step.answer_is ∙ ap accepted answer ∙ ap (λ (i : ClientId). accepted (send (PREPARE i timestamp (sha256 (current_card (now t))) shown last))) (good_client R id c t).id_is))
          by (keeps timestamp was is no_stamps same_card no_prepare goes) = apart (cc (kept.no_timestamp e))
          by (finishes timestamp card signers entries was none_next is written answer) = none_next
          by (others was none_next is no_prepare) = none_next

      -- One for another register.
      elsewhere : (h : Heard R id t) → (register_place (now t).register ≡ place → ⊥) → Kept last (suc t)
      elsewhere h other =
          record {
            is_kept = ap (λ (after : Client). written_in_place place after) h.step.next_is ∙ h.facts.others_written place (λ e. other (sym e)) ∙ kept.is_kept;
            no_timestamp = λ at. absurd (other (ap register_place (sym h.facts.same_register ∙ sym (ap (λ (after : Client). after.register) h.step.next_is)) ∙ at));
          }

      go : ClientTurn R id t → Kept last (suc t)
      go (rested e silent) =
          record {
            is_kept = ap (λ (after : Client). written_in_place place after) e ∙ kept.is_kept;
            no_timestamp = λ at. ap (λ (after : Client). prepared_for after.phase) e ∙ kept.no_timestamp (sym (ap (λ (after : Client). register_place after.register) e) ∙ at);
          }
      go (wrote y card turn q b s) = same (ap (λ (after : Client). after.written) s.next_is ∙ b.written_kept_lem) (ap (λ (after : Client). prepared_for after.phase) s.next_is ∙ ap prepared_for b.phase_is)
      go (asked y turn q b s) = same (ap (λ (after : Client). after.written) s.next_is ∙ b.written_kept_lem) (ap (λ (after : Client). prepared_for after.phase) s.next_is ∙ ap prepared_for b.phase_is)
      go (made_again nonce q positive s) = absurd (quiet.not_made nonce q (waits, s.answer_is))
      go (took y bytes verdicts next q it s) = by (eqb place (register_place y)) refl
        where
          by : (b : Bool) → eqb place (register_place y) ≡ b → Kept last (suc t)
          by true e = absurd (quiet.no_proof y bytes verdicts q (sym (eqb-true place (register_place y) e)) (waits, s.answer_is))
          by false e =
              record {
                is_kept = ap (λ (after : Client). written_in_place place after) s.next_is ∙ it.others_kept place (eqb-false place (register_place y) e) ∙ kept.is_kept;
                no_timestamp = λ at. ap (λ (after : Client). prepared_for after.phase) (s.next_is ∙ it.after_is) ∙ ap prepared_for it.was_idle;
              }
      go (heard h) = by (eqb (register_place (now t).register) place) refl
        where
          by : (b : Bool) → eqb (register_place (now t).register) place ≡ b → Kept last (suc t)
          by true e = here h (eqb-true (register_place (now t).register) place e) (stage (now t) h.turn _ h.message h.facts.case)
          by false e = elsewhere h (eqb-false (register_place (now t).register) place e)

  -- After the handing.
  module _ (t₀ : ℕ) (bytes verdicts : List ℕ) (handing : event R t₀ ≡ some (proof_to id x bytes verdicts)) (a : Accepted R t₀) (proof : WrittenProof) (read : read_proof 0 bytes ≡ accepted proof) where
    record Handed : Type 0 where
      last : Written
      shown : written_kept last ≡ some proof
      first : Kept last (suc t₀)

    handed : Handed
    handed = go (client_turn_lem R id c t₀)
      where
        go : ClientTurn R id t₀ → Handed
        go (rested same silent) = absurd (silent (proof_to id x bytes verdicts, handing, refl) a.0 a.1)
        go (wrote y card turn q b s) = apart (cc)
        go (asked y turn q b s) = apart (cc)
        go (heard h) = apart (cc h.event_is)
        go (made_again nonce q positive s) = apart (cc)
        go (took y bytes' verdicts' next q it s) =
            let for_it : y ≡ x = cc in
            let same_bytes : bytes' ≡ bytes = cc in
            let again : read_proof 0 bytes ≡ accepted it.proof = subst (λ (b : List ℕ). read_proof 0 b ≡ accepted it.proof) same_bytes it.reads in
            let same_proof : it.proof ≡ proof = cc in
            record {
              last = written_in_place place next;
              shown = subst (λ (z : RegisterId). written_kept (written_in_place (register_place z) next) ≡ some it.proof) for_it (it.shown 0 Idle []) ∙ ap some same_proof;
              first =
                  record {
                    is_kept = ap (λ (after : Client). written_in_place place after) s.next_is;
                    no_timestamp = λ at. ap (λ (after : Client). prepared_for after.phase) (s.next_is ∙ it.after_is) ∙ ap prepared_for it.was_idle;
                  };
            }

    until : (t : ℕ) → t₀ < t → ((u : ℕ) → t₀ < u → u < t → Undisturbed R id x u) → Kept handed.last t
    until zero l quiet = absurd (omega arith)
    until (suc t) l quiet =
        split_last t₀ t l (λ e. subst (λ (u : ℕ). Kept handed.last (suc u)) e handed.first)
        (λ k. stays handed.last t (quiet t k (omega arith)) (until t k (λ u l₁ l₂. quiet u l₁ (omega arith))))

    -- The PREPARE at event t.
    shows : (t s : ℕ) (d : List ℕ) (shown : Option PreparedProof) (last : Option WrittenProof) (at : At R t (client id)) → register_of at.0 ≡ x
        → answer_at R t ≡ accepted (send (PREPARE id s d shown last)) → Kept handed.last t → last ≡ some proof
    shows t s d shown last at is e kept = go (client_turn_lem R id c t)
      where
        no_other : {A : Type 0} (answer : Answer) → answer_at R t ≡ accepted answer → is_prepare answer ≡ false → A
        no_other answer q k = let same : answer ≡ send (PREPARE id s d shown last) = cc in apart (cc (k, ap is_prepare same))

        go : ClientTurn R id t → last ≡ some proof
        go (rested same silent) = absurd (silent at (send (PREPARE id s d shown last)) e)
        go (wrote y card turn q b k) = no_other turn.answer k.answer_is (ap is_prepare b.sends)
        go (asked y turn q b k) = no_other turn.answer k.answer_is (ap is_prepare b.sends)
        go (made_again nonce q positive k) = no_other waits k.answer_is refl
        go (took y bytes' verdicts' next q it k) = no_other waits k.answer_is refl
        go (heard h) = by (stage (now t) h.turn _ h.message h.facts.case)
          where
            for_it : (now t).register ≡ x
            for_it = sym (heard_register R id t h at) ∙ is

            by : Stage (now t) h.turn → last ≡ some proof
            by (stamping was no_timestamp none_next same answer) = no_other h.turn.answer h.step.answer_is (ap is_prepare answer)
            by (prepares timestamp shown' last' was no_timestamp is_next for same_card answer kept_one) =
                let same : last ≡ last' = cc h.step.answer_is in
                same ∙ kept_one ∙ ap (λ (y : RegisterId). written_kept (written_in_place (register_place y) (now t))) for_it ∙ ap written_kept kept.is_kept ∙ handed.shown
            by (keeps timestamp was is_next no_stamps same_card no_prepare goes) = no_other h.turn.answer h.step.answer_is no_prepare
            by (finishes timestamp card signers entries was none_next is_next written answer) = no_other h.turn.answer h.step.answer_is (ap is_prepare answer)
            by (others was none_next is_next no_prepare) = no_other h.turn.answer h.step.answer_is no_prepare

-- For every run.
pub next_shows : (R : Run) (x : RegisterId) → NextShows R x
next_shows R x id t₀ bytes verdicts proof handing a read t l quiet s d shown last at is e =
    let c = R.at_correct t₀ (proof_to id x bytes verdicts) handing in
    shows R id c x t₀ bytes verdicts handing a proof read t s d shown last at is e (until R id c x t₀ bytes verdicts handing a proof read t l quiet)
