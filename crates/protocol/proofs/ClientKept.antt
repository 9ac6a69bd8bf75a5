-- Each change of a client's record: the record still fits, and what it keeps. Assumes nothing.
use mathlib.Core.Path.{◌≡◌, refl, ◌∙◌}
use mathlib.Core.Bool.{Bool, true, false, cond}
use mathlib.Core.List.{List}
use mathlib.Core.Option.{Option, none, some}
use Prim.Native.Nat.{ℕ, ◌^◌, ◌≤◌, ◌<◌}
use native.Mathlib.Omega.{arith}
use borrow.Author.Tests.{le-ltb, eqb-true, eqb-false, ne_eqb}
use lib.Dec.{eqb, ltb}
use lib.ListN.{length, length-set}
use lib.Seq.{get_or-set_same, get_or-set_other}
use Rattle.base.specs.BigEndian.{Bytes}
use Rattle.base.specs.Party.{register_place}
use Rattle.base.specs.Timestamp.{number, of_number}
use Rattle.base.specs.declared.party.RegisterId.{RegisterId}
use Rattle.base.specs.declared.replica_set.ReplicaSet.{ReplicaSet}
use Rattle.base.specs.declared.timestamp.Timestamp.{Timestamp}
use Rattle.base.proofs.Registers.{place_below}
use Rattle.base.proofs.Timestamps.{number_of_number}
use Rattle.wire.specs.Checks.{shaped_if_there, issued_if_there}
use Rattle.wire.specs.Message.{IsDigest, EachFits, ProofFits, IfThere}
use Rattle.wire.specs.Proof.{Entry, PreparedProof}
use Rattle.wire.proofs.Tests7To11.{shaped_few, issued_positive}
use Rattle.protocol.specs.Client.{current_card, best_shown, no_written, written_in_place, last_written, beginning, keeping, with_phase, with_proof, with_card, with_digest, with_signatures, with_signers, with_written_for, keep_better, keep_better_card}
use Rattle.protocol.specs.declared.client.Client.{Client}
use Rattle.protocol.specs.declared.client.Phase.{Phase}
use Rattle.protocol.specs.declared.client.Written.{Written}
use Rattle.protocol.proofs.ArrayLaws.{zeros_fit, filled_fits, card_kept_lem, entries_filled, entries_kept_lem}
use Rattle.protocol.proofs.ClientCases.{better_card, BetterKept}
use Rattle.protocol.proofs.Fit.{Array, TimestampFits, WrittenKeptFits, ClientFits}

-- The record still fits, of the same client in the same operation, with the same written proofs.
pub record Kept (before after : Client) : Type 0 where
  pub same_f : after.f ≡ before.f
  pub same_id : after.id ≡ before.id
  pub same_register : after.register ≡ before.register
  pub same_nonce : after.last_nonce ≡ before.last_nonce
  pub same_written : after.written ≡ before.written
  pub fits : ClientFits after

pub beginning_fits : (register : RegisterId) (nonce : ℕ) (phase : Phase) (card : List ℕ) (client : Client) → nonce < 2 ^ 64 → Bytes card → ClientFits client
    → ClientFits (beginning register nonce phase card client)
beginning_fits register nonce phase card client small bytes fits =
    record {
      id_fits = fits.id_fits;
      nonce_fits = omega arith;
      card_fits = filled_fits 17 card bytes;
      digest_fits = zeros_fit 32;
      entries_fit = zeros_fit 715;
      signatures_fit = zeros_fit 1_024;
      written_long = fits.written_long;
      written_fit = fits.written_fit;
    }

-- Another written proof of a register,
module _ (register : RegisterId) (last : Written) (client : Client) where
  abbrev after : Client
  after = with_written_for register last client

  pub there_written : length client.written ≡ 16 → written_in_place (register_place register) after ≡ last
  there_written long = get_or-set_same client.written (register_place register) last no_written (omega (arith, place_below register))

  pub elsewhere_written : (at : ℕ) → (at ≡ register_place register → ⊥) → written_in_place at after ≡ written_in_place at client
  elsewhere_written at other = get_or-set_other client.written (register_place register) at last no_written other

  -- which fits, leaves a record that fits.
  pub written_fits : WrittenKeptFits last → ClientFits client → ClientFits after
  written_fits h fits =
      record {
        id_fits = fits.id_fits;
        nonce_fits = fits.nonce_fits;
        card_fits = fits.card_fits;
        digest_fits = fits.digest_fits;
        entries_fit = fits.entries_fit;
        signatures_fit = fits.signatures_fit;
        written_long = length-set client.written (register_place register) last ∙ fits.written_long;
        written_fit = λ at inside. each at inside (eqb at (register_place register)) refl;
      }
    where
      each : (at : ℕ) → at < 16 → (b : Bool) → eqb at (register_place register) ≡ b → WrittenKeptFits (written_in_place at after)
      each at inside true e = rw (eqb-true at (register_place register) e, there_written fits.written_long) h
      each at inside false e = rw (elsewhere_written at (eqb-false at (register_place register) e)) (fits.written_fit at inside)

pub keeping_fits : (own : Bool) (timestamp : Timestamp) (entries : List Entry) → TimestampFits timestamp → EachFits entries → WrittenKeptFits (keeping own timestamp entries)
keeping_fits own timestamp entries t h = record { timestamp_fits = t; entries_fit = entries_filled entries h }

-- A proof that fits its bytes, has room in the record, and is not 0.0's.
pub record Good (proof : PreparedProof) : Type 0 where
  pub fits : ProofFits proof
  pub few : length proof.entries ≤ 11
  pub positive : 1 ≤ proof.timestamp

-- It is shown as it came.
proof_shown : (proof : PreparedProof) → Good proof → (client : Client) → best_shown (with_proof proof client) (of_number proof.timestamp) ≡ some proof
proof_shown proof good client =
    let whole = number_of_number proof.timestamp in
    let kept = entries_kept_lem proof.entries good.fits.2.1 good.few in
    rw (whole, ne_eqb proof.timestamp 0 (omega (arith, good.positive)), kept) refl

-- A proof that passed 9 and 11 is good.
pub passed_good : (f : ℕ) (proof : Option PreparedProof) → IfThere ProofFits proof → shaped_if_there f proof ≡ true → issued_if_there proof ≡ true → IfThere Good proof
passed_good f none fits shape is = tt
passed_good f (some proof) fits shape is = record { fits = fits; few = shaped_few f proof.entries shape; positive = issued_positive proof.timestamp is }

module _ (before : Client) where
  pub itself_kept : ClientFits before → Kept before before
  itself_kept fits = record { same_f = refl; same_id = refl; same_register = refl; same_nonce = refl; same_written = refl; fits = fits }

  module _ (client : Client) (kept : Kept before client) where
    -- A client with the kept numbers and written proofs, whose arrays fit.
    changed : (after : Client) → after.f ≡ client.f → after.id ≡ client.id → after.register ≡ client.register → after.last_nonce ≡ client.last_nonce → after.written ≡ client.written
        → Array 17 after.card → IsDigest after.digest → Array 715 after.entries → Array 1_024 after.signatures → Kept before after
    changed after f id register nonce written card digest entries signatures =
        let before_id : after.id ≡ before.id = cc in
        let before_register : after.register ≡ before.register = cc in
        let before_nonce : after.last_nonce ≡ before.last_nonce = cc in
        record {
          same_f = cc;
          same_id = before_id;
          same_register = before_register;
          same_nonce = before_nonce;
          same_written = written ∙ kept.same_written;
          fits =
              record {
                id_fits = rw id kept.fits.id_fits;
                nonce_fits = rw nonce kept.fits.nonce_fits;
                card_fits = card;
                digest_fits = digest;
                entries_fit = entries;
                signatures_fit = signatures;
                written_long = rw written kept.fits.written_long;
                written_fit = rw written kept.fits.written_fit;
              };
        }

    open kept.fits use {card_fits, digest_fits, entries_fit, signatures_fit}

    pub phase_kept : (phase : Phase) → Kept before (with_phase phase client)
    phase_kept phase = changed (with_phase phase client) refl refl refl refl refl card_fits digest_fits entries_fit signatures_fit

    pub proof_kept : (proof : PreparedProof) → ProofFits proof → Kept before (with_proof proof client)
    proof_kept proof h = changed (with_proof proof client) refl refl refl refl refl card_fits h.1 (entries_filled proof.entries h.2.1) signatures_fit

    pub card_changed : (card : List ℕ) → Bytes card → Kept before (with_card card client)
    card_changed card h = changed (with_card card client) refl refl refl refl refl (filled_fits 17 card h) digest_fits entries_fit signatures_fit

    pub digest_changed : (digest : List ℕ) → IsDigest digest → Kept before (with_digest digest client)
    digest_changed digest h = changed (with_digest digest client) refl refl refl refl refl card_fits h (zeros_fit 715) signatures_fit

    pub signatures_changed : (signatures : List ℕ) → Array 1_024 signatures → Kept before (with_signatures signatures client)
    signatures_changed signatures h = changed (with_signatures signatures client) refl refl refl refl refl card_fits digest_fits entries_fit h

    pub signers_changed : (signers : ReplicaSet) → Kept before (with_signers signers client)
    signers_changed signers = changed (with_signers signers client) refl refl refl refl refl card_fits digest_fits entries_fit signatures_fit

  -- The record after a reply: the better proof with its signers, this card, and the last written proof as it was.
  pub record Best (best : Timestamp) (proof : Option PreparedProof) (card : List ℕ) (after : Client) : Type 0 where
    pub kept : Kept before after
    pub card_is : current_card after ≡ card
    pub better : BetterKept best proof before after
    pub last_is : last_written after ≡ last_written before

  module _ (best : Timestamp) (fits : ClientFits before) where
    -- No proof is not better.
    never_better : ltb (number best) 0 ≡ false
    never_better = le-ltb (number best) 0 (omega arith)

    -- Nothing is better, and the record stays.
    none_better : BetterKept best none before before
    none_better = record { signers_are = rw never_better; proof_is = rw never_better }

    not_better : (proof : PreparedProof) → ltb (number best) proof.timestamp ≡ false → BetterKept best (some proof) before before
    not_better proof e = record { signers_are = rw e; proof_is = rw e }

    -- A better reply's proof is kept, the card stays.
    pub better_kept : (proof : Option PreparedProof) → IfThere Good proof → Best best proof (current_card before) (keep_better best proof before)
    better_kept none h = rw never_better (record { kept = itself_kept fits; card_is = refl; better = none_better; last_is = refl })
    better_kept (some proof) h = go (ltb (number best) proof.timestamp) refl
      where
        go : (b : Bool) → ltb (number best) proof.timestamp ≡ b → Best best (some proof) (current_card before) (cond b (with_proof proof before) before)
        go true e = record { kept = proof_kept before (itself_kept fits) proof h.fits; card_is = refl; better = record { signers_are = rw e; proof_is = rw e (proof_shown proof h before) }; last_is = refl }
        go false e = record { kept = itself_kept fits; card_is = refl; better = not_better proof e; last_is = refl }

    -- A better reply's proof and card are kept.
    pub better_card_kept : (card : List ℕ) (proof : Option PreparedProof) → length card ≤ 17 → Bytes card → IfThere Good proof
        → Best best proof (better_card best proof card before) (keep_better_card best card proof before)
    better_card_kept card none short bytes h = rw never_better (record { kept = itself_kept fits; card_is = refl; better = none_better; last_is = refl })
    better_card_kept card (some proof) short bytes h = go (ltb (number best) proof.timestamp) refl
      where
        go : (b : Bool) → ltb (number best) proof.timestamp ≡ b
            → Best best (some proof) (cond b card (current_card before)) (cond b (with_card card (with_proof proof before)) before)
        go true e = record {
          kept = card_changed (with_proof proof before) (proof_kept before (itself_kept fits) proof h.fits) card bytes;
          card_is = card_kept_lem card short;
          better = record { signers_are = rw e; proof_is = rw e (proof_shown proof h before) };
          last_is = refl;
        }
        go false e = record { kept = itself_kept fits; card_is = refl; better = not_better proof e; last_is = refl }
