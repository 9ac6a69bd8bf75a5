-- A written proof that passed its tests, by the parts that the code reads off it, and what taking it leaves. Assumes nothing.
use mathlib.Core.Path.{◌≡◌, sym, ◌∙◌}
use mathlib.Core.List.{List}
use Prim.Native.Nat.{ℕ, ◌*◌}
use native.Mathlib.Omega.{arith}
use borrow.Author.Tests.{eq-eqb}
use lib.ListN.{length, get_or, drop, length-drop}
use Rattle.base.specs.Outcome.{accepted, refused, guard}
use Rattle.base.specs.Timestamp.{of_number}
use Rattle.base.specs.declared.party.RegisterId.{RegisterId}
use Rattle.base.specs.declared.replica_set.ReplicaSet.{ReplicaSet}
use Rattle.wire.specs.HandedProof.{handed_signers}
use Rattle.wire.specs.Layout.{extent, written_rule}
use Rattle.wire.specs.Parts.{timestamp_part, count_part, entries_part}
use Rattle.wire.specs.Proof.{entries_bytes, proof_from}
use Rattle.wire.proofs.AdmittedProof.{its_count, signers_accepted, signers_refused}
use Rattle.wire.proofs.MessageParts.{front_timestamp}
use Rattle.wire.proofs.ProofBytes.{entries_read}
use Rattle.protocol.specs.Handing.{may_take, with_handed, take_proof, hand_call}
use Rattle.protocol.specs.declared.client.Client.{Client}
use Rattle.std.specs.declared.result.Result.TheVariants.{Ok, Err}
use Rattle.base.specs.Refusal.{number_of}
use Rattle.base.specs.declared.refusal.Refusal.{Refusal}
use Rattle.client.specs.Handing.{Hands}

module _ (proof : List ℕ) (whole : extent written_rule proof ≡ length proof) where
  pub whole_timestamp : timestamp_part proof ≡ of_number (proof_from 0 proof).timestamp
  whole_timestamp = let e = whole in front_timestamp proof (omega arith)

  pub whole_count : count_part 0 proof ≡ length (proof_from 0 proof).entries
  whole_count = its_count proof (eq-eqb (extent written_rule proof) (length proof) whole)

  pub whole_entries : entries_part 0 proof ≡ entries_bytes (proof_from 0 proof).entries
  unfolding entries_part
  whole_entries =
      let e = whole in
      let size : length (drop 6 proof) ≡ 65 * get_or proof 5 0 = length-drop 6 proof ∙ (omega arith) in
      sym (entries_read (get_or proof 5 0) (drop 6 proof) size)

module _ (client : Client) (register : RegisterId) (proof verdicts : List ℕ) where
  -- What taking the proof makes of what its tests find.
  pub bad_proof : (number : ℕ) → refused number ≡ handed_signers client.f register proof verdicts → refused number ≡ take_proof client register proof verdicts
  unfolding take_proof
  bad_proof number e = rw (signers_refused client.f register proof verdicts number (sym e))

  module _ (signers : ReplicaSet) (e : accepted signers ≡ handed_signers client.f register proof verdicts) where
    pub good_whole : extent written_rule proof ≡ length proof
    good_whole = (signers_accepted client.f register proof verdicts signers (sym e)).0

    pub good_proof : take_proof client register proof verdicts ≡ guard 17 (may_take register client) (accepted (with_handed register (proof_from 0 proof) client))
    unfolding take_proof
    good_proof = rw (signers_accepted client.f register proof verdicts signers (sym e)).1

  -- What is handed back, by what taking the proof makes.
  pub hands_taken : (next : Client) → accepted next ≡ take_proof client register proof verdicts → Hands client register proof verdicts (record { answer = Ok tt; client = next })
  unfolding hand_call
  hands_taken next e = record { answer = rw (← e); says = rw (← e); next = rw (← e) }

  pub hands_refused : (refusal : Refusal) → refused (number_of refusal) ≡ take_proof client register proof verdicts → Hands client register proof verdicts (record { answer = Err refusal; client = client })
  unfolding hand_call
  hands_refused refusal e = record { answer = rw (← e); says = rw (← e); next = rw (← e) }
