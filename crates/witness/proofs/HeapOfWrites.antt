-- Three WRITEs for register 1 of one fresh bank: two of one timestamp and card, whose proofs two different quorums signed, and one of a later
-- timestamp with another card. All are acceptable. The first two leave two banks, so "if their stamps differ" is needed (document 02, #111);
-- the first and the third leave one. Assumes nothing.
use mathlib.Core.Path.{◌≡◌, refl, sym, ap, ◌∙◌}
use mathlib.Core.Bool.{true}
use mathlib.Core.List.{List, [], ◌∷◌}
use mathlib.Core.Option.{some}
use Prim.Native.Nat.{ℕ}
use native.Mathlib.Omega.{arith}
use lib.Dec.{lit<}
use Rattle.base.specs.Outcome.{Outcome, accepted, ◌>>=◌}
use Rattle.base.specs.ReplicaSet.{has, with, with_all}
use Rattle.base.specs.Same.{same}
use Rattle.base.specs.declared.party.ClientId.{ClientId}
use Rattle.base.specs.declared.party.RegisterId.{RegisterId}
use Rattle.base.proofs.Booleans.{and_true_both}
use Rattle.base.proofs.Outcome.{guard_passes}
use Rattle.protocol.specs.Bank.{bank_part, held_at, fresh_bank, place_in, bank_step}
use Rattle.protocol.specs.Parts.{start_card, card_stands}
use Rattle.protocol.specs.RegisterReplica.{fresh_register, on_request, register_step}
use Rattle.protocol.specs.Writes.{AcceptableWrite, by_step}
use Rattle.protocol.specs.declared.replica.Bank.{Bank}
use Rattle.protocol.specs.declared.replica.Held.{Held}
use Rattle.protocol.proofs.Writes.{either_order}
use Rattle.wire.specs.Acceptance.{admitted}
use Rattle.wire.specs.Decode.{for_register}
use Rattle.wire.specs.Message.{Message, WRITE}
use Rattle.wire.specs.Proof.{PreparedProof}
use Rattle.wire.specs.Sha256.{sha256}
use Rattle.wire.specs.declared.message.Party.TheVariants.{Replica as AtReplica}
use Rattle.wire.proofs.AdmittedMessage.{admitted_passed}
use Rattle.witness.proofs.Cards.{right_digests, each_known}
use Rattle.witness.proofs.Cast.{replica_1, replica_2, replica_3, replica_4, register_1, client_1, client_2, 1·1, 2·2, by_1_2_3, by_1_2_4, entry, from_client, four, service, lathe, service_digest, lathe_digest, start_digest, cards, right_digests_lem}
use Rattle.witness.proofs.Computing.{steps}

abbrev signed_by_1_2_3 : PreparedProof
signed_by_1_2_3 = record { timestamp = 1·1; digest = service_digest; entries = entry replica_1 ∷ entry replica_2 ∷ entry replica_3 ∷ [] }

abbrev signed_by_1_2_4 : PreparedProof
signed_by_1_2_4 = record { timestamp = 1·1; digest = service_digest; entries = entry replica_1 ∷ entry replica_2 ∷ entry replica_4 ∷ [] }

abbrev later : PreparedProof
later = record { timestamp = 2·2; digest = lathe_digest; entries = entry replica_2 ∷ entry replica_3 ∷ entry replica_4 ∷ [] }

abbrev write : ClientId → List ℕ → PreparedProof → List ℕ
write client card proof = from_client client (WRITE client card proof)

right_two : (same (sha256 service) service_digest ≡ true) × (same (sha256 lathe) lathe_digest ≡ true)
unfolding cards right_digests each_known
right_two =
    let behind = (and_true_both (same (sha256 start_card) start_digest) _ right_digests_lem).1 in
    let both = and_true_both (same (sha256 service) service_digest) _ behind in
    (both.0, (and_true_both (same (sha256 lathe) lathe_digest) _ both.1).0)

-- Whatever the office's key is.
module _ (key : List ℕ) where
  unfoldable pub bank : Bank
  bank = fresh_bank 1 replica_1 key

  -- ---- All are acceptable

  acceptable : (client : ClientId) (card : List ℕ) (proof : PreparedProof) → admitted AtReplica 1 bank.withdrawn (write client card proof) four ≡ accepted (for_register register_1 (WRITE client card proof))
      → card_stands card (some proof) ≡ true → AcceptableWrite bank register_1 (write client card proof) four
  unfolding bank bank_step register_step on_request
  acceptable client card proof admits stands =
      record {
        client = client;
        card = card;
        proof = proof;
        reads = (admitted_passed AtReplica 1 bank.withdrawn (write client card proof) four register_1 (WRITE client card proof) admits).decodes;
        reply = _;
        answered =
            ap (λ (o : Outcome (RegisterId × Message)). o >>= λ sent. on_request (bank_part (place_in (write client card proof)) bank) sent.1) admits
            ∙ guard_passes 14 (card_stands card (some proof)) _ stands;
      }

  pub first : AcceptableWrite bank register_1 (write client_1 service signed_by_1_2_3) four
  unfolding steps bank acceptable
  first = acceptable client_1 service signed_by_1_2_3 refl right_two.0

  pub second : AcceptableWrite bank register_1 (write client_1 service signed_by_1_2_4) four
  unfolding steps bank acceptable
  second = acceptable client_1 service signed_by_1_2_4 refl right_two.0

  pub third : AcceptableWrite bank register_1 (write client_2 lathe later) four
  unfolding steps bank acceptable
  third = acceptable client_2 lathe later refl right_two.1

  -- ---- What two of them leave

  abbrev left : {bytes verdicts bytes' verdicts' : List ℕ} → AcceptableWrite bank register_1 bytes verdicts → AcceptableWrite bank register_1 bytes' verdicts' → Bank
  left {bytes} {verdicts} {bytes'} {verdicts'} ahead behind = (by_step (by_step bank bytes verdicts).left bytes' verdicts').left

  pub one_bank : left first third ≡ left third first
  unfolding first third acceptable
  one_bank = (either_order first third).same_record (λ e. omega arith)

  pub two_banks : left first second ≡ left second first → ⊥
  unfolding first second acceptable bank fresh_register with_all with has
  two_banks e =
      let kept = (either_order first second).first_kept refl (lit< tt) (lit< tt) in
      let sets : ◌≡◌ {A = ℕ} by_1_2_3.0 by_1_2_4.0 = ap (λ (held : Held). held.signers.0) (sym kept.0 ∙ ap (held_at register_1) e ∙ kept.1) in
      omega arith
