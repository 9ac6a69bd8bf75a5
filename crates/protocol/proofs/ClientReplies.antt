-- What a client makes of each kind of reply, by its phase. Assumes nothing.
use mathlib.Core.Path.{◌≡◌, refl, ap, ap₂, subst}
use mathlib.Core.Bool.{Bool, true, false, ◌&&◌, cond}
use mathlib.Core.List.{List}
use mathlib.Core.Option.{Option, none, some}
use Prim.Native.Nat.{ℕ, ◌≤◌}
use native.Mathlib.Omega.{arith}
use borrow.Author.Tests.{eqb-true, not-true}
use lib.Dec.{eqb}
use lib.ListN.{length, get_or, replicate}
use Rattle.std.specs.declared.option.Option.{Option as CodeOption}
use Rattle.std.specs.declared.option.Option.TheVariants.{Some, None}
use Rattle.base.specs.BigEndian.{Bytes}
use Rattle.base.specs.Party.{is_replica, replica_count}
use Rattle.base.specs.ReplicaSet.{empty, has, with, is_quorum}
use Rattle.base.specs.Same.{same}
use Rattle.base.specs.Timestamp.{number, successor}
use Rattle.base.specs.declared.party.ClientId.{ClientId}
use Rattle.base.specs.declared.party.ReplicaId.{ReplicaId}
use Rattle.base.specs.declared.replica_set.ReplicaSet.{ReplicaSet}
use Rattle.base.specs.declared.timestamp.Timestamp.{Timestamp}
use Rattle.base.proofs.Apart.{apart}
use Rattle.base.proofs.Booleans.{and_true_both}
use Rattle.base.proofs.Range.{bounds}
use Rattle.base.proofs.Registers.{place_below}
use Rattle.base.proofs.Same.{same_equal}
use Rattle.wire.specs.Message.{Message, PREPARE, WRITE, STAMP, PREPARED, WRITTEN, CARD, IsSignature, ProofFits, IfThere, Fits, size, proof_size}
use Rattle.wire.specs.Proof.{PreparedProof, signer_set}
use Rattle.wire.specs.Sha256.{sha256}
use Rattle.protocol.specs.Client.{done, Turn, current_card, best_proof, best_shown, no_written, written_in_place, written_record, written_kept, last_written, built, with_signatures, with_signers, with_phase, with_digest, keeping, with_written_for, enough, is_new, best_of, showed_by, to_prepare, after_stamp, on_stamp, after_prepared, on_prepared, after_written, after_write_back, on_written, AfterCards, after_card, count_card, on_card}
use Rattle.protocol.specs.Viewer.{after_view}
use Rattle.protocol.specs.Parts.{start_card, card_stands}
use Rattle.protocol.specs.declared.client.Client.{Client}
use Rattle.protocol.specs.declared.client.Phase.{Phase}
use Rattle.protocol.specs.declared.client.Phase.TheVariants.{Idle, Stamps, Prepareds, Writtens, Cards, WriteBack}
use Rattle.protocol.specs.declared.client.Written.{Written}
use Rattle.protocol.proofs.Accepts.{Accepts, by_value, by_refusal, by_guard, by_cases}
use Rattle.protocol.proofs.ArrayLaws.{bytes_none, zeros_fit, card_in_bytes, card_in_short, entries_in_length, entries_in_fit, issued_there, issued_timestamp, issued_size}
use Rattle.protocol.proofs.Built.{built as built_shape}
use Rattle.wire.proofs.card.Digests.{standing_under_short}
use Rattle.protocol.proofs.ClientArrays.{signature_put, built_fit, built_few, number_fits, best_fits, successor_fits}
use Rattle.protocol.proofs.ClientCases.{Leaves, SameCard, NewFrom, better_card, BetterKept, signatures_with, ClientCase, stamp_counted, stamps_enough, stamps_ended, prepared_counted, prepareds_enough, written_counted, writtens_enough, card_counted, cards_agree, cards_viewed, cards_differ, back_counted, back_enough, LegalAnswer, PhaseFits, Follows, as_read, as_view, ClientFacts}
use Rattle.protocol.proofs.ClientKept.{Kept, passed_good, elsewhere_written, written_fits, keeping_fits, itself_kept, phase_kept, digest_changed, signatures_changed, signers_changed, Best, better_kept, better_card_kept}
use Rattle.protocol.proofs.Fit.{Array, TimestampFits, WrittenKeptFits, ClientFits, LegalMessage}
use Rattle.wire.proofs.Tests7To11.{Passed}
use Rattle.wire.proofs.DigestBytes.{digest_fits}

-- ---- Messages that a client sends

written_kept_fits : (written : Written) → WrittenKeptFits written → IfThere ProofFits (written_kept written)
written_kept_fits written fits =
    issued_there (number written.timestamp) (written_record written) ProofFits
    (number_fits written.timestamp fits.timestamp_fits, (refl, bytes_none), entries_in_fit written.entries written.entry_count fits.entries_fit)

written_kept_short : (written : Written) → proof_size (written_kept written) ≤ 721
written_kept_short written = go (eqb (number written.timestamp) 0)
  where
    go : (b : Bool) → proof_size (cond b none (some (written_record written))) ≤ 721
    go true = omega arith
    go false = omega (arith, entries_in_length written.entries written.entry_count)

module _ (client : Client) (fits : ClientFits client) where
  last_fits : IfThere ProofFits (last_written client)
  last_fits = written_kept_fits (written_in_place _ client) (fits.written_fit _ (place_below _))

  last_short : proof_size (last_written client) ≤ 721
  last_short = written_kept_short (written_in_place _ client)

  module _ (best : Timestamp) (best_fit : TimestampFits best) where
    proof_fits : ProofFits (best_proof client best)
    proof_fits = (number_fits best best_fit, fits.digest_fits, entries_in_fit client.entries client.entry_count fits.entries_fit)

    prepare_legal : (next : Timestamp) → TimestampFits next
        → LegalMessage (PREPARE client.id (number next) (sha256 (current_card client)) (best_shown client best) (last_written client))
    unfolding Fits size
    prepare_legal next next_fit register small =
        record {
          register_fits = small;
          fits = (fits.id_fits, number_fits next next_fit, digest_fits (current_card client), issued_there (number best) (best_proof client best) ProofFits proof_fits, last_fits);
          short = omega (arith, issued_size (number best) (best_proof client best), entries_in_length client.entries client.entry_count, last_short);
        }

  write_legal : (proof : PreparedProof) → ProofFits proof → length proof.entries ≤ 11 → LegalMessage (WRITE client.id (current_card client) proof)
  unfolding Fits size
  write_legal proof h few register small =
      let short = card_in_short client.card client.card_length in
      record {
        register_fits = small;
        fits = (fits.id_fits, (omega arith, card_in_bytes client.card client.card_length fits.card_fits.1), h);
        short = omega arith;
      }

-- ---- Tests

same_client : (a b : ClientId) → eqb a.0 b.0 ≡ true → a ≡ b
same_client a b e = ap {B = ClientId} (λ (n : ℕ). record { 0 = n }) (eqb-true a.0 b.0 e)

replica_range : (f : ℕ) (id : ReplicaId) → is_replica f id ≡ true → (1 ≤ id.0) × (id.0 ≤ 16)
replica_range f id e = let range = bounds 1 (replica_count f) id.0 e in (range.0, omega arith)

-- A card that stands has at most 17 bytes.
pub standing_short : (card : List ℕ) (proof : Option PreparedProof) → card_stands card proof ≡ true → length card ≤ 17
standing_short card none e = rw (same_equal card start_card e) (omega arith)
standing_short card (some proof) e = standing_under_short card proof.digest e

-- A quorum's replies are enough, and fewer are not.
enough_is : (client : Client) (set : ReplicaSet) {full : Bool} → enough client set ≡ full → is_quorum client.f set ≡ full
enough_is client set e = e

leaves : {turn : Turn} → Leaves turn turn.answer turn.next.phase
leaves = record { answer_is = refl; phase_is = refl }

unchanged : {before : Client} {phase : Phase} {signatures : List ℕ} → SameCard before (with_phase phase (with_signatures signatures before))
unchanged = record { card_kept_lem = refl; digest_kept = refl; signers_kept = refl }

-- ---- Replies

module _ (before : Client) (own verdicts : List ℕ) (message : Message) (passed : Passed before.f message verdicts) (fits : ClientFits before) where
  took : (turn : Turn) → Kept before turn.next → PhaseFits turn.next.phase → ClientCase before own message turn → LegalAnswer turn.answer → ClientFacts before own verdicts message turn
  took turn kept phase_fits case legal =
      record {
        same_f = kept.same_f;
        same_id = kept.same_id;
        same_register = kept.same_register;
        others_written = λ at other. ap (λ (written : List Written). get_or written at no_written) kept.same_written;
        written_kept_lem = λ quiet. kept.same_written;
        written_stays = λ goes_on. kept.same_written;
        same_nonce = kept.same_nonce;
        fits = kept.fits;
        phase_fits = phase_fits;
        legal = legal;
        passed = passed;
        case = case;
      }

  quorum_before : (client : Client) → Kept before client → (set : ReplicaSet) {full : Bool} → enough client set ≡ full → is_quorum before.f set ≡ full
  quorum_before client kept set {full} e = subst (λ (f : ℕ). is_quorum f set ≡ full) kept.same_f (enough_is client set e)

  -- In another phase.
  better_in : {best : Timestamp} {proof : Option PreparedProof} {client : Client} {phase : Phase} → BetterKept best proof before client → BetterKept best proof before (with_phase phase client)
  better_in better = record { signers_are = better.signers_are; proof_is = better.proof_is }

  -- STAMPs
  module _ (sender : ReplicaId) (nonce : ℕ) (proof : Option PreparedProof) (best : Timestamp) (counted : ReplicaSet) (best_fit : TimestampFits (best_of best proof))
      (is_message : message ≡ STAMP sender nonce proof before.id) (at : before.phase ≡ Stamps nonce best counted) (new : NewFrom before sender counted)
      (client : Client) (after : Best before best proof (current_card before) client) where
    to_prepare_lem : is_quorum before.f (with counted sender) ≡ true → (next : CodeOption Timestamp) → successor (best_of best proof) client.id ≡ next
        → Accepts (ClientFacts before own verdicts message) (to_prepare client (best_of best proof) next)
    to_prepare_lem quorum None e =
        by_value (took _ (phase_kept before client after.kept Idle) tt (stamps_ended sender nonce proof best counted is_message at (rw (← after.kept.same_id) e) leaves) tt)
    to_prepare_lem quorum (Some next) e =
        let next_fit = successor_fits (best_of best proof) next client.id best_fit after.kept.fits.id_fits e in
        let digest = sha256 (current_card client) in
        by_value (took _
        (phase_kept before (with_digest digest client) (digest_changed before client after.kept digest (digest_fits (current_card client))) (Prepareds next empty))
        next_fit
        (stamps_enough sender nonce proof best counted next (best_shown client (best_of best proof)) (last_written client)
        is_message at (new.0, new.1, quorum) (rw (← after.kept.same_id) e) after.card_is (ap sha256 after.card_is) refl after.better.proof_is
        (issued_timestamp (number (best_of best proof)) (best_proof client (best_of best proof)) refl) after.last_is
        (record { answer_is = cc; phase_is = refl }))
        (prepare_legal client after.kept.fits (best_of best proof) best_fit next next_fit))

    after_stamp_lem : Accepts (ClientFacts before own verdicts message) (after_stamp nonce (best_of best proof) (with counted sender) client)
    unfolding after_stamp
    after_stamp_lem =
        by_cases (enough client (with counted sender)) (λ quorum. to_prepare_lem (quorum_before client after.kept (with counted sender) quorum) (successor (best_of best proof) client.id) refl)
        (λ few. by_value (took _ (phase_kept before client after.kept (Stamps nonce (best_of best proof) (with counted sender))) best_fit
        (stamp_counted sender nonce proof best counted is_message at (new.0, new.1, quorum_before client after.kept (with counted sender) few) after.card_is (better_in after.better) leaves) tt))

  -- PREPAREDs, the sender's signature among the signatures
  module _ (sender : ReplicaId) (timestamp : Timestamp) (counted : ReplicaSet) (timestamp_fits : TimestampFits timestamp) (new : NewFrom before sender counted)
      (signatures_fit : Array 1_024 (signatures_with before sender own)) where
    abbrev signatures : List ℕ
    signatures = signatures_with before sender own

    signed_kept : Kept before (with_signatures signatures before)
    signed_kept = signatures_changed before before (itself_kept before fits) signatures signatures_fit

    after_prepared_lem : message ≡ PREPARED sender (number timestamp) before.digest → before.phase ≡ Prepareds timestamp counted
        → Accepts (ClientFacts before own verdicts message) (after_prepared timestamp (with counted sender) (with_signatures signatures before))
    unfolding after_prepared
    after_prepared_lem is_message at =
        let replicas = with counted sender in
        let entries_fit = built_fit (replica_count before.f) replicas signatures (omega arith) signatures_fit in
        let few = built_few (replica_count before.f) replicas signatures in
        let proof : PreparedProof = record { timestamp = number timestamp; digest = before.digest; entries = built before replicas signatures } in
        let cleared = with_signatures (replicate 1_024 0) before in
        by_cases (enough before replicas)
        (λ quorum. by_value (took _
        (phase_kept before (with_signers (signer_set proof.entries) cleared)
        (signers_changed before cleared (signatures_changed before before (itself_kept before fits) (replicate 1_024 0) (zeros_fit 1_024)) (signer_set proof.entries)) (Writtens timestamp empty))
        timestamp_fits
        (prepareds_enough sender timestamp counted proof is_message at (new.0, new.1, enough_is before replicas quorum) refl refl (λ less. built_shape before.f counted sender signatures new.0 new.1 less (enough_is before replicas quorum)) refl leaves)
        (write_legal before fits proof (number_fits timestamp timestamp_fits, fits.digest_fits, (omega arith, entries_fit)) few)))
        (λ less. by_value (took _ (phase_kept before (with_signatures signatures before) signed_kept (Prepareds timestamp replicas)) timestamp_fits
        (prepared_counted sender timestamp counted is_message at (new.0, new.1, enough_is before replicas less) unchanged refl leaves) tt))

    -- WRITTENs that end a write, likewise
    after_written_lem : message ≡ WRITTEN sender (number timestamp) → before.phase ≡ Writtens timestamp counted
        → Accepts (ClientFacts before own verdicts message) (after_written timestamp (with counted sender) (with_signatures signatures before))
    unfolding after_written
    after_written_lem is_message at =
        let replicas = with counted sender in
        let entries_fit = built_fit (replica_count before.f) replicas signatures (omega arith) signatures_fit in
        by_cases (enough before replicas)
        (λ quorum.
        let last = keeping true timestamp (built before replicas signatures) in
        let ended = with_written_for before.register last (with_signatures signatures before) in
        by_value (record {
          same_f = refl;
          same_id = refl;
          same_register = refl;
          others_written = elsewhere_written before.register last (with_signatures signatures before);
          written_kept_lem = λ quiet. apart (cc);
          written_stays = λ goes_on. apart (cc);
          same_nonce = refl;
          fits = (phase_kept ended ended (itself_kept ended (written_fits before.register last (with_signatures signatures before) (keeping_fits true timestamp (built before replicas signatures) timestamp_fits entries_fit) signed_kept.fits)) Idle).fits;
          phase_fits = tt;
          legal = tt;
          passed = passed;
          case = writtens_enough sender timestamp counted is_message at (new.0, new.1, enough_is before replicas quorum) (λ less. built_shape before.f counted sender signatures new.0 new.1 less (enough_is before replicas quorum)) refl leaves;
        }))
        (λ less. by_value (took _ (phase_kept before (with_signatures signatures before) signed_kept (Writtens timestamp replicas)) timestamp_fits
        (written_counted sender timestamp counted is_message at (new.0, new.1, enough_is before replicas less) unchanged refl leaves) tt))

  -- WRITTENs that end a write-back
  after_write_back_lem : (sender : ReplicaId) (timestamp : Timestamp) (counted : ReplicaSet) → TimestampFits timestamp → NewFrom before sender counted
      → message ≡ WRITTEN sender (number timestamp) → before.phase ≡ WriteBack timestamp counted → Accepts (ClientFacts before own verdicts message) (after_write_back timestamp (with counted sender) before)
  unfolding after_write_back
  after_write_back_lem sender timestamp counted timestamp_fits new is_message at =
      by_cases (enough before (with counted sender))
      (λ quorum. by_value (took _ (phase_kept before before (itself_kept before fits) Idle) tt
      (back_enough sender timestamp counted is_message at (new.0, new.1, enough_is before (with counted sender) quorum) leaves) tt))
      (λ less. by_value (took _ (phase_kept before before (itself_kept before fits) (WriteBack timestamp (with counted sender))) timestamp_fits
      (back_counted sender timestamp counted is_message at (new.0, new.1, enough_is before (with counted sender) less) unchanged leaves) tt))

  -- CARDs
  module _ (sender : ReplicaId) (nonce : ℕ) (card : List ℕ) (proof : Option PreparedProof) (best : Timestamp) (counted showed : ReplicaSet) (best_fit : TimestampFits (best_of best proof))
      (is_message : message ≡ CARD sender nonce card proof before.id) (at : before.phase ≡ Cards nonce best counted showed) (new : NewFrom before sender counted)
      (stands : card_stands card proof ≡ true) (client : Client) (after : Best before best proof (better_card best proof card before) client) where
    abbrev latest : Timestamp
    latest = best_of best proof

    abbrev showing : ReplicaSet
    showing = showed_by best proof sender showed

    after_cards_lem : {next : AfterCards} → Follows before next → is_quorum before.f (with counted sender) ≡ true → Accepts (ClientFacts before own verdicts message) (next latest showing client)
    unfolding after_card after_view
    after_cards_lem as_read quorum =
        by_cases _
        (λ agree. by_value (took _ (phase_kept before client after.kept _) tt
        (cards_agree sender nonce card proof best counted showed is_message at (new.0, new.1, quorum) stands (quorum_before client after.kept showing agree)
        (record { answer_is = ap₂ (done latest) after.card_is after.better.signers_are; phase_is = refl })) tt))
        (λ differ. by_value (took _ (phase_kept before client after.kept _) best_fit
        (cards_differ sender nonce card proof best counted showed is_message at (new.0, new.1, quorum) stands (quorum_before client after.kept showing differ) after.card_is (better_in after.better)
        (record { answer_is = cc; phase_is = refl }))
        (write_legal client after.kept.fits (best_proof client latest) (proof_fits client after.kept.fits latest best_fit) (entries_in_length client.entries client.entry_count))))
    after_cards_lem (as_view no_writer) quorum =
        by_value (took _ (phase_kept before client after.kept _) tt
        (cards_viewed sender nonce card proof best counted showed is_message at (new.0, new.1, quorum) stands no_writer
        (record { answer_is = ap₂ (done latest) after.card_is after.better.signers_are; phase_is = refl })) tt)

    count_card_lem : {next : AfterCards} → Follows before next → Accepts (ClientFacts before own verdicts message) (count_card next nonce latest (with counted sender) showing client)
    unfolding count_card
    count_card_lem follows =
        by_cases _ (λ quorum. after_cards_lem follows (quorum_before client after.kept (with counted sender) quorum))
        (λ less. by_value (took _ (phase_kept before client after.kept _) best_fit
        (card_counted sender nonce card proof best counted showed is_message at (new.0, new.1, quorum_before client after.kept (with counted sender) less) stands after.card_is (better_in after.better) leaves) tt))

-- ---- Phases: the others await another kind

module _ (before : Client) (own verdicts : List ℕ) (fits : ClientFits before) (sender : ReplicaId) (in_range_lem : is_replica before.f sender ≡ true) where
  -- A reply to this nonce, to this client, of a replica not yet counted.
  answers_nonce : (nonce asked : ℕ) (addressed : ClientId) (counted : ReplicaSet) → (eqb nonce asked && (eqb addressed.0 before.id.0 && is_new counted sender)) ≡ true
      → (nonce ≡ asked) × (addressed ≡ before.id) × NewFrom before sender counted
  answers_nonce nonce asked addressed counted e =
      let first = and_true_both (eqb nonce asked) (eqb addressed.0 before.id.0 && is_new counted sender) e in
      let rest = and_true_both (eqb addressed.0 before.id.0) (is_new counted sender) first.1 in
      (eqb-true nonce asked first.0, same_client addressed before.id rest.0, (in_range_lem, not-true (has counted sender) rest.1))

  pub stamp_facts : (nonce : ℕ) (proof : Option PreparedProof) (addressed : ClientId) → Passed before.f (STAMP sender nonce proof addressed) verdicts → IfThere ProofFits proof
      → (phase : Phase) → before.phase ≡ phase → PhaseFits phase
      → Accepts (ClientFacts before own verdicts (STAMP sender nonce proof addressed)) (on_stamp before sender nonce proof addressed phase)
  unfolding on_stamp
  stamp_facts nonce proof addressed passed proof_fit (Stamps asked best counted) at best_fit =
      by_guard 18 (λ e.
      let (same_nonce, same_client, new) = answers_nonce nonce asked addressed counted e in
      after_stamp_lem before own verdicts (STAMP sender nonce proof addressed) passed fits sender asked proof best counted (best_fits best proof best_fit proof_fit) (cc) at new _
      (better_kept before best fits proof (passed_good before.f proof proof_fit passed.prepared_shaped passed.prepared_issued)))
  stamp_facts nonce proof addressed passed proof_fit Idle at h = by_refusal
  stamp_facts nonce proof addressed passed proof_fit (Prepareds timestamp counted) at h = by_refusal
  stamp_facts nonce proof addressed passed proof_fit (Writtens timestamp counted) at h = by_refusal
  stamp_facts nonce proof addressed passed proof_fit (Cards asked best counted showed) at h = by_refusal
  stamp_facts nonce proof addressed passed proof_fit (WriteBack timestamp counted) at h = by_refusal

  pub card_facts : {next : AfterCards} → Follows before next → (nonce : ℕ) (card : List ℕ) (proof : Option PreparedProof) (addressed : ClientId) → Passed before.f (CARD sender nonce card proof addressed) verdicts
      → Bytes card → IfThere ProofFits proof → card_stands card proof ≡ true → (phase : Phase) → before.phase ≡ phase → PhaseFits phase
      → Accepts (ClientFacts before own verdicts (CARD sender nonce card proof addressed)) (on_card next before sender nonce card proof addressed phase)
  unfolding on_card
  card_facts follows nonce card proof addressed passed bytes proof_fit stands (Cards asked best counted showed) at best_fit =
      by_guard 18 (λ e.
      let (same_nonce, same_client, new) = answers_nonce nonce asked addressed counted e in
      count_card_lem before own verdicts (CARD sender nonce card proof addressed) passed fits sender asked card proof best counted showed
      (best_fits best proof best_fit proof_fit) (cc) at new stands _
      (better_card_kept before best fits card proof (standing_short card proof stands) bytes (passed_good before.f proof proof_fit passed.prepared_shaped passed.prepared_issued)) follows)
  card_facts follows nonce card proof addressed passed bytes proof_fit stands Idle at h = by_refusal
  card_facts follows nonce card proof addressed passed bytes proof_fit stands (Stamps asked best counted) at h = by_refusal
  card_facts follows nonce card proof addressed passed bytes proof_fit stands (Prepareds timestamp counted) at h = by_refusal
  card_facts follows nonce card proof addressed passed bytes proof_fit stands (Writtens timestamp counted) at h = by_refusal
  card_facts follows nonce card proof addressed passed bytes proof_fit stands (WriteBack timestamp counted) at h = by_refusal

  module _ (own_fits : IsSignature own) where
    signatures_fit : Array 1_024 (signatures_with before sender own)
    signatures_fit = let range = replica_range before.f sender in_range_lem in signature_put before.signatures own sender range.0 range.1 fits.signatures_fit own_fits

    pub prepared_facts : (timestamp : ℕ) (digest : List ℕ) → Passed before.f (PREPARED sender timestamp digest) verdicts → (phase : Phase) → before.phase ≡ phase → PhaseFits phase
        → Accepts (ClientFacts before own verdicts (PREPARED sender timestamp digest)) (on_prepared before sender timestamp digest own phase)
    unfolding on_prepared
    prepared_facts timestamp digest passed (Prepareds asked counted) at asked_fits =
        by_guard 18 (λ e.
        let first = and_true_both (eqb timestamp (number asked)) (same digest before.digest && is_new counted sender) e in
        let rest = and_true_both (same digest before.digest) (is_new counted sender) first.1 in
        let same_timestamp = eqb-true timestamp (number asked) first.0 in
        let same_digest = same_equal digest before.digest rest.0 in
        after_prepared_lem before own verdicts (PREPARED sender timestamp digest) passed fits sender asked counted asked_fits (in_range_lem, not-true (has counted sender) rest.1) signatures_fit (cc) at)
    prepared_facts timestamp digest passed Idle at h = by_refusal
    prepared_facts timestamp digest passed (Stamps nonce best counted) at h = by_refusal
    prepared_facts timestamp digest passed (Writtens asked counted) at h = by_refusal
    prepared_facts timestamp digest passed (Cards nonce best counted showed) at h = by_refusal
    prepared_facts timestamp digest passed (WriteBack asked counted) at h = by_refusal

    answers_timestamp : (timestamp : ℕ) (asked : Timestamp) (counted : ReplicaSet) → (eqb timestamp (number asked) && is_new counted sender) ≡ true
        → (timestamp ≡ number asked) × NewFrom before sender counted
    answers_timestamp timestamp asked counted e =
        let both = and_true_both (eqb timestamp (number asked)) (is_new counted sender) e in
        (eqb-true timestamp (number asked) both.0, (in_range_lem, not-true (has counted sender) both.1))

    pub written_facts : (timestamp : ℕ) → Passed before.f (WRITTEN sender timestamp) verdicts → (phase : Phase) → before.phase ≡ phase → PhaseFits phase
        → Accepts (ClientFacts before own verdicts (WRITTEN sender timestamp)) (on_written before sender timestamp own phase)
    unfolding on_written
    written_facts timestamp passed (Writtens asked counted) at asked_fits =
        by_guard 18 (λ e.
        let (same_timestamp, new) = answers_timestamp timestamp asked counted e in
        after_written_lem before own verdicts (WRITTEN sender timestamp) passed fits sender asked counted asked_fits new signatures_fit (cc) at)
    written_facts timestamp passed (WriteBack asked counted) at asked_fits =
        by_guard 18 (λ e.
        let (same_timestamp, new) = answers_timestamp timestamp asked counted e in
        after_write_back_lem before own verdicts (WRITTEN sender timestamp) passed fits sender asked counted asked_fits new (cc) at)
    written_facts timestamp passed Idle at h = by_refusal
    written_facts timestamp passed (Stamps nonce best counted) at h = by_refusal
    written_facts timestamp passed (Prepareds asked counted) at h = by_refusal
    written_facts timestamp passed (Cards nonce best counted showed) at h = by_refusal
