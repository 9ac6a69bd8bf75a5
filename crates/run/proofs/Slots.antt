-- What a replica signed PREPARED stays in its slot or below it: one digest for a timestamp. Assumes nothing.
use mathlib.Core.Path.{◌≡◌, refl, sym, ap, ap₂, subst, subst₂, ◌∙◌}
use mathlib.Core.Logic.{◌⊎◌, inl, inr, ⊎_elim}
use mathlib.Core.Bool.{Bool, true, false}
use mathlib.Core.List.{List, [], ◌∷◌, ◌++◌}
use mathlib.Core.Option.{Option, none, some}
use Prim.Native.Nat.{ℕ, zero, suc, ◌/◌, ◌%◌, ◌≤◌, ◌<◌}
use native.Mathlib.Omega.{arith}
use native.Mathlib.Nat.{eq-or-lt_of_le, le_of_suc-le-suc}
use borrow.Author.Tests.{leb-true, leb-false}
use lib.Dec.{leb}
use lib.ListN.{length}
use Rattle.base.specs.BigEndian.{to_bytes}
use Rattle.base.specs.BitMap.{map_of}
use Rattle.base.specs.Counting.{count}
use Rattle.base.specs.Outcome.{accepted, guard}
use Rattle.base.specs.Party.{replica_count, quorum_size, is_writer}
use Rattle.base.specs.ReplicaSet.{has, Quorate}
use Rattle.base.specs.Timestamp.{client_of}
use Rattle.base.specs.declared.party.ClientId.{ClientId}
use Rattle.base.specs.declared.party.RegisterId.{RegisterId}
use Rattle.base.specs.declared.party.ReplicaId.{ReplicaId}
use Rattle.base.specs.declared.replica_set.ReplicaSet.{ReplicaSet}
use Rattle.base.proofs.Each.{each_front}
use Rattle.base.proofs.Listed.{member_listed}
use Rattle.base.proofs.Outcome.{guard_accepted}
use Rattle.base.proofs.Quorum.{Common, quorums_meet}
use Rattle.base.proofs.Range.{bounds}
use Rattle.wire.specs.Checks.{shaped, genuine, issued, proof_outcome}
use Rattle.wire.specs.Decode.{for_register}
use Rattle.wire.specs.Message.{Message, PREPARED, CARD, number_field, fields, joined, body, Legal, Fits, ProofFits}
use Rattle.wire.specs.Proof.{Entry, PreparedProof, signers, signer_set}
use Rattle.wire.specs.Signatures.{Signature, signed_by, prepared_signatures, signatures_of}
use Rattle.wire.proofs.MessageSignatures.{length_signed}
use Rattle.wire.proofs.ProofBytes.{proof_rewritten}
use Rattle.wire.proofs.SignerSets.{shaped_signers_lem, shaped_count}
use Rattle.protocol.specs.Client.{send}
use Rattle.protocol.specs.RegisterReplica.{slot_count, slot_digest}
use Rattle.protocol.specs.declared.replica.Slots.{Slots}
use Rattle.wire.proofs.Tests7To11.{Passed, issued_counted}
use Rattle.protocol.proofs.RegisterFacts.{SlotRises, prepared_legal}
use Rattle.run.specs.Claims.{Genuine, OneDigest}
use Rattle.run.specs.Premises.{TrueVerdicts, FewFaulty, Premises}
use Rattle.wire.specs.Acceptance.{replica}
use Rattle.run.specs.Run.{Run, register_at, client_at, answer_at, Said}
use Rattle.run.proofs.Turns.{correct_replica_range, Answers, RegisterTurn, rests, steps, register_turn, RegisterStep, register_step_lem, Heard}
use Rattle.run.proofs.SentMessages.{said_later, said_answers, said, WasSent, EachSent, each_sent, inside_sent, entry_sent, heard_true, heard_legal}

-- An event before the next one is this one or an earlier one.
pub split_last : {P : Type 0} (u t : ℕ) → u < suc t → (u ≡ t → P) → (u < t → P) → P
split_last u t l a b = ⊎_elim a b (eq-or-lt_of_le (le_of_suc-le-suc l))

pub order : (a b : ℕ) → (a ≤ b) ⊎ (b < a)
order a b = go (leb a b) refl
  where
    go : (x : Bool) → leb a b ≡ x → (a ≤ b) ⊎ (b < a)
    go true e = inl (leb-true a b e)
    go false e = inr (leb-false a b e)

-- The slot of a timestamp's client has timestamp and digest, or a later timestamp.
abbrev Has : Slots → ℕ → List ℕ → Type 0
Has slots s d = ((slot_count slots (client_of s) ≡ s / 256) × (slot_digest slots (client_of s) ≡ d)) ⊎ (s / 256 < slot_count slots (client_of s))

has_kept : (before after : Slots) (s : ℕ) (d : List ℕ) → SlotRises before after (client_of s) → Has before s d → Has after s d
has_kept before after s d (inl k) (inl a) = inl (k.0 ∙ a.0, k.1 ∙ a.1)
has_kept before after s d (inl k) (inr a) = let same = k.0 in inr (omega arith)
has_kept before after s d (inr k) (inl a) = let same = a.0 in inr (omega arith)
has_kept before after s d (inr k) (inr a) = inr (omega arith)

-- What two quorums have in common.
pub meet : (R : Run) → FewFaulty R → (p q : ReplicaId → Bool) → quorum_size R.f ≤ count (replica_count R.f) p → quorum_size R.f ≤ count (replica_count R.f) q
    → Common (replica_count R.f) p q R.correct_replica
meet R few = quorums_meet R.f R.correct_replica few (bounds 1 5 R.f R.f_in_range).1

-- A message carries the last byte of its register's number.
abbrev carried : RegisterId → RegisterId
carried x = record { 0 = x.0 % 256 }

carried_body : (x : RegisterId) (id : ReplicaId) (s : ℕ) (d : List ℕ) → body x (PREPARED id s d) ≡ body (carried x) (PREPARED id s d)
unfolding body fields to_bytes
carried_body x id s d = let last : x.0 % 256 ≡ x.0 % 256 % 256 = omega arith in ap (λ (n : ℕ). to_bytes 2 (map_of (ending n)) ++ joined (ending n)) last
  where
    ending : ℕ → List (Option (List ℕ))
    ending n = number_field 1 6 ∷ number_field 1 id.0 ∷ none ∷ number_field 5 s ∷ some d ∷ none ∷ none ∷ none ∷ none ∷ some (n ∷ []) ∷ []

carried_signatures : (x : RegisterId) (s : ℕ) (d : List ℕ) (entries : List Entry) → signed_by x (λ id. PREPARED id s d) entries ≡ signed_by (carried x) (λ id. PREPARED id s d) entries
carried_signatures x s d [] = refl
carried_signatures x s d (entry ∷ entries) =
    ap₂ (λ (bytes : List ℕ) (rest : List Signature). record { signer = replica entry.signer; covers = bytes; bytes = entry.signature } ∷ rest) (carried_body x entry.signer s d) (carried_signatures x s d entries)

module _ (R : Run) (x : RegisterId) where
  -- What the event at which a replica sent PREPARED left in the slot.
  abbrev pub Left : ReplicaId → ℕ → ℕ → List ℕ → Type 0
  Left id t s d =
      (is_writer (client_of s) ≡ true) × (slot_count (register_at R x id (suc t)).slots (client_of s) ≡ s / 256) × (slot_digest (register_at R x id (suc t)).slots (client_of s) ≡ d)

  prepared_step : (id : ReplicaId) (t s : ℕ) (d : List ℕ) (step : RegisterStep R x id t) → answer_at R t ≡ accepted (send (PREPARED id s d)) → Left id t s d
  prepared_step id t s d step a =
      let same : step.reply.message ≡ PREPARED id s d = cc step.answer_is in
      let q = step.facts.prepared_sent id s d same in
      rw step.next_is (q.1, q.2, q.3)

  -- A replica's slot keeps what it sent PREPARED for, or a later timestamp.
  slots : (id : ReplicaId) → R.correct_replica id ≡ true → (t s : ℕ) (d : List ℕ) → is_writer (client_of s) ≡ true → Said R x (replica id) (PREPARED id s d) t → Has (register_at R x id t).slots s d
  slots id c zero s d own e = let l = e.earlier in absurd (omega arith)
  slots id c (suc t) s d own e = go (λ k. slots id c t s d own k) (register_turn R x id c t)
    where
      before : e.time < t → Said R x (replica id) (PREPARED id s d) t
      before l = record { time = e.time; earlier = l; by = e.by; register_is = e.register_is; answered = e.answered }

      go : (Said R x (replica id) (PREPARED id s d) t → Has (register_at R x id t).slots s d) → RegisterTurn R x id t → Has (register_at R x id (suc t)).slots s d
      go ih (rests same silent) =
          split_last e.time t e.earlier
          (λ z. absurd (silent (PREPARED id s d) (subst (λ (u : ℕ). Answers R x id u (PREPARED id s d)) z (said_answers R x id (PREPARED id s d) (suc t) e))))
          (λ z. rw same (ih (before z)))
      go ih (steps step) =
          split_last e.time t e.earlier
          (λ z. let q = prepared_step id t s d step (subst (λ (u : ℕ). answer_at R u ≡ accepted (send (PREPARED id s d))) z e.answered) in inl (q.1, q.2))
          (λ z. let range = bounds 1 64 (client_of s).0 own in
          rw step.next_is (has_kept (register_at R x id t).slots step.reply.next.register.slots s d (step.facts.slots_rise (client_of s) range.0 range.1) (ih (before z))))

  pub prepared_left : (id : ReplicaId) → R.correct_replica id ≡ true → (t s : ℕ) (d : List ℕ) (e : Said R x (replica id) (PREPARED id s d) t) → Left id e.time s d
  prepared_left id c t s d e =
      prepared_step id e.time s d (register_step_lem R x id c e.time (PREPARED id s d) (said_answers R x id (PREPARED id s d) t e)) e.answered

  module _ (id : ReplicaId) (c : R.correct_replica id ≡ true) (s : ℕ) (d d' : List ℕ) where
    one_ordered : (t : ℕ) (e : Said R x (replica id) (PREPARED id s d) t) (e' : Said R x (replica id) (PREPARED id s d') t) → e.time ≤ e'.time → d ≡ d'
    one_ordered t e e' l =
        let left = prepared_left id c t s d' e' in
        go left (slots id c (suc e'.time) s d left.0 (record { time = e.time; earlier = omega arith; by = e.by; register_is = e.register_is; answered = e.answered }))
      where
        go : Left id e'.time s d' → Has (register_at R x id (suc e'.time)).slots s d → d ≡ d'
        go left (inl k) = sym k.1 ∙ left.2
        go left (inr k) = let q = left.1 in absurd (omega arith)

  -- A correct replica sends PREPARED with one digest for a timestamp.
  one_digest_each : (id : ReplicaId) → R.correct_replica id ≡ true → (t s : ℕ) (d d' : List ℕ) → Said R x (replica id) (PREPARED id s d) t → Said R x (replica id) (PREPARED id s d') t → d ≡ d'
  one_digest_each id c t s d d' e e' = ⊎_elim (one_ordered id c s d d' t e e') (λ l. sym (one_ordered id c s d' d t e' e (omega arith))) (order e.time e'.time)

  -- The set is of exactly q replicas, all among 1 to n, whose correct members sent this message before event t, each its own.
  pub record SaidByQuorum (t : ℕ) (message : ReplicaId → Message) (who : ReplicaSet) : Type 0 where
    pub exact : Quorate R.f who
    pub enough : quorum_size R.f ≤ count (replica_count R.f) (has who)
    pub signed : (id : ReplicaId) → has who id ≡ true → R.correct_replica id ≡ true → Said R x (replica id) (message id) t

  pub quorum_later : (t t' : ℕ) (message : ReplicaId → Message) (who : ReplicaSet) → t ≤ t' → SaidByQuorum t message who → SaidByQuorum t' message who
  quorum_later t t' message who l b = record { exact = b.exact; enough = b.enough; signed = λ id k c. said_later R x (replica id) (message id) t t' l (b.signed id k c) }

  -- The signers of entries that pass 9, if the correct ones sent it;
  pub shaped_quorum : (t : ℕ) (message : ReplicaId → Message) (entries : List Entry) → shaped R.f entries ≡ true
      → ((id : ReplicaId) → has (signer_set entries) id ≡ true → R.correct_replica id ≡ true → Said R x (replica id) (message id) t) → SaidByQuorum t message (signer_set entries)
  shaped_quorum t message entries shape said_it =
      record { exact = shaped_signers_lem R.f entries shape; enough = omega (arith, shaped_count R.f entries shape); signed = said_it }

  -- so they did where each entry of theirs was sent.
  pub entries_quorum : (t : ℕ) (message : ReplicaId → Message) (entries : List Entry) → ((id : ReplicaId) → R.correct_replica id ≡ true → Legal x (message id)) → shaped R.f entries ≡ true
      → EachSent R t (signed_by x message entries) → SaidByQuorum t message (signer_set entries)
  entries_quorum t message entries legal shape sent =
      shaped_quorum t message entries shape (λ id k c. said R (replica id) c x (message id) (legal id c) t (entry_sent R t x message entries sent id (member_listed (signers entries) id k) c))

  -- They sent PREPARED with this timestamp and digest.
  abbrev pub Backed : ℕ → ℕ → List ℕ → ReplicaSet → Type 0
  Backed t s d who = SaidByQuorum t (λ id. PREPARED id s d) who

  backed_by : (t : ℕ) (proof : PreparedProof) → x.0 < 256 → ProofFits proof → shaped R.f proof.entries ≡ true → EachSent R t (prepared_signatures x proof)
      → Backed t proof.timestamp proof.digest (signer_set proof.entries)
  backed_by t proof small fits =
      entries_quorum t (λ id. PREPARED id proof.timestamp proof.digest) proof.entries
      (λ id c. let range = correct_replica_range R id c in prepared_legal id proof.timestamp proof.digest (omega arith) fits.0 fits.1 x small)

  -- The prepared proof of a CARD that a client takes in an operation of this register.
  pub card_backed : Premises R → (id : ClientId) (t : ℕ) (h : Heard R id t) (sender : ReplicaId) (nonce : ℕ) (card : List ℕ) (proof : PreparedProof) (addressed : ClientId)
      → (client_at R id t).register ≡ x → h.message ≡ CARD sender nonce card (some proof) addressed → Passed R.f h.message h.verdicts → Backed t proof.timestamp proof.digest (signer_set proof.entries)
  unfolding Fits
  card_backed P id t h sender nonce card proof addressed is e passed =
      let m = CARD sender nonce card (some proof) addressed in
      let ok : Passed R.f m h.verdicts = subst (λ (n : Message). Passed R.f n h.verdicts) e passed in
      let legal : Legal x m = subst₂ Legal is e (heard_legal R P id t h) in
      let true_ones : TrueVerdicts R t (signatures_of h.bytes (for_register x m)) h.verdicts =
      subst₂ (λ (y : RegisterId) (n : Message). TrueVerdicts R t (signatures_of h.bytes (for_register y n)) h.verdicts) is e (heard_true R P id t h) in
      backed_by t proof legal.register_fits legal.fits.3 ok.prepared_shaped
      (each_front (WasSent R t) (prepared_signatures x proof) [] (inside_sent R R.f t h.bytes h.verdicts x m ok true_ones))

  -- A genuine proof is judged entry by entry, and so its correct signers sent PREPARED; it is backed at the end of the list.
  judged_each : (proof : PreparedProof) (g : Genuine R x proof) → length proof.entries ≤ length g.verdicts
  judged_each proof g = let each = g.one_each in omega arith

  genuine_sent : (proof : PreparedProof) (g : Genuine R x proof) → length proof.entries ≤ length g.verdicts → genuine g.verdicts ≡ true
      → EachSent R (length R.events) (prepared_signatures x proof)
  genuine_sent proof g long ones =
      each_sent R (length R.events) (prepared_signatures x proof) g.verdicts (omega (arith, length_signed x (λ id. PREPARED id proof.timestamp proof.digest) proof.entries)) ones g.true_verdicts_lem

  -- 9 to 11, one by one.
  genuine_passes : (proof : PreparedProof) (g : Genuine R x proof) → (shaped R.f proof.entries ≡ true) × (genuine g.verdicts ≡ true) × (issued proof.timestamp ≡ true)
  unfolding proof_outcome
  genuine_passes proof g =
      let by = signer_set proof.entries in
      let nine = guard_accepted 9 (shaped R.f proof.entries) (guard 10 (genuine g.verdicts) (guard 11 (issued proof.timestamp) (accepted by))) by g.passes in
      let ten = guard_accepted 10 (genuine g.verdicts) (guard 11 (issued proof.timestamp) (accepted by)) by nine.1 in
      let eleven = guard_accepted 11 (issued proof.timestamp) (accepted by) by ten.1 in
      (nine.0, ten.0, eleven.0)

  pub genuine_backed : x.0 < 256 → (proof : PreparedProof) → Genuine R x proof → Backed (length R.events) proof.timestamp proof.digest (signer_set proof.entries)
  genuine_backed small proof g =
      let (nine, ten, eleven) = genuine_passes proof g in
      let fits = (proof_rewritten g.bytes proof g.are_bytes g.reads).1 in
      backed_by (length R.events) proof small fits nine (genuine_sent proof g (judged_each proof g) ten)

  pub genuine_counted : (proof : PreparedProof) → Genuine R x proof → 1 ≤ proof.timestamp / 256
  genuine_counted proof g = issued_counted proof.timestamp (genuine_passes proof g).2

  -- ---- What the bound on faulty replicas alone gives

  module _ (few : FewFaulty R) where
    pub one_backed : (t s : ℕ) (d d' : List ℕ) (who who' : ReplicaSet) → Backed t s d who → Backed t s d' who' → d ≡ d'
    one_backed t s d d' who who' a b =
        let c = meet R few (has who) (has who') a.enough b.enough in
        one_digest_each c.at c.in_r t s d d' (a.signed c.at c.in_p c.in_r) (b.signed c.at c.in_q c.in_r)

    one_digest_byte : x.0 < 256 → OneDigest R x
    one_digest_byte small proof proof' g g' e =
        one_backed (length R.events) proof.timestamp proof.digest proof'.digest _ _ (genuine_backed small proof g)
        (subst (λ (s : ℕ). Backed (length R.events) s proof'.digest (signer_set proof'.entries)) (sym e) (genuine_backed small proof' g'))

-- "no two genuine prepared proofs, whoever gathered them, carry one stamp and two digests": whatever verdicts were handed over, and whatever the cards.
pub one_digest : (R : Run) (x : RegisterId) → FewFaulty R → OneDigest R x
one_digest R x few proof proof' g g' e = one_digest_byte R (carried x) few (omega arith) proof proof' (genuine_carried proof g) (genuine_carried proof' g') e
  where
    genuine_carried : (proof : PreparedProof) → Genuine R x proof → Genuine R (carried x) proof
    genuine_carried proof g =
        record {
          bytes = g.bytes;
          verdicts = g.verdicts;
          are_bytes = g.are_bytes;
          reads = g.reads;
          one_each = g.one_each;
          passes = g.passes;
          true_verdicts_lem =
              subst (λ (signatures : List Signature). TrueVerdicts R (length R.events) signatures g.verdicts)
              (carried_signatures x proof.timestamp proof.digest proof.entries) g.true_verdicts_lem;
        }
