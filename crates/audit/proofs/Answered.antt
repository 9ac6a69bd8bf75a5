-- What a correct replica answers to one call: it fits an entry, it agrees with itself under any signature, and a call that is too long to be
-- logged leaves the bank. Assumes nothing.
use mathlib.Core.Path.{◌≡◌, refl, sym, ap, ◌∙◌}
use mathlib.Core.Bool.{Bool, true, false, ◌&&◌}
use mathlib.Core.List.{List, [], ◌∷◌, ◌++◌}
use mathlib.Core.Option.{Option, none, some}
use Prim.Native.Nat.{ℕ, ◌+◌, ◌-◌, ◌≤◌}
use native.Mathlib.Omega.{arith}
use borrow.Author.Tests.{ltb-true, lt-ltb, eq-eqb, eqb-true}
use lib.Dec.{eqb, ltb}
use lib.ListN.{length, take, length-append}
use lib.Seq.{length-take-le, take_at}
use Rattle.base.specs.BigEndian.{Bytes}
use Rattle.base.specs.Bytes.{filled}
use Rattle.base.specs.Outcome.{Outcome, accepted, refused}
use Rattle.base.proofs.Apart.{apart}
use Rattle.base.proofs.Booleans.{and_true_both}
use Rattle.base.proofs.Filling.{filled_length}
use Rattle.base.proofs.Same.{same_itself}
use Rattle.wire.specs.Checks.{prepared_of, written_of, entries_if_there, entries_of, all, one_verdict_each, shaped_if_there}
use Rattle.wire.specs.Decode.{register_in}
use Rattle.wire.specs.Message.{body, encode, Legal, longest}
use Rattle.wire.specs.Proof.{Proof}
use Rattle.wire.specs.Writing.{blank_signature, unsigned}
use Rattle.wire.specs.declared.message.Party.TheVariants.{Replica as AtReplica}
use Rattle.wire.proofs.OneForm.{decoded_register}
use Rattle.wire.proofs.ReadingByKind.{decode_tested}
use Rattle.wire.proofs.Size.{encode_size}
use Rattle.wire.proofs.Tests7To11.{shaped_few}
use Rattle.protocol.specs.Bank.{place_in, bank_step}
use Rattle.protocol.specs.Events.{ReplicaEvent, request_handed, order_handed, HandsBytes, bank_turn, order_turn, expected, bank_after}
use Rattle.protocol.specs.Order.{take_order}
use Rattle.protocol.specs.RegisterReplica.{Reply}
use Rattle.protocol.specs.declared.replica.Bank.{Bank}
use Rattle.protocol.proofs.ArrayLaws.{blank_signature_lem}
use Rattle.protocol.proofs.GoodBank.{GoodBank, MessageTaken, message_taken}
use Rattle.protocol.proofs.OrderFacts.{took}
use Rattle.protocol.proofs.Refusals.{refusal_range}
use Rattle.audit.specs.Log.{before_signature, same_but_signature, agrees}
use Rattle.audit.specs.Own.{signed_with, recorded_for, entry_for, is_logged}
use Rattle.audit.specs.Replaying.{ReceivedFits, RecordedFits, Agrees}

-- ---- A reply with another signature

module _ (signature sent : List ℕ) where
  abbrev signed : List ℕ
  signed = before_signature sent ++ filled 64 signature

  module _ (long : 64 ≤ length sent) where
    front_size : length (before_signature sent) ≡ length sent - 64
    front_size = length-take-le (length sent - 64) sent (omega arith)

    signed_size : length signed ≡ length sent
    signed_size = omega (arith, length-append (before_signature sent) (filled 64 signature), filled_length 64 signature, front_size)

    signed_agrees : same_but_signature sent signed ≡ true
    unfolding same_but_signature
    signed_agrees =
        let kept : before_signature signed ≡ before_signature sent = ap (λ (n : ℕ). take (n - 64) signed) signed_size ∙ take_at (before_signature sent) (filled 64 signature) (length sent - 64) front_size in
        rw (eq-eqb (length sent) (length signed) (sym signed_size), kept) (same_itself (before_signature sent))

signed_is : (signature sent : List ℕ) → 64 ≤ length sent → signed_with signature sent ≡ signed signature sent
signed_is signature [] long = absurd (omega arith)
signed_is signature (b ∷ sent) long = refl

-- ---- What is answered is short enough to be logged

few_entries : {d : ℕ} (f : ℕ) (o : Option (Proof d)) → shaped_if_there f o ≡ true → length (entries_if_there o) ≤ 11
few_entries f none e = omega arith
few_entries f (some proof) e = shaped_few f proof.entries e

module _ (bank : Bank) (bytes verdicts : List ℕ) (reply : Reply) (small : Bytes bytes) (taken : MessageTaken bank bytes verdicts reply) where
  short_bytes : length bytes ≤ longest
  short_bytes = (decode_tested AtReplica bytes (register_in bytes) taken.message taken.admitted.decodes).framed.short

  -- One verdict for each signature: the message's own, and at most 11 in each of two proofs.
  short_verdicts : length verdicts ≤ 23
  unfolding one_verdict_each entries_of
  short_verdicts =
      let message = taken.message in
      let passed = taken.admitted.passed in
      let one = and_true_both (eqb (length verdicts) (1 + length (entries_if_there (prepared_of message) ++ entries_if_there (written_of message)))) (all _ verdicts) passed.one_each in
      let many = eqb-true (length verdicts) (1 + length (entries_if_there (prepared_of message) ++ entries_if_there (written_of message))) one.0 in
      let sum = length-append (entries_if_there (prepared_of message)) (entries_if_there (written_of message)) in
      omega (arith, few_entries bank.f (prepared_of message) passed.prepared_shaped, few_entries bank.f (written_of message) passed.written_shaped)

  legal : Legal (register_in bytes) reply.message
  legal = taken.facts.legal (register_in bytes) (decoded_register AtReplica bytes (register_in bytes) taken.message taken.admitted.decodes small)

  sent_size : (64 ≤ length (unsigned (register_in bytes) reply.message)) × (length (unsigned (register_in bytes) reply.message) ≤ longest)
  unfolding encode
  sent_size =
      let whole = encode_size (register_in bytes) reply.message blank_signature legal.fits blank_signature_lem in
      let sum = length-append (body (register_in bytes) reply.message) blank_signature in
      (omega (arith, sum, blank_signature_lem.0), omega (arith, whole, legal.short))

-- ---- One call

both_true : {a b : Bool} → a ≡ true → b ≡ true → (a && b) ≡ true
both_true e f = rw (e, f)

pub record Answered (signature : List ℕ) (bank : Bank) (call : ReplicaEvent) : Type 0 where
  pub fits : RecordedFits (recorded_for signature (expected bank call))
  pub agree : agrees (expected bank call) (recorded_for signature (expected bank call)) ≡ true
  -- One that is not logged leaves the bank.
  pub unlogged : is_logged call ≡ false → bank_after bank call ≡ bank

module _ (signature : List ℕ) (bank : Bank) (good : GoodBank bank) where
  message_answered : (bytes verdicts : List ℕ) → Bytes bytes → Answered signature bank (request_handed bytes verdicts)
  unfolding expected
  message_answered bytes verdicts small = go (bank_step bank bytes verdicts) refl
    where
      go : (o : Outcome Reply) → bank_step bank bytes verdicts ≡ o → Answered signature bank (request_handed bytes verdicts)
      go (accepted reply) e =
          let taken = message_taken bank good bytes verdicts reply small e in
          let sent = unsigned (register_in bytes) reply.message in
          let (long, short) = sent_size bank bytes verdicts reply small taken in
          let is_logged_lem : is_logged (request_handed bytes verdicts) ≡ true =
          both_true (lt-ltb (length bytes) _ (omega (arith, short_bytes bank bytes verdicts reply small taken)))
          (lt-ltb (length verdicts) _ (omega (arith, short_verdicts bank bytes verdicts reply small taken))) in
          record {
            fits = rw (e, signed_is signature sent long) (omega (arith, signed_size signature sent long, short));
            agree = rw (e, signed_is signature sent long) (signed_agrees signature sent long);
            unlogged = λ not_there. apart (cc);
          }
      go (refused n) e =
          let range = refusal_range (request_handed bytes verdicts) bank n (ap (bank_turn (place_in bytes) bank) e) in
          record { fits = rw e (range.0, omega (arith, range.1)); agree = rw e (eq-eqb n n refl); unlogged = λ not_there. rw e }

  order_answered : (order : List ℕ) → Answered signature bank (order_handed order)
  unfolding expected same_but_signature
  order_answered order = go (take_order bank order) refl
    where
      go : (o : Outcome Bank) → take_order bank order ≡ o → Answered signature bank (order_handed order)
      go (accepted next) e =
          let is_logged_lem : is_logged (order_handed order) ≡ true = lt-ltb (length order) 65_536 (omega (arith, (took bank order next e).good.long)) in
          record { fits = rw e (omega arith); agree = rw e (same_itself []); unlogged = λ not_there. apart (cc) }
      go (refused n) e =
          let range = refusal_range (order_handed order) bank n (ap order_turn e) in
          record { fits = rw e (range.0, omega (arith, range.1)); agree = rw e (eq-eqb n n refl); unlogged = λ not_there. rw e }

  pub answered : (call : ReplicaEvent) → HandsBytes call → Answered signature bank call
  answered (request_handed bytes verdicts) small = message_answered bytes verdicts small
  answered (order_handed order) small = order_answered order

received_fits : (call : ReplicaEvent) → is_logged call ≡ true → ReceivedFits call
received_fits (request_handed bytes verdicts) e =
    let both = and_true_both (ltb (length bytes) 65_536) (ltb (length verdicts) 65_536) e in
    (ltb-true (length bytes) 65_536 both.0, ltb-true (length verdicts) 65_536 both.1)
received_fits (order_handed order) e = ltb-true (length order) 65_536 e

pub entry_agrees : (signature : List ℕ) (bank : Bank) (call : ReplicaEvent) → is_logged call ≡ true → Answered signature bank call → Agrees bank (entry_for bank call signature)
entry_agrees signature bank call e a = record { well_formed = record { received_fits = received_fits call e; recorded_fits = a.fits }; same_answer = a.agree }
