-- Acceptance as the code finds it, in two halves: 2 to 8 with 23, then 9 to 11. Assumes nothing.
use Rattle.std.proofs.Common.{◌≡◌, ℕ, true, ◌&&◌, eqb, leb, List, length, drop, sym, refl, ◌∙◌, eqb-true}
use Rattle.base.specs.Outcome.{Outcome, accepted, refused, guard, ◌>>=◌}
use Rattle.base.specs.Party.{is_register}
use Rattle.base.specs.declared.client_set.ClientSet.{ClientSet}
use Rattle.base.specs.declared.party.RegisterId.{RegisterId}
use Rattle.base.specs.declared.replica_set.ReplicaSet.{ReplicaSet}
use Rattle.base.proofs.Booleans.{and_true_both}
use Rattle.base.proofs.Outcome.{guard_accepted, guard_then, guard_alike}
use Rattle.base.proofs.Apart.{apart}
use Rattle.wire.specs.Acceptance.{sender_of, in_its_range, may_send, is_served, admits, admitted, found_in, acceptance}
use Rattle.wire.specs.Accepting.{opening, opened, signature_count, Ready, Judges}
use Rattle.wire.specs.Checks.{prepared_of, one_verdict_each, own_genuine, all, proven, checked}
use Rattle.wire.specs.Decode.{message_in, for_register, decode, register_in, reading, fields_in}
use Rattle.wire.specs.Message.{Message, kind_of}
use Rattle.wire.specs.Parts.{prepared_signers}
use Rattle.wire.specs.declared.message.Fields.{Fields}
use Rattle.wire.specs.declared.message.Party.{Party}
use Rattle.wire.proofs.Tests6To11.{one_each}
use Rattle.wire.proofs.FieldPlaces.{framed_passes}
use Rattle.wire.proofs.ReadingByKind.{parsed, message_reads}
use Rattle.wire.proofs.FirstRefusal.{proven_then}

no_both : {A : Type 0} (a : A) (n : ℕ) → accepted a ≡ refused n → ⊥
no_both a n e = apart (cc)

-- 2 to 8 and 23 passed.
pub record Opened (party : Party) (f : ℕ) (withdrawn : ClientSet) (bytes verdicts : List ℕ) (fields : Fields) : Type 1 where
  pub reads : reading party bytes ≡ accepted fields
  pub message : Message
  pub decodes : message_in party bytes ≡ accepted message
  pub passes : (A : Type 0) (next : Message → Outcome A) → opening party f withdrawn bytes verdicts next ≡ next message
  pub ready : Ready bytes verdicts fields

module _ (party : Party) (f : ℕ) (withdrawn : ClientSet) (bytes verdicts : List ℕ) where
  pub opened_accepted : (fields : Fields) → accepted fields ≡ opened party f withdrawn bytes verdicts → Opened party f withdrawn bytes verdicts fields
  unfolding opened
  opened_accepted fields back = go (message_in party bytes) refl (sym back)
    where
      go : (o : Outcome Message) → message_in party bytes ≡ o → opened party f withdrawn bytes verdicts ≡ accepted fields → Opened party f withdrawn bytes verdicts fields
      go (refused n) d e = absurd (no_both fields n (sym e ∙ rw d))
      go (accepted m) d e =
          let last : Outcome Fields = accepted (fields_in bytes) in
          let served = guard 23 (is_served withdrawn (sender_of m)) last in
          let eight = guard 8 (own_genuine verdicts) served in
          let seven = guard 7 (one_verdict_each m verdicts) eight in
          let twenty = guard 20 (is_register (register_in bytes)) seven in
          let six = guard_accepted 6 (in_its_range f (sender_of m)) (guard 19 (may_send (kind_of m) (sender_of m)) twenty) fields (rw d at e) in
          let may = guard_accepted 19 (may_send (kind_of m) (sender_of m)) twenty fields six.1 in
          let one = guard_accepted 20 (is_register (register_in bytes)) seven fields may.1 in
          let fit = guard_accepted 7 (one_verdict_each m verdicts) eight fields one.1 in
          let own = guard_accepted 8 (own_genuine verdicts) served fields fit.1 in
          let stands = guard_accepted 23 (is_served withdrawn (sender_of m)) last fields own.1 in
          let reads : reading party bytes ≡ accepted fields = message_reads party bytes m d ∙ stands.1 in
          let whole = (parsed party bytes fields reads).framed in
          let tests : (eqb (length verdicts) (signature_count bytes) && all (λ v. leb v 1) verdicts) ≡ true = sym (one_each party bytes m verdicts d whole) ∙ fit.0 in
          record {
            reads = reads;
            message = m;
            decodes = d;
            passes = λ A next. unfold guard in rw (d, six.0, may.0, one.0, fit.0, own.0, stands.0);
            ready =
                record {
                  whole = framed_passes bytes last whole ∙ stands.1;
                  one_each = eqb-true (length verdicts) (signature_count bytes) (and_true_both (eqb (length verdicts) (signature_count bytes)) (all (λ v. leb v 1) verdicts) tests).0;
                };
          }

  pub opened_refused : (n : ℕ) → opened party f withdrawn bytes verdicts ≡ refused n → (A : Type 0) (next : Message → Outcome A) → opening party f withdrawn bytes verdicts next ≡ refused n
  unfolding opened
  opened_refused n e A next = go (message_in party bytes) e
    where
      go : (o : Outcome Message) → (o >>= λ m. guard 6 (in_its_range f (sender_of m)) (guard 19 (may_send (kind_of m) (sender_of m)) (guard 20 (is_register (register_in bytes)) (guard 7 (one_verdict_each m verdicts) (guard 8 (own_genuine verdicts) (guard 23 (is_served withdrawn (sender_of m)) (accepted (fields_in bytes)))))))) ≡ refused n
          → (o >>= λ m. guard 6 (in_its_range f (sender_of m)) (guard 19 (may_send (kind_of m) (sender_of m)) (guard 20 (is_register (register_in bytes)) (guard 7 (one_verdict_each m verdicts) (guard 8 (own_genuine verdicts) (guard 23 (is_served withdrawn (sender_of m)) (next m))))))) ≡ refused n
      go (refused k) d = cc
      go (accepted m) d =
          let z : Outcome Fields = accepted (fields_in bytes) in
          let stands = is_served withdrawn (sender_of m) in
          let x = guard 23 stands z in
          let y = guard 23 stands (next m) in
          let own = own_genuine verdicts in
          let fit = one_verdict_each m verdicts in
          let may = may_send (kind_of m) (sender_of m) in
          let one = is_register (register_in bytes) in
          guard_alike n 6 (in_its_range f (sender_of m)) (guard 19 may (guard 20 one (guard 7 fit (guard 8 own x)))) (guard 19 may (guard 20 one (guard 7 fit (guard 8 own y))))
          (guard_alike n 19 may (guard 20 one (guard 7 fit (guard 8 own x))) (guard 20 one (guard 7 fit (guard 8 own y)))
          (guard_alike n 20 one (guard 7 fit (guard 8 own x)) (guard 7 fit (guard 8 own y))
          (guard_alike n 7 fit (guard 8 own x) (guard 8 own y) (guard_alike n 8 own x y (guard_alike n 23 stands z (next m) (λ both. absurd (no_both (fields_in bytes) n both))))))) d

  -- Acceptance is 2 to 8 with 23, then 9 to 11.
  acceptance_opening : acceptance party f withdrawn bytes verdicts ≡ opening party f withdrawn bytes verdicts (λ message. proven f message (drop 1 verdicts) (accepted (found_in bytes (for_register (register_in bytes) message))))
  unfolding acceptance admitted decode admits checked
  acceptance_opening = go (message_in party bytes)
    where
      found : RegisterId × Message → Outcome (Fields × ReplicaSet)
      found sent = accepted (found_in bytes sent)

      tests : Message → Outcome (Fields × ReplicaSet)
      tests m =
          guard 6 (in_its_range f (sender_of m)) (guard 19 (may_send (kind_of m) (sender_of m)) (guard 20 (is_register (register_in bytes))
          (guard 7 (one_verdict_each m verdicts) (guard 8 (own_genuine verdicts) (guard 23 (is_served withdrawn (sender_of m)) (proven f m (drop 1 verdicts) (accepted (found_in bytes (for_register (register_in bytes) m)))))))))

      halves : (m : Message) → (admits f withdrawn verdicts (for_register (register_in bytes) m) >>= found) ≡ tests m
      halves m =
          rw (
            guard_then 6 (in_its_range f (sender_of m)),
            guard_then 19 (may_send (kind_of m) (sender_of m)),
            guard_then 20 (is_register (register_in bytes)),
            guard_then 7 (one_verdict_each m verdicts),
            guard_then 8 (own_genuine verdicts),
            guard_then 23 (is_served withdrawn (sender_of m)),
            proven_then f m (drop 1 verdicts) (for_register (register_in bytes) m) found,
          )

      go : (o : Outcome Message) → (((o >>= λ m. accepted (for_register (register_in bytes) m)) >>= admits f withdrawn verdicts) >>= λ sent. accepted (found_in bytes sent)) ≡ (o >>= tests)
      go (refused n) = refl
      go (accepted m) = halves m

  -- The two halves of the code together.
  module _ (fields : Fields) (e : accepted fields ≡ opened party f withdrawn bytes verdicts) where
    rest : (check : Outcome ReplicaSet) → Judges f bytes verdicts check → acceptance party f withdrawn bytes verdicts ≡ (check >>= λ signers. accepted (fields, signers))
    rest check judged =
        let o = opened_accepted fields e in
        let read : accepted (fields_in bytes) ≡ accepted fields = sym (message_reads party bytes o.message o.decodes) ∙ o.reads in
        let same : fields_in bytes ≡ fields = cc in
        let signers = prepared_signers (prepared_of o.message) in
        acceptance_opening ∙ o.passes (Fields × ReplicaSet) (λ message. proven f message (drop 1 verdicts) (accepted (found_in bytes (for_register (register_in bytes) message))))
        ∙ sym (proven_then f o.message (drop 1 verdicts) signers (λ (set : ReplicaSet). accepted (fields_in bytes, set))) ∙ rw (same, judged party o.message o.decodes)

    pub both_good : (signers : ReplicaSet) → Judges f bytes verdicts (accepted signers) → accepted (fields, signers) ≡ acceptance party f withdrawn bytes verdicts
    both_good signers judged = sym (rest (accepted signers) judged)

    pub second_refuses : (n : ℕ) → Judges f bytes verdicts (refused n) → refused n ≡ acceptance party f withdrawn bytes verdicts
    second_refuses n judged = sym (rest (refused n) judged)

  pub first_refuses : (n : ℕ) → refused n ≡ opened party f withdrawn bytes verdicts → refused n ≡ acceptance party f withdrawn bytes verdicts
  first_refuses n e = sym (acceptance_opening ∙ opened_refused n (sym e) (Fields × ReplicaSet) (λ message. proven f message (drop 1 verdicts) (accepted (found_in bytes (for_register (register_in bytes) message)))))
