-- A WRITE that a replica does not refuse: what it does to a bank of any value, and that it may come behind any other request. Assumes nothing.
use mathlib.Core.Path.{◌≡◌, refl, ap, ap₂, subst, ◌∙◌}
use mathlib.Core.Bool.{true}
use mathlib.Core.List.{List, [], ◌∷◌}
use mathlib.Core.Option.{some}
use Prim.Native.Nat.{ℕ, zero, suc, ◌<◌}
use lib.ListN.{length, get_or, set}
use Rattle.base.specs.BigEndian.{Bytes}
use Rattle.base.specs.Outcome.{Outcome, accepted, refused, ◌>>=◌}
use Rattle.base.specs.Party.{register_place}
use Rattle.base.specs.Same.{same}
use Rattle.base.specs.declared.client_set.ClientSet.{ClientSet}
use Rattle.base.specs.declared.party.RegisterId.{RegisterId}
use Rattle.base.proofs.Apart.{apart}
use Rattle.base.proofs.Booleans.{and_true_both}
use Rattle.base.proofs.Outcome.{guard_accepted, guard_passes}
use Rattle.base.proofs.Same.{same_equal}
use Rattle.wire.specs.Acceptance.{admitted}
use Rattle.wire.specs.Card.{is_card, stands_under}
use Rattle.wire.specs.Decode.{for_register, register_in}
use Rattle.wire.specs.Message.{Message, WRITE, WRITTEN}
use Rattle.wire.specs.Proof.{PreparedProof}
use Rattle.wire.specs.Sha256.{sha256}
use Rattle.wire.specs.Writing.{unsigned}
use Rattle.wire.specs.declared.message.Party.TheVariants.{Replica as AtReplica}
use Rattle.wire.proofs.AdmittedMessage.{admitted_passed}
use Rattle.wire.proofs.OneForm.{found_register, decoded_fits}
use Rattle.wire.proofs.card.Digests.{standing_under_short}
use Rattle.protocol.specs.Bank.{no_register, bank_part, with_bank_part, held_at, place_in, bank_step}
use Rattle.protocol.specs.Events.{request_handed, bank_turn, next_bank, bank_answer, sent_for, expected, bank_after}
use Rattle.protocol.specs.Parts.{card_stands}
use Rattle.protocol.specs.RegisterReplica.{Reply, held_card, held_proof, holding, after_write, with_held, answering, on_write, on_request, register_step}
use Rattle.protocol.specs.Writes.{AcceptableWrite, by_step}
use Rattle.protocol.specs.declared.replica.Bank.{Bank}
use Rattle.protocol.specs.declared.replica.Held.{Held}
use Rattle.protocol.specs.declared.replica.Register.{Register}
use Rattle.protocol.specs.declared.replica.RegisterReplica.{RegisterReplica}
use Rattle.protocol.proofs.ArrayLaws.{card_kept_lem}
use Rattle.protocol.proofs.BankFacts.{part_there}
use Rattle.protocol.proofs.RegisterFacts.{holding_shown}

-- ---- One register of a bank is changed, wherever it stands and however many there are

module _ (none : Register) where
  -- Two changes at one place are one change.
  set_then : (u w : Register → Register) (l : List Register) (at : ℕ) → set (set l at (u (get_or l at none))) at (w (get_or (set l at (u (get_or l at none))) at none)) ≡ set l at (w (u (get_or l at none)))
  set_then u w [] at = refl
  set_then u w (r ∷ l) zero = refl
  set_then u w (r ∷ l) (suc at) = ap (λ (rest : List Register). r ∷ rest) (set_then u w l at)

  -- What is alike of two registers is alike where either is put.
  alike_there : {A : Type 0} (q : Register → A) (r r' : Register) → q r ≡ q r' → (l : List Register) (at : ℕ) → q (get_or (set l at r) at none) ≡ q (get_or (set l at r') at none)
  alike_there q r r' e [] at = refl
  alike_there q r r' e (s ∷ l) zero = e
  alike_there q r r' e (s ∷ l) (suc at) = alike_there q r r' e l at

-- The bank in which register x holds this, and the one in which what it holds is changed.
abbrev pub put : RegisterId → Held → Bank → Bank
put x held bank = with_bank_part (register_place x) (with_held (bank_part (register_place x) bank) held) bank

abbrev pub changed : RegisterId → (Held → Held) → Bank → Bank
changed x u bank = put x (u (held_at x bank)) bank

module _ (x : RegisterId) (bank : Bank) where
  pub changed_twice : (u w : Held → Held) → changed x w (changed x u bank) ≡ put x (w (u (held_at x bank))) bank
  changed_twice u w =
      ap (λ (registers : List Register). record { f = bank.f; id = bank.id; registers = registers; withdrawn = bank.withdrawn; key = bank.key })
      (set_then no_register (holds u) (holds w) bank.registers (register_place x))
    where
      holds : (Held → Held) → Register → Register
      holds v register = record { slots = register.slots; held = v register.held }

  pub put_there : (held : Held) → register_place x < length bank.registers → held_at x (put x held bank) ≡ held
  put_there held inside = ap (λ (register : Register). register.held) (part_there bank (register_place x) (with_held (bank_part (register_place x) bank) held) inside)

  pub put_alike : {A : Type 0} (q : Held → A) (held held' : Held) → q held ≡ q held' → q (held_at x (put x held bank)) ≡ q (held_at x (put x held' bank))
  put_alike q held held' e =
      alike_there no_register (λ register. q register.held) (with_held (bank_part (register_place x) bank) held).register (with_held (bank_part (register_place x) bank) held').register e bank.registers (register_place x)

-- ---- What an acceptable WRITE does, at its bank or at one that shares the fault bound and the withdrawn clients

-- 14 looks at no register: who passes it once is answered everywhere, with WRITTEN of the proof's timestamp.
same_reply : (card : List ℕ) (proof : PreparedProof) (before before' : RegisterReplica) (reply : Reply) → on_write before card proof ≡ accepted reply
    → on_write before' card proof ≡ answering (WRITTEN before'.id proof.timestamp) (with_held before' (after_write card proof before'.register.held))
same_reply card proof before before' reply e = guard_passes 14 _ _ (guard_accepted 14 _ _ reply e).0

module _ {bank : Bank} {x : RegisterId} {bytes verdicts : List ℕ} (write : AcceptableWrite bank x bytes verdicts) where
  abbrev message : Message
  message = WRITE write.client write.card write.proof

  abbrev pub its : Held → Held
  its = after_write write.card write.proof

  -- 2 to 11 let it through, and so does 14.
  lets_through : (admitted AtReplica bank.f bank.withdrawn bytes verdicts ≡ accepted (for_register x message)) × (on_write (bank_part (place_in bytes) bank) write.card write.proof ≡ accepted write.reply)
  unfolding bank_step register_step on_request
  lets_through = go (admitted AtReplica bank.f bank.withdrawn bytes verdicts) refl write.answered
    where
      part : RegisterReplica
      part = bank_part (place_in bytes) bank

      go : (o : Outcome (RegisterId × Message)) → admitted AtReplica bank.f bank.withdrawn bytes verdicts ≡ o → (o >>= λ sent. on_request part sent.1) ≡ accepted write.reply
          → (admitted AtReplica bank.f bank.withdrawn bytes verdicts ≡ accepted (for_register x message)) × (on_write part write.card write.proof ≡ accepted write.reply)
      go (refused n) d e = apart (cc)
      go (accepted (y, m)) d e =
          let read = (admitted_passed AtReplica bank.f bank.withdrawn bytes verdicts y m d).decodes in
          let is : for_register y m ≡ for_register x message = cc (read, write.reads) in
          (d ∙ ap (λ (pair : RegisterId × Message). accepted pair) is, subst (λ (pair : RegisterId × Message). on_request part pair.1 ≡ accepted write.reply) is e)

  module _ (bank' : Bank) (same_f : bank'.f ≡ bank.f) (same_withdrawn : bank'.withdrawn ≡ bank.withdrawn) where
    abbrev part' : RegisterReplica
    part' = bank_part (place_in bytes) bank'

    abbrev reply : Reply
    reply = record { message = WRITTEN bank'.id write.proof.timestamp; next = with_held part' (its part'.register.held) }

    step_is : bank_step bank' bytes verdicts ≡ accepted reply
    unfolding bank_step register_step on_request
    step_is =
        ap (λ (o : Outcome (RegisterId × Message)). o >>= λ sent. on_request part' sent.1)
        (ap₂ (λ (f : ℕ) (withdrawn : ClientSet). admitted AtReplica f withdrawn bytes verdicts) same_f same_withdrawn ∙ lets_through.0)
        ∙ same_reply write.card write.proof (bank_part (place_in bytes) bank) part' write.reply lets_through.1

    acceptable : AcceptableWrite bank' x bytes verdicts
    acceptable = record { client = write.client; card = write.card; proof = write.proof; reads = write.reads; reply = reply; answered = step_is }

    pub delivers : by_step bank' bytes verdicts ≡ record { reply = accepted (unsigned x (WRITTEN bank'.id write.proof.timestamp)); left = changed x its bank' }
    unfolding expected
    delivers =
        ap (λ (step : Outcome Reply). let turn = bank_turn (place_in bytes) bank' step in record { reply = bank_answer turn >>= λ answer. accepted (sent_for (register_in bytes) answer); left = next_bank bank' turn }) step_is
        ∙ ap (λ (y : RegisterId). record { reply = accepted (unsigned y (WRITTEN bank'.id write.proof.timestamp)); left = changed y its bank' }) (found_register AtReplica bytes x message write.reads)

  -- So it is acceptable behind any other request too.
  pub still_acceptable : (bytes' verdicts' : List ℕ) → AcceptableWrite (bank_after bank (request_handed bytes' verdicts')) x bytes verdicts
  still_acceptable bytes' verdicts' = go (bank_step bank bytes' verdicts')
    where
      go : (step : Outcome Reply) → AcceptableWrite (next_bank bank (bank_turn (place_in bytes') bank step)) x bytes verdicts
      go (accepted given) = acceptable (with_bank_part (place_in bytes') given.next bank) refl refl
      go (refused number) = write

  -- 14
  stands : stands_under write.card write.proof.digest ≡ true
  stands = (guard_accepted 14 (card_stands write.card (some write.proof)) _ write.reply lets_through.1).0

  -- Its card's digest is its proof's, so that WRITEs of one card have one digest.
  pub digest_is : sha256 write.card ≡ write.proof.digest
  digest_is = same_equal (sha256 write.card) write.proof.digest (and_true_both (is_card write.card) (same (sha256 write.card) write.proof.digest) stands).1

  -- Where the input is bytes, what is held once it is stored shows its card, and its proof entry for entry.
  pub kept_shown : Bytes bytes → (held_card (holding write.card write.proof) ≡ write.card) × (held_proof (holding write.card write.proof) ≡ some write.proof)
  kept_shown small =
      let passed = (admitted_passed AtReplica bank.f bank.withdrawn bytes verdicts x message lets_through.0).passed in
      let fits = decoded_fits AtReplica bytes x message write.reads small in (
        card_kept_lem write.card (standing_under_short write.card write.proof.digest stands),
        holding_shown bank.f verdicts write.client write.card write.proof fits passed,
      )
