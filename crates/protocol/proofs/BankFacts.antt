-- What a call leaves of a bank: the other registers as they were, the message's as its own step says; and where the message's may be
-- looked for. Assumes nothing.
use mathlib.Core.Path.{◌≡◌, refl, sym, ap, subst, ◌∙◌}
use mathlib.Core.Bool.{Bool, true, false, cond}
use mathlib.Core.List.{List}
use Prim.Native.Nat.{ℕ, ◌<◌}
use lib.ListN.{length, length-set, get_or-replicate}
use lib.Seq.{set-get_or, get_or-set_same, get_or-set_other}
use Rattle.base.specs.ClientSet.{nobody}
use Rattle.base.specs.Outcome.{Outcome, accepted, refused, guard}
use Rattle.base.specs.Party.{is_register, register_place}
use Rattle.base.specs.declared.client_set.ClientSet.{ClientSet}
use Rattle.base.specs.declared.party.RegisterId.{RegisterId}
use Rattle.base.specs.declared.party.ReplicaId.{ReplicaId}
use Rattle.base.proofs.Apart.{apart}
use Rattle.base.proofs.Registers.{place_below, place_injective}
use Rattle.wire.specs.Acceptance.{admitted}
use Rattle.wire.specs.Decode.{register_in}
use Rattle.wire.specs.Message.{Message}
use Rattle.wire.specs.Writing.{roomy}
use Rattle.wire.specs.declared.message.Party.TheVariants.{Replica as AtReplica}
use Rattle.wire.proofs.AdmittedMessage.{admitted_passed}
use Rattle.wire.proofs.ReadingByKind.{decode_splits}
use Rattle.protocol.specs.Bank.{no_register, bank_part, with_bank_part, fresh_bank, place_in, BankCall, put_back, bank_call_at, bank_call}
use Rattle.protocol.specs.RegisterReplica.{Reply, fresh_register, fresh_register_replica, register_step, RegisterCall, register_answers, with_output, register_call}
use Rattle.protocol.specs.declared.replica.Bank.{Bank}
use Rattle.protocol.specs.declared.replica.Register.{Register}
use Rattle.protocol.specs.declared.replica.RegisterReplica.{RegisterReplica}
use Rattle.wire.specs.Parts.{last_register}
use Rattle.wire.proofs.LastRegister.{register_last}

-- ---- Parts

-- Each part of a fresh bank is fresh.
pub fresh_part : (f : ℕ) (id : ReplicaId) (key : List ℕ) (at : ℕ) → at < 16 → bank_part at (fresh_bank f id key) ≡ fresh_register_replica f id
fresh_part f id key at inside = ap (λ (register : Register). record { f = f; id = id; register = register; withdrawn = nobody }) (get_or-replicate 16 at fresh_register no_register inside)

module _ (bank : Bank) (at : ℕ) where
  -- A part that is put back leaves the bank,
  pub part_itself : with_bank_part at (bank_part at bank) bank ≡ bank
  part_itself = ap (λ (registers : List Register). record { f = bank.f; id = bank.id; registers = registers; withdrawn = bank.withdrawn; key = bank.key }) (set-get_or bank.registers at no_register)

  -- any other the parts at other places,
  pub part_elsewhere : (part : RegisterReplica) (other : ℕ) → (other ≡ at → ⊥) → bank_part other (with_bank_part at part bank) ≡ bank_part other bank
  part_elsewhere part other apart =
      ap (λ (register : Register). record { f = bank.f; id = bank.id; register = register; withdrawn = bank.withdrawn }) (get_or-set_other bank.registers at other part.register no_register apart)

  -- and is there itself.
  pub part_there : (part : RegisterReplica) → at < length bank.registers → (bank_part at (with_bank_part at part bank)).register ≡ part.register
  part_there part inside = get_or-set_same bank.registers at part.register no_register inside

-- ---- Which register a message is for

module _ (bytes verdicts : List ℕ) where
  -- A message that is let through is for a register, and the last byte before its signature says which.
  pub let_through : (f : ℕ) (withdrawn : ClientSet) (register : RegisterId) (message : Message) → admitted AtReplica f withdrawn bytes verdicts ≡ accepted (register, message)
      → (is_register (register_in bytes) ≡ true) × (register_in bytes ≡ last_register bytes)
  let_through f withdrawn register message e =
      let passed = admitted_passed AtReplica f withdrawn bytes verdicts register message e in
      let is = (decode_splits AtReplica bytes register message passed.decodes).0 in
      (ap is_register is ∙ passed.registered, register_last AtReplica bytes register message passed.decodes)

  -- One that is not is refused whatever the register holds.
  pub refused_alike : (replica : RegisterReplica) (n : ℕ) → admitted AtReplica replica.f replica.withdrawn bytes verdicts ≡ refused n → register_step replica bytes verdicts ≡ refused n
  unfolding register_step
  refused_alike replica n e = rw e

  -- 2 to 11 let a message through, or not.
  data Judged (f : ℕ) (withdrawn : ClientSet) : Type 0 where
    passes : is_register (register_in bytes) ≡ true → register_in bytes ≡ last_register bytes → Judged f withdrawn
    fails : (n : ℕ) → admitted AtReplica f withdrawn bytes verdicts ≡ refused n → Judged f withdrawn

  judged : (f : ℕ) (withdrawn : ClientSet) → Judged f withdrawn
  judged f withdrawn = go (admitted AtReplica f withdrawn bytes verdicts) refl
    where
      go : (o : Outcome (RegisterId × Message)) → admitted AtReplica f withdrawn bytes verdicts ≡ o → Judged f withdrawn
      go (accepted (register, message)) e = let both = let_through f withdrawn register message e in passes both.0 both.1
      go (refused n) e = fails n e

-- ---- Refused calls

-- The number of a refusal with an output: 1 comes first.
refused_output : (old : List ℕ) (n : ℕ) → with_output {A = Reply} old (refused n) ≡ refused (cond (roomy old) n 1)
unfolding guard
refused_output old n = go (roomy old)
  where
    go : (b : Bool) → guard {A = Reply} 1 b (refused n) ≡ refused (cond b n 1)
    go true = refl
    go false = refl

module _ (bank : Bank) (bytes verdicts old : List ℕ) where
  -- A refusal leaves bank and output as they were, wherever it is judged.
  pub refused_back : (at n : ℕ) → put_back at bank (register_answers (register_in bytes) (bank_part at bank) old (refused n)) ≡ record { answer = refused n; bank = bank; output = old }
  refused_back at n = ap (λ (left : Bank). record { answer = refused n; bank = left; output = old }) (part_itself bank at)

  refused_at : (at n : ℕ) → register_step (bank_part at bank) bytes verdicts ≡ refused n → bank_call_at at bank bytes verdicts old ≡ record { answer = refused (cond (roomy old) n 1); bank = bank; output = old }
  unfolding register_call
  refused_at at n e =
      ap (λ (step : Outcome Reply). put_back at bank (register_answers (register_in bytes) (bank_part at bank) old (with_output old step))) e
      ∙ ap (λ (step : Outcome Reply). put_back at bank (register_answers (register_in bytes) (bank_part at bank) old step)) (refused_output old n)
      ∙ refused_back at (cond (roomy old) n 1)

  -- So a bank may look for the register in the last byte before the signature, without a test: it makes the same call.
  pub call_by_last_byte : bank_call_at (register_place (last_register bytes)) bank bytes verdicts old ≡ bank_call bank bytes verdicts old
  unfolding bank_call
  call_by_last_byte = go (judged bytes verdicts bank.f bank.withdrawn)
    where
      go : Judged bytes verdicts bank.f bank.withdrawn → bank_call_at (register_place (last_register bytes)) bank bytes verdicts old ≡ bank_call_at (place_in bytes) bank bytes verdicts old
      go (passes registered last) = ap (λ (register : RegisterId). bank_call_at (register_place register) bank bytes verdicts old) (sym last)
      go (fails n e) =
          refused_at (register_place (last_register bytes)) n (refused_alike bytes verdicts (bank_part (register_place (last_register bytes)) bank) n e)
          ∙ sym (refused_at (place_in bytes) n (refused_alike bytes verdicts (bank_part (place_in bytes) bank) n e))

  -- ---- What a call leaves

  abbrev left : Bank
  left = (bank_call bank bytes verdicts old).bank

  abbrev single : RegisterCall
  single = register_call (bank_part (place_in bytes) bank) bytes verdicts old

  pub f_kept : left.f ≡ bank.f
  unfolding bank_call
  f_kept = refl

  pub id_kept : left.id ≡ bank.id
  unfolding bank_call
  id_kept = refl

  -- "A message leaves `withdrawn` and key": only an order withdraws.
  pub withdrawn_kept : left.withdrawn ≡ bank.withdrawn
  unfolding bank_call
  withdrawn_kept = refl

  pub key_kept : left.key ≡ bank.key
  unfolding bank_call
  key_kept = refl

  -- As many registers as before: 16, since a bank begins with 16.
  pub length_kept : length left.registers ≡ length bank.registers
  unfolding bank_call
  length_kept = length-set bank.registers _ single.replica.register

  -- "A message for one set leaves the other fifteen registers as they were": all places but the message's,
  pub others_kept : (at : ℕ) → (at ≡ place_in bytes → ⊥) → bank_part at left ≡ bank_part at bank
  unfolding bank_call
  others_kept at other = part_elsewhere bank (place_in bytes) single.replica at other

  -- and all registers but the message's, which may be for none.
  pub other_registers_kept : (register : RegisterId) → is_register register ≡ true → (register ≡ register_in bytes → ⊥) → bank_part (register_place register) left ≡ bank_part (register_place register) bank
  unfolding bank_call
  other_registers_kept register registered other = go (judged bytes verdicts bank.f bank.withdrawn)
    where
      go : Judged bytes verdicts bank.f bank.withdrawn → bank_part (register_place register) left ≡ bank_part (register_place register) bank
      go (passes known last) = others_kept (register_place register) (λ e. other (place_injective register (register_in bytes) registered known e))
      go (fails n e) =
          ap (λ (call : BankCall). bank_part (register_place register) call.bank) (refused_at (place_in bytes) n (refused_alike bytes verdicts (bank_part (place_in bytes) bank) n e))

  -- The message's register is what its own step says, and so are answer and output.
  pub register_stepped : length bank.registers ≡ 16 → (bank_part (place_in bytes) left).register ≡ single.replica.register
  unfolding bank_call
  register_stepped sixteen = part_there bank (place_in bytes) single.replica (subst (λ (n : ℕ). place_in bytes < n) (sym sixteen) (place_below _))

  pub answer_stepped : (bank_call bank bytes verdicts old).answer ≡ single.answer
  unfolding bank_call
  answer_stepped = refl

  pub output_stepped : (bank_call bank bytes verdicts old).output ≡ single.output
  unfolding bank_call
  output_stepped = refl

  -- A refusal leaves all as it was.
  pub refusal_keeps : (n : ℕ) → (bank_call bank bytes verdicts old).answer ≡ refused n → (left ≡ bank) × ((bank_call bank bytes verdicts old).output ≡ old)
  unfolding bank_call register_call
  refusal_keeps n e = go (with_output old (register_step (bank_part (place_in bytes) bank) bytes verdicts)) e
    where
      go : (o : Outcome Reply) → (register_answers (register_in bytes) (bank_part (place_in bytes) bank) old o).answer ≡ refused n
          → (with_bank_part (place_in bytes) (register_answers (register_in bytes) (bank_part (place_in bytes) bank) old o).replica bank ≡ bank)
          × ((register_answers (register_in bytes) (bank_part (place_in bytes) bank) old o).output ≡ old)
      go (accepted reply) e = apart (cc)
      go (refused k) e = (part_itself bank (place_in bytes), refl)
