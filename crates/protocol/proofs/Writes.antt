-- WRITEs in either order, and one twice: what they are answered, and what they leave of a bank of any value. Assumes nothing.
use mathlib.Core.Path.{◌≡◌, refl, sym, ap, ap₂, fun_ext, ◌∙◌}
use mathlib.Core.List.{List}
use Prim.Native.Nat.{ℕ, ◌≤◌}
use native.Mathlib.Omega.{arith}
use lib.ListN.{length}
use Rattle.base.specs.Outcome.{Outcome, accepted}
use Rattle.base.specs.Party.{register_place}
use Rattle.base.specs.declared.party.RegisterId.{RegisterId}
use Rattle.base.specs.declared.timestamp.Timestamp.{Timestamp}
use Rattle.wire.specs.Message.{longest}
use Rattle.protocol.specs.Bank.{held_at}
use Rattle.protocol.specs.Writes.{AcceptableWrite, Delivered, by_step, by_call, its_written, Twice, EitherOrder}
use Rattle.protocol.specs.declared.replica.Bank.{Bank}
use Rattle.protocol.specs.declared.replica.Held.{Held}
use Rattle.protocol.proofs.AcceptableWrites.{put, changed, changed_twice, put_there, put_alike, its, delivers}
use Rattle.protocol.proofs.BankFacts.{part_itself}
use Rattle.protocol.proofs.Calls.{request_answers, request_leaves}
use Rattle.protocol.proofs.HeldWrites.{first_stays, held_stays, same_again, shown, any_order, shown_alike}

-- ---- Steps

module _ {bank : Bank} {x : RegisterId} {bytes verdicts bytes' verdicts' : List ℕ} (first : AcceptableWrite bank x bytes verdicts) (second : AcceptableWrite bank x bytes' verdicts') where
  -- What is held of the two, put into the bank.
  behind : by_step (by_step bank bytes verdicts).left bytes' verdicts' ≡ record { reply = accepted (its_written second); left = put x (its second (its first (held_at x bank))) bank }
  behind =
      ap (λ (ahead : Delivered). by_step ahead.left bytes' verdicts') (delivers first bank refl refl) ∙ delivers second (changed x (its first) bank) refl refl
      ∙ ap (λ (left : Bank). record { reply = accepted (its_written second); left = left }) (changed_twice x bank (its first) (its second))

module _ {bank : Bank} {x : RegisterId} {bytes verdicts : List ℕ} (write : AcceptableWrite bank x bytes verdicts) where
  pub twice : Twice write by_step by_step
  twice =
      let once = delivers write bank refl refl in
      let again = behind write write in
      record {
        replies = (ap (λ (d : Delivered). d.reply) once, ap (λ (d : Delivered). d.reply) again);
        same_record =
            ap (λ (d : Delivered). d.left) again ∙ ap (λ (held : Held). put x held bank) (same_again write.card write.proof (held_at x bank))
            ∙ sym (ap (λ (d : Delivered). d.left) once);
      }

module _ {bank : Bank} {x : RegisterId} {bytes verdicts bytes' verdicts' : List ℕ} (first : AcceptableWrite bank x bytes verdicts) (second : AcceptableWrite bank x bytes' verdicts') where
  pub either_order : EitherOrder first second by_step by_step by_step by_step
  either_order =
      let card = first.card in
      let card' = second.card in
      let proof = first.proof in
      let proof' = second.proof in
      let held = held_at x bank in
      let is = ap (λ (d : Delivered). d.left) (behind first second) in
      let is' = ap (λ (d : Delivered). d.left) (behind second first) in
      record {
        replies = (
          (ap (λ (d : Delivered). d.reply) (delivers first bank refl refl), ap (λ (d : Delivered). d.reply) (behind second first)),
          (ap (λ (d : Delivered). d.reply) (delivers second bank refl refl), ap (λ (d : Delivered). d.reply) (behind first second)),
        );
        same_record = λ differ. is ∙ ap (λ (h : Held). put x h bank) (any_order card card' proof proof' held differ) ∙ sym is';
        same_held = λ same_timestamp same_card.
            let alike = put_alike x bank shown _ _ (shown_alike card card' proof proof' held same_timestamp same_card) in
            rw (is, is') (ap (λ (pair : Timestamp × List ℕ). pair.0) alike, ap (λ (pair : Timestamp × List ℕ). pair.1) alike);
        first_kept = λ same_timestamp stored inside.
            rw (is, is') (
              put_there x bank _ inside ∙ first_stays card card' proof proof' held stored (omega arith),
              put_there x bank _ inside ∙ first_stays card' card proof' proof held (omega arith) (omega arith),
            );
        not_stored = λ below below'. (
          is ∙ ap (λ (h : Held). put x h bank) (held_stays card card' proof proof' held below below') ∙ part_itself bank (register_place x),
          is' ∙ ap (λ (h : Held). put x h bank) (held_stays card' card proof' proof held below' below) ∙ part_itself bank (register_place x),
        );
      }

-- ---- Calls

-- A call with room for every reply delivers as the step does.
pub call_delivers : (old : List ℕ) → longest ≤ length old → by_call old ≡ by_step
call_delivers old long =
    fun_ext (λ bank. fun_ext (λ bytes. fun_ext (λ verdicts.
    ap₂ (λ (reply : Outcome (List ℕ)) (left : Bank). record { reply = reply; left = left }) (request_answers bank bytes verdicts old long) (request_leaves bank bytes verdicts old long))))

module _ {bank : Bank} {x : RegisterId} {bytes verdicts : List ℕ} (write : AcceptableWrite bank x bytes verdicts) (old₁ old₂ : List ℕ) (long₁ : longest ≤ length old₁) (long₂ : longest ≤ length old₂) where
  pub calls_twice : Twice write (by_call old₁) (by_call old₂)
  calls_twice = rw (call_delivers old₁ long₁, call_delivers old₂ long₂) (twice write)

module _ {bank : Bank} {x : RegisterId} {bytes verdicts bytes' verdicts' : List ℕ} (first : AcceptableWrite bank x bytes verdicts) (second : AcceptableWrite bank x bytes' verdicts')
    (old₁ old₂ old₃ old₄ : List ℕ) (long₁ : longest ≤ length old₁) (long₂ : longest ≤ length old₂) (long₃ : longest ≤ length old₃) (long₄ : longest ≤ length old₄) where
  pub calls_either_order : EitherOrder first second (by_call old₁) (by_call old₂) (by_call old₃) (by_call old₄)
  calls_either_order = rw (call_delivers old₁ long₁, call_delivers old₂ long₂, call_delivers old₃ long₃, call_delivers old₄ long₄) (either_order first second)
