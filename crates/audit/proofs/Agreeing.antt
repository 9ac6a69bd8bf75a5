-- Entries that agree, one behind the other: what is behind them decides. Assumes nothing.
use mathlib.Core.Path.{◌≡◌, refl, sym, ap, subst, ◌∙◌}
use mathlib.Core.Bool.{Bool, cond}
use mathlib.Core.List.{List, [], ◌∷◌, ◌++◌, append_assoc, append-nil}
use Prim.Native.Nat.{ℕ, suc, ◌+◌, ◌≤◌}
use native.Mathlib.Omega.{arith}
use lib.ListN.{length, drop, length-append}
use lib.Seq.{drop-drop}
use Rattle.protocol.specs.Events.{bank_after}
use Rattle.protocol.specs.declared.replica.Bank.{Bank}
use Rattle.audit.specs.Judging.{Agreed}
use Rattle.audit.specs.Log.{LogEntry, front_of, wrong, judged_from}
use Rattle.audit.specs.Replaying.{entry_bytes, log_bytes, Agrees, AllAgree, bank_after_all}
use Rattle.audit.proofs.Judged.{judged_some}
use Rattle.audit.proofs.Written.{entry_written}

pub judged_all : (entries : List LogEntry) (bank : Bank) (number : ℕ) (rest : List ℕ) → AllAgree bank entries
    → judged_from bank number (log_bytes entries ++ rest) ≡ judged_from (bank_after_all bank entries) (number + length entries) rest
unfolding AllAgree log_bytes bank_after_all
judged_all [] bank number rest agree = let same : number + 0 ≡ number = omega arith in rw same
judged_all (e ∷ entries) bank number rest agree =
    let more : suc number + length entries ≡ number + suc (length entries) = omega arith in
    ap (judged_from bank number) (append_assoc (entry_bytes e) (log_bytes entries) rest)
    ∙ judged_some bank number (entry_bytes e ++ (log_bytes entries ++ rest)) (front_of e (log_bytes entries ++ rest)) (entry_written e (log_bytes entries ++ rest) agree.0.well_formed)
    ∙ ap (λ (b : Bool). cond b (judged_from (bank_after bank e.received) (suc number) (log_bytes entries ++ rest)) (wrong number)) agree.0.same_answer
    ∙ judged_all entries (bank_after bank e.received) (suc number) rest agree.1
    ∙ ap (λ (n : ℕ). judged_from (bank_after_all (bank_after bank e.received) entries) n rest) more

-- One entry more.
module _ (e : LogEntry) where
  bank_more : (bank : Bank) (entries : List LogEntry) → bank_after_all bank (entries ++ (e ∷ [])) ≡ bank_after (bank_after_all bank entries) e.received
  unfolding bank_after_all
  bank_more bank [] = refl
  bank_more bank (x ∷ entries) = bank_more (bank_after bank x.received) entries

  bytes_more : (entries : List LogEntry) → log_bytes (entries ++ (e ∷ [])) ≡ log_bytes entries ++ entry_bytes e
  unfolding log_bytes
  bytes_more [] = append-nil (entry_bytes e)
  bytes_more (x ∷ entries) = ap (λ (l : List ℕ). entry_bytes x ++ l) (bytes_more entries) ∙ sym (append_assoc (entry_bytes x) (log_bytes entries) (entry_bytes e))

  agree_more : (bank : Bank) (entries : List LogEntry) → AllAgree bank entries → Agrees (bank_after_all bank entries) e → AllAgree bank (entries ++ (e ∷ []))
  unfolding AllAgree bank_after_all
  agree_more bank [] agree a = (a, tt)
  agree_more bank (x ∷ entries) agree a = (agree.0, agree_more (bank_after bank x.received) entries agree.1 a)

module _ (bank : Bank) (part : List ℕ) where
  pub none_agreed : Agreed bank part 0 0 bank
  unfolding AllAgree log_bytes bank_after_all
  none_agreed = record { entries = []; agree = tt; many = refl; written = refl; leaves = refl; inside = omega arith }

  module _ (agreed used : ℕ) (left : Bank) (so_far : Agreed bank part agreed used left) where
    -- What is left of the part decides, whatever number it starts with and whatever comes behind it.
    pub leads : (number : ℕ) (rest : List ℕ) → judged_from bank number (part ++ rest) ≡ judged_from left (number + agreed) (drop used part ++ rest)
    leads number rest =
        ap (λ (l : List ℕ). judged_from bank number (l ++ rest)) so_far.written
        ∙ ap (judged_from bank number) (append_assoc (log_bytes so_far.entries) (drop used part) rest)
        ∙ judged_all so_far.entries bank number (drop used part ++ rest) so_far.agree
        ∙ ap (λ (b : Bank). judged_from b (number + length so_far.entries) (drop used part ++ rest)) (sym so_far.leaves)
        ∙ ap (λ (n : ℕ). judged_from left (number + n) (drop used part ++ rest)) (sym so_far.many)

    pub one_agreed : (e : LogEntry) (end : ℕ) → drop used part ≡ entry_bytes e ++ drop end (drop used part) → Agrees left e → used + end ≤ length part
        → Agreed bank part (agreed + 1) (used + end) (bank_after left e.received)
    one_agreed e end is agrees inside =
        record {
          entries = so_far.entries ++ (e ∷ []);
          agree = agree_more e bank so_far.entries so_far.agree (subst (λ (b : Bank). Agrees b e) so_far.leaves agrees);
          many = ap (λ (n : ℕ). n + 1) so_far.many ∙ sym (length-append so_far.entries (e ∷ []));
          written = so_far.written ∙ ap (λ (l : List ℕ). log_bytes so_far.entries ++ l) (is ∙ ap (λ (l : List ℕ). entry_bytes e ++ l) (drop-drop end used part))
              ∙ sym (append_assoc (log_bytes so_far.entries) (entry_bytes e) (drop (used + end) part)) ∙ ap (λ (l : List ℕ). l ++ drop (used + end) part) (sym (bytes_more e so_far.entries));
          leaves = ap (λ (b : Bank). bank_after b e.received) so_far.leaves ∙ sym (bank_more e bank so_far.entries);
          inside = inside;
        }
