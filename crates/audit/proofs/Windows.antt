-- A log that is judged window by window is judged as a whole, however many windows it takes. Assumes nothing.
use mathlib.Core.Path.{◌≡◌, sym, ap, ◌∙◌}
use mathlib.Core.Bool.{Bool, false}
use mathlib.Core.List.{List, ◌++◌, append_assoc}
use Prim.Native.Nat.{ℕ, ◌+◌, ◌≤◌, ◌<◌}
use native.Mathlib.Omega.{arith}
use lib.ListN.{length, drop}
use Rattle.base.specs.Outcome.{Outcome, accepted, refused, ◌>>=◌}
use Rattle.base.proofs.Apart.{apart}
use Rattle.protocol.specs.declared.replica.Bank.{Bank}
use Rattle.audit.specs.Judging.{found_by, MayFollow, JudgesPart, begun}
use Rattle.audit.specs.Log.{Judgement, judged_from, head_length, fresh_in, head_outcome, judged_if_set_up, judged}
use Rattle.audit.specs.declared.judging.Finding.TheVariants.{More}
use Rattle.audit.specs.declared.judging.PartJudged.{PartJudged}
use Rattle.audit.proofs.Agreeing.{leads}

-- What is found at the end by whoever judges a window, then what is left of it with more behind it, and so on: from this bank and this
-- number on, with this window at hand and these bytes behind it.
pub data InWindows : Bank → ℕ → List ℕ → List ℕ → Judgement → Type 0 where
  last_window : (bank : Bank) (number : ℕ) (window rest : List ℕ) (last : Bool) (r : PartJudged) → JudgesPart bank window last r → MayFollow last rest
      → InWindows bank number window rest (found_by r.finding r.bank (number + r.agreed) (drop r.used window ++ rest))
  next_window : (bank : Bank) (number : ℕ) (window more rest : List ℕ) (r : PartJudged) (j : Judgement) → JudgesPart bank window false r
      → InWindows r.bank (number + r.agreed) (drop r.used window ++ more) rest j → InWindows bank number window (more ++ rest) j

pub windows_judge : (bank : Bank) (number : ℕ) (window rest : List ℕ) (j : Judgement) → InWindows bank number window rest j → judged_from bank number (window ++ rest) ≡ j
windows_judge bank number window rest _ (last_window _ _ _ _ last r judges ok) =
    leads bank window r.agreed r.used r.bank judges.agreed number rest ∙ judges.finds (number + r.agreed) rest ok
windows_judge bank number window _ j (next_window _ _ _ more rest r _ judges later) =
    leads bank window r.agreed r.used r.bank judges.agreed number (more ++ rest)
    ∙ ap (judged_from r.bank (number + r.agreed)) (sym (append_assoc (drop r.used window) more rest))
    ∙ windows_judge r.bank (number + r.agreed) (drop r.used window ++ more) rest j later

-- So behind a good head, whichever of its bytes come first.
pub log_in_windows : (log : List ℕ) (bank : Bank) (window rest : List ℕ) (j : Judgement) → begun log ≡ accepted bank → drop head_length log ≡ window ++ rest
    → InWindows bank 1 window rest j → judged log ≡ j
unfolding judged begun
log_in_windows log bank window rest j begins is windows = go (head_outcome log) begins
  where
    go : (o : Outcome (Unit {0})) → (o >>= λ ready. accepted (fresh_in log)) ≡ accepted bank → judged_if_set_up o (judged_from (fresh_in log) 1 (drop head_length log)) ≡ j
    go (accepted ready) e = let made : fresh_in log ≡ bank = cc in rw (made, is) (windows_judge bank 1 window rest j windows)
    go (refused number) e = apart (cc)

-- Where more is awaited in a window of 262,144 bytes, over 65,000 of them have been used.
pub window_moves : (bank : Bank) (part : List ℕ) (last : Bool) (r : PartJudged) → JudgesPart bank part last r → 262_144 ≤ length part → r.finding ≡ More → 65_531 < r.used
window_moves bank part last r judges full more = omega (arith, (judges.awaits more).1)
