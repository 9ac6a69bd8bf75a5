-- The contracts of the functions that judge.
use Rattle.std.specs.Prelude.{◌≡◌, Bool, false, cond, List, [], ◌++◌, ℕ, ◌+◌, ◌≤◌, ◌<◌, eqb, ltb, length, drop}
use Rattle.std.specs.declared.option.Option.{Option as CodeOption}
use Rattle.std.specs.declared.option.Option.TheVariants.{Some, None}
use Rattle.base.specs.Outcome.{Outcome, accepted, ◌>>=◌}
use Rattle.protocol.specs.Events.{expected, bank_after}
use Rattle.protocol.specs.declared.replica.Bank.{Bank}
use Rattle.audit.specs.Log.{LogEntry, agrees, Judgement, right, wrong, judged_from, head_outcome, fresh_in}
use Rattle.audit.specs.Replaying.{log_bytes, AllAgree, bank_after_all}
use Rattle.audit.specs.declared.judging.Finding.{Finding}
use Rattle.audit.specs.declared.judging.Finding.TheVariants.{Right, Wrong, More}
use Rattle.audit.specs.declared.judging.PartJudged.{PartJudged}

-- The bank that an entry's call leaves, if the entry agrees.
abbrev pub checked_entry : Bank → LogEntry → CodeOption Bank
checked_entry bank e = cond (agrees (expected bank e.received) e.recorded) (Some (bank_after bank e.received)) None

-- An opening byte, three lengths with 65,535 bytes each, and the answer's byte.
abbrev pub longest_entry : ℕ
longest_entry = 196_613

-- Where no whole entry starts: all is right where the log ends, and more is awaited only if an entry may still come of it.
abbrev pub ending_for : List ℕ → Bool → Finding
ending_for bytes last = cond last (cond (eqb (length bytes) 0) Right Wrong) (cond (ltb (length bytes) longest_entry) More Wrong)

-- What is found, for an entry of that number in front of the bytes that are left.
abbrev pub found_by : Finding → Bank → ℕ → List ℕ → Judgement
found_by Right bank number bytes = right
found_by Wrong bank number bytes = wrong number
found_by More bank number bytes = judged_from bank number bytes

-- Nothing comes behind the last part.
abbrev pub MayFollow : Bool → List ℕ → Type 0
MayFollow last rest = cond last rest [] ≡ []

-- Some bytes of a part are entries that agree, so many, and leave this bank.
pub record Agreed (bank : Bank) (part : List ℕ) (agreed used : ℕ) (left : Bank) : Type 0 where
  pub entries : List LogEntry
  pub agree : AllAgree bank entries
  pub many : agreed ≡ length entries
  pub written : part ≡ log_bytes entries ++ drop used part
  pub leaves : left ≡ bank_after_all bank entries
  pub inside : used ≤ length part

-- A part of a log, whatever number its first entry has and whatever comes behind it.
pub record JudgesPart (bank : Bank) (part : List ℕ) (last : Bool) (r : PartJudged) : Type 0 where
  -- What was used agrees, and the bank is the one that it left, also where the next entry is wrong;
  pub agreed : Agreed bank part r.agreed r.used r.bank
  -- and this is found behind it.
  pub finds : (number : ℕ) (rest : List ℕ) → MayFollow last rest
      → judged_from r.bank number (drop r.used part ++ rest) ≡ found_by r.finding r.bank number (drop r.used part ++ rest)
  -- More is awaited only behind a part that is not the last, and what is left of it is shorter than the longest entry.
  pub awaits : r.finding ≡ More → (last ≡ false) × (length part < r.used + longest_entry)

-- The bank that a head sets up, or its refusal.
unfoldable pub begun : List ℕ → Outcome Bank
begun log = head_outcome log >>= λ ready. accepted (fresh_in log)
