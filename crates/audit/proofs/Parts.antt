-- A part of a log is judged entry by entry, whatever comes behind it. Assumes nothing.
use mathlib.Core.Path.{◌≡◌, refl, sym, ap, subst, ◌∙◌}
use mathlib.Core.Bool.{Bool, true, false, cond}
use mathlib.Core.List.{List, [], ◌++◌, append-nil}
use mathlib.Core.Option.{none, some}
use Prim.Native.Nat.{ℕ, ◌+◌, ◌-◌, ◌≤◌, ◌<◌}
use native.Mathlib.Omega.{arith}
use borrow.Author.Tests.{eqb-true, eqb-false, ltb-true, ltb-false}
use lib.Dec.{eqb, ltb}
use lib.ListN.{length, drop, length-drop, length-append, drop_of_length-le}
use Rattle.std.specs.declared.option.Option.{Option as CodeOption}
use Rattle.std.specs.declared.option.Option.TheVariants.{Some, None}
use Rattle.base.specs.BigEndian.{Bytes}
use Rattle.base.proofs.Apart.{apart}
use Rattle.base.proofs.BigEndian.{bytes_drop}
use Rattle.protocol.specs.Events.{expected, bank_after}
use Rattle.protocol.specs.declared.replica.Bank.{Bank}
use Rattle.audit.specs.Judging.{checked_entry, longest_entry, ending_for, found_by, MayFollow, Agreed, JudgesPart}
use Rattle.audit.specs.Log.{LogEntry, front_of, agrees, entry_in, judged_from}
use Rattle.audit.specs.Reading.{entry_by, FindsEntry}
use Rattle.audit.specs.declared.judging.Finding.{Finding}
use Rattle.audit.specs.declared.judging.Finding.TheVariants.{Right, Wrong, More}
use Rattle.audit.specs.declared.reading.EntryPlaces.{EntryPlaces}
use Rattle.audit.proofs.Agreeing.{none_agreed, one_agreed}
use Rattle.audit.proofs.Entries.{entry_reader, none_in_long, entry_shorter}
use Rattle.audit.proofs.Judged.{judged_end, judged_none, judged_some}
use Rattle.audit.proofs.Written.{entry_reads}

-- What was used agreed, and each entry has used a byte.
pub record SoFar (bank : Bank) (part : List ℕ) (left : Bank) (agreed used : ℕ) : Type 0 where
  pub agree : Agreed bank part agreed used left
  pub few : agreed ≤ used

-- What a turn of the loop knows: an entry was read and checked.
pub record EntryTurn (bank : Bank) (part : List ℕ) (left : Bank) (agreed used : ℕ) (p : EntryPlaces) (checked : CodeOption Bank) : Type 0 where
  pub rises : 1 ≤ p.end
  pub stays : used + p.end ≤ length part
  pub few : agreed ≤ used
  pub further : (next : Bank) → checked ≡ Some next → SoFar bank part next (agreed + 1) (used + p.end)
  pub differs : checked ≡ None → (last : Bool) → JudgesPart bank part last (record { finding = Wrong; agreed = agreed; used = used; bank = left })

module _ (bank : Bank) (part : List ℕ) where
  pub start : SoFar bank part bank 0 0
  start = record { agree = none_agreed bank part; few = omega arith }

  module _ (small : Bytes part) (left : Bank) (agreed used : ℕ) (so_far : SoFar bank part left agreed used) where
    size : length (drop used part) ≡ length part - used
    size = length-drop used part

    -- No whole entry starts behind what was used.
    module _ (reads : FindsEntry (drop used part) None) where
      missing : entry_in (drop used part) ≡ none
      missing = sym reads.is

      not_empty : (length (drop used part) ≡ 0 → ⊥) → (rest : List ℕ) → drop used part ++ rest ≡ [] → ⊥
      not_empty some_there rest e = some_there (let sum = length-append (drop used part) rest in let nothing = ap length e in omega arith)

      judgement : (l short empty : Bool) → ltb (length (drop used part)) longest_entry ≡ short → eqb (length (drop used part)) 0 ≡ empty
          → (number : ℕ) (rest : List ℕ) → MayFollow l rest
          → judged_from left number (drop used part ++ rest) ≡ found_by (cond l (cond empty Right Wrong) (cond short More Wrong)) left number (drop used part ++ rest)
      judgement true short true s e number rest ok =
          let nothing : drop used part ≡ [] = drop_of_length-le (drop used part) {i = 0} (omega (arith, eqb-true (length (drop used part)) 0 e)) in
          rw (nothing, ok) (judged_end left number)
      judgement true short false s e number rest ok =
          judged_none left number (drop used part ++ rest) (not_empty (eqb-false (length (drop used part)) 0 e) rest) (rw (ok, append-nil (drop used part)) missing)
      judgement false true empty s e number rest ok = refl
      judgement false false empty s e number rest ok =
          let long = ltb-false (length (drop used part)) longest_entry s in
          judged_none left number (drop used part ++ rest) (not_empty (λ none_there. omega arith) rest)
          (none_in_long (drop used part) (bytes_drop used part small) long missing rest)

      awaiting : (l short empty : Bool) → ltb (length (drop used part)) longest_entry ≡ short → cond l (cond empty Right Wrong) (cond short More Wrong) ≡ More
          → (l ≡ false) × (length part < used + longest_entry)
      awaiting true short true s e = apart (cc)
      awaiting true short false s e = apart (cc)
      awaiting false true empty s e = let below = ltb-true (length (drop used part)) longest_entry s in (refl, omega (arith, size, so_far.agree.inside))
      awaiting false false empty s e = apart (cc)

      ends : (last : Bool) → JudgesPart bank part last (record { finding = ending_for (drop used part) last; agreed = agreed; used = used; bank = left })
      ends last =
          record {
            agreed = so_far.agree;
            finds = judgement last (ltb (length (drop used part)) longest_entry) (eqb (length (drop used part)) 0) refl refl;
            awaits = λ e. awaiting last (ltb (length (drop used part)) longest_entry) (eqb (length (drop used part)) 0) refl e;
          }

    -- An entry starts there, and was checked.
    module _ (p : EntryPlaces) (checked : CodeOption Bank) (reads : FindsEntry (drop used part) (Some p)) (checks : checked ≡ checked_entry left (entry_by (drop used part) p)) where
      abbrev found : LogEntry
      found = entry_by (drop used part) p

      abbrev after : Bank
      after = bank_after left found.received

      entry_there : entry_in (drop used part) ≡ some (front_of found (drop p.end (drop used part)))
      entry_there = sym reads.is

      rises : 1 ≤ p.end
      rises = let shorter = entry_shorter (drop used part) _ entry_there in let less = length-drop p.end (drop used part) in omega arith

      stays : used + p.end ≤ length part
      stays = omega (arith, reads.inside, so_far.agree.inside, size)

      further : agrees (expected left found.received) found.recorded ≡ true → SoFar bank part after (agreed + 1) (used + p.end)
      further agree =
          let written = entry_reads (drop used part) (bytes_drop used part small) _ entry_there in
          record {
            agree = one_agreed bank part agreed used left so_far.agree found p.end written.0 (record { well_formed = written.1; same_answer = agree }) stays;
            few = let one = rises in omega (arith, so_far.few);
          }

      differs : agrees (expected left found.received) found.recorded ≡ false → (last : Bool)
          → JudgesPart bank part last (record { finding = Wrong; agreed = agreed; used = used; bank = left })
      differs other last =
          record {
            agreed = so_far.agree;
            finds = λ number rest ok. judged_some left number (drop used part ++ rest) _ (entry_reader.stays (drop used part) rest _ entry_there) ∙ rw other;
            awaits = λ e. apart (cc);
          }

      turn : EntryTurn bank part left agreed used p checked
      turn = go (agrees (expected left found.received) found.recorded) refl
        where
          go : (b : Bool) → agrees (expected left found.received) found.recorded ≡ b → EntryTurn bank part left agreed used p checked
          go true e =
              let is : checked ≡ Some after = checks ∙ rw e in
              record {
                rises = rises;
                stays = stays;
                few = so_far.few;
                further = λ next some_next. let same : after ≡ next = cc in subst (λ (b : Bank). SoFar bank part b (agreed + 1) (used + p.end)) same (further e);
                differs = λ none_next. apart (cc);
              }
          go false e =
              let is : checked ≡ None = checks ∙ rw e in
              record { rises = rises; stays = stays; few = so_far.few; further = λ next some_next. apart (cc); differs = λ none_next. differs e }

-- The same of the bytes that the loop has at hand: no whole entry starts them,
module _ {bank left : Bank} {part rest : List ℕ} {agreed used : ℕ} (so_far : SoFar bank part left agreed used) (is : rest ≡ drop used part) where
  pub ended : {last : Bool} {finding : Finding} → FindsEntry rest None → finding ≡ ending_for rest last → Bytes part
      → JudgesPart bank part last (record { finding = finding; agreed = agreed; used = used; bank = left })
  ended {last} reads found small = rw (found, is) (ends bank part small left agreed used so_far (rw is at reads) last)

  -- or an entry does, which was checked.
  pub turned : {p : EntryPlaces} {checked : CodeOption Bank} → FindsEntry rest (Some p) → checked ≡ checked_entry left (entry_by rest p) → Bytes part
      → EntryTurn bank part left agreed used p checked
  turned {p} {checked} reads checks small = turn bank part small left agreed used so_far p checked (rw is at reads) (rw is at checks)
