-- What a judgement says of the log, in both directions. Assumes nothing.
use mathlib.Core.Path.{◌≡◌, refl, sym, ap, subst, ◌∙◌}
use mathlib.Core.Logic.{◌↔◌, ◌⊎◌, inl, inr}
use mathlib.Core.Bool.{Bool, true, false, cond}
use mathlib.Core.List.{List, [], ◌∷◌, ◌++◌, append_assoc, append-nil}
use mathlib.Core.Option.{Option, none, some}
use Prim.Native.Nat.{ℕ, zero, suc, ◌+◌, ◌≤◌}
use native.Mathlib.Omega.{arith}
use borrow.Author.Tests.{leb-true, leb-false}
use lib.Dec.{leb}
use lib.ListN.{length, drop}
use Rattle.base.specs.BigEndian.{Bytes}
use Rattle.base.specs.Outcome.{Outcome, accepted, refused}
use Rattle.base.proofs.Apart.{apart}
use Rattle.base.proofs.BigEndian.{bytes_drop}
use Rattle.protocol.specs.Events.{expected, bank_after}
use Rattle.protocol.specs.Bank.{fresh_bank}
use Rattle.protocol.specs.declared.replica.Bank.{Bank}
use Rattle.protocol.proofs.SetUp.{set_up_cases}
use Rattle.audit.specs.Log.{LogEntry, Front, front_of, agrees, entry_in, right, wrong, judged_from, head_length, fault_bound_in, replica_id_in, key_in, set_up_in, fresh_in, head_outcome, judged_if_set_up, judged}
use Rattle.audit.specs.Replaying.{HeadFails, entry_bytes, log_bytes, head_bytes, Agrees, AllAgree, bank_after_all, Replays, Stops}
use Rattle.audit.proofs.Agreeing.{judged_all}
use Rattle.audit.proofs.Entries.{entry_shorter}
use Rattle.audit.proofs.Heads.{short_refused, long_set_up, head_split, judged_head}
use Rattle.audit.proofs.Judged.{judged_end, judged_none, judged_some}
use Rattle.audit.proofs.Written.{entry_written, bytes_behind, entry_reads}

-- ---- Bytes that decide

-- Bytes that start with no entry that agrees.
record Stuck (bank : Bank) (rest : List ℕ) : Type 0 where
  more : rest ≡ [] → ⊥
  stops : (e : LogEntry) (behind : List ℕ) → rest ≡ entry_bytes e ++ behind → Agrees bank e → ⊥

stuck_wrong : (bank : Bank) (number : ℕ) (rest : List ℕ) → Bytes rest → Stuck bank rest → judged_from bank number rest ≡ wrong number
stuck_wrong bank number rest small stuck = go (entry_in rest) refl
  where
    go : (o : Option (Front LogEntry)) → entry_in rest ≡ o → judged_from bank number rest ≡ wrong number
    go none e = judged_none bank number rest stuck.more e
    go (some r) e = judged_some bank number rest r e ∙ test (agrees (expected bank r.item.received) r.item.recorded) refl
      where
        test : (b : Bool) → agrees (expected bank r.item.received) r.item.recorded ≡ b → cond b (judged_from (bank_after bank r.item.received) (suc number) r.rest) (wrong number) ≡ wrong number
        test true a = let reads = entry_reads rest small r e in absurd (stuck.stops r.item r.rest reads.0 (record { well_formed = reads.1; same_answer = a }))
        test false a = refl

-- ---- All bytes are entries that agree, and then nothing or bytes that are stuck

record Walked (bank : Bank) (bytes : List ℕ) : Type 0 where
  entries : List LogEntry
  rest : List ℕ
  agree : AllAgree bank entries
  written : bytes ≡ log_bytes entries ++ rest
  end : (rest ≡ []) ⊎ Stuck (bank_after_all bank entries) rest

abbrev Walks : ℕ → Type 0
Walks k = (bank : Bank) (bytes : List ℕ) → length bytes ≤ k → Bytes bytes → Walked bank bytes

ended : (bank : Bank) → Walked bank []
unfolding AllAgree log_bytes
ended bank = record { entries = []; rest = []; agree = tt; written = refl; end = inl refl }

stuck_here : (bank : Bank) (bytes : List ℕ) → Stuck bank bytes → Walked bank bytes
unfolding AllAgree log_bytes bank_after_all
stuck_here bank bytes stuck = record { entries = []; rest = bytes; agree = tt; written = refl; end = inr stuck }

one_more : (bank : Bank) (bytes : List ℕ) (e : LogEntry) (rest : List ℕ) → bytes ≡ entry_bytes e ++ rest → Agrees bank e → Walked (bank_after bank e.received) rest → Walked bank bytes
unfolding AllAgree log_bytes bank_after_all
one_more bank bytes e rest is agree w =
    record {
      entries = e ∷ w.entries;
      rest = w.rest;
      agree = (agree, w.agree);
      written = is ∙ ap (λ (l : List ℕ). entry_bytes e ++ l) w.written ∙ sym (append_assoc (entry_bytes e) (log_bytes w.entries) w.rest);
      end = w.end;
    }

walk_one : (k : ℕ) → Walks k → Walks (suc k)
walk_one k walks bank [] h small = ended bank
walk_one k walks bank (b ∷ bytes) h small = go (entry_in (b ∷ bytes)) refl
  where
    there : b ∷ bytes ≡ [] → ⊥
    there e = let size = ap length e in omega arith

    go : (o : Option (Front LogEntry)) → entry_in (b ∷ bytes) ≡ o → Walked bank (b ∷ bytes)
    go none missing =
        stuck_here bank (b ∷ bytes)
        (record { more = there; stops = λ e behind is agree. let written = entry_written e behind agree.well_formed in let found = ap entry_in is in apart (cc) })
    go (some r) found = test (agrees (expected bank r.item.received) r.item.recorded) refl
      where
        test : (t : Bool) → agrees (expected bank r.item.received) r.item.recorded ≡ t → Walked bank (b ∷ bytes)
        test true a =
            let reads = entry_reads (b ∷ bytes) small r found in
            let small_rest : Bytes r.rest = bytes_behind (entry_bytes r.item) r.rest (rw reads.0 at small) in
            let shorter = entry_shorter (b ∷ bytes) r found in
            one_more bank (b ∷ bytes) r.item r.rest reads.0 (record { well_formed = reads.1; same_answer = a }) (walks (bank_after bank r.item.received) r.rest (omega arith) small_rest)
        test false a =
            stuck_here bank (b ∷ bytes)
            (record {
              more = there;
              stops = λ e behind is agree.
                  let again : ◌≡◌ {A = Option (Front LogEntry)} (some r) (some (front_of e behind)) = sym found ∙ ap entry_in is ∙ entry_written e behind agree.well_formed in
                  let same : r.item ≡ e = let whole : r ≡ front_of e behind = cc in ap (λ (f : Front LogEntry). f.item) whole in
                  let yes_there = agree.same_answer in
                  let no_there : agrees (expected bank e.received) e.recorded ≡ false = ap (λ (e : LogEntry). agrees (expected bank e.received) e.recorded) (sym same) ∙ a in
                  apart (cc);
            })

walk : (k : ℕ) → Walks k
walk zero bank [] h small = ended bank
walk zero bank (b ∷ bytes) h small = absurd (omega arith)
walk (suc k) bank bytes h small = walk_one k (λ bank bytes. walk k bank bytes) bank bytes h small

-- ---- Heads

head_wrong : (log : List ℕ) → HeadFails log → judged log ≡ wrong 0
unfolding judged
head_wrong log fails = ap (λ (o : Outcome (Unit {0})). judged_if_set_up o (judged_from (fresh_in log) 1 (drop head_length log))) (bad fails)
  where
    bad : HeadFails log → head_outcome log ≡ refused 16
    bad (inl short) = short_refused log short
    bad (inr e) = go (leb head_length (length log)) refl
      where
        go : (b : Bool) → leb head_length (length log) ≡ b → head_outcome log ≡ refused 16
        go true t = long_set_up log (leb-true head_length (length log) t) ∙ e
        go false t = short_refused log (leb-false head_length (length log) t)

-- ---- From the log to the judgement

pub replays_right : (log : List ℕ) → Replays log → judged log ≡ right
replays_right log r =
    let bank = fresh_bank r.f r.id r.key in
    ap judged r.written ∙ judged_head r.f r.id r.key (log_bytes r.entries) r.set_up ∙ ap (judged_from bank 1) (sym (append-nil (log_bytes r.entries)))
    ∙ judged_all r.entries bank 1 [] r.agree ∙ judged_end (bank_after_all bank r.entries) (1 + length r.entries)

stops_wrong : (log : List ℕ) → Bytes log → (n : ℕ) → Stops log n → judged log ≡ wrong (suc n)
stops_wrong log small n s =
    let bank = fresh_bank s.f s.id s.key in
    let behind_head : Bytes (log_bytes s.entries ++ s.rest) = bytes_behind (head_bytes s.f s.id s.key) (log_bytes s.entries ++ s.rest) (rw s.written at small) in
    let small_rest : Bytes s.rest = bytes_behind (log_bytes s.entries) s.rest behind_head in
    let number : 1 + length s.entries ≡ suc n = omega (arith, s.many) in
    ap judged s.written ∙ judged_head s.f s.id s.key (log_bytes s.entries ++ s.rest) s.set_up ∙ judged_all s.entries bank 1 s.rest s.agree
    ∙ stuck_wrong (bank_after_all bank s.entries) (1 + length s.entries) s.rest small_rest (record { more = s.more; stops = s.stops }) ∙ ap wrong number

-- ---- Every log is one of three

data Cases (log : List ℕ) : Type 0 where
  head_fails : HeadFails log → Cases log
  replays : Replays log → Cases log
  stops : (n : ℕ) → Stops log n → Cases log

module _ (log : List ℕ) where
  behind_head : head_length ≤ length log → set_up_in log ≡ accepted tt → Walked (fresh_in log) (drop head_length log) → Cases log
  behind_head long good w = go w.end
    where
      split : log ≡ head_bytes (fault_bound_in log) (replica_id_in log) (key_in log) ++ (log_bytes w.entries ++ w.rest)
      split = head_split log long ∙ ap (λ (l : List ℕ). head_bytes (fault_bound_in log) (replica_id_in log) (key_in log) ++ l) w.written

      go : (w.rest ≡ []) ⊎ Stuck (bank_after_all (fresh_in log) w.entries) w.rest → Cases log
      go (inl none_left) =
          replays (record {
            f = fault_bound_in log;
            id = replica_id_in log;
            key = key_in log;
            entries = w.entries;
            set_up = good;
            agree = w.agree;
            written = split ∙ ap (λ (l : List ℕ). head_bytes (fault_bound_in log) (replica_id_in log) (key_in log) ++ (log_bytes w.entries ++ l)) none_left
                ∙ ap (λ (l : List ℕ). head_bytes (fault_bound_in log) (replica_id_in log) (key_in log) ++ l) (append-nil (log_bytes w.entries));
          })
      go (inr stuck) =
          stops (length w.entries) (record {
            f = fault_bound_in log;
            id = replica_id_in log;
            key = key_in log;
            entries = w.entries;
            rest = w.rest;
            set_up = good;
            agree = w.agree;
            many = refl;
            written = split;
            more = stuck.more;
            stops = stuck.stops;
          })

  cases : Bytes log → Cases log
  cases small = go (leb head_length (length log)) refl (set_up_cases (fault_bound_in log) (replica_id_in log) (key_in log))
    where
      go : (b : Bool) → leb head_length (length log) ≡ b → (set_up_in log ≡ accepted tt) ⊎ (set_up_in log ≡ refused 16) → Cases log
      go false t set_up = head_fails (inl (leb-false head_length (length log) t))
      go true t (inr bad) = head_fails (inr bad)
      go true t (inl good) =
          behind_head (leb-true head_length (length log) t) good (walk (length (drop head_length log)) (fresh_in log) (drop head_length log) (omega arith) (bytes_drop head_length log small))

-- ---- From the judgement to the log

module _ (log : List ℕ) (small : Bytes log) where
  pub right_exactly : (judged log ≡ right) ↔ Replays log
  right_exactly = (λ e. go e (cases log small), replays_right log)
    where
      go : judged log ≡ right → Cases log → Replays log
      go e (head_fails h) = let other = head_wrong log h in apart (cc)
      go e (replays r) = r
      go e (stops n s) = let other = stops_wrong log small n s in apart (cc)

  pub first_wrong : (n : ℕ) → (judged log ≡ wrong (suc n)) ↔ Stops log n
  first_wrong n = (λ e. go e (cases log small), stops_wrong log small n)
    where
      go : judged log ≡ wrong (suc n) → Cases log → Stops log n
      go e (head_fails h) = let other = head_wrong log h in let z : 0 ≡ suc n = cc in absurd (omega arith)
      go e (replays r) = let other = replays_right log r in apart (cc)
      go e (stops m s) = let other = stops_wrong log small m s in let same : m ≡ n = cc in subst (Stops log) same s

  pub wrong_head : (judged log ≡ wrong 0) ↔ HeadFails log
  wrong_head = (λ e. go e (cases log small), head_wrong log)
    where
      go : judged log ≡ wrong 0 → Cases log → HeadFails log
      go e (head_fails h) = h
      go e (replays r) = let other = replays_right log r in apart (cc)
      go e (stops m s) = let other = stops_wrong log small m s in let z : suc m ≡ 0 = cc in absurd (omega arith)
