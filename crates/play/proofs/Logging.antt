-- Log and store behind a call: the messages sent before stay, and the one that is sent is read back whole. Assumes nothing.
use mathlib.Core.Path.{◌≡◌, refl, sym, ap, subst, ◌∙◌}
use mathlib.Core.Bool.{Bool, true, false, cond}
use mathlib.Core.List.{List, [], ◌∷◌, ◌++◌}
use Prim.Native.Nat.{ℕ, zero, suc, ◌+◌, ◌*◌, ◌≤◌, ◌<◌}
use native.Mathlib.Omega.{arith}
use borrow.Author.Tests.{ltb-true, lt-ltb, eqb-true, eqb-false}
use lib.Dec.{eqb, ltb}
use lib.ListN.{length, get_or, take, drop, set, length-set, length-drop, take-append-drop}
use lib.Seq.{take_all, take-nil, drop-drop, get_or-set_same, get_or-set_other}
use Rattle.base.specs.BigEndian.{Bytes}
use Rattle.wire.specs.Decode.{register_in}
use Rattle.wire.specs.Message.{Message, Legal, size, longest}
use Rattle.wire.specs.Writing.{unsigned, in_front, blank_signature}
use Rattle.wire.proofs.RoundTrip.{register_encoded}
use Rattle.wire.proofs.Size.{encode_size}
use Rattle.protocol.proofs.ArrayLaws.{blank_signature_lem, replaced_length, replaced_bytes, replaced_here, replaced_before}
use Rattle.protocol.proofs.MessageBytes.{unsigned_bytes}
use Rattle.play.specs.Calls.{the_register, sent_before, free}
use Rattle.play.specs.Log.{start, sent_length, message, logged}
use Rattle.play.specs.declared.log.Log.{Log}

-- Every message of the log is for the register, and the next one has its place behind them.
pub record Logs (log : Log) (store : List ℕ) : Type 0 where
  pub lengths_long : length log.lengths ≡ 100
  pub few : log.count ≤ 100
  pub room : longest * log.count ≤ length store
  pub bytes : Bytes store
  pub for_register_lem : (before : ℕ) → before < log.count → register_in (take longest (message log store before)) ≡ the_register

-- What a call leaves of the log and of its output: both as they were, or a message for the register more.
pub data Sends (log : Log) (old : List ℕ) : Log → List ℕ → Type 0 where
  nothing : Sends log old log old
  one : (m : Message) → Legal the_register m → longest ≤ length old → Sends log old (logged (length (unsigned the_register m)) log) (in_front (unsigned the_register m) old)

take_swap : (a b : ℕ) (l : List ℕ) → take a (take b l) ≡ take b (take a l)
take_swap zero b l = sym (take-nil {A = ℕ} b)
take_swap (suc a) zero l = refl
take_swap (suc a) (suc b) [] = refl
take_swap (suc a) (suc b) (x ∷ l) = ap (λ (rest : List ℕ). x ∷ rest) (take_swap a b l)

module _ (log : Log) (store : List ℕ) (logs : Logs log store) (m : Message) (legal : Legal the_register m) (roomy : longest ≤ length (free log store)) where
  abbrev sent : List ℕ
  sent = unsigned the_register m

  abbrev place : ℕ
  place = longest * log.count

  abbrev next : Log
  next = record { count = log.count + 1; lengths = set log.lengths log.count (length sent) }

  -- The store with the message in its place.
  abbrev stored : List ℕ
  stored = take place store ++ (sent ++ drop (place + length sent) store)

  short : length sent ≤ longest
  short = let is = encode_size the_register m blank_signature legal.fits blank_signature_lem in let h = legal.short in omega arith

  at_place : start log.count (length store) ≡ place
  unfolding start
  at_place = let h = logs.room in omega arith

  inside : place + longest ≤ length store
  unfolding free
  inside = let behind = ap (λ (n : ℕ). length (drop n store)) at_place ∙ length-drop place store in let h = logs.room in omega arith

  fits : place + length sent ≤ length store
  fits = let a = short in let b = inside in omega arith

  pub stored_is : sent_before log store ++ in_front sent (free log store) ≡ stored
  unfolding sent_before free
  stored_is =
      ap (λ (n : ℕ). take n store ++ (sent ++ drop (length sent) (drop n store))) at_place
      ∙ ap (λ (l : List ℕ). take place store ++ (sent ++ l)) (drop-drop (length sent) place store)

  same_length : length stored ≡ length store
  same_length = replaced_length place (place + length sent) sent store refl fits

  -- A message starts where it started.
  starts : (before : ℕ) → before ≤ log.count → (start before (length store) ≡ longest * before) × (start before (length stored) ≡ longest * before)
  unfolding start
  starts before h = let room = logs.room in let same = same_length in (omega arith, omega arith)

  -- The messages before it are those that were there,
  earlier : (later : Log) (before : ℕ) → before < log.count → get_or later.lengths before 0 ≡ get_or log.lengths before 0
      → take longest (message later stored before) ≡ take longest (message log store before)
  unfolding message sent_length
  earlier later before h size =
      let at = starts before (omega arith) in
      let low : before < 100 = let few = logs.few in omega arith in
      rw (at.0, at.1, lt-ltb before 100 low, size)
      (take_swap longest (get_or log.lengths before 0) (drop (longest * before) stored)
      ∙ ap (take (get_or log.lengths before 0)) (replaced_before place (place + length sent) sent store refl fits longest (longest * before) (omega arith))
      ∙ take_swap (get_or log.lengths before 0) longest (drop (longest * before) store))

  -- and it is itself read back.
  latest : log.count < 100 → take longest (message next stored log.count) ≡ sent
  unfolding message sent_length
  latest h =
      let at = starts log.count (omega arith) in
      let size = get_or-set_same log.lengths log.count (length sent) 0 (let long = logs.lengths_long in omega arith) in
      rw (at.1, lt-ltb log.count 100 h, size)
      (ap (take longest) (replaced_here place (place + length sent) sent store refl fits (length sent) refl) ∙ take_all longest sent short)

  stored_bytes : Bytes stored
  stored_bytes = replaced_bytes place (place + length sent) sent store refl fits (unsigned_bytes the_register m legal.fits) logs.bytes

  one_more : log.count < 100 → Logs next stored
  one_more h = record {
    lengths_long = length-set log.lengths log.count (length sent) ∙ logs.lengths_long;
    few = omega arith;
    room = let a = inside in let b = same_length in omega arith;
    bytes = stored_bytes;
    for_register_lem = λ before below. each before below (eqb before log.count) refl;
  }
    where
      each : (before : ℕ) → before < log.count + 1 → (b : Bool) → eqb before log.count ≡ b → register_in (take longest (message next stored before)) ≡ the_register
      each before below true e =
          ap (λ (n : ℕ). register_in (take longest (message next stored n))) (eqb-true before log.count e)
          ∙ ap register_in (latest h) ∙ register_encoded the_register m blank_signature (omega arith) legal.fits
      each before below false e =
          let other = eqb-false before log.count e in
          let lower : before < log.count = omega arith in
          let size = get_or-set_other log.lengths log.count before (length sent) 0 other in
          ap register_in (earlier next before lower size) ∙ logs.for_register_lem before lower

  -- A full log keeps what it has.
  no_more : Logs log stored
  no_more = record {
    lengths_long = logs.lengths_long;
    few = logs.few;
    room = let a = logs.room in let b = same_length in omega arith;
    bytes = stored_bytes;
    for_register_lem = λ before below. ap register_in (earlier log before below refl) ∙ logs.for_register_lem before below;
  }

  pub logs_one : Logs (logged (length sent) log) stored
  unfolding logged
  logs_one = go (ltb log.count 100) refl
    where
      go : (b : Bool) → ltb log.count 100 ≡ b → Logs (cond b next log) stored
      go true e = one_more (ltb-true log.count 100 e)
      go false e = no_more

pub logs_on : (log : Log) (store : List ℕ) → Logs log store → (next : Log) (new : List ℕ) → Sends log (free log store) next new → Logs next (sent_before log store ++ new)
unfolding sent_before free
logs_on log store logs next new nothing = subst (Logs log) (sym (take-append-drop (start log.count (length store)) store)) logs
logs_on log store logs next new (one m legal roomy) =
    subst (Logs (logged (length (unsigned the_register m)) log)) (sym (stored_is log store logs m legal roomy)) (logs_one log store logs m legal roomy)
