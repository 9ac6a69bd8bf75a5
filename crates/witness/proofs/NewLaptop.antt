-- Document 02, #106, the request's story, as a run at f = 1 that meets the premises: a client's slot is open at every correct replica; its new laptop is
-- refused with 15, made once more, and handed another client's written proof; with that its write is finished, and neither of the interrupted ones
-- is. Replica 4 is faulty. Assumes nothing.
use mathlib.Core.Path.{◌≡◌, refl, ap, ◌∙◌}
use mathlib.Core.List.{List, ◌∷◌, ◌++◌}
use mathlib.Core.Option.{none, some}
use mathlib.Core.Bool.{true}
use Prim.Native.Nat.{ℕ, ◌<◌}
use native.Mathlib.Omega.{arith}
use lib.Dec.{lit<, lit≤}
use lib.ListN.{length, get_or, get_elem?}
use Rattle.base.specs.Counting.{count}
use Rattle.base.specs.Outcome.{accepted, refused}
use Rattle.base.specs.Range.{within}
use Rattle.base.specs.declared.party.ReplicaId.{ReplicaId}
use Rattle.base.specs.declared.party.RegisterId.{RegisterId}
use Rattle.base.specs.declared.timestamp.Timestamp.{Timestamp}
use Rattle.protocol.specs.Client.{send, waits}
use Rattle.run.proofs.Demand3.{demand_3}
use Rattle.run.proofs.SentMessages.{sent_legal}
use Rattle.run.specs.Claims.{Finished, Claims}
use Rattle.run.specs.Premises.{Accepted, Premises}
use Rattle.run.specs.ReadsFrom.{Write}
use Rattle.run.specs.Run.{Event, begins_write, to_replica, makes, proof_to, register_of, Run, event, answer_at, At}
use Rattle.wire.specs.Acceptance.{client}
use Rattle.wire.specs.Message.{Message, READ-STAMP, PREPARE, Fits}
use Rattle.wire.proofs.RoundTrip.{body_message}
use Rattle.wire.specs.Proof.{proof_bytes}
use Rattle.witness.proofs.Answers.{code, carries_on, is_accepted}
use Rattle.witness.proofs.AnyWrite.{Writing, prepare, prepared, prepared_proof, written_proof, asking, preparing_at, prepare_bytes, whole_write}
use Rattle.witness.proofs.Cast.{replica_1, replica_2, replica_3, register_1, client_1, client_2, 1·1, by_1_2_4, one, three, service, lathe, service_digest, lathe_digest}
use Rattle.witness.proofs.Computing.{messages}
use Rattle.witness.proofs.FirstWrite.{first}
use Rattle.witness.proofs.Checked.{tests, Checked, run_of, goes_as_told, meets_premises}
use Rattle.witness.proofs.Story.{Line, ◌↝◌, ◌↛◌, Told, none_between, Sends, sends_told, refused_told, event_told, answer_told, AllBetween, finished_told, broken_off, all_bytes, all_bytes_lem}

-- ---- The writes

abbrev pub at-1·2 : Timestamp
at-1·2 = record { count = 1; client = client_2 }

abbrev at-2·1 : Timestamp
at-2·1 = record { count = 2; client = client_1 }

-- Client 1's, of `service` and, on its new laptop, of `lathe`: both ask for 1.1.
abbrev old_write : Writing
old_write = first register_1 1 service service_digest

abbrev pub held_up : Writing
held_up = first register_1 2 lathe lathe_digest

-- Client 2's, at 1.2.
abbrev pub other : Writing
other = record { register = register_1; id = client_2; nonce = 1; card = service; digest = service_digest; timestamp = at-1·2; held = none; last = none }

-- Client 1's on the laptop that was made last, at 2.1: it shows client 2's written proof.
abbrev new_write : Writing
new_write =
    record {
      register = register_1;
      id = client_1;
      nonce = 3;
      card = lathe;
      digest = lathe_digest;
      timestamp = at-2·1;
      held = some (prepared_proof other);
      last = some (written_proof other);
    }

-- Its PREPARE on the new laptop, at a replica, and client 2's written proof, handed to it.
abbrev asks_again : ReplicaId → Event
asks_again r = to_replica r (prepare_bytes held_up) one

abbrev handing : Event
handing = proof_to client_1 register_1 (proof_bytes (written_proof other)) three

-- ---- What happens: replicas 1 to 3 and clients 1 and 2 are correct

unfoldable pub story : List Line
story =
    -- 0 to 8: client 1 begins to write `service`, and every correct replica prepares 1.1. Then its laptop is gone.
    asking old_write
    ++ (preparing_at old_write replica_1
    ∷ preparing_at old_write replica_2
    ∷ preparing_at old_write replica_3
    -- 9 to 18: a new one, with nonce 2. It writes `lathe`, asks for 1.1 again, and 15 comes back everywhere.
    ∷ makes client_1 2 ↝ waits
    ∷ asking held_up
    ++ (asks_again replica_1 ↛ 15
    ∷ asks_again replica_2 ↛ 15
    ∷ asks_again replica_3 ↛ 15
    -- 19 to 34: client 2 writes `service` at 1.2.
    ∷ whole_write other
    -- 35 to 38: client 1 is busy, and takes no proof: it is made once more. With nonce 0 it is not. Then it takes client 2's proof.
    ++ (handing ↛ 17
    ∷ makes client_1 0 ↛ 16
    ∷ makes client_1 3 ↝ waits
    ∷ handing ↝ waits
    -- 39 to 54: it writes `lathe` again, and shows that proof: its slots are closed, and it is done.
    ∷ whole_write new_write)))

checked : Checked 3 2 story
unfolding story tests
checked = record { at_most_four = lit≤ tt; at_most_96 = lit≤ tt; well_told_lem = refl; answers = refl; few_faulty = lit≤ tt; verdicts_true = refl; new_nonces_lem = refl; no_other_cards = refl }

pub run : Run
run = run_of checked

pub as_told : Told run story
unfolding run
as_told = goes_as_told checked

-- ---- The run meets the premises, and the theorem is applied to it

pub premises : Premises run
unfolding run
premises = meets_premises checked

pub claims : (x : RegisterId) → Claims run x
claims = demand_3 run premises

-- ---- Its finished operations, and those that never are

pub other_done : Finished run register_1
unfolding story code messages
other_done = finished_told run story as_told register_1 client_2 19 34 _ _ _ at-1·2 service by_1_2_4 refl (lit< tt) refl refl refl true (service, refl) refl

pub new_done : Finished run register_1
unfolding story code messages
new_done = finished_told run story as_told register_1 client_1 39 54 _ _ _ at-2·1 lathe by_1_2_4 refl (lit< tt) refl refl refl true (lathe, refl) refl

-- The interrupted write, and the one that 15 came back to.
interrupted : (o : Finished run register_1) → o.begun ≡ 0 → ⊥
unfolding story code messages
interrupted = broken_off run story as_told register_1 client_1 0 9 2 _ _ refl refl (lit< tt) refl refl

held_up_too : (o : Finished run register_1) → o.begun ≡ 10 → ⊥
unfolding story code messages
held_up_too = broken_off run story as_told register_1 client_1 10 37 3 _ _ refl refl (lit< tt) refl refl

-- ---- One correct client asked for 1.1 twice, with two cards

prepare_fits : (digest : List ℕ) → length digest ≡ 32 → all_bytes digest ≡ true → Fits (PREPARE client_1 1·1 digest none none)
unfolding Fits
prepare_fits digest long bytes = (lit< tt, lit< tt, (long, all_bytes_lem digest bytes), tt, tt)

-- What is told of a PREPARE by its bytes is this PREPARE.
asked : (t : ℕ) (digest : List ℕ) (at : At run t (client client_1)) → length digest ≡ 32 → all_bytes digest ≡ true → Sends run register_1 t (PREPARE client_1 1·1 digest none none)
    → answer_at run t ≡ accepted (send (PREPARE client_1 1·1 digest none none))
unfolding run within
asked t digest at long bytes (m, e, same) =
    e ∙ ap (λ (m : Message). accepted (send m)) (body_message register_1 register_1 m (PREPARE client_1 1·1 digest none none) (sent_legal run (client client_1) refl t m at e).fits (prepare_fits digest long bytes) same)

first_at : At run 5 (client client_1)
unfolding run story
first_at = (_, event_told run story as_told 5 _ refl, refl)

second_at : At run 15 (client client_1)
unfolding run story
second_at = (_, event_told run story as_told 15 _ refl, refl)

-- Two writes with one timestamp and two cards, in a run that meets the premises: so a write that takes no effect lies nowhere in `Atomic`'s order.
pub first_asked : answer_at run 5 ≡ accepted (send (PREPARE client_1 1·1 service_digest none none))
unfolding story messages all_bytes
first_asked = asked 5 service_digest first_at refl refl (sends_told run story as_told 5 _ (PREPARE client_1 1·1 service_digest none none) refl)

pub second_asked : answer_at run 15 ≡ accepted (send (PREPARE client_1 1·1 lathe_digest none none))
unfolding story messages all_bytes
second_asked = asked 15 lathe_digest second_at refl refl (sends_told run story as_told 15 _ (PREPARE client_1 1·1 lathe_digest none none) refl)

begun_with_lem : (t : ℕ) (card : List ℕ) (nonce : ℕ) → get_elem? story t ≡ some (begins_write client_1 register_1 card ↝ send (READ-STAMP client_1 nonce)) → (event run t ≡ some (begins_write client_1 register_1 card)) × Accepted run t
begun_with_lem t card nonce at =
    let line = begins_write client_1 register_1 card ↝ send (READ-STAMP client_1 nonce) in
    (event_told run story as_told t line at, is_accepted register_1 (answer_at run t) (send (READ-STAMP client_1 nonce)) (answer_told run story as_told t line at))

write_at : (begun prepared : ℕ) (card digest : List ℕ) (nonce : ℕ) → get_elem? story begun ≡ some (begins_write client_1 register_1 card ↝ send (READ-STAMP client_1 nonce)) → begun < prepared
    → (at : At run prepared (client client_1)) → answer_at run prepared ≡ accepted (send (PREPARE client_1 1·1 digest none none)) → AllBetween story carries_on (client client_1) begun prepared → Write run register_1
write_at begun prepared card digest nonce begun_at after at asked all =
    let start = begun_with_lem begun card nonce begun_at in
    record {
      id = client_1;
      card = card;
      begun = begun;
      begins = start.0;
      not_refused = start.1;
      timestamp = 1·1;
      digest = digest;
      shown = none;
      last = none;
      prepared = prepared;
      after = after;
      at_client = at;
      prepares = asked;
      none_between = none_between run story as_told client_1 begun prepared all;
    }

pub asked_twice : (w : Write run register_1) × (w' : Write run register_1) × (w.timestamp ≡ w'.timestamp) × (w.card ≡ w'.card → ⊥) × (w.begun ≡ w'.begun → ⊥)
unfolding story code messages first_at second_at first_asked second_asked write_at
asked_twice = (
  write_at 0 5 service service_digest 1 refl (lit< tt) first_at first_asked refl,
  write_at 10 15 lathe lathe_digest 2 refl (lit< tt) second_at second_asked refl,
  refl,
  λ e. let third : ◌≡◌ {A = ℕ} 1 3 = ap (λ (c : List ℕ). get_or c 2 0) e in omega arith,
  λ e. let z : ◌≡◌ {A = ℕ} 0 10 = e in omega arith,
)

-- ---- The request's story

-- Some event is this one, and it is refused with that number.
abbrev RefusedAt : Run → ℕ → Event → ℕ → Type 0
RefusedAt R t e number = (event R t ≡ some e) × (answer_at R t ≡ refused number)

pub record NewLaptop (R : Run) : Type 0 where
  pub meets : Premises R
  -- Every correct replica has prepared 1.1 of client 1, whose laptop is then gone. The new one asks for 1.1 with another card, and each refuses it:
  pub prepared_by : (Sends R register_1 6 (prepared old_write replica_1)) × (Sends R register_1 7 (prepared old_write replica_2)) × (Sends R register_1 8 (prepared old_write replica_3))
  pub slot_open : RefusedAt R 16 (asks_again replica_1) 15 × RefusedAt R 17 (asks_again replica_2) 15 × RefusedAt R 18 (asks_again replica_3) 15
  -- it stays busy, so that it takes no proof, and with nonce 0 it is not made once more.
  pub busy : RefusedAt R 35 handing 17
  pub nonce_0 : RefusedAt R 36 (makes client_1 0) 16
  -- Client 2 has finished a write at a later timestamp. Its written proof is handed to client 1 once that is made again with nonce 3,
  pub other : Finished R register_1
  pub other_is : (other.id ≡ client_2) × (other.timestamp ≡ at-1·2) × (other.finished < 37)
  pub made_once_more : (event R 37 ≡ some (makes client_1 3)) × Accepted R 37
  pub handed : (event R 38 ≡ some handing) × Accepted R 38
  -- is shown, and closes the slot at a replica that had it open.
  pub shown : Sends R register_1 44 (prepare new_write)
  pub closes : Sends R register_1 45 (prepared new_write replica_1)
  -- The write is finished; the two interrupted ones never are.
  pub finished : Finished R register_1
  pub finished_is : (finished.id ≡ client_1) × (finished.timestamp ≡ at-2·1) × (finished.card ≡ lathe)
  pub not_finished : ((o : Finished R register_1) → o.begun ≡ 0 → ⊥) × ((o : Finished R register_1) → o.begun ≡ 10 → ⊥)

refused_at : (t : ℕ) (e : Event) (number : ℕ) → get_elem? story t ≡ some (e ↛ number) → RefusedAt run t e number
refused_at t e number at = (event_told run story as_told t (e ↛ number) at, refused_told run story as_told t e number at)

taken_at : (t : ℕ) (e : Event) → get_elem? story t ≡ some (e ↝ waits) → (event run t ≡ some e) × Accepted run t
taken_at t e at = (event_told run story as_told t (e ↝ waits) at, is_accepted (register_of e) (answer_at run t) waits (answer_told run story as_told t (e ↝ waits) at))

pub new_laptop : NewLaptop run
unfolding story messages finished_told other_done new_done
new_laptop =
    record {
      meets = premises;
      prepared_by = (
        sends_told run story as_told 6 _ (prepared old_write replica_1) refl,
        sends_told run story as_told 7 _ (prepared old_write replica_2) refl,
        sends_told run story as_told 8 _ (prepared old_write replica_3) refl,
      );
      slot_open = (refused_at 16 (asks_again replica_1) 15 refl, refused_at 17 (asks_again replica_2) 15 refl, refused_at 18 (asks_again replica_3) 15 refl);
      busy = refused_at 35 handing 17 refl;
      nonce_0 = refused_at 36 (makes client_1 0) 16 refl;
      other = other_done;
      other_is = (refl, refl, lit< tt);
      made_once_more = taken_at 37 (makes client_1 3) refl;
      handed = taken_at 38 handing refl;
      shown = sends_told run story as_told 44 _ (prepare new_write) refl;
      closes = sends_told run story as_told 45 _ (prepared new_write replica_1) refl;
      finished = new_done;
      finished_is = (refl, refl, refl);
      not_finished = (interrupted, held_up_too);
    }
