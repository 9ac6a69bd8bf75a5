-- Answers as numbers, so that a test compares them, and what its passing says. Assumes nothing.
use mathlib.Core.Path.{◌≡◌, refl, ap, ◌∙◌}
use mathlib.Core.Bool.{Bool, true, false, ◌&&◌, ◌||◌, not, false≢true}
use mathlib.Core.List.{List, [], ◌∷◌}
use Prim.Native.Nat.{ℕ, ◌^◌, ◌<◌}
use native.Mathlib.Omega.{arith}
use borrow.Author.Tests.{eqb-false}
use lib.Dec.{eqb}
use lib.ListN.{get_or, take, drop}
use Rattle.base.specs.BigEndian.{from_bytes, to_bytes}
use Rattle.base.specs.Outcome.{Outcome, accepted, refused}
use Rattle.base.specs.declared.party.ClientId.{ClientId}
use Rattle.base.specs.declared.party.RegisterId.{RegisterId}
use Rattle.base.specs.declared.replica_set.ReplicaSet.{ReplicaSet}
use Rattle.base.specs.declared.timestamp.Timestamp.{Timestamp}
use Rattle.base.proofs.Apart.{apart}
use Rattle.base.proofs.BigEndian.{from_bytes_to_bytes}
use Rattle.protocol.specs.Client.{Answer, send, waits, done, ended}
use Rattle.run.specs.Premises.{Asks, for_stamps, for_cards}
use Rattle.wire.specs.Message.{Message, READ-STAMP, READ, fields, joined, body}

-- ---- Tests and what they say

pub no_test : {A : Type 0} → false ≡ true → A
no_test h = absurd (false≢true h)

-- ---- Answers

abbrev done_code : Timestamp → List ℕ → ReplicaSet → List ℕ
done_code timestamp card signers = timestamp.count ∷ timestamp.client.0 ∷ signers.0 ∷ card

-- An answer to an event of a register; a message counts by the bytes that its signature covers.
unfoldable pub code : RegisterId → Outcome Answer → List ℕ
code x (accepted (send message)) = 0 ∷ body x message
code x (accepted waits) = 1 ∷ []
code x (accepted (done timestamp card signers)) = 2 ∷ done_code timestamp card signers
code x (accepted ended) = 3 ∷ []
code x (refused number) = 4 ∷ number ∷ []

other_code : {A : Type 0} (a b : ℕ) (xs ys : List ℕ) → eqb a b ≡ false → a ∷ xs ≡ b ∷ ys → A
other_code a b xs ys test e = let heads : a ≡ b = cc in absurd (eqb-false a b test heads)

pub is_sent : (x : RegisterId) (answer : Outcome Answer) (message : Message) → code x answer ≡ code x (accepted (send message)) → (m : Message) × (answer ≡ accepted (send m)) × (body x m ≡ body x message)
unfolding code
is_sent x (accepted (send m)) message e = (m, refl, cc)
is_sent x (accepted waits) message e = other_code 1 0 [] (body x message) refl e
is_sent x (accepted (done timestamp card signers)) message e = other_code 2 0 (done_code timestamp card signers) (body x message) refl e
is_sent x (accepted ended) message e = other_code 3 0 [] (body x message) refl e
is_sent x (refused number) message e = other_code 4 0 (number ∷ []) (body x message) refl e

module _ (x : RegisterId) (timestamp : Timestamp) (card : List ℕ) (signers : ReplicaSet) where
  pub is_done_lem : (answer : Outcome Answer) → code x answer ≡ code x (accepted (done timestamp card signers)) → answer ≡ accepted (done timestamp card signers)
  unfolding code
  is_done_lem (accepted (send m)) e = other_code 0 2 (body x m) (done_code timestamp card signers) refl e
  is_done_lem (accepted waits) e = other_code 1 2 [] (done_code timestamp card signers) refl e
  is_done_lem (accepted (done t c s)) e =
      let counted : t.count ≡ timestamp.count = cc in
      let clients : t.client.0 ≡ timestamp.client.0 = cc in
      let sets : s.0 ≡ signers.0 = cc in
      let cards : c ≡ card = cc in
      λ i. accepted (done (record { count = counted i; client = record { 0 = clients i } }) (cards i) (record { 0 = sets i }))
  is_done_lem (accepted ended) e = other_code 3 2 [] (done_code timestamp card signers) refl e
  is_done_lem (refused number) e = other_code 4 2 (number ∷ []) (done_code timestamp card signers) refl e

pub is_accepted : (x : RegisterId) (answer : Outcome Answer) (told : Answer) → code x answer ≡ code x (accepted told) → (a : Answer) × (answer ≡ accepted a)
unfolding code
is_accepted x (accepted a) told e = (a, refl)
is_accepted x (refused number) (send message) e = other_code 4 0 (number ∷ []) (body x message) refl e
is_accepted x (refused number) waits e = other_code 4 1 (number ∷ []) [] refl e
is_accepted x (refused number) (done timestamp card signers) e = other_code 4 2 (number ∷ []) (done_code timestamp card signers) refl e
is_accepted x (refused number) ended e = other_code 4 3 (number ∷ []) [] refl e

pub is_refused_lem : (x : RegisterId) (answer : Outcome Answer) (number : ℕ) → code x answer ≡ code x (refused number) → answer ≡ refused number
unfolding code
is_refused_lem x (accepted (send message)) number e = other_code 0 4 (body x message) (number ∷ []) refl e
is_refused_lem x (accepted waits) number e = other_code 1 4 [] (number ∷ []) refl e
is_refused_lem x (accepted (done timestamp card signers)) number e = other_code 2 4 (done_code timestamp card signers) (number ∷ []) refl e
is_refused_lem x (accepted ended) number e = other_code 3 4 [] (number ∷ []) refl e
is_refused_lem x (refused other) number e = let same : other ≡ number = cc in λ i. refused (same i)

abbrev pub is_refused : Outcome Answer → Bool
is_refused (accepted answer) = false
is_refused (refused number) = true

-- An answer is not what is told to be refused.
pub not_refused : (x : RegisterId) (answer : Answer) (told : Outcome Answer) → code x (accepted answer) ≡ code x told → is_refused told ≡ true → ⊥
not_refused x answer (accepted told) e h = no_test h
not_refused x answer (refused number) e h = let is = is_refused_lem x (accepted answer) number e in apart (cc)

-- What an answer's numbers say: neither done nor ended; counted.
abbrev pub carries_on : List ℕ → Bool
carries_on numbers = not (eqb (get_or numbers 0 0) 2 || eqb (get_or numbers 0 0) 3)

abbrev pub is_counted : List ℕ → Bool
is_counted numbers = eqb (get_or numbers 0 0) 1

pub is_counted_lem : (x : RegisterId) (answer : Outcome Answer) → is_counted (code x answer) ≡ true → answer ≡ accepted waits
unfolding code
is_counted_lem x (accepted (send message)) h = no_test h
is_counted_lem x (accepted waits) h = refl
is_counted_lem x (accepted (done timestamp card signers)) h = no_test h
is_counted_lem x (accepted ended) h = no_test h
is_counted_lem x (refused number) h = no_test h

-- A question, READ-STAMP or READ, by its kind, and its nonce.
abbrev pub is_question : List ℕ → Bool
is_question numbers = eqb (get_or numbers 0 1) 0 && (eqb (get_or numbers 3 0) 1 || eqb (get_or numbers 3 0) 4)

abbrev pub asked_nonce : List ℕ → ℕ
asked_nonce numbers = from_bytes (take 8 (drop 5 numbers))

nonce_stands : (x : RegisterId) (id : ClientId) (n : ℕ)
    → (take 8 (drop 5 (code x (accepted (send (READ-STAMP id n))))) ≡ to_bytes 8 n) × (take 8 (drop 5 (code x (accepted (send (READ id n))))) ≡ to_bytes 8 n)
unfolding code body fields joined to_bytes
nonce_stands x id n = (refl, refl)

asks_stand : (x : RegisterId) (id : ClientId) (n : ℕ) → (is_question (code x (accepted (send (READ-STAMP id n)))) ≡ true) × (is_question (code x (accepted (send (READ id n)))) ≡ true)
unfolding code body fields joined to_bytes
asks_stand x id n = (refl, refl)

pub question_told : (x : RegisterId) (id : ClientId) (n : ℕ) (m : Message) → Asks id n m → n < 2 ^ 64 → (is_question (code x (accepted (send m))) ≡ true) × (asked_nonce (code x (accepted (send m))) ≡ n)
question_told x id n m (for_stamps e) small = (
  ap (λ (m : Message). is_question (code x (accepted (send m)))) e ∙ (asks_stand x id n).0,
  ap (λ (m : Message). asked_nonce (code x (accepted (send m)))) e ∙ ap from_bytes (nonce_stands x id n).0 ∙ from_bytes_to_bytes 8 n (omega arith),
)
question_told x id n m (for_cards e) small = (
  ap (λ (m : Message). is_question (code x (accepted (send m)))) e ∙ (asks_stand x id n).1,
  ap (λ (m : Message). asked_nonce (code x (accepted (send m)))) e ∙ ap from_bytes (nonce_stands x id n).1 ∙ from_bytes_to_bytes 8 n (omega arith),
)
