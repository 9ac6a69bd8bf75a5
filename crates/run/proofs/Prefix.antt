-- The first events of a run that meets the premises meet them: the claims hold at every moment. Assumes nothing.
use mathlib.Core.Path.{◌≡◌, refl, sym, ap, ◌∙◌}
use mathlib.Core.Logic.{⊎_elim}
use mathlib.Core.List.{List, [], ◌∷◌}
use mathlib.Core.Option.{Option, none, some}
use Prim.Native.Nat.{ℕ, zero, suc, ◌≤◌, ◌<◌}
use native.Mathlib.Omega.{arith}
use lib.ListN.{take, get_elem?}
use Rattle.base.specs.Outcome.{Outcome, accepted, refused}
use Rattle.base.specs.declared.party.ClientId.{ClientId}
use Rattle.base.specs.declared.party.RegisterId.{RegisterId}
use Rattle.base.specs.declared.party.ReplicaId.{ReplicaId}
use Rattle.base.proofs.Apart.{apart}
use Rattle.wire.specs.Acceptance.{Sender}
use Rattle.wire.specs.Decode.{decode}
use Rattle.wire.specs.Message.{Message}
use Rattle.wire.specs.Signatures.{Signature, signatures_of}
use Rattle.wire.specs.declared.message.Party.TheVariants.{Replica as AtReplica, Client as AtClient}
use Rattle.protocol.specs.Events.{request_handed, order_handed, write_begun, read_begun, reply_handed, made, proof_handed}
use Rattle.run.specs.Claims.{Claims}
use Rattle.run.specs.Prefix.{prefix}
use Rattle.run.specs.Premises.{TrueVerdicts, TrueFor, TrueAt, event_card, CardOfRun, Premises, Accepted, Used, NewNonces}
use Rattle.run.specs.Run.{Event, at_replica, at_client, Run, after_at_replica, after_at_client, event, bank_at, client_at, answer_to, answer_at, Sent}
use Rattle.run.proofs.Demand3.{demand_3}
use Rattle.run.proofs.Slots.{order}

-- Among the first n, and behind them.
front : {A : Type 0} (n : ℕ) (xs : List A) (t : ℕ) → t < n → get_elem? (take n xs) t ≡ get_elem? xs t
front zero xs t l = absurd (omega arith)
front (suc n) [] t l = refl
front (suc n) (x ∷ xs) zero l = refl
front (suc n) (x ∷ xs) (suc t) l = front n xs t (omega arith)

behind : {A : Type 0} (n : ℕ) (xs : List A) (t : ℕ) → n ≤ t → get_elem? (take n xs) t ≡ none
behind zero xs t l = refl
behind (suc n) [] t l = refl
behind (suc n) (x ∷ xs) zero l = absurd (omega arith)
behind (suc n) (x ∷ xs) (suc t) l = behind n xs t (omega arith)

module _ (R : Run) (n : ℕ) where
  abbrev S : Run
  S = prefix R n

  event_same : (t : ℕ) → t < n → event S t ≡ event R t
  event_same t l = front n R.events t l

  replica_same : (id : ReplicaId) (t : ℕ) → t ≤ n → bank_at S id t ≡ bank_at R id t
  unfolding bank_at
  replica_same id zero l = refl
  replica_same id (suc t) l =
      ap (λ (e : Option Event). after_at_replica id e (bank_at S id t)) (event_same t l) ∙ ap (after_at_replica id (event R t)) (replica_same id t (omega arith))

  client_same : (id : ClientId) (t : ℕ) → t ≤ n → client_at S id t ≡ client_at R id t
  unfolding client_at
  client_same id zero l = refl
  client_same id (suc t) l =
      ap (λ (e : Option Event). after_at_client R.f id e (client_at S id t)) (event_same t l) ∙ ap (after_at_client R.f id (event R t)) (client_same id t (omega arith))

  answer_to_lem : (t : ℕ) (e : Option Event) → t < n → answer_to S t e ≡ answer_to R t e
  unfolding answer_to
  answer_to_lem t none l = refl
  answer_to_lem t (some (at_replica id e)) l = rw (replica_same id t (omega arith)) refl
  answer_to_lem t (some (at_client id e)) l = rw (client_same id t (omega arith)) refl

  answer_same : (t : ℕ) → t < n → answer_at S t ≡ answer_at R t
  answer_same t l = ap (answer_to S t) (event_same t l) ∙ answer_to_lem t (event R t) l

  sent_same : (party : Sender) (bytes : List ℕ) (t : ℕ) → t ≤ n → Sent R party bytes t → Sent S party bytes t
  sent_same party bytes t l s =
      let said = s.said in
      let before = said.earlier in
      let early : said.time < n = omega arith in
      record {
        register = s.register;
        message = s.message;
        said =
            record {
              time = said.time;
              earlier = before;
              by = (said.by.0, event_same said.time early ∙ said.by.1, said.by.2);
              register_is = said.register_is;
              answered = answer_same said.time early ∙ said.answered;
            };
        same_bytes = s.same_bytes;
      }

  true_same : (t : ℕ) (signatures : List Signature) (verdicts : List ℕ) → t ≤ n → TrueVerdicts R t signatures verdicts → TrueVerdicts S t signatures verdicts
  unfolding TrueVerdicts
  true_same t [] verdicts l h = tt
  true_same t (s ∷ ss) [] l h = tt
  true_same t (s ∷ ss) (v ∷ vs) l h = (λ one c. sent_same s.signer s.covers t l (h.0 one c), true_same t ss vs l h.1)

  true_for_lem : (t : ℕ) (bytes verdicts : List ℕ) (out : Outcome (RegisterId × Message)) → t ≤ n → TrueFor R t bytes verdicts out → TrueFor S t bytes verdicts out
  true_for_lem t bytes verdicts (accepted m) l h = true_same t (signatures_of bytes m) verdicts l h
  true_for_lem t bytes verdicts (refused k) l h = tt

  true_at : (t : ℕ) (e : Option Event) → t ≤ n → TrueAt R t e → TrueAt S t e
  unfolding TrueAt
  true_at t none l h = tt
  true_at t (some (at_client id (write_begun x card))) l h = tt
  true_at t (some (at_client id (read_begun x))) l h = tt
  true_at t (some (at_replica id (request_handed bytes verdicts))) l h = true_for_lem t bytes verdicts (decode AtReplica bytes) l h
  true_at t (some (at_replica id (order_handed order))) l h = tt
  true_at t (some (at_client id (made nonce))) l h = tt
  true_at t (some (at_client id (proof_handed x bytes verdicts))) l h = tt
  true_at t (some (at_client id (reply_handed bytes verdicts))) l h = true_for_lem t bytes verdicts (decode AtClient bytes) l h

  none_true : (t : ℕ) → TrueAt S t none
  unfolding TrueAt
  none_true t = tt

  card_same : (card : List ℕ) → CardOfRun S card → CardOfRun R card
  card_same card k = ⊎_elim (λ l. absurd (no l)) here (order n k.time)
    where
      no : n ≤ k.time → ⊥
      no l = let e : event_card S (event S k.time) ≡ none = ap (event_card S) (behind n R.events k.time l) in let c = k.carried in apart (cc)

      here : k.time < n → CardOfRun R card
      here l = record { time = k.time; carried = ap (event_card R) (sym (event_same k.time l)) ∙ k.carried; not_refused = (k.not_refused.0, sym (answer_same k.time l) ∙ k.not_refused.1) }

  accepted_same : (t : ℕ) → t < n → Accepted S t → Accepted R t
  accepted_same t l a = (a.0, sym (answer_same t l) ∙ a.1)

  -- A nonce used in the prefix was used in the run.
  used_same : (id : ClientId) (k t : ℕ) → t ≤ n → Used S id k t → Used R id k t
  used_same id k t l (x, m, a, said) =
      let before = said.earlier in
      let early : said.time < n = omega arith in (
        x,
        m,
        a,
        record {
          time = said.time;
          earlier = before;
          by = (said.by.0, sym (event_same said.time early) ∙ said.by.1, said.by.2);
          register_is = said.register_is;
          answered = sym (answer_same said.time early) ∙ said.answered;
        },
      )

  new_same : Premises R → NewNonces S
  new_same P t id nonce e a k used =
      ⊎_elim (λ l. let none_there = behind n R.events t l in apart (cc))
      (λ l. P.new_nonces_lem t id nonce (sym (event_same t l) ∙ e) (accepted_same t l a) k (used_same id k t (omega arith) used)) (order n t)

  -- A prefix of a run that meets the premises meets them.
  pub prefix_premises : Premises R → Premises S
  prefix_premises P =
      record {
        few_faulty = P.few_faulty;
        true_verdicts_lem = λ t. ⊎_elim (λ l. rw (behind n R.events t l) (none_true t)) (λ l. rw (event_same t l) (true_at t (event R t) (omega arith) (P.true_verdicts_lem t))) (order n t);
        new_nonces_lem = new_same P;
        different_digests_lem = λ card card' k k' e. P.different_digests_lem card card' (card_same card k) (card_same card' k') e;
      }

  -- So the claims hold at every moment of a run.
  pub always : Premises R → (x : RegisterId) → Claims S x
  always P = demand_3 S (prefix_premises P)
