-- A run as it stood at an earlier moment: its first events.
use Rattle.std.specs.Prelude.{◌≡◌, List, [], ◌∷◌, ℕ, zero, suc, take}
use Rattle.std.proofs.Math.Option.{some}
use Rattle.std.proofs.Math.ListN.{get_elem?}
use Rattle.base.proofs.Apart.{apart}
use Rattle.run.specs.Run.{begins_write, makes, proof_to, Run}

-- What stands among the first elements stands in the list.
pub in_prefix : {A : Type 0} (n : ℕ) (xs : List A) (t : ℕ) (x : A) → get_elem? (take n xs) t ≡ some x → get_elem? xs t ≡ some x
in_prefix zero xs t x e = apart (cc)
in_prefix (suc n) [] t x e = apart (cc)
in_prefix (suc n) (y ∷ xs) zero x e = e
in_prefix (suc n) (y ∷ xs) (suc t) x e = in_prefix n xs t x e

-- The first n events, or all if there are fewer.
abbrev pub prefix : Run → ℕ → Run
prefix R n =
    record {
      f = R.f;
      correct_replica = R.correct_replica;
      correct_client = R.correct_client;
      first_nonce_lem = R.first_nonce_lem;
      office_key = R.office_key;
      events = take n R.events;
      f_in_range = R.f_in_range;
      replicas_in_range = R.replicas_in_range;
      clients_in_range = R.clients_in_range;
      keys_in_range = R.keys_in_range;
      writers_begin = λ t id x card q. R.writers_begin t id x card (in_prefix n R.events t (begins_write id x card) q);
      writers_made = λ t id nonce q. R.writers_made t id nonce (in_prefix n R.events t (makes id nonce) q);
      writers_take = λ t id x bytes verdicts q. R.writers_take t id x bytes verdicts (in_prefix n R.events t (proof_to id x bytes verdicts) q);
      have_bytes = λ t e q. R.have_bytes t e (in_prefix n R.events t e q);
      at_correct = λ t e q. R.at_correct t e (in_prefix n R.events t e q);
    }
