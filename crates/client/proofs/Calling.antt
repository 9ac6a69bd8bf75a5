-- The contract of the calls, from what they leave. Assumes nothing.
use mathlib.Core.Path.{◌≡◌, refl, ap, ◌∙◌}
use mathlib.Core.List.{List}
use Prim.Native.Nat.{ℕ}
use lib.Seq.{take-append_seam}
use lib.ListN.{length, drop}
use Rattle.std.specs.declared.result.Result.{Result}
use Rattle.std.specs.declared.result.Result.TheVariants.{Ok, Err}
use Rattle.base.specs.Outcome.{Outcome, accepted, refused}
use Rattle.base.specs.declared.party.RegisterId.{RegisterId}
use Rattle.base.specs.declared.refusal.Refusal.{Refusal}
use Rattle.base.proofs.Filling.{filled_zeros}
use Rattle.wire.specs.Writing.{unsigned}
use Rattle.protocol.specs.Client.{Turn, ClientCall, client_answers, Meaning, client_outcome, step_outcome, begin_write, begin_read, client_step, begin_write_call, begin_read_call, client_call}
use Rattle.protocol.specs.RegisterReplica.{with_output}
use Rattle.protocol.specs.Viewer.{viewer_step, viewer_call}
use Rattle.protocol.specs.declared.client.Client.{Client}
use Rattle.client.specs.Leaving.{call_of, stepped}
use Rattle.client.specs.Stepping.{Calls}
use Rattle.client.specs.declared.answers.Taken.{Taken}
use Rattle.client.specs.declared.role.Role.TheVariants.{Ordinary, Viewing}
use Rattle.client.proofs.Shorts.{Short, refuses, sends, waiting, finishes, ends, short_write, short_read, short_step}

abbrev says_of : ClientCall → Outcome Meaning
says_of made = client_outcome made.answer made.card_length made.card made.output

call_says : (client : Client) (old : List ℕ) (step : Outcome Turn) → Short step → says_of (client_answers client old step) ≡ step_outcome step
call_says client old (refused number) refuses = refl
call_says client old (accepted turn) (sends {message = m} {next = next}) = rw (take-append_seam (unsigned next.register m) (drop (length (unsigned next.register m)) old))
call_says client old (accepted turn) waiting = refl
call_says client old (accepted turn) (finishes {card = card} h) = rw (filled_zeros 17 card h, take-append_seam card)
call_says client old (accepted turn) ends = refl

module _ (client : Client) (old : List ℕ) (taken : Result Taken Refusal) (new : List ℕ) where
  from_call : (step : Outcome Turn) → Short step → (made : ClientCall) → call_of client taken new ≡ made → says_of made ≡ step_outcome step → Calls made step (stepped client taken) new
  from_call step short made e says = go taken e
    where
      go : (taken : Result Taken Refusal) → call_of client taken new ≡ made → Calls made step (stepped client taken) new
      go (Ok taken) e =
          record {
            answer = ap (λ (made : ClientCall). made.answer) e;
            card_length = ap (λ (made : ClientCall). made.card_length) e;
            card = ap (λ (made : ClientCall). made.card) e;
            client = ap (λ (made : ClientCall). made.client) e;
            output = ap (λ (made : ClientCall). made.output) e;
            says = ap says_of e ∙ says;
          }
      go (Err refusal) e =
          record {
            answer = ap (λ (made : ClientCall). made.answer) e;
            card_length = ap (λ (made : ClientCall). made.card_length) e;
            card = ap (λ (made : ClientCall). made.card) e;
            client = ap (λ (made : ClientCall). made.client) e;
            output = ap (λ (made : ClientCall). made.output) e;
            says = ap says_of e ∙ says;
          }

  calls : (step : Outcome Turn) → Short step → call_of client taken new ≡ client_answers client old step → Calls (client_answers client old step) step (stepped client taken) new
  calls step short e = from_call step short (client_answers client old step) e (call_says client old step short)

  pub write_calls : (register : RegisterId) (card : List ℕ) → call_of client taken new ≡ client_answers client old (with_output old (begin_write client register card))
      → Calls (begin_write_call client register card old) (with_output old (begin_write client register card)) (stepped client taken) new
  unfolding begin_write_call
  write_calls register card e = calls (with_output old (begin_write client register card)) (short_write client old register card) e

  pub read_calls : (register : RegisterId) → call_of client taken new ≡ client_answers client old (with_output old (begin_read client register))
      → Calls (begin_read_call client register old) (with_output old (begin_read client register)) (stepped client taken) new
  unfolding begin_read_call
  read_calls register e = calls (with_output old (begin_read client register)) (short_read client old register) e

  pub step_calls : (bytes verdicts : List ℕ) → call_of client taken new ≡ client_answers client old (with_output old (client_step client bytes verdicts))
      → Calls (client_call client bytes verdicts old) (with_output old (client_step client bytes verdicts)) (stepped client taken) new
  unfolding client_call
  step_calls bytes verdicts e = calls (with_output old (client_step client bytes verdicts)) (short_step client old Ordinary bytes verdicts) e

  pub view_calls : (bytes verdicts : List ℕ) → call_of client taken new ≡ client_answers client old (with_output old (viewer_step client bytes verdicts))
      → Calls (viewer_call client bytes verdicts old) (with_output old (viewer_step client bytes verdicts)) (stepped client taken) new
  unfolding viewer_call
  view_calls bytes verdicts e = calls (with_output old (viewer_step client bytes verdicts)) (short_step client old Viewing bytes verdicts) e
