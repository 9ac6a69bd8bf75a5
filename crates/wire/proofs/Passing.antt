-- A refusal that `?` passes on. Assumes nothing.
use Rattle.std.proofs.Common.{◌≡◌, Result}
use Rattle.std.proofs.lemmas.Result.{err_from_is_err_and}
use Rattle.std.specs.Result.{IsErrAnd}
use Rattle.base.specs.Outcome.{Outcome, refused}
use Rattle.base.specs.Refusal.{number_of, outcome}
use Rattle.base.specs.declared.refusal.Refusal.{Refusal}

pub passed_on : {A : Type 0} {o : Outcome A} (answer : Result A Refusal) (refusal : Refusal) → IsErrAnd answer (λ e. e ≡ refusal) → refused (number_of refusal) ≡ o → outcome answer ≡ o
passed_on answer refusal was e = let p = err_from_is_err_and answer was in rw (p.1, p.2) e
