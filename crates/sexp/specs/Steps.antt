-- What a token does at a place: the walk goes on, or it is refused with this number.
use Rattle.std.specs.Prelude.{ℕ}
use Rattle.std.specs.declared.result.Result.{Result}
use Rattle.std.specs.declared.result.Result.TheVariants.{Ok, Err}
use Rattle.outcomes.specs.Told.{number}
use Rattle.outcomes.specs.declared.Refusal as code
use Rattle.sexp.specs.declared.Place.{Place}

pub data Step : Type 0 where
  On : Place → Step
  Refused : ℕ → Step

-- What each case of the code's answer says.
unfoldable pub step_answer : Result Place code.Refusal → Step
step_answer (Ok p) = On p
step_answer (Err e) = Refused (number e)
