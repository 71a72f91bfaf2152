-- What the walks answer where a refusal stands by its number, whichever number that is.
use Rattle.std.specs.Prelude.{ℕ}
use Rattle.std.specs.declared.result.Result.{Result}
use Rattle.std.specs.declared.result.Result.TheVariants.{Ok, Err}
use Rattle.outcomes.specs.Outcomes.{Outcome, ok, refused}

-- A value, or a refusal by its number.
abbrev pub numbered : {A : Type 0} → Result A ℕ → Outcome A
numbered (Ok a) = ok a
numbered (Err n) = refused n
