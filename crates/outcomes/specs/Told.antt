-- What the code's answers say: the number of each refusal, which is the paper's, and a value or a refusal by its number.
use Rattle.std.specs.Prelude.{ℕ}
use Rattle.std.specs.declared.result.Result.{Result}
use Rattle.std.specs.declared.result.Result.TheVariants.{Ok, Err}
use Rattle.outcomes.specs.Outcomes.{Outcome, ok, refused}
use Rattle.outcomes.specs.declared.Refusal.{Refusal}
use Rattle.outcomes.specs.declared.Refusal.TheVariants as refusals

-- Column "No." of the table, and 31 for an output that is too long.
abbrev pub number : Refusal → ℕ
number refusals.AreaShort = 1
number refusals.TextLong = 2
number refusals.NotUtf8 = 3
number refusals.Nesting = 4
number refusals.TextEnds = 5
number refusals.StrayClosing = 6
number refusals.AtomOrList = 7
number refusals.EmptyList = 8
number refusals.Form = 9
number refusals.Excess = 10
number refusals.VariableName = 11
number refusals.Unknown = 12
number refusals.Duplicate = 13
number refusals.TwoSorts = 14
number refusals.SortArity = 15
number refusals.BracketedConstant = 16
number refusals.NoGoal = 17
number refusals.NotNumber = 18
number refusals.StepOrder = 19
number refusals.ReferenceCount = 20
number refusals.BadBinding = 21
number refusals.SecondConclusion = 22
number refusals.BadConclusion = 23
number refusals.NoSuchStep = 24
number refusals.BadPremise = 25
number refusals.Unbound = 26
number refusals.OtherJudgment = 27
number refusals.StoreFull = 28
number refusals.GoalOpen = 29
number refusals.NotOpened = 30
number refusals.OutputLong = 31

-- A value, or a refusal by its number.
abbrev pub told : {A : Type 0} → Result A Refusal → Outcome A
told (Ok a) = ok a
told (Err e) = refused (number e)

-- The same where the definition has the value in a form of its own.
abbrev pub told_as : {A B : Type 0} → (A → B) → Result A Refusal → Outcome B
told_as f (Ok a) = ok (f a)
told_as f (Err e) = refused (number e)
