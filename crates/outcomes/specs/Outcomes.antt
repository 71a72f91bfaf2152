-- What a function of the walk answers: a value, or a refusal by document 01's number.
use Rattle.std.specs.Prelude.{ℕ, Bool, true, false}
pub use Rattle.names.specs.Below.words.specs.Choice.{pick}
use Rattle.std.proofs.Math.Option.{Option, none, some}

pub data Outcome (A : Type 0) : Type 0 where
  ok : A → Outcome A
  refused : ℕ → Outcome A

infixl 5 ◌>>=◌
abbrev pub ◌>>=◌ : {A B : Type 0} → Outcome A → (A → Outcome B) → Outcome B
ok a >>= f = f a
refused n >>= f = refused n

-- A test whose failure is refused.
abbrev pub need : Bool → ℕ → Outcome (Unit {0})
need true n = ok tt
need false n = refused n

-- A value that may be missing.
abbrev pub or_else : {A : Type 0} → Option A → ℕ → Outcome A
or_else none n = refused n
or_else (some a) n = ok a

-- The number of a refusal.
abbrev pub refusal : {A : Type 0} → Outcome A → ℕ
refusal (ok a) = 0
refusal (refused n) = n
