-- What a call reports of what its walks answer, beside the definition's report. Assumes nothing.
use Prim.Native.Nat.{ℕ}
use mathlib.Core.Path.{◌≡◌}
use mathlib.Core.Logic.{◌≢◌}

-- Two reports are one, and its number is not one of those that leave the areas untouched.
pub record Reported {R : Type 0} (number : ℕ) (defined report : R) : Type 0 where
  pub same : defined ≡ report
  pub not_1 : number ≢ 1
  pub not_2 : number ≢ 2
