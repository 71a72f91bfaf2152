-- One turn of the loop over a node's arguments, on the side of the models. Assumes nothing.
use Prim.Native.Nat.{ℕ, suc, ◌+◌, ◌-◌, ◌<◌, ◌≤◌}
use mathlib.Core.Path.{◌≡◌}
use mathlib.Core.Bool.{true, false}
use mathlib.Core.List.{List}
use native.Mathlib.Omega.{arith}
use Rattle.outcomes.specs.Outcomes.{pick}
use Rattle.theory_reading.specs.Reading.{fits_input, all_fit}

module _ (head : ℕ → ℕ) (heap : List ℕ) (c n k : ℕ) where
  pub turn : k < n → all_fit head heap c (n - k) k ≡ pick (fits_input heap (head k) c k) (λ _. all_fit head heap c (n - (k + 1)) (k + 1)) (λ _. false)
  unfolding all_fit
  turn l = let e : n - k ≡ suc (n - (k + 1)) = omega arith in rw e

  pub over : n ≤ k → all_fit head heap c (n - k) k ≡ true
  unfolding all_fit
  over l = let e : n - k ≡ 0 = omega arith in rw e

pub ruleset fits = (turn, over)
