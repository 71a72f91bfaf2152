-- One turn of the search for a variable, on the side of the models.
use Prim.Native.Nat.{ℕ, suc, ◌+◌, ◌-◌, ◌<◌, ◌≤◌}
use mathlib.Core.Path.{◌≡◌}
use mathlib.Core.Bool.{true, false}
use mathlib.Core.List.{List}
use mathlib.Core.Option.{none, some}
use native.Mathlib.Omega.{arith}
use Rattle.words.specs.Parts.{same_bytes}
use Rattle.variables.specs.Variables.{name_of_variable, variable_from}

module _ (area text : List ℕ) (place : ℕ) (key : List ℕ) (n : ℕ) where
  module _ (i : ℕ) where
    pub variable_here : i < n → same_bytes (name_of_variable area text place i) key ≡ true → variable_from (n - i) area text place key i ≡ some i
    unfolding variable_from
    variable_here l h = let e : n - i ≡ suc (n - (i + 1)) = omega arith in rw (e, h)

    pub variable_on : i < n → same_bytes (name_of_variable area text place i) key ≡ false
        → variable_from (n - i) area text place key i ≡ variable_from (n - (i + 1)) area text place key (i + 1)
    unfolding variable_from
    variable_on l h = let e : n - i ≡ suc (n - (i + 1)) = omega arith in rw (e, h)

    pub variable_nowhere : n ≤ i → variable_from (n - i) area text place key i ≡ none
    unfolding variable_from
    variable_nowhere l = let e : n - i ≡ 0 = omega arith in rw e

pub ruleset turns = (variable_here, variable_on, variable_nowhere)
