-- One turn of the loop over the goals, on the side of the model.
use Prim.Native.Nat.{ℕ, suc, ◌+◌, ◌-◌, ◌<◌, ◌≤◌}
use mathlib.Core.Path.{◌≡◌}
use mathlib.Core.List.{List}
use native.Mathlib.Omega.{arith}
use Rattle.lex.specs.declared.Reader.{Reader}
use Rattle.outcomes.specs.Outcomes.{refused}
use Rattle.outcomes.specs.Leaving.{◌leaving◌, ◌>>=◌}
use Rattle.tables.specs.declared.Tally.{Tally}
use Rattle.asking.specs.Asking.{form_due}
use Rattle.goals.specs.Goals.{one_goal, goals_from}

module _ (text rules heap : List ℕ) (tally : Tally) (r : Reader) (store stack table : List ℕ) (e t : ℕ) where
  pub turn : t < e → goals_from (e - t) text rules heap tally r store stack table
      ≡ (form_due text r leaving ((store, stack), table)
      >>= λ x. one_goal (goals_from (e - (t + 1)) text rules heap) text rules heap tally x.0 store stack table)
  unfolding goals_from
  turn l = let z : e - t ≡ suc (e - (t + 1)) = omega arith in rw z

  pub over : e ≤ t → goals_from (e - t) text rules heap tally r store stack table ≡ (refused 2 leaving ((store, stack), table))
  unfolding goals_from
  over l = let z : e - t ≡ 0 = omega arith in rw z

pub ruleset turns = (turn, over)
