-- What holds of the area between two forms: it holds what the definition has so far, and what is still to be read finds room.
use Rattle.std.specs.Prelude.{ℕ, ◌+◌, ◌*◌, ◌≤◌, List, [], length}
use Rattle.capacity.specs.Below.horn.specs.NestedLists.{Items}
use Rattle.capacity.specs.Below.horn.specs.StoredTerms.{Term}
use Rattle.capacity.specs.Below.horn.specs.Checker.{Goal}
use Rattle.capacity.specs.Below.horn.specs.Matching.{Step}
use Rattle.capacity.specs.Below.horn.specs.Certificate.{Progress}
use Rattle.capacity.specs.Budgets.{GoalBudget, Budget, Roomy}
use Rattle.tables.specs.declared.Tally.{Tally}
use Rattle.tables.specs.Representation.{Tables}
use Rattle.tables.specs.Words.{goal_buckets}

module _ (goals_text certificate : List ℕ) (goals_bytes certificate_bytes buckets : ℕ) (Means : ℕ → Term → Type 0) (Recorded : ℕ → ℕ → ℕ → ℕ → Step → Type 0) where
  -- While the goals are read.
  pub record Gathering (table : List ℕ) (tally : Tally) (goals : List Goal) (left : Items) : Type 0 where
    pub tables : Tables goals_text certificate table buckets Means Recorded tally goals goals [] [] []
    pub roomy : Roomy (goal_buckets + buckets) goals_bytes certificate_bytes (length table)
    pub budget : GoalBudget goals_bytes goals left

  -- While the certificate is read.
  pub record Between (table : List ℕ) (tally : Tally) (goals : List Goal) (now : Progress) (left : Items) : Type 0 where
    pub tables : Tables goals_text certificate table buckets Means Recorded tally goals now.open_goals now.defs now.steps now.results
    pub roomy : Roomy (goal_buckets + buckets) goals_bytes certificate_bytes (length table)
    pub few : 11 * length goals ≤ goals_bytes
    pub budget : Budget certificate_bytes now left
