-- The table is never full: the room that an addition asks for is there once the definition has read the form. Assumes nothing.
use mathlib.Core.Path.{◌≡◌}
use mathlib.Core.List.{List, []}
use Prim.Native.Nat.{ℕ, ◌+◌, ◌*◌, ◌≤◌}
use native.Mathlib.Omega.{arith}
use lib.ListN.{length}
use Rattle.capacity.specs.Below.horn.specs.NestedLists.{Items}
use Rattle.capacity.specs.Below.horn.specs.StoredTerms.{Term}
use Rattle.capacity.specs.Below.horn.specs.Checker.{Def, Goal}
use Rattle.capacity.specs.Below.horn.specs.Matching.{Step}
use Rattle.capacity.specs.Below.horn.specs.Certificate.{Witness, Progress}
use Rattle.capacity.specs.Budgets.{GoalBudget, Budget, Roomy}
use Rattle.capacity.proofs.Rooms.{goals_fit, tables_fit}
use Rattle.tables.specs.declared.Tally.{Tally}
use Rattle.tables.specs.Representation.{Tables}
use Rattle.tables.specs.Words.{goal_buckets, entry_words, step_words}

module _ {goals_text certificate table : List ℕ} {buckets : ℕ} {Means : ℕ → Term → Type 0} {Recorded : ℕ → ℕ → ℕ → ℕ → Step → Type 0} {tally : Tally}
    {goals open_goals : List Goal} {goals_bytes certificate_bytes : ℕ} (roomy : Roomy (goal_buckets + buckets) goals_bytes certificate_bytes (length table)) where
  -- While goals are read.
  pub goal_room : {more : List Goal} {left : Items}
      → Tables goals_text certificate table buckets Means Recorded tally goals open_goals [] [] []
      → GoalBudget goals_bytes more left
      → length more ≡ length goals + 1
      → tally.top + entry_words + step_words * 0 ≤ length table
  goal_room h b n = let f = goals_fit roomy b in let t = h.top_is in omega arith

  -- While the certificate is read.
  module _ {defs : List Def} {steps : List Step} {results : List Witness} {next : Progress} {left : Items}
      (h : Tables goals_text certificate table buckets Means Recorded tally goals open_goals defs steps results)
      (few : 11 * length goals ≤ goals_bytes) (b : Budget certificate_bytes next left) where
    pub def_room : length next.defs ≡ length defs + 1 → length next.steps ≡ length steps
        → tally.top + entry_words + step_words * length steps ≤ length table
    def_room d s = let f = tables_fit (length goals) roomy few b in let t = h.top_is in omega arith

    pub step_room : length next.defs ≡ length defs → length next.steps ≡ length steps + 1
        → tally.top + step_words * length steps + step_words ≤ length table
    step_room d s = let f = tables_fit (length goals) roomy few b in let t = h.top_is in omega arith
