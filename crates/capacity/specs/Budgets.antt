-- The budgets of the tables: what was stored, and what is still to be read, fit the text together.
use Rattle.std.specs.Prelude.{ℕ, ◌+◌, ◌*◌, ◌≤◌, List, length}
use Rattle.horn.specs.NestedLists.{Items}
use Rattle.horn.specs.Checker.{Goal}
use Rattle.horn.specs.Certificate.{Progress}
use Rattle.capacity.specs.Costs.{items_bytes}

-- A goal takes 11 bytes at least: `(goal g(p))`.
pub record GoalBudget (limit : ℕ) (goals : List Goal) (left : Items) : Type 0 where
  pub bound : 11 * length goals + items_bytes left ≤ limit

-- An abbreviation takes 10 bytes at least, `(def ?a z)`, and a step 12, `(step 0 r())`.
pub record Budget (limit : ℕ) (now : Progress) (left : Items) : Type 0 where
  pub bound : 10 * length now.defs + 12 * length now.steps + items_bytes left ≤ limit

-- An area of so many words has room for what texts of these lengths can declare, where its entries begin at `base`: 4 words for each 11
-- bytes of the goals text and for each 10 of the certificate, times 110.
pub record Roomy (base goals_bytes certificate_bytes words : ℕ) : Type 0 where
  pub fits : 110 * base + 40 * goals_bytes + 44 * certificate_bytes ≤ 110 * words
