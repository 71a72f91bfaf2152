-- L2 in document 02: "A step is used if a result leans on it, directly or through other steps."
use Rattle.std.specs.Prelude.{ℕ, zero, suc, ◌≡◌, true, false, eqb, length}
use mathlib.Core.List.{List, [], ◌∷◌, ◌++◌, map, Memᴰ}
use Rattle.std.proofs.Math.Option.{none, some}
use Rattle.std.proofs.Math.ListN.{get_elem?}
use Rattle.horn.specs.Names.{some_of}
use Rattle.horn.specs.Matching.{Step, references_of}
use Rattle.horn.specs.Certificate.{Witness, witness, Progress}

-- The number of a result's step.
unfoldable pub result_step : Witness → ℕ
result_step (witness name n) = n

-- The least set of numbers that has the results' steps and, with a step, those that it refers to. Of an accepted release `used_steps` lists it
-- (proofs/Used).
pub data Used (last : Progress) : ℕ → Type 0 where
  by_result : {n : ℕ} → Memᴰ n (map result_step last.results) → Used last n
  by_step : {n m : ℕ} {s : Step} → Used last n → get_elem? last.steps n ≡ some s → Memᴰ m (references_of s) → Used last m

-- The numbers that step n refers to.
unfoldable pub references_at : List Step → ℕ → List ℕ
references_at steps n = elim (get_elem? steps n) [ none ↦ [] | some s ↦ references_of s ]

-- The used steps among the first n, the last one first, where those in a list are leaned on: going back, a step is used if it is in the
-- list, and then those that it refers to, which are before it, are leaned on too.
unfoldable pub used_below : List Step → ℕ → List ℕ → List ℕ
used_below steps zero leaned = []
used_below steps (suc n) leaned =
    elim (some_of (eqb n) leaned) [
      | true ↦ n ∷ used_below steps n (references_at steps n ++ leaned)
      | false ↦ used_below steps n leaned
    ]

-- The used steps of a release: "if a result leans on it".
unfoldable pub used_steps : Progress → List ℕ
used_steps last = used_below last.steps (length last.steps) (map result_step last.results)
