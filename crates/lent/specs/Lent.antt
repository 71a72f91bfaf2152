-- The four areas of a call, before and after a function that is lent them.
use Rattle.std.specs.Prelude.{◌≡◌, ℕ, List, length}
use Rattle.std.specs.Borrow.{MutBor}
use Rattle.lent.specs.declared.Areas.{Areas}
use Rattle.lent.specs.declared.GoalAreas.{GoalAreas}
use Rattle.lent.specs.declared.StepAreas.{StepAreas}

-- The second is the same area as the first, with as many words, whatever these are now.
abbrev pub SameArea : MutBor (List ℕ) → MutBor (List ℕ) → Type 0
SameArea a b = (b.ghost_name ≡ a.ghost_name) × (length b.now ≡ length a.now)

-- So for all four,
abbrev pub Same : Areas → Areas → Type 0
Same a b = SameArea a.store b.store × SameArea a.table b.table × SameArea a.stack b.stack × SameArea a.heap b.heap

-- for those of a goal, whose theory is read alone and stays as it is,
abbrev pub SameGoal : GoalAreas → GoalAreas → Type 0
SameGoal a b = SameArea a.store b.store × SameArea a.table b.table × SameArea a.stack b.stack × (b.heap ≡ a.heap)

-- and for those of a step, whose table stays so.
abbrev pub SameStep : StepAreas → StepAreas → Type 0
SameStep a b = SameArea a.store b.store × (b.table ≡ a.table) × SameArea a.stack b.stack × SameArea a.heap b.heap
