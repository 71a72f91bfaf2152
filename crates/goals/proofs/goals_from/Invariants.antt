use Prim.Native.Nat.{◌+◌, ◌-◌}
use mathlib.Core.Path.{◌≡◌}
use lib.ListN.{length}
use Rattle.lent.specs.Lent.{SameGoal}
use Rattle.goals.specs.Goals.{goals_from}
use Rattle.goals.proofs.goals_from.Given as goal

abbrev pub invariant-loop-turn : goal.invariant-loop-turn
invariant-loop-turn l =
    let text = l.texts.goals.now in
    let rules = l.texts.rulebook.now in
    let was = l.initial.areas in
    let is = l.areas in
    SameGoal was is
    × (goals_from (length text + 1) text rules was.heap.now l.initial.sofar l.initial.r was.store.now was.stack.now was.table.now
    ≡ goals_from (length text + 1 - l._turn) text rules was.heap.now l.sofar l.r is.store.now is.stack.now is.table.now)
