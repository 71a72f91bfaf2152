use Prim.Native.Nat.{◌+◌, ◌-◌}
use mathlib.Core.Path.{◌≡◌}
use lib.ListN.{length}
use Rattle.lent.specs.Lent.{SameStep}
use Rattle.step_items.specs.StepItems.{items_from}
use Rattle.step_items.proofs.items.Given as goal

abbrev pub invariant-loop-turn : goal.invariant-loop-turn
invariant-loop-turn l = SameStep l.initial.areas l.areas
    × (items_from (length l.texts.certificate.now + 1) l.texts.certificate.now l.texts.rulebook.now l.initial.areas.table.now l.rule l.top
    0 l.initial.r l.initial.areas.store.now l.initial.areas.stack.now l.initial.areas.heap.now
    ≡ items_from (length l.texts.certificate.now + 1 - l._turn) l.texts.certificate.now l.texts.rulebook.now l.initial.areas.table.now l.rule l.top
    l.word l.r l.areas.store.now l.areas.stack.now l.areas.heap.now)
