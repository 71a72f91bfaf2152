use Prim.Native.Nat.{◌+◌, ◌-◌}
use mathlib.Core.Path.{◌≡◌}
use lib.ListN.{length}
use Rattle.lent.specs.Lent.{Same}
use Rattle.certificates.specs.Certificates.{forms_from}
use Rattle.certificates.proofs.all_forms.Given as goal

abbrev pub invariant-loop-turn : goal.invariant-loop-turn
invariant-loop-turn l = Same l.initial.areas l.areas
    × (forms_from (length l.texts.certificate.now + 1) l.texts.certificate.now l.texts.goals.now l.texts.rulebook.now
    l.initial.now l.initial.r l.initial.areas.store.now l.initial.areas.stack.now l.initial.areas.heap.now l.initial.areas.table.now
    ≡ forms_from (length l.texts.certificate.now + 1 - l._turn) l.texts.certificate.now l.texts.goals.now l.texts.rulebook.now
    l.now l.r l.areas.store.now l.areas.stack.now l.areas.heap.now l.areas.table.now)
