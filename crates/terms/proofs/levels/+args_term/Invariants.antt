use Prim.Native.Nat.{◌+◌, ◌*◌, ◌-◌}
use mathlib.Core.Path.{◌≡◌}
use lib.ListN.{length}
use Rattle.terms.specs.Terms as models
use Rattle.terms.specs.Terms.{arguments}
use Rattle.terms.proofs.levels.+args_term.Given as goal

abbrev pub decreases-args : goal.decreases-args
decreases-args l = 2 * l.left + 1

abbrev pub invariant-args-loop-turn : goal.invariant-args-loop-turn
invariant-args-loop-turn l =
    let s = l.scope in
    arguments l.left s.text.now s.rules.now s.heap.now s.table.now l.top l.initial.r l.initial.store l.initial.stack
    ≡ models.arguments_from (models.term l.left s.text.now s.rules.now s.heap.now s.table.now) (length s.text.now + 1 - l._turn) s.text.now
    l.top l.n l.r l.store l.stack

abbrev pub decreases-term : goal.decreases-term
decreases-term l = 2 * l.left
