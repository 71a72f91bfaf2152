use Rattle.std.proofs.Common.{◌≡◌, ◌-◌}
use Rattle.concluding.specs.Concluding.{premises_matched}
use Rattle.concluding.proofs.match_premises.Given as goal

abbrev pub invariant-loop-k : goal.invariant-loop-k
invariant-loop-k l =
    let e = l.earlier in
    premises_matched e.limits.nodes e.limits.places e.store.now e.table.now e.stack.now e.steps l.premises 0 l.o l.initial.heap
    ≡ premises_matched e.limits.nodes e.limits.places e.store.now e.table.now e.stack.now e.steps (l.premises - l.k) l.k l.place l.heap
