use Rattle.std.proofs.Common.{◌≡◌, ◌-◌}
use Rattle.matching.specs.Matching.{arguments_built, term_built}
use Rattle.matching.proofs.+build.Given as goal

abbrev pub decreases-build : goal.decreases-build
decreases-build l = l.left

abbrev pub invariant-loop : goal.invariant-loop
invariant-loop l =
    arguments_built l.limits.nodes l.limits.words l.limits.places
    (term_built l.limits.nodes l.limits.words l.limits.places l.heap (l.left - 1)) l.inputs l.p l.initial.place l.initial.end l.initial.stack l.initial.store
    ≡ arguments_built l.limits.nodes l.limits.words l.limits.places
    (term_built l.limits.nodes l.limits.words l.limits.places l.heap (l.left - 1)) (l.inputs - l.counter) l.p l.place l.end l.stack l.store
