use Rattle.std.proofs.Common.{◌≡◌, ◌-◌}
use Rattle.matching.specs.Matching.{arguments_matched, matched}
use Rattle.matching.proofs.+matches.Given as goal

abbrev pub decreases-matches : goal.decreases-matches
decreases-matches l = l.left

abbrev pub invariant-loop-j : goal.invariant-loop-j
invariant-loop-j l =
    arguments_matched l.limits.nodes l.limits.places l.store (matched l.limits.nodes l.limits.places l.store (l.left - 1)) l.inputs l.t 0
    l.initial.place l.initial.heap
    ≡ arguments_matched l.limits.nodes l.limits.places l.store (matched l.limits.nodes l.limits.places l.store (l.left - 1)) (l.inputs - l.j) l.t l.j
    l.place l.heap
