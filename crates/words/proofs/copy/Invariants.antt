use Rattle.std.proofs.Common.{◌≡◌, ◌+◌, ◌-◌}
use Rattle.words.specs.Parts.{copied}
use Rattle.words.proofs.copy.Given as goal

abbrev pub invariant-loop-j : goal.invariant-loop-j
invariant-loop-j l = copied l.initial.to l.i l.from 0 l.n ≡ copied l.to (l.i + l.j) l.from l.j (l.n - l.j)
