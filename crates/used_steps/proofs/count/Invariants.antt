use mathlib.Core.Path.{◌≡◌}
use Rattle.used_steps.specs.Marks.{counted}
use Rattle.used_steps.proofs.count.Given as goal

abbrev pub invariant-loop-k : goal.invariant-loop-k
invariant-loop-k l = counted l.n l.certificate l.table 0 (l.initial.refs, l.initial.marks) ≡ counted l.k l.certificate l.table l.used (l.refs, l.marks)
