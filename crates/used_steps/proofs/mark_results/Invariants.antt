use mathlib.Core.Path.{◌≡◌}
use Rattle.used_steps.specs.Marks.{results_marked}
use Rattle.used_steps.proofs.mark_results.Given as goal

abbrev pub invariant-loop-k : goal.invariant-loop-k
invariant-loop-k l = results_marked l.n l.table l.initial.marks ≡ results_marked l.k l.table l.marks
