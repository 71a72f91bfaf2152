use mathlib.Core.Path.{◌≡◌}
use Rattle.used_steps.specs.Marks.{marked}
use Rattle.used_steps.proofs.mark.Given as goal

abbrev pub invariant-loop-k : goal.invariant-loop-k
invariant-loop-k l = marked l.n l.named l.initial.marks ≡ marked l.k l.named l.marks
