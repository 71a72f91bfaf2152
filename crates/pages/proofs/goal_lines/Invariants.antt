use mathlib.Core.Path.{◌≡◌}
use Rattle.pages.specs.Pages.{lines_to}
use Rattle.pages.proofs.goal_lines.Given as goal

abbrev pub invariant-loop-k : goal.invariant-loop-k
invariant-loop-k l = l.out ≡ lines_to l.k l.texts.rulebook.now l.texts.goals.now l.table l.heap l.initial.out
