-- Digits that are read leave less of the line, and never more.
use Rattle.std.proofs.Common.{◌≤◌}
use Rattle.case_text.proofs.line.Line.number.Given as goal

abbrev pub invariant-loop : goal.invariant-loop
invariant-loop l = l.line.left ≤ l.initial.self.left
