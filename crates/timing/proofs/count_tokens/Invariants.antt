use Rattle.std.proofs.Common.{◌≡◌, ◌-◌, ◌≤◌, length}
use Rattle.lex.specs.Answers.{start}
use Rattle.timing.specs.Count.{counted}
use Rattle.timing.proofs.count_tokens.Given as goal

abbrev pub invariant-loop-n : goal.invariant-loop-n
invariant-loop-n l = (counted (length l.text) l.text start 0 ≡ counted (l.n-end - l.n) l.text l.r l.n) × (l.n ≤ l.n-end)
