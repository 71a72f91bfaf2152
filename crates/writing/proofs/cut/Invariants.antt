use Rattle.std.proofs.Common.{◌≡◌}
use Rattle.horn.specs.Output.{cut}
use Rattle.writing.proofs.cut.Given as goal

abbrev pub invariant-loop-k : goal.invariant-loop-k
invariant-loop-k l = cut l.width l.name ≡ cut l.k l.name
