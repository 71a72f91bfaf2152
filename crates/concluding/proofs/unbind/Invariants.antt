use Rattle.std.proofs.Common.{◌≡◌}
use Rattle.concluding.specs.Concluding.{unbound}
use Rattle.concluding.proofs.unbind.Given as goal

abbrev pub invariant-loop-v : goal.invariant-loop-v
invariant-loop-v l = unbound l.n l.initial.heap ≡ unbound l.v l.heap
