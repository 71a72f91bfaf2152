use mathlib.Core.Path.{◌≡◌}
use Prim.Native.Nat.{◌-◌}
use Rattle.theory_reading.specs.Reading.{all_fit}
use Rattle.nodes.specs.Nodes.{head_on}
use Rattle.nodes.proofs.accepts.Given as goal

abbrev pub invariant-loop-k : goal.invariant-loop-k
invariant-loop-k l = all_fit (head_on l.store l.stack l.from) l.heap l.c l.n 0 ≡ all_fit (head_on l.store l.stack l.from) l.heap l.c (l.n - l.k) l.k
