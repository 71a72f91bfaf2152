use mathlib.Core.Path.{◌≡◌}
use Rattle.names.specs.Chains.{found, chased}
use Rattle.names.proofs.find.Given as goal

abbrev pub invariant-loop-e : goal.invariant-loop-e
invariant-loop-e l = found l.area l.buckets l.count l.text l.name ≡ chased l.area l.text l.name l.e

abbrev pub decreases-loop-e : goal.decreases-loop-e
decreases-loop-e l = l.e
