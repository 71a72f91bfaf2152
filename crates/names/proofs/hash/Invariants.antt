use Prim.Native.Nat.{◌<◌}
use mathlib.Core.Path.{◌≡◌}
use lib.ListN.{drop}
use Rattle.names.specs.Chains.{hashed_all}
use Rattle.names.proofs.hash.Given as goal

abbrev pub invariant-loop-b : goal.invariant-loop-b
invariant-loop-b l = (hashed_all 0 l.name ≡ hashed_all l.h (drop l.b-index l.name)) × (l.h < 4294967296)
