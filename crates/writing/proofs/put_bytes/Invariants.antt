use mathlib.Core.Path.{◌≡◌}
use lib.ListN.{drop}
use Rattle.writing.specs.Buffer.{placed}
use Rattle.writing.proofs.put_bytes.Given as goal

abbrev pub invariant-loop-b : goal.invariant-loop-b
invariant-loop-b l = placed l.at l.bytes l.initial.out ≡ placed l.p (drop l.b-index l.bytes) l.out
