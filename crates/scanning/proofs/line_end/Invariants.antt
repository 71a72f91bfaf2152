use Rattle.scanning.specs.Scan.{line_end}
use lib.ListN.{length}
use mathlib.Core.Path.{◌≡◌}
use Prim.Native.Nat.{suc, ◌-◌}
use Rattle.scanning.proofs.line_end.Given as goal

abbrev pub invariant-loop-q : goal.invariant-loop-q
invariant-loop-q l = line_end (suc (length l.text)) l.text l.p ≡ line_end (suc (length l.text)) l.text l.q

abbrev pub decreases-loop-q : goal.decreases-loop-q
decreases-loop-q l = length l.text - l.q
