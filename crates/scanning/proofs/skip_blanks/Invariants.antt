use Rattle.scanning.specs.Scan.{blanks}
use lib.ListN.{length}
use mathlib.Core.Path.{◌≡◌}
use Prim.Native.Nat.{suc, ◌-◌}
use Rattle.scanning.proofs.skip_blanks.Given as goal

abbrev pub invariant-loop-q : goal.invariant-loop-q
invariant-loop-q l = blanks (suc (length l.text)) l.text l.end l.p ≡ blanks (suc (length l.text)) l.text l.end l.q

abbrev pub decreases-loop-q : goal.decreases-loop-q
decreases-loop-q l = length l.text - l.q
