use Rattle.lex.specs.Answers.{scanned, scanned_on}
use lib.ListN.{length}
use Prim.Native.Nat.{suc, ◌-◌}
use mathlib.Core.Path.{◌≡◌}
use Rattle.lex.proofs.scan.Given as goal

abbrev pub invariant-loop-e : goal.invariant-loop-e
invariant-loop-e l = scanned (suc (length l.text)) l.text l.end l.p ≡ scanned_on (suc (length l.text)) l.text l.e l.q

abbrev pub decreases-loop-e : goal.decreases-loop-e
decreases-loop-e l = length l.text - l.e
