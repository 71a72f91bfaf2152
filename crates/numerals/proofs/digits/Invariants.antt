use Prim.Native.Nat.{◌≤◌}
use mathlib.Core.Path.{◌≡◌}
use lib.ListN.{drop}
use Rattle.horn.specs.Checker.{decimal, digits}
use Rattle.numerals.proofs.digits.Given as goal

abbrev pub invariant-loop-b : goal.invariant-loop-b
invariant-loop-b l = (digits l.text ≡ decimal l.n (drop l.b-index l.text)) × (l.n ≤ 18446744073709551615)
