use mathlib.Core.Path.{◌≡◌}
use Prim.Native.Nat.{◌≤◌, ◌-◌}
use Rattle.variables.specs.Variables.{variable_from}
use Rattle.variables.proofs.find_variable.Given as goal

abbrev pub invariant-loop-i : goal.invariant-loop-i
invariant-loop-i l = (l.i ≤ l.count) × (variable_from l.count l.area l.text l.place l.name 0 ≡ variable_from (l.count - l.i) l.area l.text l.place l.name l.i)
