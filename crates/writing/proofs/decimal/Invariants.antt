use Prim.Native.Nat.{◌≤◌}
use mathlib.Core.Path.{◌≡◌}
use mathlib.Core.List.{◌++◌}
use lib.ListN.{length, drop}
use Rattle.horn.specs.Layout.{plain}
use Rattle.writing.proofs.decimal.Given as goal

abbrev pub invariant-loop-m : goal.invariant-loop-m
invariant-loop-m l = record {
  digits : plain l.n ≡ plain l.m ++ drop l.i l.text;
  ten : length l.text ≡ 10;
  within : l.i ≤ 10;
  room : length (plain l.m) ≤ l.i;
  same : length l.text ≡ length l.initial.text;
}

abbrev pub decreases-loop-m : goal.decreases-loop-m
decreases-loop-m l = l.m
