use Rattle.std.proofs.Common.{◌≡◌, ◌-◌, ◌≤◌, length}
use Rattle.areas.specs.Filling.{filled}
use Rattle.areas.proofs.fill.Given as goal

abbrev pub invariant-loop-i : goal.invariant-loop-i
invariant-loop-i l = record {
  filled : filled (length l.initial.s) 0 l.first l.step l.initial.s ≡ filled (l.i-end - l.i) l.i l.w l.step l.s;
  long : length l.s ≡ length l.initial.s;
  within : l.i ≤ l.i-end;
}
