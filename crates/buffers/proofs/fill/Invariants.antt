use Rattle.std.proofs.Common.{◌≡◌, ◌-◌, ◌≤◌, length}
use Rattle.buffers.specs.Filling.{filled}
use Rattle.buffers.proofs.fill.Given as goal

abbrev pub invariant-loop-i : goal.invariant-loop-i
invariant-loop-i l = record {
  filled : filled (length l.initial.out) 0 l.initial.out ≡ filled (l.i-end - l.i) l.i l.out;
  long : length l.out ≡ length l.initial.out;
  within : l.i ≤ l.i-end;
}
