use Rattle.std.proofs.Common.{◌≡◌, ◌-◌, ◌≤◌, length}
use Rattle.buffers.specs.Filling.{held}
use Rattle.buffers.proofs.holds.Given as goal

abbrev pub invariant-loop-i : goal.invariant-loop-i
invariant-loop-i l = (held (length l.out) 0 l.from l.text l.out ≡ held (l.i-end - l.i) l.i l.from l.text l.out) × (l.i ≤ l.i-end)
