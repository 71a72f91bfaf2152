use Rattle.std.proofs.Common.{◌≡◌, ◌-◌, ◌≤◌, length}
use Rattle.areas.specs.Filling.{held}
use Rattle.areas.proofs.holds.Given as goal

abbrev pub invariant-loop-i : goal.invariant-loop-i
invariant-loop-i l = (held (length l.s) 0 l.n l.first l.step l.s ≡ held (l.i-end - l.i) l.i l.n l.w l.step l.s) × (l.i ≤ l.i-end)
