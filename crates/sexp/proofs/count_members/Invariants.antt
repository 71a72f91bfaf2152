use Rattle.std.proofs.Common.{◌≡◌, ◌-◌, ◌≤◌, length}
use Rattle.sexp.specs.Walk.{walked, walk, turns}
use Rattle.sexp.proofs.count_members.Given as goal

abbrev pub invariant-loop : goal.invariant-loop
invariant-loop l = (walked l.text l.initial.area ≡ walk (turns - l.counter) l.text l.reader l.place l.area) × (length l.area ≡ length l.initial.area) × (l.counter ≤ turns)
