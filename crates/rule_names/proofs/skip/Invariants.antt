use Prim.Native.Nat.{◌≤◌, ◌<◌, ◌-◌}
use lib.ListN.{length}
use mathlib.Core.Path.{◌≡◌}
use Rattle.rule_names.specs.RuleNames.{skipped}
use Rattle.rule_names.proofs.skip.Given as goal

abbrev pub invariant-loop : goal.invariant-loop
invariant-loop l = (skipped (length l.text) 1 l.text l.initial.v ≡ skipped (length l.text - l.counter) l.depth l.text l.v) × (0 < l.depth) × (l.counter ≤ length l.text)
