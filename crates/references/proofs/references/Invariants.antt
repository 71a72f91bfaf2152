use Prim.Native.Nat.{◌+◌, ◌-◌}
use mathlib.Core.Path.{◌≡◌}
use lib.ListN.{length}
use Rattle.references.specs.References.{references, references_from}
use Rattle.references.proofs.references.Given as goal

abbrev pub invariant-loop-turn : goal.invariant-loop-turn
invariant-loop-turn l = references l.text l.initial.r l.initial.stack ≡ references_from (length l.text + 1 - l._turn) l.text l.n l.r l.stack
