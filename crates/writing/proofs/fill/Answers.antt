-- Spaces over a part of the buffer: what `fill` of the library says takes a function, which the check does not give it.
use Rattle.std.proofs.Common.{arith, rules, length-take, length-drop}
use Rattle.writing.proofs.Placed.{spaces_mid}
use Rattle.writing.proofs.fill.Goals as goal

pub returns : goal.returns
returns c = spaces_mid _ _ _ _ _ _ (search rules) c.min-n.ensures (simp (length-take, length-drop) (omega arith)) (c.fill.ensures.after (λ y e. e))
