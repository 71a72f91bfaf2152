-- One turn more of the walk: the check alone stops at the functions under which the index is read.
use Rattle.std.proofs.Common.{sym, ◌∙◌, rules}
use Rattle.arena.proofs.Turns.{walk_on_lem}
use Rattle.arena.proofs.walk.Goals as goal

pub loop-preserved : goal.loop-preserved
loop-preserved c =
    rw c.next_place-i.ensures
    (c.loop.invariant ∙ walk_on_lem _ _ _ _ _ _ (search rules) c.at-v.ensures c.if-v-eq0.false (sym c.is_key.ensures ∙ c.if-is_key.false))
