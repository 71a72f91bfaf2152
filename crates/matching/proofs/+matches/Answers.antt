-- An argument that does not match ends the loop: the check alone does not take the turn that ends it back to the model.
use Rattle.std.proofs.Common.{sym, ◌∙◌}
use borrow.Author.Tests.{lt-leb, eq-eqb}
use Rattle.matching.proofs.Turns.{matched_within, argument_differs}
use Rattle.matching.proofs.+matches.Goals as goal

pub returns-in_err-place : goal.returns-in_err-place
returns-in_err-place t c =
    rw (
      c.from_residual.ensures,
      matched_within _ _ _ _ _ _ _ c.if-left-eq0.false,
      ← c.at-word.ensures,
      lt-leb _ _ c.if-word-ge-VARIABLE.false,
      ← c.node_head-head.ensures,
      eq-eqb _ _ c.if-word-head.false,
      ← c.arity-inputs.ensures,
      ← c.plus-place.ensures,
    )
    (sym (c.loop-j.invariant ∙ argument_differs _ _ _ _ _ _ _ _ _ c.loop-j-test.true (rw (← c.node_argument-argument.ensures, ← c.matches.ensures, c.in_err-place.was))))
