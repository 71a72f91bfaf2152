-- That a line ends behind the place where it starts, so that less text is left: the check alone gives up on it.
use Rattle.lex.proofs.Answering.{line_bounds}
use lib.ListN.{length}
use native.Mathlib.Omega.{arith}
use mathlib.Core.Path.{◌∙◌, sym}
use Rattle.lex.proofs.scan.Goals as goal

pub loop-e-smaller : goal.loop-e-smaller
loop-e-smaller c = let s = line_bounds c.args.text.now (length c.args.text.now) c.loop-e.q c.in-Some.next (omega arith) c.if-text-q.false (sym c.line_end-line.ensures ∙ c.in-Some.is) in omega arith
