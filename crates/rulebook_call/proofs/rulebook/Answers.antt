-- The check does not find by itself that the first 16,384 words of an area are that many, nor which words the call leaves when the rulebook is judged.
use mathlib.Core.Path.{sym, ◌∙◌}
use lib.Seq.{length-take-le}
use Rattle.rulebook_call.proofs.Call.{first_right, second_right, third_right, fourth_right, rulebook_judged_lem}
use Rattle.rulebook_call.proofs.rulebook.Goals as goal

pub slice_bounds-judge-end-2 : goal.slice_bounds-judge-end-2
slice_bounds-judge-end-2 c = sym (length-take-le 16384 c.args.a.now (first_right _ _ _ _ c.long_enough.ensures c.if-not-long_enough.false))

pub slice_bounds-judge-end-4 : goal.slice_bounds-judge-end-4
slice_bounds-judge-end-4 c = sym (length-take-le 16384 c.args.b.now (second_right _ _ _ _ c.long_enough.ensures c.if-not-long_enough.false))

pub slice_bounds-judge-end-6 : goal.slice_bounds-judge-end-6
slice_bounds-judge-end-6 c = sym (length-take-le 16384 c.args.c.now (third_right _ _ _ _ c.long_enough.ensures c.if-not-long_enough.false))

pub slice_bounds-judge-end-8 : goal.slice_bounds-judge-end-8
slice_bounds-judge-end-8 c = sym (length-take-le 16384 c.args.d.now (fourth_right _ _ _ _ c.long_enough.ensures c.if-not-long_enough.false))

pub returns : goal.returns
returns c =
    rulebook_judged_lem _ _ _ _ _ _ _ _ _ _ (sym c.long_enough.ensures ∙ c.if-not-long_enough.false) c.if-rulebook-gt-TEXT_BYTES.false
    c.judge.ensures.report
    c.judge.ensures.first c.judge.ensures.second c.judge.ensures.third c.judge.ensures.fourth
