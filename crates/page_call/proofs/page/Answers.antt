-- The check does not find by itself that the first 16,384 words of an area are that many, nor what the call leaves: in each arm a lemma on the whole call.
use mathlib.Core.Path.{sym}
use lib.Seq.{length-take-le}
use Rattle.reports.proofs.Lengths.{first_long, second_long, third_long, fourth_long}
use Rattle.page_call.proofs.Call.{refused_by_length, page_judged_lem}
use Rattle.page_call.proofs.page.Goals as goal

pub slice_bounds-judge-end-in-Ok : goal.slice_bounds-judge-end-in-Ok
slice_bounds-judge-end-in-Ok c = sym (length-take-le 16384 c.args.a.now (first_long _ _ _ _ _ _ _ (sym c.in-Ok.ensures)))

pub slice_bounds-judge-end-in-Ok-3 : goal.slice_bounds-judge-end-in-Ok-3
slice_bounds-judge-end-in-Ok-3 c = sym (length-take-le 16384 c.args.b.now (second_long _ _ _ _ _ _ _ (sym c.in-Ok.ensures)))

pub slice_bounds-judge-end-in-Ok-5 : goal.slice_bounds-judge-end-in-Ok-5
slice_bounds-judge-end-in-Ok-5 c = sym (length-take-le 16384 c.args.c.now (third_long _ _ _ _ _ _ _ (sym c.in-Ok.ensures)))

pub slice_bounds-judge-end-in-Ok-7 : goal.slice_bounds-judge-end-in-Ok-7
slice_bounds-judge-end-in-Ok-7 c = sym (length-take-le 16384 c.args.d.now (fourth_long _ _ _ _ _ _ _ (sym c.in-Ok.ensures)))

pub returns-in-Err : goal.returns-in-Err
returns-in-Err c = refused_by_length _ _ _ _ _ _ _ _ _ (rw (← c.number.ensures) c.refused.ensures) (sym c.in-Err.ensures)

pub returns-in-Ok : goal.returns-in-Ok
returns-in-Ok c =
    page_judged_lem _ _ _ _ _ _ _ _ _ _ _ _ _ _ (sym c.in-Ok.ensures) c.judge.ensures.output
    c.judge.ensures.first c.judge.ensures.second c.judge.ensures.third c.judge.ensures.fourth
