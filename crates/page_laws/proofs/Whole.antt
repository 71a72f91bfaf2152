-- The page that is written from what the walks leave is the definition's, and so is the call's answer behind the lengths. Assumes nothing.
use Prim.Native.Nat.{ℕ, ◌+◌, ◌*◌, ◌≤◌, ◌<◌}
use mathlib.Core.Path.{◌≡◌, ap, sym, ◌∙◌}
use mathlib.Core.Bool.{Bool, true, false}
use mathlib.Core.List.{List}
use mathlib.Core.Option.{some}
use native.Mathlib.Omega.{arith}
use native.Mathlib.Nat.{mod-eq_of_lt}
use borrow.Author.Tests.{le-leb, lt-leb, ltb-true, ltb-false, ne_eqb}
use lib.Dec.{leb, ltb}
use lib.ListN.{length, get_elem?}
use lib.Seq.{take-length}
use Rattle.checker_laws.specs.Below.horn.specs.Refusals.{Result, ok, number, need, ◌>>=◌, output_long}
use Rattle.checker_laws.specs.Below.horn.specs.Setting.{document01}
use Rattle.checker_laws.specs.Below.horn.specs.Checker.{Goal, goal}
use Rattle.checker_laws.specs.Below.horn.specs.Matching.{Step, rule_of, references_of}
use Rattle.checker_laws.specs.Below.horn.specs.Calls.{Release}
use Rattle.checker_laws.specs.Below.horn.specs.Layout.{rule_name}
use Rattle.checker_laws.specs.Below.horn.specs.Output.{Output, output, fitting, output_of}
use Rattle.checker_laws.specs.Below.horn.specs.Used.{used_steps}
use Rattle.checker_laws.specs.Below.horn.specs.Page.{line_of, goal_lines, percentage, last_line, page_of}
use Rattle.checker_laws.specs.Below.horn.proofs.Equality.{case, at_member, at_below}
use Rattle.checker_laws.specs.Below.horn.proofs.Progressing.{goal_shown, shown_line, some_step}
use Rattle.checker_laws.specs.Below.horn.proofs.Refusing.{refuses_none, refuses}
use Rattle.checker_laws.specs.Below.horn.proofs.Later.{Later}
use Rattle.checker_laws.specs.Below.horn.proofs.Page.{length-goal_lines, length-line_of, run_percentage, page_length}
use Rattle.used_laws.specs.Below.names.specs.Chains.{name_at}
use Rattle.page_walks.specs.Below.outcomes.specs.Outcomes as outcomes
use Rattle.page_walks.specs.Below.outcomes.specs.Leaving.{Did}
use Rattle.page_walks.specs.Below.outcomes.specs.Simulation.{Simulates, refuse, leave}
use Rattle.used_laws.specs.Below.tables.specs.Words.{step_kept}
use Rattle.used_laws.specs.Below.tables.specs.Representation.{StepAt}
use Rattle.page_walks.specs.Below.certificates.specs.Certificates.{AllAreas}
use Rattle.page_walks.specs.Below.checker.specs.declared.Counts.{Counts}
use Rattle.used_laws.specs.Below.steps_laws.proofs.Whole.{ReferencesListed}
use Rattle.checker_laws.proofs.Whole.{Released}
use Rattle.checker_laws.specs.Below.clearing.proofs.Reported.{Reported}
use Rattle.page_walks.specs.Below.writing.specs.Buffer.{placed}
use Rattle.page_walks.specs.Below.writing.proofs.Placed.{placed-append, placed_front}
use Rattle.used_laws.specs.Below.used_steps.specs.Marks.{used_count}
use Rattle.page_walks.specs.Below.page_lines.specs.Lines.{percent, used_line}
use Rattle.page_walks.specs.Below.pages.specs.Pages.{line_at, page_from}
use Rattle.page_walks.specs.Walks.{answered, page_by}
use Rattle.page_laws.proofs.Kept.{goal_result_lem, goal_named, rule_named_lem}
use Rattle.page_laws.proofs.Lines.{lines_law}
use Rattle.page_laws.proofs.Used.{used_law}

few_bytes : document01.certificate_bytes ≤ 100_000_000
unfolding document01
few_bytes = omega arith

module _ {rulebook text certificate : List ℕ} {c : Counts} {areas : AllAreas} {r : Release} (q : Released rulebook text certificate c areas r) where
  -- The words of a step.
  step_kept_lem : (n : ℕ) (s : Step) → get_elem? r.progress.steps n ≡ some s
      → (name_at areas.0.1 rulebook (step_kept areas.1 n 1) ≡ rule_name (rule_of s))
      × ReferencesListed certificate (step_kept areas.1 n 2) (step_kept areas.1 n 3) (references_of s)
  unfolding StepAt step_kept
  step_kept_lem n s e =
      let w = q.finished.tables.step_part.words n s e in
      (rule_named_lem q.holds q.below q.finished.keeps w.by_rule, w.listed)

  -- The line of goal k.
  line_kept : (k : ℕ) (g : Goal) → get_elem? r.goals k ≡ some g
      → (out : List ℕ)
      → line_at rulebook text areas.1 areas.0.1 k out ≡ placed (65 * k) (line_of r.progress g) out
  unfolding line_at
  line_kept k (goal name j) e out =
      let goals = q.finished.tables.goal_part in
      let small = q.finished.tables.small in
      let sh = goal_shown q.run name j (at_member r.goals k e) in
      let b = at_below r.progress.steps sh.number sh.there in
      let f = q.finished.few_steps in
      rw (
        goal_result_lem goals small k e sh.shown,
        goal_named goals small k e,
        mod-eq_of_lt {n = sh.number} {m = 100_000_000} (omega arith),
        (step_kept_lem sh.number sh.by sh.there).0,
        ← shown_line r.progress sh,
      )

  line_long : (k : ℕ) (g : Goal) → get_elem? r.goals k ≡ some g → length (line_of r.progress g) ≡ 65
  line_long k g e = length-line_of q.run few_bytes g (at_member r.goals k e)

  used_kept : (used_count certificate areas.1 (length r.goals) (length r.progress.steps) (areas.0.0.1, areas.0.0.0)).0
      ≡ length (used_steps r.progress)
  unfolding document01
  used_kept =
      let f = q.finished in
      let room = f.stored.keeps.room in
      let few = f.few_steps in
      used_law q.run f.tables.goal_part f.tables.small areas.0.0.0 areas.0.0.1 q.run.short_certificate few f.long (omega arith)
      (λ n s e. (step_kept_lem n s e).1)

  -- The percentage has three digits at most, and there are steps.
  last_kept : used_line (percent (length (used_steps r.progress)) (length r.progress.steps))
      ≡ last_line (length (used_steps r.progress)) (length r.progress.steps)
  unfolding used_line last_line percent
  last_kept =
      let some = some_step q.run in
      let p = run_percentage q.run in
      rw (ne_eqb (length r.progress.steps) 0 (λ z. omega arith), percent, mod-eq_of_lt {n = percentage (length (used_steps r.progress)) (length r.progress.steps)} {m = 1000} (omega arith))

  -- The page.
  pub page_kept : (out : List ℕ)
      → (page_from rulebook text certificate areas.1 areas.0.1 c.goals c.steps areas.0.0.0 areas.0.0.1 out).0
      ≡ placed 0 (page_of r) out
  unfolding page_from page_of
  page_kept out =
      let gs = r.goals in
      let lines = goal_lines r.progress gs in
      let n : 65 * length gs ≡ 0 + length lines =
      let h = length-goal_lines r.progress gs (λ g m. length-line_of q.run few_bytes g m) in omega arith in
      let all = lines_law r.progress rulebook text areas.1 areas.0.1 gs line_kept line_long (length gs) (omega arith) out in
      rw (q.goals_are, q.steps_are, used_kept, last_kept, all, take-length gs, n)
      (placed-append 0 lines (last_line (length (used_steps r.progress)) (length r.progress.steps)) out)

  -- What is answered of an accepted release.
  pub accepted_kept : (out : List ℕ)
      → (answered (outcomes.ok c) rulebook text certificate areas.1 areas.0.1 areas.0.0.0 areas.0.0.1 out).0
      ≡ output_of (fitting (length out) (page_of r)) out
  unfolding answered fitting output_of need ◌>>=◌ number
  accepted_kept out =
      let l = page_length q.run in
      let g = q.goals_are in
      let few = q.finished.few_goals in
      case (ltb (length out) (65 * (c.goals + 1)))
      (λ t. let h = ltb-true (length out) (65 * (c.goals + 1)) t in rw (t, answered, lt-leb (length (page_of r)) (length out) (omega arith)))
      (λ t.
      let h = ltb-false (length out) (65 * (c.goals + 1)) t in
      let z : 65 * (c.goals + 1) ≡ length (page_of r) = omega arith in
      rw (t, answered, le-leb (length (page_of r)) (length out) (omega arith), page_kept out, placed_front (page_of r) out (omega arith), mod-eq_of_lt {n = 65 * (c.goals + 1)} {m = 4294967296} (omega arith), z))

-- Behind a release that is accepted comes 0 or 31.
not_early : (room : ℕ) (page out : List ℕ) (k : ℕ) → 0 < k → k < 31 → (output_of (fitting room page) out).number ≡ k → ⊥
unfolding output_of fitting need ◌>>=◌ number
not_early room page out k a b e = by (leb (length page) room) e where
  by : (t : Bool) → (output_of (need t output_long >>= λ _. ok page) out).number ≡ k → ⊥
  by true e = omega arith
  by false e = omega arith

-- What the call answers behind the lengths, and the buffer, are the definition's; the number is not one of those that leave the areas untouched.
pub page_answered : (rulebook text certificate : List ℕ) {m : Did AllAreas Counts} {m' : Result Release} → Simulates (Released rulebook text certificate) m m'
    → Later m'
    → (out : List ℕ)
    → Reported (page_by rulebook text certificate m out).number (output_of (m' >>= λ r. fitting (length out) (page_of r)) out) (page_by rulebook text certificate m out)
unfolding page_by answered output_of ◌>>=◌
page_answered rulebook text certificate (refuse {n} e) (refuses r h) out =
    record { same = ap (λ (k : ℕ). output k 0 out) (sym e); not_1 = λ z. absurd (omega arith); not_2 = λ z. absurd (omega arith) }
page_answered rulebook text certificate (leave {a = c} {s = areas} {b = r} q) refuses_none out =
    let same = accepted_kept q out in
    let n = ap (λ (o : Output). o.number) (sym same) in
    record {
      same = sym same;
      not_1 = λ z. not_early (length out) (page_of r) out 1 (omega arith) (omega arith) (n ∙ z);
      not_2 = λ z. not_early (length out) (page_of r) out 2 (omega arith) (omega arith) (n ∙ z);
    }
