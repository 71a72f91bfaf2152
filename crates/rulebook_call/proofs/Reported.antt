-- The report of a rulebook that is read and judged is the definition's, whatever the areas held. Assumes nothing.
use Prim.Native.Nat.{ℕ, ◌≤◌}
use mathlib.Core.Path.{◌≡◌, refl, sym, ap, ◌∙◌}
use mathlib.Core.Logic.{◌≢◌}
use mathlib.Core.List.{List}
use native.Mathlib.Omega.{arith}
use lib.ListN.{length}
use Rattle.horn.specs.Refusals.{Result}
use Rattle.horn.specs.Rulebook.{Theory, theory}
use Rattle.horn.specs.Calls as calls
use Rattle.horn.specs.Calls.{rulebook_answer}
use Rattle.horn.proofs.Refusing.{refuses_none, refuses}
use Rattle.horn.proofs.Later.{Later, later_theory}
use Rattle.theory.specs.Below.outcomes.specs.Outcomes as outcomes
use Rattle.theory.specs.Below.outcomes.specs.Leaving.{Did, ◌leaving◌}
use Rattle.theory.specs.Walks as walks
use Rattle.theory.specs.Walks.{AllAreas}
use Rattle.theory.specs.declared.Counts.{Counts}
use Rattle.theory_laws.proofs.Whole as whole
use Rattle.rulebook_call.specs.Reports.{reported_by, answered}
use Rattle.clearing.proofs.Reported.{Reported}

-- A rulebook that is read and judged is answered neither 1 nor 2.
late : (m : Result Theory) → Later m → ((rulebook_answer m).number ≢ 1) × ((rulebook_answer m).number ≢ 2)
unfolding rulebook_answer
late m refuses_none = ((λ e. absurd (omega arith)), (λ e. absurd (omega arith)))
late m (refuses r h) = ((λ e. absurd (omega arith)), (λ e. absurd (omega arith)))

-- A report of both walks, in the definition's words.
in_its_words : (m : Did AllAreas Counts) → answered (reported_by m) ≡ whole.reported m
in_its_words (outcomes.ok c leaving areas) = refl
in_its_words (outcomes.refused n leaving areas) = refl

pub rulebook_reported : (text vars counts heap : List ℕ) → length text ≤ 8192 → length vars ≡ 16384 → length counts ≡ 16384 → length heap ≡ 16384
    → Reported (reported_by (walks.theory text vars counts heap)).number (rulebook_answer (theory text))
    (answered (reported_by (walks.theory text vars counts heap)))
rulebook_reported text vars counts heap short long_vars long_counts long_heap =
    let same : rulebook_answer (theory text) ≡ answered (reported_by (walks.theory text vars counts heap)) =
    sym (whole.report_law text vars counts heap short long_vars long_counts long_heap) ∙ sym (in_its_words (walks.theory text vars counts heap)) in
    let n = ap (λ (q : calls.RulebookReport). q.number) same in
    let (not_1, not_2) = late (theory text) (later_theory text) in
    record { same = same; not_1 = λ h. not_1 (n ∙ h); not_2 = λ h. not_2 (n ∙ h) }
