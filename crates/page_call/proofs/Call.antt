-- The call that writes the page, case by case as the code goes. Assumes nothing.
use Prim.Native.Nat.{ℕ}
use mathlib.Core.Path.{◌≡◌, refl, sym, ap, ◌∙◌}
use mathlib.Core.Bool.{Bool, true, false}
use mathlib.Core.List.{List, ◌++◌}
use lib.ListN.{length, take, drop, replicate}
use lib.Seq.{length-take-le}
use Rattle.std.proofs.Common.{true≢false}
use Rattle.horn.specs.Refusals.{Result, refused, number, area_short, text_long, ◌>>=◌}
use Rattle.horn.specs.Setting.{document01}
use Rattle.horn.specs.Calls.{Release, release_read, called, leaving}
use Rattle.horn.specs.Output.{Output, output, fitting, output_of}
use Rattle.horn.specs.Page.{page_of, page_judged, page_call, page_left}
use Rattle.page_walks.specs.Below.checker.specs.Checker as walk
use Rattle.reports.specs.Below.checker_laws.proofs.Whole.{check_law}
use Rattle.reports.specs.Below.checker.specs.Below.outcomes.specs.Outcomes as outcomes
use Rattle.reports.proofs.ReleaseReported.{later_judged}
use Rattle.reports.proofs.Lengths.{Tested, by_area, by_text, passed, call_tested, tested, passed_of}
use Rattle.clearing.specs.Lengths.{area_words}
use Rattle.clearing.proofs.Areas.{untouched_short, untouched_long, all_cleared}
use Rattle.writing.specs.Answers.{told}
use Rattle.writing.specs.declared.Written.{Written}
use Rattle.page_walks.specs.Walks.{page_by}
use Rattle.page_laws.proofs.Whole.{page_answered}

module _ (rulebook goals certificate a b c d out : List ℕ) where
  abbrev call_read : Result Release
  call_read = release_read document01 (length a) (length b) (length c) (length d) rulebook goals certificate

  -- What is answered of what is read.
  abbrev answer_of : Result Release → Output
  answer_of m = output_of (m >>= λ r. fitting (length out) (page_of r)) out

  -- A call by its answer and its areas.
  abbrev Ensured : Output → List ℕ → List ℕ → List ℕ → List ℕ → Type 0
  Ensured o a' b' c' d' = called o a' b' c' d' ≡ page_left document01 a b c d rulebook goals certificate out

  is_called : (m : Result Release) (o : Output) (a' b' c' d' : List ℕ) → call_read ≡ m → answer_of m ≡ o
      → called o a' b' c' d' ≡ leaving document01 o o.number a b c d
      → Ensured o a' b' c' d'
  unfolding page_left page_call page_judged
  is_called m o a' b' c' d' e f h = let q : answer_of call_read ≡ o = ap answer_of e ∙ f in rw q h

  abbrev Refused : ℕ → Written → Type 0
  Refused n r = r ≡ record { number = n; length = 0 }

  -- 1, by the areas, and 2, by a text.
  by_length : (r : Written) {n : ℕ} → Refused n r → Tested (length a) (length b) (length c) (length d) rulebook goals certificate
      → call_tested (length a) (length b) (length c) (length d) rulebook goals certificate ≡ outcomes.refused n
      → Ensured (told r out) a b c d
  unfolding ◌>>=◌ output_of number
  by_length r {n} is (by_area t m) e = let z : n ≡ 1 = cc in rw (is, z) (is_called (refused area_short) (output 1 0 out) a b c d m refl (untouched_short _ a b c d))
  by_length r {n} is (by_text t m) e = let z : n ≡ 2 = cc in rw (is, z) (is_called (refused text_long) (output 2 0 out) a b c d m refl (untouched_long _ a b c d))
  by_length r is (passed t p) e = let z : ◌≡◌ {A = Bool} true false = cc in absurd (true≢false z)

  pub refused_by_length : (r : Written) {n : ℕ} → Refused n r
      → call_tested (length a) (length b) (length c) (length d) rulebook goals certificate ≡ outcomes.refused n
      → Ensured (told r out) a b c d
  refused_by_length r is e = by_length r is (tested (length a) (length b) (length c) (length d) rulebook goals certificate) e

-- Every other answer: the first 16,384 words of each area were lent to the walks, then cleared.
pub page_judged_lem : (rulebook goals certificate a b c d out : List ℕ) (r : Written) (a' b' c' d' out' : List ℕ)
    → call_tested (length a) (length b) (length c) (length d) rulebook goals certificate ≡ outcomes.ok tt
    → told r out' ≡ page_by rulebook goals certificate
    (walk.check rulebook goals certificate (take area_words a) (take area_words b) (take area_words c) (take area_words d)) out
    → a' ≡ replicate (length (take area_words a)) 0
    → b' ≡ replicate (length (take area_words b)) 0
    → c' ≡ replicate (length (take area_words c)) 0
    → d' ≡ replicate (length (take area_words d)) 0
    → Ensured rulebook goals certificate a b c d out (told r out') (a' ++ drop area_words a) (b' ++ drop area_words b) (c' ++ drop area_words c)
    (d' ++ drop area_words d)
page_judged_lem rulebook goals certificate a b c d out r a' b' c' d' out' e is ea eb ec ed =
    let p = passed_of (length a) (length b) (length c) (length d) rulebook goals certificate e in
    let l = p.areas in
    let z =
    page_answered rulebook goals certificate
    (check_law rulebook goals certificate p.short_rulebook p.short_goals p.short (take area_words a) (take area_words b) (take area_words c) (take area_words d)
    (length-take-le area_words a l.first) (length-take-le area_words b l.second)
    (length-take-le area_words c l.third) (length-take-le area_words d l.fourth))
    (later_judged rulebook goals certificate) out in
    let n = ap (λ (o : Output). o.number) is in
    is_called rulebook goals certificate a b c d out _ (told r out') (a' ++ drop area_words a) (b' ++ drop area_words b) (c' ++ drop area_words c)
    (d' ++ drop area_words d)
    p.read
    (z.same ∙ sym is)
    (all_cleared (told r out') r.number a b c d a' b' c' d' (λ h. z.not_1 (sym n ∙ h)) (λ h. z.not_2 (sym n ∙ h)) l ea eb ec ed)
