-- The call with three texts, case by case as the code goes, demand 3 of it, and request L4 of document 02. Assumes nothing.
use Prim.Native.Nat.{ℕ}
use mathlib.Core.Path.{◌≡◌, sym, ap, ◌∙◌}
use mathlib.Core.Bool.{Bool, true, false}
use mathlib.Core.List.{List, ◌++◌}
use lib.ListN.{length, take, drop, replicate}
use lib.Seq.{length-take-le}
use Rattle.std.proofs.Common.{true≢false}
use Rattle.horn.specs.Refusals.{Result, number, ◌>>=◌}
use Rattle.horn.specs.Setting.{document01}
use Rattle.horn.specs.Calls as calls
use Rattle.horn.specs.Calls.{report, Release, release_read, release_judged, release_answer, release_call, called, leaving, release_left}
use Rattle.horn.specs.Demand3.{Sound, Complete}
use Rattle.horn.specs.Longer.{Kept}
use Rattle.horn.proofs.Soundness.{sound}
use Rattle.horn.proofs.Complete.{complete_01}
use Rattle.horn.proofs.Longer.{longer_kept}
use Rattle.reports.specs.Below.checker.specs.Checker as walk
use Rattle.reports.specs.Below.checker.specs.Below.outcomes.specs.Outcomes as outcomes
use Rattle.reports.proofs.ReleaseReported.{reported, release_reported}
use Rattle.reports.proofs.Lengths.{Tested, by_area, by_text, passed, call_tested, tested, passed_of}
use Rattle.clearing.specs.Lengths.{area_words}
use Rattle.reports.specs.Release.{released_by, told}
use Rattle.reports.specs.declared.Report.{Report}
use Rattle.clearing.proofs.Areas.{untouched_short, untouched_long, all_cleared}

-- What the call ensures: it is the definition's call, report and areas; demand 3; and that an old release is kept under a longer rulebook.
abbrev Ensured : calls.Report → List ℕ → List ℕ → List ℕ → List ℕ → List ℕ → List ℕ → List ℕ → List ℕ → List ℕ → List ℕ → List ℕ → Type 0
Ensured q rulebook goals certificate a b c d a' b' c' d' =
    (called q a' b' c' d' ≡ release_left document01 a b c d rulebook goals certificate)
    × (Sound document01 rulebook goals q
    × (Complete document01 (length a) (length b) (length c) (length d) rulebook goals certificate q
    × Kept document01 (length a) (length b) (length c) (length d) rulebook goals certificate q))

module _ (rulebook goals certificate a b c d : List ℕ) where
  abbrev call_report : calls.Report
  call_report = release_call document01 (length a) (length b) (length c) (length d) rulebook goals certificate

  -- A call by its report and its areas. Demand 3 and L4 hold of the definition's report.
  is_called : (q : calls.Report) (a' b' c' d' : List ℕ) → call_report ≡ q → called q a' b' c' d' ≡ leaving document01 q q.number a b c d
      → Ensured q rulebook goals certificate a b c d a' b' c' d'
  unfolding release_left
  is_called q a' b' c' d' e h = (
    rw e h,
    rw (← e) (
      sound document01 (length a) (length b) (length c) (length d) rulebook goals certificate,
      (
        complete_01 (length a) (length b) (length c) (length d) rulebook goals certificate,
        longer_kept document01 (length a) (length b) (length c) (length d) rulebook goals certificate,
      ),
    ),
  )

  abbrev Refused : ℕ → Report → Type 0
  Refused n r = r ≡ record { number = n; steps = 0; goals = 0; terms = 0; bytes = 0; requested = 0 }

  abbrev call_read : Result Release
  call_read = release_read document01 (length a) (length b) (length c) (length d) rulebook goals certificate

  -- What is reported of what is read.
  read_reported : {m : Result Release} → call_read ≡ m → call_report ≡ reported (length certificate) m
  unfolding release_call release_judged
  read_reported e = ap (λ (m : Result Release). reported (length certificate) m) e

  -- 1, by the areas, and 2, by a text.
  by_length : (r : Report) {n : ℕ} → Refused n r → Tested (length a) (length b) (length c) (length d) rulebook goals certificate
      → call_tested (length a) (length b) (length c) (length d) rulebook goals certificate ≡ outcomes.refused n
      → Ensured (told r) rulebook goals certificate a b c d a b c d
  unfolding ◌>>=◌ release_answer number
  by_length r {n} is (by_area t m) e = let z : n ≡ 1 = cc in rw (is, z) (is_called (report 1 0 0 0 0 0) a b c d (read_reported m) (untouched_short _ a b c d))
  by_length r {n} is (by_text t m) e = let z : n ≡ 2 = cc in rw (is, z) (is_called (report 2 0 0 0 0 0) a b c d (read_reported m) (untouched_long _ a b c d))
  by_length r is (passed t p) e = let z : ◌≡◌ {A = Bool} true false = cc in absurd (true≢false z)

  pub refused_by_length : (r : Report) {n : ℕ} → Refused n r
      → call_tested (length a) (length b) (length c) (length d) rulebook goals certificate ≡ outcomes.refused n
      → Ensured (told r) rulebook goals certificate a b c d a b c d
  refused_by_length r is e = by_length r is (tested (length a) (length b) (length c) (length d) rulebook goals certificate) e

-- Every other answer: the first 16,384 words of each area were lent to the walks, then cleared.
pub release_judged_lem : (rulebook goals certificate a b c d : List ℕ) (r : Report) (a' b' c' d' : List ℕ)
    → call_tested (length a) (length b) (length c) (length d) rulebook goals certificate ≡ outcomes.ok tt
    → r ≡ released_by (length certificate) (walk.check rulebook goals certificate (take area_words a) (take area_words b) (take area_words c) (take area_words d))
    → a' ≡ replicate (length (take area_words a)) 0
    → b' ≡ replicate (length (take area_words b)) 0
    → c' ≡ replicate (length (take area_words c)) 0
    → d' ≡ replicate (length (take area_words d)) 0
    → Ensured (told r) rulebook goals certificate a b c d (a' ++ drop area_words a) (b' ++ drop area_words b) (c' ++ drop area_words c) (d' ++ drop area_words d)
release_judged_lem rulebook goals certificate a b c d r a' b' c' d' e is ea eb ec ed =
    let p = passed_of (length a) (length b) (length c) (length d) rulebook goals certificate e in
    let l = p.areas in
    let z =
    release_reported rulebook goals certificate p.short_rulebook p.short_goals p.short (take area_words a) (take area_words b) (take area_words c) (take area_words d)
    (length-take-le area_words a l.first) (length-take-le area_words b l.second)
    (length-take-le area_words c l.third) (length-take-le area_words d l.fourth) in
    let n = ap (λ (q : Report). q.number) is in
    is_called rulebook goals certificate a b c d (told r) (a' ++ drop area_words a) (b' ++ drop area_words b) (c' ++ drop area_words c) (d' ++ drop area_words d)
    (read_reported rulebook goals certificate a b c d p.read ∙ z.same ∙ ap (λ (q : Report). told q) (sym is))
    (all_cleared (told r) r.number a b c d a' b' c' d' (λ h. z.not_1 (sym n ∙ h)) (λ h. z.not_2 (sym n ∙ h)) l ea eb ec ed)
