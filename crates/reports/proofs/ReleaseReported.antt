-- The report of three texts that are read and judged is the definition's, whatever the areas held. Assumes nothing.
use Prim.Native.Nat.{ℕ, ◌≤◌}
use mathlib.Core.Path.{◌≡◌, sym, ap}
use mathlib.Core.List.{List}
use native.Mathlib.Omega.{arith}
use lib.ListN.{length}
use Rattle.checker_laws.specs.Below.horn.specs.Refusals.{Result, ok, ◌>>=◌}
use Rattle.checker_laws.specs.Below.horn.specs.Setting.{document01}
use Rattle.checker_laws.specs.Below.horn.specs.StoredTerms.{empty_store}
use Rattle.checker_laws.specs.Below.horn.specs.Calls as calls
use Rattle.checker_laws.specs.Below.horn.specs.Calls.{report, Release, report_of, release_answer}
use Rattle.checker_laws.specs.Below.horn.proofs.Refusing.{refuses_none, refuses, refuses_bind}
use Rattle.checker_laws.specs.Below.horn.proofs.Later.{Later, later_theory}
use Rattle.checker_laws.specs.Below.horn.proofs.Readings.{later_goals, later_certificate}
use Rattle.checker.specs.Below.outcomes.specs.Leaving.{Did}
use Rattle.checker.specs.Below.outcomes.specs.Simulation.{Simulates, refuse, leave}
use Rattle.checker.specs.Below.certificates.specs.Certificates.{AllAreas}
use Rattle.checker.specs.Checker as walk
use Rattle.checker.specs.declared.Counts.{Counts}
use Rattle.checker_laws.proofs.Whole.{judged, Released, check_law}
use Rattle.reports.specs.Release.{released_by, told}
use Rattle.checker_laws.specs.Below.clearing.proofs.Reported.{Reported}

-- Reading and judging give neither 1 nor 2.
pub later_judged : (rulebook goals certificate : List ℕ) → Later (judged rulebook goals certificate)
unfolding judged
later_judged rulebook goals certificate =
    refuses_bind _ (later_theory rulebook) λ th.
    refuses_bind _ (later_goals document01 th goals empty_store) λ p.
    refuses_bind _ (later_certificate document01 th p.0 certificate p.1) λ q.
    refuses_none

-- What is reported of what is read.
abbrev pub reported : ℕ → Result Release → calls.Report
reported bytes m = release_answer (m >>= λ r. ok (report_of bytes r))

-- Of what was read, each count is the walks' count of it.
counted : {s t g h n m r q : ℕ} (bytes : ℕ) → s ≡ t → g ≡ h → n ≡ m → r ≡ q → report 0 t h m bytes q ≡ report 0 s g n bytes r
counted bytes e f g h = rw (e, f, g, h)

reports : (rulebook goals certificate : List ℕ) {m : Did AllAreas Counts} {m' : Result Release} → Simulates (Released rulebook goals certificate) m m' → Later m'
    → Reported (released_by (length certificate) m).number (reported (length certificate) m') (told (released_by (length certificate) m))
unfolding release_answer ◌>>=◌ report_of
reports rulebook goals certificate (refuse {n} e) (refuses r h) =
    record { same = ap (λ (k : ℕ). report k 0 0 0 0 0) (sym e); not_1 = λ z. absurd (omega arith); not_2 = λ z. absurd (omega arith) }
reports rulebook goals certificate (leave q) refuses_none =
    record {
      same = counted (length certificate) q.steps_are q.goals_are q.terms_are q.requests_are;
      not_1 = λ z. absurd (omega arith);
      not_2 = λ z. absurd (omega arith);
    }

pub release_reported : (rulebook goals certificate : List ℕ) → length rulebook ≤ 8192 → length goals ≤ 8192 → length certificate ≤ 32768
    → (a b c d : List ℕ) → length a ≡ 16384 → length b ≡ 16384 → length c ≡ 16384 → length d ≡ 16384
    → Reported (released_by (length certificate) (walk.check rulebook goals certificate a b c d)).number
    (reported (length certificate) (judged rulebook goals certificate))
    (told (released_by (length certificate) (walk.check rulebook goals certificate a b c d)))
release_reported rulebook goals certificate short_rulebook short_goals short a b c d long_a long_b long_c long_d =
    reports rulebook goals certificate (check_law rulebook goals certificate short_rulebook short_goals short a b c d long_a long_b long_c long_d)
    (later_judged rulebook goals certificate)
