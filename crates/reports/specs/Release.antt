-- What the call with three texts answers, in the definition's words.
use Rattle.std.specs.Prelude.{ℕ}
use Rattle.checker_laws.specs.Below.horn.specs.Calls as calls
use Rattle.checker.specs.Below.outcomes.specs.Outcomes.{Outcome, ok, refused}
use Rattle.checker.specs.Below.outcomes.specs.Leaving.{Did, ◌leaving◌}
use Rattle.checker.specs.Below.certificates.specs.Certificates.{AllAreas}
use Rattle.checker.specs.declared.Counts.{Counts}
use Rattle.reports.specs.declared.Report.{Report}

-- What each case of the walks' answer says: a refusal's number with zero counts, or 0 with the counts and the certificate's length.
abbrev pub released : ℕ → Outcome Counts → Report
released bytes (refused n) = record { number = n; steps = 0; goals = 0; terms = 0; bytes = 0; requested = 0 }
released bytes (ok c) =
    record { number = 0; steps = c.steps; goals = c.goals; terms = c.terms; bytes = bytes; requested = c.requested }

-- The same, whatever the walks leave.
abbrev pub released_by : ℕ → Did AllAreas Counts → Report
released_by bytes (o leaving areas) = released bytes o

-- A report as the definition has it.
abbrev pub told : Report → calls.Report
told r = calls.report r.number r.steps r.goals r.terms r.bytes r.requested
