-- What the call with the rulebook alone answers, in the definition's words.
use Rattle.horn.specs.Calls as calls
use Rattle.theory.specs.Below.outcomes.specs.Outcomes.{Outcome, ok, refused}
use Rattle.theory.specs.Below.outcomes.specs.Leaving.{Did, ◌leaving◌}
use Rattle.theory.specs.Walks.{AllAreas}
use Rattle.theory.specs.declared.Counts.{Counts}
use Rattle.rulebook_call.specs.declared.RulebookReport.{RulebookReport}

-- What each case of the walks' answer says: a refusal's number with zero counts, or 0 with the counts.
abbrev pub reported : Outcome Counts → RulebookReport
reported (refused n) = record { number = n; sorts = 0; constructors = 0; predicates = 0; rules = 0 }
reported (ok c) = record { number = 0; sorts = c.sorts; constructors = c.constructors; predicates = c.predicates; rules = c.rules }

-- The same, whatever the walks leave.
abbrev pub reported_by : Did AllAreas Counts → RulebookReport
reported_by (o leaving areas) = reported o

-- A report as the definition has it.
abbrev pub answered : RulebookReport → calls.RulebookReport
answered r = calls.rulebook_report r.number r.sorts r.constructors r.predicates r.rules
